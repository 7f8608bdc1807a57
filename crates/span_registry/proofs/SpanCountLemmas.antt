-- What the calls so far say of the spans, one call more at a time.
use Rattle.std.proofs.Common.{◌≡◌, ℕ, ◌+◌, ◌-◌, ◌<◌, List, [], ◌∷◌, ◌++◌, length, Bool, true, false, cond, count_by, get_or, set, Option, Some, None, refl, sym, ap, subst, ◌∙◌, arith, inl, inr, if◌then◌else◌, ◌==◌, nat_lt, IfSome}
use Rattle.span_registry.proofs.Common.{cases_eq, cases_lt, cond-true, cond-false, length_push, get_or_past, get_or_push, get_or_append_left, fold-append, Span, Entries, Spans, no_span, span_at, entries_on, with_entries, is_in, times_in, entered_lane_count, is_child_of, without_last, with_hold, span_without_hold, without_hold, with_hold_of_child, parent_on, parent_to_release, SubscriberCall, NewSpan, Records, Follows, Event, Enter, Exit, CloneSpan, TryClose, spans_after_call, with_new_span, with_span_entry, with_span_exit, Allowed, IsLive, one_if, count_push, made_if_held, length_held, with_same, with_other, less_last, less_more, less_holds, holds_set, holds_other, IsSound, OneEach, parent_live, exit_live, sound_entered, sound_exited, sound_call, no_spans}
use Rattle.std.proofs.lemmas.Bool.{eq-eqb, ne_eqb, lt-ltb, le-ltb}
use Rattle.std.proofs.lemmas.List.{length-set, append_assoc, append-nil, get_or-set_same, get_or-set_other}
use Rattle.trace_base.specs.declared.lane.Lane.{Lane}
use Rattle.trace_base.specs.declared.span.Parent.{Parent}
use Rattle.trace_base.specs.declared.callsite.Callsite.{Callsite}
use Rattle.trace_base.specs.declared.field.ValueSet.{ValueSet}
use Rattle.trace_base.proofs.HoldMoveLemmas.{entry_moves, exit_moves}
use Rattle.span_registry.specs.History.{CallsLead, entries_after, entries_by_calls, ParentAndSite, no_parent_and_site, span_made_by, spans_made_from, spans_made_by_calls, parent_and_site_of, is_clone, is_release, AreSpansOf}

-- a span is what it was made with, or closed
record Fits (m : ParentAndSite) (s : Span) : Type 0 where
  live : 0 < s.holds → s ≡ record { holds = s.holds; parent = m.parent; site = m.site }
  closed : s.holds ≡ 0 → s ≡ no_span

fits_none : (m : ParentAndSite) (s : Span) → s ≡ no_span → Fits m s
fits_none m s e =
    let h = ap (λ (t : Span). t.holds) e in
    record { live = λ some. absurd (omega (arith, some, h)); closed = λ none. e }

fits_more : (m : ParentAndSite) (s : Span) (n : ℕ) → 0 < s.holds → 0 < n → Fits m s → Fits m (record s { holds = n })
fits_more m s n some more fits = record { live = λ _. ap (λ (t : Span). record t { holds = n }) (fits.live some); closed = λ none. absurd (omega (arith, none, more)) }

fits_less : (m : ParentAndSite) (s : Span) → 0 < s.holds → Fits m s → Fits m (span_without_hold s)
fits_less m s some fits = elim (cases_eq s.holds 1) [
  | inl last ↦ fits_none m (span_without_hold s) (less_last s last)
  | inr more ↦ subst (Fits m) (sym (less_more s more)) (fits_more m s (s.holds - 1) some (omega (arith, some, more)) fits)
]

fits_set : (T : ℕ → ParentAndSite) (made : List Span) (id : ℕ) (now : Span) → id < length made → Fits (T id) now → ((q : ℕ) → Fits (T q) (span_at made q)) → (q : ℕ) → Fits (T q) (span_at (set made id now) q)
fits_set T made id now within new fits q = elim (cases_eq q id) [
  | inl here ↦ subst (λ (k : ℕ). Fits (T k) (span_at (set made id now) k)) (sym here) (subst (Fits (T id)) (sym (get_or-set_same made id now no_span within)) new)
  | inr other ↦ subst (Fits (T q)) (sym (get_or-set_other made id q now no_span other)) (fits q)
]

fits_held : (T : ℕ → ParentAndSite) (made : List Span) (id : ℕ) → IsLive made id → ((q : ℕ) → Fits (T q) (span_at made q)) → (q : ℕ) → Fits (T q) (span_at (with_hold made id) q)
fits_held T made id live fits = fits_set T made id (record (span_at made id) { holds = (span_at made id).holds + 1 }) (made_if_held made id live) (fits_more (T id) (span_at made id) ((span_at made id).holds + 1) live (omega arith) (fits id)) fits

fits_released : (T : ℕ → ParentAndSite) (made : List Span) (id : ℕ) → IsLive made id → ((q : ℕ) → Fits (T q) (span_at made q)) → (q : ℕ) → Fits (T q) (span_at (without_hold made id) q)
fits_released T made id live fits = fits_set T made id (span_without_hold (span_at made id)) (made_if_held made id live) (fits_less (T id) (span_at made id) live (fits id)) fits

fits_if : (T : ℕ → ParentAndSite) (b : Bool) (xs ys : List Span) → ((q : ℕ) → Fits (T q) (span_at xs q)) → ((q : ℕ) → Fits (T q) (span_at ys q)) → (q : ℕ) → Fits (T q) (span_at (if b then xs else ys) q)
fits_if T true xs ys f g q = f q
fits_if T false xs ys f g q = g q

length_if : (b : Bool) (xs ys : List Span) (n : ℕ) → length xs ≡ n → length ys ≡ n → length (if b then xs else ys) ≡ n
length_if true xs ys n e f = e
length_if false xs ys n e f = f

-- the span of a new making
fits_push : (ms : List ParentAndSite) (m : ParentAndSite) (made : List Span) → length made ≡ length ms → ((q : ℕ) → Fits (get_or ms q no_parent_and_site) (span_at made q)) → (q : ℕ)
    → Fits (get_or (ms ++ m ∷ []) q no_parent_and_site) (span_at (made ++ record { holds = 1; parent = m.parent; site = m.site } ∷ []) q)
fits_push ms m made long fits q =
    let new : Span = record { holds = 1; parent = m.parent; site = m.site } in
    elim (cases_lt q (length made)) [
      | inl within ↦ subst (λ (x : ParentAndSite). Fits x (span_at (made ++ new ∷ []) q)) (sym (get_or_append_left ms (m ∷ []) no_parent_and_site q (omega (arith, within, long))))
          (subst (Fits (get_or ms q no_parent_and_site)) (sym (get_or_append_left made (new ∷ []) no_span q within)) (fits q))
      | inr past ↦ elim (cases_eq (length made) q) [
        | inl here ↦ subst (λ (x : ParentAndSite). Fits x (span_at (made ++ new ∷ []) q)) (sym (get_or_push ms m no_parent_and_site q (sym long ∙ here)))
            (subst (Fits m) (sym (get_or_push made new no_span q here)) (record { live = λ _. refl; closed = λ none. absurd (omega (arith, none)) }))
        | inr beyond ↦ fits_none (get_or (ms ++ m ∷ []) q no_parent_and_site) (span_at (made ++ new ∷ []) q) (get_or_past (made ++ new ∷ []) q no_span (omega (arith, length_push made new, past, beyond)))
      ]
    ]

-- the makings of one call more
made_push : (before calls : List SubscriberCall) (call : SubscriberCall) → spans_made_from before (calls ++ call ∷ []) ≡ spans_made_from before calls ++ span_made_by (before ++ calls) call
made_push before [] call = append-nil (span_made_by before call) ∙ ap (λ (xs : List SubscriberCall). span_made_by xs call) (sym (append-nil before))
made_push before (c ∷ calls) call =
    ap (λ (ms : List ParentAndSite). span_made_by before c ++ ms) (made_push (before ++ c ∷ []) calls call)
    ∙ sym (append_assoc (span_made_by before c) (spans_made_from (before ++ c ∷ []) calls) (span_made_by ((before ++ c ∷ []) ++ calls) call))
    ∙ ap (λ (xs : List SubscriberCall). span_made_by before c ++ spans_made_from (before ++ c ∷ []) calls ++ span_made_by xs call) (append_assoc before (c ∷ []) calls)

entries_push : (lane : ℕ) (before : List SubscriberCall) (call : SubscriberCall) → entries_by_calls lane (before ++ call ∷ []) ≡ entries_after lane (entries_by_calls lane before) call
entries_push lane before call = fold-append (entries_after lane) [] before (call ∷ [])

told_fits : (calls : List SubscriberCall) (x : Spans) → AreSpansOf calls x → (q : ℕ) → Fits (parent_and_site_of q calls) (span_at x.made q)
told_fits calls x told q = record { live = told.live q; closed = told.closed q }

-- the next to be released after a close is the parent that the span was made under
next_told : (m : ParentAndSite) (made : List Span) (id : ℕ) → Fits m (span_at made id) → (span_at made id).holds ≡ 1 → parent_to_release made id ≡ m.parent
next_told m made id fits last =
    cond-true {A = Option ℕ} ((span_at made id).holds == 1) (span_at made id).parent None (eq-eqb (span_at made id).holds 1 last)
    ∙ ap (λ (s : Span). s.parent) (fits.live (omega (arith, last)))

-- a call that makes no span
told_step : (before : List SubscriberCall) (call : SubscriberCall) (x y : Spans) → span_made_by before call ≡ [] → length y.made ≡ length x.made
    → ((q : ℕ) → (span_at y.made q).holds + cond {A = ℕ} (is_release q call) 1 0 + entered_lane_count x.lanes q ≡ (span_at x.made q).holds + cond {A = ℕ} (is_clone q call) 1 0 + entered_lane_count y.lanes q)
    → ((q : ℕ) → Fits (parent_and_site_of q before) (span_at y.made q))
    → ((lane : ℕ) → entries_on lane y.lanes ≡ entries_after lane (entries_on lane x.lanes) call)
    → OneEach y.lanes → AreSpansOf before x → AreSpansOf (before ++ call ∷ []) y
told_step before call x y none long moves fits entries rows told =
    let ms : spans_made_by_calls (before ++ call ∷ []) ≡ spans_made_by_calls before = made_push [] before call ∙ ap (λ (ms : List ParentAndSite). spans_made_by_calls before ++ ms) none ∙ append-nil (spans_made_by_calls before) in
    let fit : (q : ℕ) → Fits (parent_and_site_of q (before ++ call ∷ [])) (span_at y.made q) = λ q. subst (λ (xs : List ParentAndSite). Fits (get_or xs q no_parent_and_site) (span_at y.made q)) (sym ms) (fits q) in
    record {
      made = long ∙ told.made ∙ ap (λ (xs : List ParentAndSite). length xs) (sym ms);
      holds = λ q. (
          let one = ap (λ (xs : List ParentAndSite). one_if (nat_lt q (length xs))) ms in
          let kids = ap (λ (xs : List ParentAndSite). count_by (λ m. is_child_of q m.parent) xs) ms in
          let c = count_push (is_clone q) before call in
          let r = count_push (is_release q) before call in
          omega (arith, one, kids, c, r, moves q, told.holds q));
      live = λ q. (fit q).live;
      closed = λ q. (fit q).closed;
      older = λ q p is. told.older q p (ap (λ (xs : List ParentAndSite). (get_or xs q no_parent_and_site).parent) (sym ms) ∙ is);
      next = λ q last. next_told (parent_and_site_of q (before ++ call ∷ [])) y.made q (fit q) last;
      entries = λ lane. entries lane ∙ ap (λ (ids : List ℕ). entries_after lane ids call) (told.entries lane) ∙ sym (entries_push lane before call);
      one_row = rows;
    }

-- a span made holds one more of its parent
held_above : (made : List Span) (above : Option ℕ) (q : ℕ) → IfSome above (λ p. IsLive made p) → (span_at (with_hold_of_child made above) q).holds ≡ (span_at made q).holds + cond {A = ℕ} (is_child_of q above) 1 0
held_above made None q live = omega arith
held_above made (Some p) q live =
    let within = made_if_held made p live in
    let now : Span = record (span_at made p) { holds = (span_at made p).holds + 1 } in
    elim (cases_eq q p) [
      | inl here ↦ (
          let h = holds_set made p now within q here in
          let w = ap (λ (k : ℕ). (span_at made k).holds) here in
          let c = cond-true {A = ℕ} (p == q) 1 0 (eq-eqb p q (sym here)) in
          omega (arith, h, w, c))
      | inr other ↦ (
          let h = holds_other made p now q other in
          let c = cond-false {A = ℕ} (p == q) 1 0 (ne_eqb p q (λ e. other (sym e))) in
          omega (arith, h, c))
    ]

holds_push : (made : List Span) (new : Span) (q : ℕ) → new.holds ≡ 1 → (span_at (made ++ new ∷ []) q).holds + one_if (nat_lt q (length made)) ≡ (span_at made q).holds + one_if (nat_lt q (length made + 1))
holds_push made new q one =
    elim (cases_lt q (length made)) [
      | inl within ↦ (
          let h = ap (λ (s : Span). s.holds) (get_or_append_left made (new ∷ []) no_span q within) in
          let a = cond-true {A = ℕ} (nat_lt q (length made)) 1 0 (lt-ltb q (length made) within) in
          let b = cond-true {A = ℕ} (nat_lt q (length made + 1)) 1 0 (lt-ltb q (length made + 1) (omega (arith, within))) in
          omega (arith, h, a, b))
      | inr past ↦ (
          let a = cond-false {A = ℕ} (nat_lt q (length made)) 1 0 (le-ltb q (length made) past) in
          let none = ap (λ (s : Span). s.holds) (get_or_past made q no_span past) in
          elim (cases_eq (length made) q) [
            | inl here ↦ (
                let h = ap (λ (s : Span). s.holds) (get_or_push made new no_span q here) in
                let b = cond-true {A = ℕ} (nat_lt q (length made + 1)) 1 0 (lt-ltb q (length made + 1) (omega (arith, here))) in
                omega (arith, h, a, b, none, one))
            | inr beyond ↦ (
                let h = ap (λ (s : Span). s.holds) (get_or_past (made ++ new ∷ []) q no_span (omega (arith, length_push made new, past, beyond))) in
                let b = cond-false {A = ℕ} (nat_lt q (length made + 1)) 1 0 (le-ltb q (length made + 1) (omega (arith, past, beyond))) in
                omega (arith, h, a, b, none))
          ])
    ]

fits_above : (T : ℕ → ParentAndSite) (made : List Span) (above : Option ℕ) → IfSome above (λ p. IsLive made p) → ((q : ℕ) → Fits (T q) (span_at made q)) → (q : ℕ) → Fits (T q) (span_at (with_hold_of_child made above) q)
fits_above T made None live fits = fits
fits_above T made (Some p) live fits = fits_held T made p live fits

-- a parent is older than what is made under it
older_push : (ms : List ParentAndSite) (m : ParentAndSite) → ((q p : ℕ) → (get_or ms q no_parent_and_site).parent ≡ Some p → p < q) → ((p : ℕ) → m.parent ≡ Some p → p < length ms) → (q p : ℕ) → (get_or (ms ++ m ∷ []) q no_parent_and_site).parent ≡ Some p → p < q
older_push ms m older under q p is =
    elim (cases_lt q (length ms)) [
      | inl within ↦ older q p (ap (λ (x : ParentAndSite). x.parent) (sym (get_or_append_left ms (m ∷ []) no_parent_and_site q within)) ∙ is)
      | inr past ↦ elim (cases_eq (length ms) q) [
        | inl here ↦ (let below = under p (ap (λ (x : ParentAndSite). x.parent) (sym (get_or_push ms m no_parent_and_site q here)) ∙ is) in omega (arith, below, here))
        | inr beyond ↦ (
            let none = ap (λ (x : ParentAndSite). x.parent) (get_or_past (ms ++ m ∷ []) q no_parent_and_site (omega (arith, length_push ms m, past, beyond))) in
            let no : None ≡ Some p = sym none ∙ is in absurd (cc no))
      ]
    ]

live_under : (made : List Span) (above : Option ℕ) → IfSome above (λ p. IsLive made p) → (p : ℕ) → above ≡ Some p → p < length made
live_under made None live p e = absurd (cc e)
live_under made (Some r) live p e = (let same : r ≡ p = cc e in let within = made_if_held made r live in omega (arith, same, within))

-- a call that makes a span
told_new : (before : List SubscriberCall) (lane : Lane) (at : ℕ) (parent : Parent) (site : ℕ) (callsite : Callsite) (values : ValueSet) (x : Spans) (above : Option ℕ) → above ≡ parent_on (entries_on lane.id x.lanes) parent
    → IfSome above (λ p. IsLive x.made p) → AreSpansOf before x → AreSpansOf (before ++ NewSpan lane at parent site callsite values ∷ []) (with_new_span x above site)
told_new before lane at parent site callsite values x above is live told =
    let call = NewSpan lane at parent site callsite values in
    let m : ParentAndSite = record { parent = above; site = site } in
    let y = with_new_span x above site in
    let new : Span = record { holds = 1; parent = above; site = site } in
    let said : above ≡ parent_on (entries_by_calls lane.id before) parent = is ∙ ap (λ (ids : List ℕ). parent_on ids parent) (told.entries lane.id) in
    let ms : spans_made_by_calls (before ++ call ∷ []) ≡ spans_made_by_calls before ++ m ∷ [] = made_push [] before call ∙ ap (λ (o : Option ℕ). let k : ParentAndSite = record { parent = o; site = site } in spans_made_by_calls before ++ k ∷ []) (sym said) in
    let old = with_hold_of_child x.made above in
    let long : length old ≡ length x.made = length_held x.made above in
    let longer = length_push (spans_made_by_calls before) m in
    let fit : (q : ℕ) → Fits (parent_and_site_of q (before ++ call ∷ [])) (span_at y.made q) = λ q. subst (λ (xs : List ParentAndSite). Fits (get_or xs q no_parent_and_site) (span_at y.made q)) (sym ms)
    (fits_push (spans_made_by_calls before) m old (long ∙ told.made) (fits_above (λ q. parent_and_site_of q before) x.made above live (told_fits before x told)) q) in
    record {
      made = (let a = length_push old new in let b = ap (λ (xs : List ParentAndSite). length xs) ms in omega (arith, a, b, long, longer, told.made));
      holds = λ q. (
          let up = held_above x.made above q live in
          let push = holds_push old new q refl in
          let n = ap (λ (k : ℕ). one_if (nat_lt q k)) (long ∙ told.made) in
          let n1 = ap (λ (k : ℕ). one_if (nat_lt q (k + 1))) (long ∙ told.made) in
          let one = ap (λ (xs : List ParentAndSite). one_if (nat_lt q (length xs))) ms in
          let more = ap (λ (k : ℕ). one_if (nat_lt q k)) longer in
          let kids = ap (λ (xs : List ParentAndSite). count_by (λ k. is_child_of q k.parent) xs) ms in
          let child = count_push (λ (k : ParentAndSite). is_child_of q k.parent) (spans_made_by_calls before) m in
          let c = count_push (is_clone q) before call in
          let r = count_push (is_release q) before call in
          omega (arith, up, push, n, n1, one, more, kids, child, c, r, told.holds q));
      live = λ q. (fit q).live;
      closed = λ q. (fit q).closed;
      older = λ q p e. older_push (spans_made_by_calls before) m told.older (λ p e. (let b = live_under x.made above live p e in omega (arith, b, told.made))) q p (ap (λ (xs : List ParentAndSite). (get_or xs q no_parent_and_site).parent) (sym ms) ∙ e);
      next = λ q last. next_told (parent_and_site_of q (before ++ call ∷ [])) y.made q (fit q) last;
      entries = λ l. told.entries l ∙ sym (entries_push l before call);
      one_row = told.one_row;
    }

-- the entries of each lane after those of one changed
entries_set : (b : Lane) (lane : ℕ) (ids : List ℕ) (es : List Entries) → entries_on lane (with_entries b.id ids es) ≡ (if b.id == lane then ids else entries_on lane es)
entries_set b lane ids es = elim (cases_eq b.id lane) [
  | inl here ↦ subst (λ (l : ℕ). entries_on l (with_entries b.id ids es) ≡ (if b.id == l then ids else entries_on l es)) here (with_same b.id ids es ∙ sym (cond-true {A = List ℕ} (b.id == b.id) ids (entries_on b.id es) (eq-eqb b.id b.id refl)))
  | inr other ↦ with_other b.id lane ids es other ∙ sym (cond-false {A = List ℕ} (b.id == lane) ids (entries_on lane es) (ne_eqb b.id lane other))
]

-- what the lane has, by a change of what it had
if_change : (f : List ℕ → List ℕ) (b : Lane) (lane : ℕ) (es : List Entries) → (if b.id == lane then f (entries_on b.id es) else entries_on lane es) ≡ (if b.id == lane then f (entries_on lane es) else entries_on lane es)
if_change f b lane es = elim (cases_eq b.id lane) [
  | inl here ↦ ap (λ (l : ℕ). if b.id == lane then f (entries_on l es) else entries_on lane es) here
  | inr other ↦ cond-false {A = List ℕ} (b.id == lane) _ _ (ne_eqb b.id lane other) ∙ sym (cond-false {A = List ℕ} (b.id == lane) _ _ (ne_eqb b.id lane other))
]

-- one call more
told_call : (before : List SubscriberCall) (call : SubscriberCall) (x : Spans) → IsSound x → Allowed x call → AreSpansOf before x → AreSpansOf (before ++ call ∷ []) (spans_after_call x call)
told_call before (NewSpan lane at parent site callsite values) x sound allowed told =
    told_new before lane at parent site callsite values x (parent_on (entries_on lane.id x.lanes) parent) refl (parent_live x lane.id parent sound allowed) told
told_call before (Records id at callsite values) x sound allowed told = told_step before (Records id at callsite values) x x refl refl (λ q. omega arith) (told_fits before x told) (λ lane. refl) sound.one_row told
told_call before (Follows id from at) x sound allowed told = told_step before (Follows id from at) x x refl refl (λ q. omega arith) (told_fits before x told) (λ lane. refl) sound.one_row told
told_call before (Event lane at parent site callsite values) x sound allowed told = told_step before (Event lane at parent site callsite values) x x refl refl (λ q. omega arith) (told_fits before x told) (λ lane. refl) sound.one_row told
told_call before (Enter id at pre later) x sound allowed told =
    let ids = entries_on pre.id x.lanes in
    let fits = told_fits before x told in
    told_step before (Enter id at pre later) x (with_span_entry x id pre.id) refl (length_if (is_in id ids) x.made (with_hold x.made id) (length x.made) refl (length-set x.made id _))
    (λ q. (let m = entry_moves x id pre.id q allowed in omega (arith, m)))
    (fits_if (λ q. parent_and_site_of q before) (is_in id ids) x.made (with_hold x.made id) fits (fits_held (λ q. parent_and_site_of q before) x.made id allowed fits))
    (λ lane. entries_set pre lane (ids ++ id ∷ []) x.lanes ∙ if_change (λ xs. xs ++ id ∷ []) pre lane x.lanes) (sound_entered x id pre.id sound allowed).one_row told
told_call before (Exit id at pre later) x sound allowed told =
    let ids = entries_on pre.id x.lanes in
    let fits = told_fits before x told in
    let live = exit_live x id pre.id sound allowed in
    told_step before (Exit id at pre later) x (with_span_exit x id pre.id) refl (length_if (times_in id ids == 1) (without_hold x.made id) x.made (length x.made) (length-set x.made id _) refl)
    (λ q. (let m = exit_moves x id pre.id q live allowed in omega (arith, m)))
    (fits_if (λ q. parent_and_site_of q before) (times_in id ids == 1) (without_hold x.made id) x.made (fits_released (λ q. parent_and_site_of q before) x.made id live fits) fits)
    (λ lane. entries_set pre lane (without_last (λ x. x == id) ids) x.lanes ∙ if_change (λ xs. without_last (λ x. x == id) xs) pre lane x.lanes) (sound_exited x id pre.id sound allowed).one_row told
told_call before (CloneSpan id) x sound allowed told =
    let within = made_if_held x.made id allowed in
    let now : Span = record (span_at x.made id) { holds = (span_at x.made id).holds + 1 } in
    told_step before (CloneSpan id) x (record x { made = with_hold x.made id }) refl (length-set x.made id _)
    (λ q. elim (cases_eq q id) [
      | inl here ↦ (
          let h = holds_set x.made id now within q here in
          let w = ap (λ (k : ℕ). (span_at x.made k).holds) here in
          let c = cond-true {A = ℕ} (id == q) 1 0 (eq-eqb id q (sym here)) in
          omega (arith, h, w, c))
      | inr other ↦ (
          let h = holds_other x.made id now q other in
          let c = cond-false {A = ℕ} (id == q) 1 0 (ne_eqb id q (λ e. other (sym e))) in
          omega (arith, h, c))
    ])
    (fits_held (λ q. parent_and_site_of q before) x.made id allowed (told_fits before x told)) (λ lane. refl) sound.one_row told
told_call before (TryClose id at) x sound allowed told =
    let live : 0 < (span_at x.made id).holds = omega (arith, allowed) in
    let within = made_if_held x.made id live in
    let now : Span = span_without_hold (span_at x.made id) in
    let fewer = less_holds (span_at x.made id) in
    told_step before (TryClose id at) x (record x { made = without_hold x.made id }) refl (length-set x.made id _)
    (λ q. elim (cases_eq q id) [
      | inl here ↦ (
          let h = holds_set x.made id now within q here in
          let w = ap (λ (k : ℕ). (span_at x.made k).holds) here in
          let c = cond-true {A = ℕ} (id == q) 1 0 (eq-eqb id q (sym here)) in
          omega (arith, h, w, c, fewer, live))
      | inr other ↦ (
          let h = holds_other x.made id now q other in
          let c = cond-false {A = ℕ} (id == q) 1 0 (ne_eqb id q (λ e. other (sym e))) in
          omega (arith, h, c))
    ])
    (fits_released (λ q. parent_and_site_of q before) x.made id live (told_fits before x told)) (λ lane. refl) sound.one_row told

-- nothing was called
told_none : AreSpansOf [] no_spans
told_none = record {
  made = refl;
  holds = λ q. (let none = cond-false {A = ℕ} (nat_lt q 0) 1 0 (le-ltb q 0 (omega arith)) in omega (arith, none));
  live = λ q some. absurd (omega (arith, some));
  closed = λ q none. refl;
  older = λ q p e. absurd (cc e);
  next = λ q last. absurd (omega (arith, last));
  entries = λ lane. refl;
  one_row = tt;
}

sound_none : IsSound no_spans
sound_none = record { bound = λ id. omega arith; older = λ id p e. absurd (cc e); one_row = tt }

-- all calls, one after another
module _ {S : Type 0} (spans : S → Spans) (does : S → SubscriberCall → S → Type 0) (same : S → S → Type 0) (same_spans : (s t : S) → same s t → spans t ≡ spans s)
    (allowed : (s : S) (call : SubscriberCall) (t : S) → does s call t → Allowed (spans s) call) (shows : (s : S) (call : SubscriberCall) (t : S) → does s call t → spans t ≡ spans_after_call (spans s) call) where
  told_calls : (before : List SubscriberCall) (s : S) (calls : List SubscriberCall) (t : S) → IsSound (spans s) → AreSpansOf before (spans s) → CallsLead does same s calls t → AreSpansOf (before ++ calls) (spans t)
  told_calls before s [] t sound told runs =
      subst (λ (cs : List SubscriberCall). AreSpansOf cs (spans t)) (sym (append-nil before)) (subst (AreSpansOf before) (sym (same_spans s t runs)) told)
  told_calls before s (call ∷ calls) t sound told runs =
      let m = runs.0 in
      let is = shows s call m runs.1 in
      let may = allowed s call m runs.1 in
      subst (λ (cs : List SubscriberCall). AreSpansOf cs (spans t)) (append_assoc before (call ∷ []) calls)
      (told_calls (before ++ call ∷ []) m calls t (subst IsSound (sym is) (sound_call (spans s) call sound may))
      (subst (AreSpansOf (before ++ call ∷ [])) (sym is) (told_call before call (spans s) sound may told)) runs.2)

  pub history : (s : S) (calls : List SubscriberCall) (t : S) → spans s ≡ no_spans → CallsLead does same s calls t → AreSpansOf calls (spans t)
  history s calls t none runs = told_calls [] s calls t (subst IsSound (sym none) sound_none) (subst (AreSpansOf []) (sym none) told_none) runs
