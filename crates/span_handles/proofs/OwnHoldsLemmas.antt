-- Which holds a span has beside those of its entries and its open children, after each call.
use Rattle.std.proofs.Common.{◌≡◌, ℕ, ◌+◌, ◌<◌, List, [], ◌∷◌, ◌++◌, Bool, true, false, cond, Option, Some, None, refl, sym, ap, subst, ◌∙◌, arith, inl, inr, ◌==◌, IfSome}
use Rattle.span_handles.proofs.Common.{cases_Bool, cases_eq, cond-true, cond-false, get_or_append_left, Span, Spans, no_span, span_at, entries_on, is_in, times_in, is_child_of, is_open_child, open_child_count, bound_holds, with_hold, span_without_hold, without_hold, parent_on, parent_to_release, SubscriberCall, NewSpan, Records, Follows, Event, Enter, Exit, CloneSpan, TryClose, spans_after_call, with_new_span, with_span_entry, with_span_exit, Allowed, IsLive, HasUnboundHold, MayExit, IsSound, parent_live, exit_live, count_push, made_if_held, children_set, keeps_children, less_last, less_more, less_holds, holds_set, holds_other, Chain, ended, closes, IsNoClose}
use Rattle.std.proofs.lemmas.Bool.{eq-eqb, ne_eqb, eqb-true}
use Rattle.trace_base.proofs.HoldMoveLemmas.{entry_moves, exit_moves}

-- the children of a span after an entry, and after an exit
entered_children : (x : Spans) (id lane q : ℕ) → IsLive x.made id → open_child_count (with_span_entry x id lane).made q ≡ open_child_count x.made q
entered_children x id lane q live =
    let ids = entries_on lane x.lanes in
    let now : Span = record (span_at x.made id) { holds = (span_at x.made id).holds + 1 } in
    elim (cases_Bool (is_in id ids)) [
      | inl again ↦ ap (λ (made : List Span). open_child_count made q) (cond-true {A = List Span} (is_in id ids) x.made (with_hold x.made id) again)
      | inr new ↦ ap (λ (made : List Span). open_child_count made q) (cond-false {A = List Span} (is_in id ids) x.made (with_hold x.made id) new) ∙ keeps_children x.made id now (made_if_held x.made id live) refl live (omega arith) q
    ]

exited_children : (x : Spans) (id lane q : ℕ) → MayExit x id lane → open_child_count (with_span_exit x id lane).made q ≡ open_child_count x.made q
exited_children x id lane q may =
    let ids = entries_on lane x.lanes in
    let was = span_at x.made id in
    elim (cases_Bool (times_in id ids == 1)) [
      | inl last ↦ (
          let more = may.1 (eqb-true (times_in id ids) 1 last) in
          let fewer = less_holds was in
          let parent = ap (λ (s : Span). s.parent) (less_more was (λ e. omega (arith, e, more))) in
          ap (λ (made : List Span). open_child_count made q) (cond-true {A = List Span} (times_in id ids == 1) (without_hold x.made id) x.made last)
          ∙ keeps_children x.made id (span_without_hold was) (made_if_held x.made id (omega (arith, more))) parent (omega (arith, more)) (omega (arith, more, fewer)) q)
      | inr again ↦ ap (λ (made : List Span). open_child_count made q) (cond-false {A = List Span} (times_in id ids == 1) (without_hold x.made id) x.made again)
    ]

-- a span has a hold of its own, and some more
abbrev pub OwnBeside : ℕ → Spans → ℕ → Type 0
OwnBeside n x q = bound_holds x q + n < (span_at x.made q).holds

-- one hold more of a live span
held_own : (n : ℕ) (x : Spans) (id q : ℕ) → IsLive x.made id → OwnBeside n x q → OwnBeside n (record x { made = with_hold x.made id }) q
held_own n x id q live own =
    let within = made_if_held x.made id live in
    let now : Span = record (span_at x.made id) { holds = (span_at x.made id).holds + 1 } in
    let children = keeps_children x.made id now within refl live (omega arith) q in
    elim (cases_eq q id) [
      | inl here ↦ (
          let h = holds_set x.made id now within q here in
          let w = ap (λ (k : ℕ). (span_at x.made k).holds) here in
          omega (arith, children, h, w, own))
      | inr other ↦ (let h = holds_other x.made id now q other in omega (arith, children, h, own))
    ]

-- the span itself has one more then
pub held_more : (n : ℕ) (x : Spans) (id : ℕ) → OwnBeside n x id → OwnBeside (n + 1) (record x { made = with_hold x.made id }) id
held_more n x id own =
    let within = made_if_held x.made id (omega (arith, own)) in
    let now : Span = record (span_at x.made id) { holds = (span_at x.made id).holds + 1 } in
    let children = keeps_children x.made id now within refl (omega (arith, own)) (omega arith) id in
    let h = holds_set x.made id now within id refl in
    omega (arith, children, h, own)

-- a span made, whose parent has taken its hold
push_own : (n : ℕ) (x : Spans) (new : Span) (q : ℕ) → bound_holds x q + cond {A = ℕ} (is_open_child q new) 1 0 + n < (span_at x.made q).holds → OwnBeside n (record x { made = x.made ++ new ∷ [] }) q
push_own n x new q own =
    let children = count_push (is_open_child q) x.made new in
    let within = made_if_held x.made q (omega (arith, own)) in
    let h = ap (λ (s : Span). s.holds) (get_or_append_left x.made (new ∷ []) no_span q within) in
    omega (arith, children, h, own)

new_keeps : (n : ℕ) (x : Spans) (above : Option ℕ) (site q : ℕ) → IfSome above (λ p. IsLive x.made p) → OwnBeside n x q → OwnBeside n (with_new_span x above site) q
new_keeps n x None site q live own = push_own n x (record { holds = 1; parent = None; site = site }) q (omega (arith, own))
new_keeps n x (Some p) site q live own =
    let within = made_if_held x.made p live in
    let now : Span = record (span_at x.made p) { holds = (span_at x.made p).holds + 1 } in
    let children = keeps_children x.made p now within refl live (omega arith) q in
    push_own n (record x { made = with_hold x.made p }) (record { holds = 1; parent = Some p; site = site }) q (elim (cases_eq q p) [
      | inl here ↦ (
          let h = holds_set x.made p now within q here in
          let w = ap (λ (k : ℕ). (span_at x.made k).holds) here in
          let c = cond-true {A = ℕ} (p == q) 1 0 (eq-eqb p q (sym here)) in
          omega (arith, children, h, w, c, own))
      | inr other ↦ (
          let h = holds_other x.made p now q other in
          let c = cond-false {A = ℕ} (p == q) 1 0 (ne_eqb p q (λ e. other (sym e))) in
          omega (arith, children, h, c, own))
    ])

-- a call that isn't a close
pub call_own : (n : ℕ) (x : Spans) (call : SubscriberCall) (q : ℕ) → IsSound x → Allowed x call → IsNoClose call → OwnBeside n x q → OwnBeside n (spans_after_call x call) q
call_own n x (NewSpan lane at parent site callsite values) q sound allowed kind own = new_keeps n x (parent_on (entries_on lane.id x.lanes) parent) site q (parent_live x lane.id parent sound allowed) own
call_own n x (Records id at callsite values) q sound allowed kind own = own
call_own n x (Follows id from at) q sound allowed kind own = own
call_own n x (Event lane at parent site callsite values) q sound allowed kind own = own
call_own n x (Enter id at before later) q sound allowed kind own = (let m = entry_moves x id before.id q allowed in let c = entered_children x id before.id q allowed in omega (arith, m, c, own))
call_own n x (Exit id at before later) q sound allowed kind own = (let m = exit_moves x id before.id q (exit_live x id before.id sound allowed) allowed in let c = exited_children x id before.id q allowed in omega (arith, m, c, own))
call_own n x (CloneSpan id) q sound allowed kind own = held_own n x id q allowed own
call_own n x (TryClose id at) q sound allowed kind own = absurd kind

-- a span has its own holds, and another one where it is released next
pub record OwnUnder (n : ℕ) (next : Option ℕ) (x : Spans) (q : ℕ) : Type 0 where
  pub own : OwnBeside n x q
  pub more : next ≡ Some q → OwnBeside (n + 1) x q

-- a release of another span
release_other : (n : ℕ) (x : Spans) (id q : ℕ) → HasUnboundHold x id → (q ≡ id → ⊥) → OwnBeside n x q → OwnUnder n (parent_to_release x.made id) (record x { made = without_hold x.made id }) q
release_other n x id q mine other own =
    let was = span_at x.made id in
    let now : Span = span_without_hold was in
    let within = made_if_held x.made id (omega (arith, mine)) in
    let write = children_set x.made id now q within in
    let h = holds_other x.made id now q other in
    elim (cases_eq was.holds 1) [
      | inl last ↦ (
          let isnt : is_open_child q now ≡ false = ap (is_open_child q) (less_last was last) in
          let b = cond-false {A = ℕ} (is_open_child q now) 1 0 isnt in
          let next : parent_to_release x.made id ≡ was.parent = cond-true {A = Option ℕ} (was.holds == 1) was.parent None (eq-eqb was.holds 1 last) in
          record {
            own = omega (arith, write, h, b, own);
            more = λ e. (
                let child : is_open_child q was ≡ true =
                cond-false {A = Bool} (0 == was.holds) false (is_child_of q was.parent) (ne_eqb 0 was.holds (λ z. omega (arith, z, last))) ∙ ap (is_child_of q) (sym next ∙ e) ∙ eq-eqb q q refl in
                let a = cond-true {A = ℕ} (is_open_child q was) 1 0 child in
                omega (arith, write, h, a, b, own));
          })
      | inr several ↦ (
          let fewer = less_holds was in
          let same = keeps_children x.made id now within (ap (λ (s : Span). s.parent) (less_more was several)) (omega (arith, mine)) (omega (arith, mine, several, fewer)) q in
          let none : parent_to_release x.made id ≡ None = cond-false {A = Option ℕ} (was.holds == 1) was.parent None (ne_eqb was.holds 1 several) in
          record {
            own = omega (arith, same, h, own);
            more = λ e. (let no : None ≡ Some q = sym none ∙ e in absurd (cc no));
          })
    ]

-- a release of the span itself, which has another hold of its own
release_same : (n : ℕ) (x : Spans) (id : ℕ) → OwnBeside (n + 1) x id → OwnUnder n (parent_to_release x.made id) (record x { made = without_hold x.made id }) id
release_same n x id own =
    let was = span_at x.made id in
    let now : Span = span_without_hold was in
    let within = made_if_held x.made id (omega (arith, own)) in
    let fewer = less_holds was in
    let several : was.holds ≡ 1 → ⊥ = λ e. omega (arith, e, own) in
    let same = keeps_children x.made id now within (ap (λ (s : Span). s.parent) (less_more was several)) (omega (arith, own)) (omega (arith, own, fewer)) id in
    let h = holds_set x.made id now within id refl in
    let none : parent_to_release x.made id ≡ None = cond-false {A = Option ℕ} (was.holds == 1) was.parent None (ne_eqb was.holds 1 several) in
    record {
      own = omega (arith, same, h, fewer, own);
      more = λ e. (let no : None ≡ Some id = sym none ∙ e in absurd (cc no));
    }

module _ {S : Type 0} (spans : S → Spans) (does : S → SubscriberCall → S → Type 0) (allowed : (s : S) (call : SubscriberCall) (t : S) → does s call t → Allowed (spans s) call)
    (shows : (s : S) (call : SubscriberCall) (t : S) → does s call t → spans t ≡ spans_after_call (spans s) call) (at : ℕ) where
  pub chain_own : (n : ℕ) (next : Option ℕ) (s t : S) → Chain spans does at next s t → (q : ℕ) → OwnUnder n next (spans s) q → OwnBeside n (spans t) q
  chain_own n _ _ _ (ended s) q under = under.own
  chain_own n _ _ _ (closes id s m t did rest) q under =
      let now = shows s (TryClose id at) m did in
      let next = parent_to_release (spans s).made id in
      chain_own n next m t rest q (subst (λ (x : Spans). OwnUnder n next x q) (sym now) (elim (cases_eq q id) [
        | inl here ↦ subst (λ (k : ℕ). OwnUnder n next (record (spans s) { made = without_hold (spans s).made id }) k) (sym here)
            (release_same n (spans s) id (subst (λ (k : ℕ). OwnBeside (n + 1) (spans s) k) here (under.more (ap (λ (k : ℕ). Some k) (sym here)))))
        | inr other ↦ release_other n (spans s) id q (allowed s (TryClose id at) m did) other under.own
      ]))
