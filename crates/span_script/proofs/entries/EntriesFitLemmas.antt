-- What is kept fits after an entry and after an exit.
use Rattle.std.proofs.Common.{◌≡◌, ℕ, ◌+◌, ◌<◌, List, [], ◌∷◌, ◌++◌, length, cond, count_by, set, Option, Some, None, refl, sym, ap, subst, ◌∙◌, arith, inl, inr, ◌==◌, ◌&&◌}
use Rattle.span_script.proofs.Common.{cases_eq, cases_Bool, cases_lt, cond-true, cond-false, and_from, length_push, get_or_past, get_or_push, get_or_append_left, sum_by-set, get_or-le-sum_by, Span, Entries, Spans, span_at, entries_on, with_entries, is_in, times_in, open_child_count, without_last, with_hold, span_without_hold, without_hold, with_span_entry, with_span_exit, HasUnboundHold, IsLive, MayExit, count_push, any_if_counted, made_if_held, with_same, with_other, keeps_children, less_more, less_holds, times_without, first_if_in, slot_at, with_lane_entries, OpenGuard, names_span, guards_span, Balanced}
use Rattle.std.proofs.lemmas.Bool.{eq-eqb, eqb-true, ne_eqb}
use Rattle.std.proofs.lemmas.List.{get_or-set_same, get_or-set_other}
use Rattle.trace_base.proofs.HoldMoveLemmas.{entry_moves, exit_moves}

-- open children stay
enter_children : (x : Spans) (id lane q : ℕ) → IsLive x.made id → open_child_count (with_span_entry x id lane).made q ≡ open_child_count x.made q
enter_children x id lane q live =
    let ids = entries_on lane x.lanes in
    elim (cases_Bool (is_in id ids)) [
      | inl again ↦ ap (λ (xs : List Span). open_child_count xs q) (cond-true {A = List Span} (is_in id ids) x.made (with_hold x.made id) again)
      | inr new ↦ ap (λ (xs : List Span). open_child_count xs q) (cond-false {A = List Span} (is_in id ids) x.made (with_hold x.made id) new)
          ∙ keeps_children x.made id (record (span_at x.made id) { holds = (span_at x.made id).holds + 1 }) (made_if_held x.made id live) refl live (omega arith) q
    ]

exit_children : (x : Spans) (id lane q : ℕ) → IsLive x.made id → MayExit x id lane → open_child_count (with_span_exit x id lane).made q ≡ open_child_count x.made q
exit_children x id lane q live may =
    let ids = entries_on lane x.lanes in
    let was = span_at x.made id in
    elim (cases_Bool (times_in id ids == 1)) [
      | inl last ↦ (
          let more = may.1 (eqb-true (times_in id ids) 1 last) in
          let fewer = less_holds was in
          ap (λ (xs : List Span). open_child_count xs q) (cond-true {A = List Span} (times_in id ids == 1) (without_hold x.made id) x.made last)
          ∙ keeps_children x.made id (span_without_hold was) (made_if_held x.made id live) (ap (λ (s : Span). s.parent) (less_more was (λ e. omega (arith, e, more)))) live (omega (arith, fewer, more)) q)
      | inr several ↦ ap (λ (xs : List Span). open_child_count xs q) (cond-false {A = List Span} (times_in id ids == 1) (without_hold x.made id) x.made several)
    ]

-- the entries of each lane after one lane's are written
entries_written : (lanes : List Entries) (lane : ℕ) (ids : List ℕ) (es : ℕ → List ℕ) → ((l : ℕ) → entries_on l lanes ≡ es l) → (l : ℕ) → entries_on l (with_entries lane ids lanes) ≡ with_lane_entries es lane ids l
entries_written lanes lane ids es same l = elim (cases_eq lane l) [
  | inl here ↦ ap (λ (k : ℕ). entries_on k (with_entries lane ids lanes)) (sym here) ∙ with_same lane ids lanes ∙ sym (cond-true {A = List ℕ} (lane == l) ids (es l) (eq-eqb lane l here))
  | inr other ↦ with_other lane l ids lanes other ∙ same l ∙ sym (cond-false {A = List ℕ} (lane == l) ids (es l) (ne_eqb lane l other))
]

named_counts : (hs : List (Option ℕ)) (n s : ℕ) → slot_at hs n ≡ Some s → 0 < count_by (names_span s) hs
named_counts hs n s is =
    elim (cases_lt n (length hs)) [
      | inl within ↦ (
          let c = get_or-le-sum_by (λ (o : Option ℕ). cond {A = ℕ} (names_span s o) 1 0) hs n None within in
          let one = cond-true {A = ℕ} (names_span s (slot_at hs n)) 1 0 (ap (names_span s) is ∙ eq-eqb s s refl) in
          omega (arith, c, one))
      | inr past ↦ absurd (let no : None ≡ Some s = sym (get_or_past hs n None past) ∙ is in cc no)
    ]

pub fits_live : (spans : Spans) (hs : List (Option ℕ)) (gs : List (Option OpenGuard)) (es : ℕ → List ℕ) → Balanced spans hs gs es → (n s : ℕ) → slot_at hs n ≡ Some s → IsLive spans.made s
fits_live spans hs gs es fits n s is = let c = named_counts hs n s is in let h = fits.holds s in omega (arith, c, h)

-- a handle's hold is its span's own
pub fits_own : (spans : Spans) (hs : List (Option ℕ)) (gs : List (Option OpenGuard)) (es : ℕ → List ℕ) → Balanced spans hs gs es → (n s : ℕ) → slot_at hs n ≡ Some s → HasUnboundHold spans s
fits_own spans hs gs es fits n s is = let c = named_counts hs n s is in let h = fits.holds s in omega (arith, c, h)

-- one entry more
pub fits_enter : (spans : Spans) (hs : List (Option ℕ)) (gs : List (Option OpenGuard)) (es : ℕ → List ℕ) → Balanced spans hs gs es → (handle s lane : ℕ) → slot_at hs handle ≡ Some s
    → Balanced (with_span_entry spans s lane) hs (gs ++ Some (record { handle = handle; span = s; lane = lane }) ∷ []) (with_lane_entries es lane (es lane ++ s ∷ []))
fits_enter spans hs gs es fits handle s lane is =
    let live = fits_live spans hs gs es fits handle s is in
    let guard : OpenGuard = record { handle = handle; span = s; lane = lane } in
    record {
      holds = λ q. (let m = entry_moves spans s lane q live in let c = enter_children spans s lane q live in let h = fits.holds q in omega (arith, m, c, h));
      entries = λ l. ap (λ (xs : List ℕ). entries_on l (with_entries lane (xs ++ s ∷ []) spans.lanes)) (fits.entries lane) ∙ entries_written spans.lanes lane (es lane ++ s ∷ []) es fits.entries l;
      guarded = λ l q. (
          let push = count_push (guards_span l q) gs (Some guard) in
          let before = fits.guarded l q in
          elim (cases_eq lane l) [
            | inl here ↦ (
                let e = ap (λ (xs : List ℕ). times_in q xs) (cond-true {A = List ℕ} (lane == l) (es lane ++ s ∷ []) (es l) (eq-eqb lane l here)) in
                let t = count_push (λ x. x == q) (es lane) s in
                let w = ap (λ (k : ℕ). times_in q (es k)) here in
                let g = ap (λ b. cond {A = ℕ} (b && s == q) 1 0) (eq-eqb lane l here) in
                omega (arith, push, before, e, t, w, g))
            | inr other ↦ (
                let e = ap (λ (xs : List ℕ). times_in q xs) (cond-false {A = List ℕ} (lane == l) (es lane ++ s ∷ []) (es l) (ne_eqb lane l other)) in
                let g = ap (λ b. cond {A = ℕ} (b && s == q) 1 0) (ne_eqb lane l other) in
                omega (arith, push, before, e, g))
          ]);
      borrowed = λ n g there. elim (cases_lt n (length gs)) [
        | inl within ↦ fits.borrowed n g (sym (get_or_append_left gs (Some guard ∷ []) None n within) ∙ there)
        | inr past ↦ elim (cases_eq (length gs) n) [
          | inl here ↦ (
              let same : Some guard ≡ Some g = sym (get_or_push gs (Some guard) None n here) ∙ there in
              let is_guard : guard ≡ g = cc same in
              subst (λ (x : OpenGuard). slot_at hs x.handle ≡ Some x.span) is_guard is)
          | inr beyond ↦ absurd (let no : None ≡ Some g = sym (get_or_past (gs ++ Some guard ∷ []) n None (let k = length_push gs (Some guard) in omega (arith, k, past, beyond))) ∙ there in cc no)
        ]
      ];
    }

-- an open guard may exit
guard_counts : (gs : List (Option OpenGuard)) (n : ℕ) (g : OpenGuard) → slot_at gs n ≡ Some g → (n < length gs) × (cond {A = ℕ} (guards_span g.lane g.span (slot_at gs n)) 1 0 ≡ 1)
guard_counts gs n g is =
    elim (cases_lt n (length gs)) [
      | inl within ↦ (within, cond-true {A = ℕ} (guards_span g.lane g.span (slot_at gs n)) 1 0 (ap (guards_span g.lane g.span) is ∙ and_from (g.lane == g.lane) (g.span == g.span) (eq-eqb g.lane g.lane refl) (eq-eqb g.span g.span refl)))
      | inr past ↦ absurd (let no : None ≡ Some g = sym (get_or_past gs n None past) ∙ is in cc no)
    ]

pub fits_may_exit : (spans : Spans) (hs : List (Option ℕ)) (gs : List (Option OpenGuard)) (es : ℕ → List ℕ) → Balanced spans hs gs es → (n : ℕ) (g : OpenGuard) → slot_at gs n ≡ Some g → MayExit spans g.span g.lane
fits_may_exit spans hs gs es fits n g is =
    let at = guard_counts gs n g is in
    let c = get_or-le-sum_by (λ (o : Option OpenGuard). cond {A = ℕ} (guards_span g.lane g.span o) 1 0) gs n None at.0 in
    let t = fits.guarded g.lane g.span in
    let e = ap (λ (xs : List ℕ). times_in g.span xs) (fits.entries g.lane) in
    let some : 0 < times_in g.span (entries_on g.lane spans.lanes) = omega (arith, at.1, c, t, e) in (
      some,
      λ only. (
          let named = named_counts hs g.handle g.span (fits.borrowed n g is) in
          let first = first_if_in spans.lanes g.lane g.span (any_if_counted (λ x. x == g.span) (entries_on g.lane spans.lanes) some) in
          let h = fits.holds g.span in
          omega (arith, named, first, h)),
    )

-- one entry less
pub fits_exit : (spans : Spans) (hs : List (Option ℕ)) (gs : List (Option OpenGuard)) (es : ℕ → List ℕ) → Balanced spans hs gs es → (n : ℕ) (g : OpenGuard) → slot_at gs n ≡ Some g
    → Balanced (with_span_exit spans g.span g.lane) hs (set gs n None) (with_lane_entries es g.lane (without_last (λ x. x == g.span) (es g.lane)))
fits_exit spans hs gs es fits n g is =
    let live = fits_live spans hs gs es fits g.handle g.span (fits.borrowed n g is) in
    let may = fits_may_exit spans hs gs es fits n g is in
    let at = guard_counts gs n g is in
    let some : 0 < times_in g.span (es g.lane) = (let e = ap (λ (xs : List ℕ). times_in g.span xs) (fits.entries g.lane) in let m = may.0 in omega (arith, e, m)) in
    record {
      holds = λ q. (let m = exit_moves spans g.span g.lane q live may in let c = exit_children spans g.span g.lane q live may in let h = fits.holds q in omega (arith, m, c, h));
      entries = λ l. ap (λ (xs : List ℕ). entries_on l (with_entries g.lane (without_last (λ x. x == g.span) xs) spans.lanes)) (fits.entries g.lane) ∙ entries_written spans.lanes g.lane (without_last (λ x. x == g.span) (es g.lane)) es fits.entries l;
      guarded = λ l q. (
          let write = sum_by-set (λ (o : Option OpenGuard). cond {A = ℕ} (guards_span l q o) 1 0) gs n None None at.0 in
          let slot = ap (λ (o : Option OpenGuard). cond {A = ℕ} (guards_span l q o) 1 0) is in
          let before = fits.guarded l q in
          elim (cases_eq g.lane l) [
            | inl here ↦ (
                let e = ap (λ (xs : List ℕ). times_in q xs) (cond-true {A = List ℕ} (g.lane == l) (without_last (λ x. x == g.span) (es g.lane)) (es l) (eq-eqb g.lane l here)) in
                let t = times_without (es g.lane) g.span q some in
                let w = ap (λ (k : ℕ). times_in q (es k)) here in
                let b = ap (λ b. cond {A = ℕ} (b && g.span == q) 1 0) (eq-eqb g.lane l here) in
                omega (arith, write, slot, before, e, t, w, b))
            | inr other ↦ (
                let e = ap (λ (xs : List ℕ). times_in q xs) (cond-false {A = List ℕ} (g.lane == l) (without_last (λ x. x == g.span) (es g.lane)) (es l) (ne_eqb g.lane l other)) in
                let b = ap (λ b. cond {A = ℕ} (b && g.span == q) 1 0) (ne_eqb g.lane l other) in
                omega (arith, write, slot, before, e, b))
          ]);
      borrowed = λ m x there. elim (cases_eq m n) [
        | inl same ↦ absurd (let no : None ≡ Some x = sym (ap (λ (k : ℕ). slot_at (set gs n None) k) same ∙ get_or-set_same gs n None None at.0) ∙ there in cc no)
        | inr other ↦ fits.borrowed m x (sym (get_or-set_other gs n m None None other) ∙ there)
      ];
    }
