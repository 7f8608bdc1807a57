-- Holds, entries and guards after what disabled handles do, and the numbers of holds.
use Rattle.std.proofs.Common.{◌≡◌, ℕ, Bool, zero, suc, ◌+◌, ◌≤◌, List, [], ◌∷◌, ◌++◌, length, set, Option, Some, None, map, refl, sym, ap, subst, ◌∙◌, arith, inl, inr, ◌==◌, slice_set}
use Rattle.span_script.proofs.Common.{cases_eq, cases_Bool, cases_lt, cond-true, cond-false, map_push, map-set, get_or_past, get_or-map, Span, Spans, no_span, span_at, is_in, times_in, entries_on, with_hold, span_without_hold, without_hold, with_span_entry, with_span_exit, count_push, less_holds, holds_set, holds_other, id_at, Balanced, OpenGuard, guards_span, span_of_handle, open_guard_on, open_guard_by, Scope, ScopeGuard, slot_at, span_of_scope, with_lane_entries, with_entry_on, with_exit_on}
use Rattle.std.proofs.lemmas.List.{length-set}
use Rattle.span_script.proofs.entries.EntriesFitLemmas.{fits_enter, fits_exit}
use Rattle.span_script.proofs.steps.SlotsLemmas.{named_push}

-- a guard of a disabled handle
pub quiet_guard : (spans : Spans) (hs : List (Option ℕ)) (gs : List (Option OpenGuard)) (es : ℕ → List ℕ) → Balanced spans hs gs es → Balanced spans hs (gs ++ None ∷ []) es
quiet_guard spans hs gs es fits = record {
  holds = fits.holds;
  entries = fits.entries;
  guarded = λ lane s. (let c = count_push (guards_span lane s) gs None in let b = fits.guarded lane s in omega (arith, c, b));
  borrowed = λ n g there. named_push (λ (x : OpenGuard). slot_at hs x.handle ≡ Some x.span) gs None fits.borrowed (λ x e. absurd (cc e)) n g there;
}

-- the slot that a handle's line gives
pub named_slot : (hs : List (Option Scope)) (handle : ℕ) (line : Scope) → slot_at hs handle ≡ Some line → slot_at (map span_of_handle hs) handle ≡ span_of_scope line
named_slot hs handle line there = get_or-map span_of_handle hs handle None ∙ ap span_of_handle there

pub opened_slot : (ids : List ℕ) (gs : List (Option ScopeGuard)) (n : ℕ) (g : ScopeGuard) → slot_at gs n ≡ Some g → slot_at (map (open_guard_by ids) gs) n ≡ open_guard_on g.handle (id_at ids g.place) g.scope
opened_slot ids gs n g there = get_or-map (open_guard_by ids) gs n None ∙ ap (open_guard_by ids) there

-- what an entry or an exit makes of the spans
abbrev pub spans_entered : Spans → Scope → ℕ → Spans
spans_entered spans [] lane = spans
spans_entered spans (s ∷ up) lane = with_span_entry spans s lane

abbrev pub spans_exited : Spans → Scope → ℕ → Spans
spans_exited spans [] lane = spans
spans_exited spans (s ∷ up) lane = with_span_exit spans s lane

pub balanced_enter : (ids : List ℕ) (spans : Spans) (hs : List (Option Scope)) (gs : List (Option ScopeGuard)) (es : ℕ → List ℕ) → Balanced spans (map span_of_handle hs) (map (open_guard_by ids) gs) es → (handle place : ℕ) (owns : Bool) (line : Scope) → slot_at hs handle ≡ Some line
    → Balanced (spans_entered spans line (id_at ids place)) (map span_of_handle hs) (map (open_guard_by ids) (gs ++ Some (record { handle = handle; place = place; owns = owns; scope = line }) ∷ [])) (with_entry_on es (id_at ids place) (span_of_scope line))
balanced_enter ids spans hs gs es fits handle place owns [] there =
    subst (λ (xs : List (Option OpenGuard)). Balanced spans (map span_of_handle hs) xs es) (sym (map_push (open_guard_by ids) gs (Some (record { handle = handle; place = place; owns = owns; scope = [] })))) (quiet_guard spans (map span_of_handle hs) (map (open_guard_by ids) gs) es fits)
balanced_enter ids spans hs gs es fits handle place owns (s ∷ up) there =
    subst (λ (xs : List (Option OpenGuard)). Balanced (with_span_entry spans s (id_at ids place)) (map span_of_handle hs) xs (with_lane_entries es (id_at ids place) (es (id_at ids place) ++ s ∷ []))) (sym (map_push (open_guard_by ids) gs (Some (record { handle = handle; place = place; owns = owns; scope = s ∷ up }))))
    (fits_enter spans (map span_of_handle hs) (map (open_guard_by ids) gs) es fits handle s (id_at ids place) (named_slot hs handle (s ∷ up) there))

-- a span written has as many holds as are written
pub held_most : (made : List Span) (id q : ℕ) → (span_at (with_hold made id) q).holds ≤ (span_at made q).holds + 1
held_most made id q =
    let now : Span = record (span_at made id) { holds = (span_at made id).holds + 1 } in
    elim (cases_eq q id) [
      | inl here ↦ elim (cases_lt id (length made)) [
        | inl within ↦ (let h = holds_set made id now within q here in let w = ap (λ (k : ℕ). (span_at made k).holds) here in omega (arith, h, w))
        | inr past ↦ (let h = ap (λ (x : Span). x.holds) (get_or_past (set made id now) q no_span (let l = length-set made id now in omega (arith, l, past, here))) in omega (arith, h))
      ]
      | inr other ↦ (let h = holds_other made id now q other in omega (arith, h))
    ]

pub released_less : (made : List Span) (id q : ℕ) → (span_at (without_hold made id) q).holds ≤ (span_at made q).holds
released_less made id q =
    let now : Span = span_without_hold (span_at made id) in
    let less = less_holds (span_at made id) in
    elim (cases_eq q id) [
      | inl here ↦ elim (cases_lt id (length made)) [
        | inl within ↦ (let h = holds_set made id now within q here in let w = ap (λ (k : ℕ). (span_at made k).holds) here in omega (arith, h, w, less))
        | inr past ↦ (let h = ap (λ (x : Span). x.holds) (get_or_past (set made id now) q no_span (let l = length-set made id now in omega (arith, l, past, here))) in omega (arith, h))
      ]
      | inr other ↦ (let h = holds_other made id now q other in omega (arith, h))
    ]

pub entered_most : (spans : Spans) (line : Scope) (lane q : ℕ) → (span_at (spans_entered spans line lane).made q).holds ≤ (span_at spans.made q).holds + 1
entered_most spans [] lane q = omega arith
entered_most spans (s ∷ up) lane q = elim (cases_Bool (is_in s (entries_on lane spans.lanes))) [
  | inl again ↦ (let e = ap (λ (xs : List Span). (span_at xs q).holds) (cond-true {A = List Span} (is_in s (entries_on lane spans.lanes)) spans.made (with_hold spans.made s) again) in omega (arith, e))
  | inr new ↦ (let e = ap (λ (xs : List Span). (span_at xs q).holds) (cond-false {A = List Span} (is_in s (entries_on lane spans.lanes)) spans.made (with_hold spans.made s) new) in let h = held_most spans.made s q in omega (arith, e, h))
]

pub exited_less : (spans : Spans) (line : Scope) (lane q : ℕ) → (span_at (spans_exited spans line lane).made q).holds ≤ (span_at spans.made q).holds
exited_less spans [] lane q = omega arith
exited_less spans (s ∷ up) lane q = elim (cases_Bool (times_in s (entries_on lane spans.lanes) == 1)) [
  | inl last ↦ (let e = ap (λ (xs : List Span). (span_at xs q).holds) (cond-true {A = List Span} (times_in s (entries_on lane spans.lanes) == 1) (without_hold spans.made s) spans.made last) in let h = released_less spans.made s q in omega (arith, e, h))
  | inr more ↦ (let e = ap (λ (xs : List Span). (span_at xs q).holds) (cond-false {A = List Span} (times_in s (entries_on lane spans.lanes) == 1) (without_hold spans.made s) spans.made more) in omega (arith, e))
]

pub set_none : {X : Type 0} (xs : List (Option X)) (n : ℕ) → slot_at xs n ≡ None → slice_set xs n None ≡ xs
set_none [] n e = refl
set_none (x ∷ xs) zero e = ap (λ y. y ∷ xs) (sym e)
set_none (x ∷ xs) (suc n) e = ap (λ ys. x ∷ ys) (set_none xs n e)

pub balanced_exit : (ids : List ℕ) (spans : Spans) (hs : List (Option Scope)) (gs : List (Option ScopeGuard)) (es : ℕ → List ℕ) → Balanced spans (map span_of_handle hs) (map (open_guard_by ids) gs) es
    → (n : ℕ) (g : ScopeGuard) → slot_at gs n ≡ Some g → (line : Scope) → g.scope ≡ line
    → Balanced (spans_exited spans line (id_at ids g.place)) (map span_of_handle hs) (map (open_guard_by ids) (slice_set gs n None)) (with_exit_on es (id_at ids g.place) (span_of_scope line))
balanced_exit ids spans hs gs es fits n g there [] is =
    subst (λ (xs : List (Option OpenGuard)). Balanced spans (map span_of_handle hs) xs es) (sym (map-set (open_guard_by ids) gs n None ∙ set_none (map (open_guard_by ids) gs) n (opened_slot ids gs n g there ∙ ap (open_guard_on g.handle (id_at ids g.place)) is))) fits
balanced_exit ids spans hs gs es fits n g there (s ∷ up) is =
    subst (λ (xs : List (Option OpenGuard)). Balanced (with_span_exit spans s (id_at ids g.place)) (map span_of_handle hs) xs (with_exit_on es (id_at ids g.place) (Some s))) (sym (map-set (open_guard_by ids) gs n None))
    (fits_exit spans (map span_of_handle hs) (map (open_guard_by ids) gs) es fits n (record { handle = g.handle; span = s; lane = id_at ids g.place }) (opened_slot ids gs n g there ∙ ap (open_guard_on g.handle (id_at ids g.place)) is))
