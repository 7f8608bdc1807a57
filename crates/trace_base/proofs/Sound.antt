-- The spans stay sound at each call, and what a call makes is known.
use Rattle.std.proofs.Common.{◌≡◌, ℕ, ◌+◌, ◌<◌, ◌≤◌, List, [], ◌∷◌, ◌++◌, length, Bool, true, false, cond, set, Option, Some, None, refl, sym, ap, subst, ◌∙◌, arith, inl, inr}
use Rattle.std.specs.Prelude.{◌==◌, ◌||◌, IfSome}
use Rattle.std.proofs.lemmas.Bool.{eqb-true, eqb-false, eq-eqb, ne_eqb, cases_eq, cases_Bool, cases_lt, cond-true, cond-false, or_parts, true≢false}
use Rattle.std.proofs.lemmas.List.{length-set, length_push, get_or-set_same, get_or-set_other, get_or_past, get_or_push, get_or_append_left}
use Rattle.trace_base.specs.declared.span.Parent.{Parent}
use Rattle.trace_base.specs.declared.span.Parent.TheVariants as parent
use Rattle.trace_base.specs.Spans.{Span, Entries, Spans, no_span, span_at, entries_on, with_entries, is_in, times_in, is_child_of, is_open_child, open_child_count, bound_holds, without_last, with_hold, span_without_hold, without_hold, current_of, parent_on, parent_to_release}
use Rattle.trace_base.specs.Calls.{SubscriberCall, NewSpan, Records, Follows, Event, Enter, Exit, CloneSpan, TryClose, spans_after_call, with_new_span, with_span_entry, with_span_exit}
use Rattle.trace_base.specs.Conditions.{Allowed, IsLive, IsLiveParent, HasUnboundHold, MayExit}
use Rattle.trace_base.specs.Sound.{IsSound, OneEach, has_lane}
use Rattle.trace_base.proofs.EntryLemmas.{count_push, counted_if_any, any_if_counted, made_if_held}
use Rattle.trace_base.proofs.HoldLemmas.{children_set, same_child, keeps_children, less_last, less_more, less_holds, less_under, holds_set, holds_other, first_with, in_push_other, in_push_same, in_by_times, times_without, current_in, first_if_in}

-- each lane still has one row
or_none : (a b : Bool) → a ≡ false → b ≡ false → (a || b) ≡ false
or_none a b e f = ap (λ c. c || b) e ∙ f

has_none : (lane l : ℕ) (ids : List ℕ) (es : List Entries) → has_lane l es ≡ false → (lane ≡ l → ⊥) → has_lane l (with_entries lane ids es) ≡ false
has_none lane l ids [] none other = or_none (lane == l) false (ne_eqb lane l other) refl
has_none lane l ids (e ∷ es) none other =
    let parts = or_parts (e.lane == l) (has_lane l es) none in
    elim (cases_Bool (e.lane == lane)) [
      | inl same ↦ ap (has_lane l) (cond-true {A = List Entries} (e.lane == lane) (record { lane = lane; ids = ids } ∷ es) (e ∷ with_entries lane ids es) same) ∙ or_none (lane == l) (has_lane l es) (ne_eqb lane l other) parts.1
      | inr differs ↦ ap (has_lane l) (cond-false {A = List Entries} (e.lane == lane) (record { lane = lane; ids = ids } ∷ es) (e ∷ with_entries lane ids es) differs) ∙ or_none (e.lane == l) (has_lane l (with_entries lane ids es)) parts.0 (has_none lane l ids es parts.1 other)
    ]

pub one_with : (lane : ℕ) (ids : List ℕ) (es : List Entries) → OneEach es → OneEach (with_entries lane ids es)
one_with lane ids [] one = (refl, tt)
one_with lane ids (e ∷ es) one =
    elim (cases_Bool (e.lane == lane)) [
      | inl same ↦ subst OneEach (sym (cond-true {A = List Entries} (e.lane == lane) (record { lane = lane; ids = ids } ∷ es) (e ∷ with_entries lane ids es) same)) (ap (λ (l : ℕ). has_lane l es) (sym (eqb-true e.lane lane same)) ∙ one.0, one.1)
      | inr differs ↦ subst OneEach (sym (cond-false {A = List Entries} (e.lane == lane) (record { lane = lane; ids = ids } ∷ es) (e ∷ with_entries lane ids es) differs))
          (has_none lane e.lane ids es one.0 (λ x. true≢false (sym (eq-eqb e.lane lane (sym x)) ∙ differs)), one_with lane ids es one.1)
    ]

keeps_older : (made : List Span) (id : ℕ) (now : Span) → id < length made → ((p : ℕ) → now.parent ≡ Some p → (span_at made id).parent ≡ Some p) → ((q p : ℕ) → (span_at made q).parent ≡ Some p → p < q) → (q p : ℕ) → (span_at (set made id now) q).parent ≡ Some p → p < q
keeps_older made id now within under older q p is =
    elim (cases_eq q id) [
      | inl here ↦ (
          let written = ap (λ (k : ℕ). span_at (set made id now) k) here ∙ get_or-set_same made id now no_span within in
          older q p (ap (λ (k : ℕ). (span_at made k).parent) here ∙ under p (sym (ap (λ (s : Span). s.parent) written) ∙ is)))
      | inr other ↦ older q p (ap (λ (s : Span). s.parent) (sym (get_or-set_other made id q now no_span other)) ∙ is)
    ]

pub sound_held : (spans : Spans) (id : ℕ) → IsSound spans → IsLive spans.made id → IsSound (record spans { made = with_hold spans.made id })
sound_held spans id sound live =
    let within = made_if_held spans.made id live in
    let now : Span = record (span_at spans.made id) { holds = (span_at spans.made id).holds + 1 } in
    record {
      bound = λ q. (
          let children = keeps_children spans.made id now within refl live (omega arith) q in
          let before = sound.bound q in
          elim (cases_eq q id) [
            | inl here ↦ (
                let h = holds_set spans.made id now within q here in
                let g = ap (λ (k : ℕ). (span_at spans.made k).holds) here in
                omega (arith, children, before, h, g))
            | inr other ↦ (let h = holds_other spans.made id now q other in omega (arith, children, before, h))
          ]);
      older = keeps_older spans.made id now within (λ p is. is) sound.older;
      one_row = sound.one_row;
    }

-- one hold less, where another than those of entries and children was left
pub sound_released : (spans : Spans) (id : ℕ) → IsSound spans → HasUnboundHold spans id → IsSound (record spans { made = without_hold spans.made id })
sound_released spans id sound own =
    let within = made_if_held spans.made id (omega (arith, own)) in
    let was = span_at spans.made id in
    let now : Span = span_without_hold was in
    let fewer_holds = less_holds was in
    record {
      bound = λ q. (
          let write = children_set spans.made id now q within in
          let fewer : cond {A = ℕ} (is_open_child q now) 1 0 ≤ cond {A = ℕ} (is_open_child q was) 1 0 = elim (cases_eq was.holds 1) [
            | inl last ↦ (let a = ap (λ (s : Span). cond {A = ℕ} (is_open_child q s) 1 0) (less_last was last) in omega (arith, a))
            | inr more ↦ (
                let same = same_child was now q (ap (λ (s : Span). s.parent) (less_more was more)) (omega (arith, own)) (omega (arith, own, more, fewer_holds)) in
                let a = ap (λ b. cond {A = ℕ} b 1 0) same in omega (arith, a))
          ] in
          let before = sound.bound q in
          elim (cases_eq q id) [
            | inl here ↦ (
                let h = holds_set spans.made id now within q here in
                let g = ap (λ (k : ℕ). bound_holds spans k) here in
                omega (arith, write, fewer, own, h, g, fewer_holds))
            | inr other ↦ (let h = holds_other spans.made id now q other in omega (arith, write, fewer, before, h))
          ]);
      older = keeps_older spans.made id now within (less_under was) sound.older;
      one_row = sound.one_row;
    }

pub sound_entered : (spans : Spans) (id lane : ℕ) → IsSound spans → IsLive spans.made id → IsSound (with_span_entry spans id lane)
sound_entered spans id lane sound live =
    let ids = entries_on lane spans.lanes in
    let made_here = sound_held spans id sound live in
    let rows = one_with lane (ids ++ id ∷ []) spans.lanes sound.one_row in
    elim (cases_Bool (is_in id ids)) [
      | inl again ↦ (
          let same : (with_span_entry spans id lane).made ≡ spans.made = cond-true {A = List Span} (is_in id ids) spans.made (with_hold spans.made id) again in
          record {
            bound = λ q. (
                let first = first_with spans.lanes lane q (ids ++ id ∷ []) in
                let stays : is_in q (ids ++ id ∷ []) ≡ is_in q ids = elim (cases_eq q id) [
                  | inl here ↦ ap (λ (k : ℕ). is_in k (ids ++ id ∷ [])) here ∙ in_push_same ids id ∙ sym again ∙ ap (λ (k : ℕ). is_in k ids) (sym here)
                  | inr other ↦ in_push_other ids id q other
                ] in
                let e = ap (λ b. cond {A = ℕ} b 1 0) stays in
                let m = ap (λ (xs : List Span). open_child_count xs q) same in
                let h = ap (λ (xs : List Span). (span_at xs q).holds) same in
                let before = sound.bound q in
                omega (arith, first, e, m, h, before));
            older = λ q p is. sound.older q p (ap (λ (xs : List Span). (span_at xs q).parent) (sym same) ∙ is);
            one_row = rows;
          })
      | inr new ↦ (
          let same : (with_span_entry spans id lane).made ≡ with_hold spans.made id = cond-false {A = List Span} (is_in id ids) spans.made (with_hold spans.made id) new in
          let within = made_if_held spans.made id live in
          let now : Span = record (span_at spans.made id) { holds = (span_at spans.made id).holds + 1 } in
          record {
            bound = λ q. (
                let first = first_with spans.lanes lane q (ids ++ id ∷ []) in
                let m = ap (λ (xs : List Span). open_child_count xs q) same in
                let h = ap (λ (xs : List Span). (span_at xs q).holds) same in
                let children = keeps_children spans.made id now within refl live (omega arith) q in
                let before = sound.bound q in
                elim (cases_eq q id) [
                  | inl here ↦ (
                      let a = cond-true {A = ℕ} (is_in q (ids ++ id ∷ [])) 1 0 (ap (λ (k : ℕ). is_in k (ids ++ id ∷ [])) here ∙ in_push_same ids id) in
                      let b = cond-false {A = ℕ} (is_in q ids) 1 0 (ap (λ (k : ℕ). is_in k ids) here ∙ new) in
                      let g = holds_set spans.made id now within q here in
                      let w = ap (λ (k : ℕ). (span_at spans.made k).holds) here in
                      omega (arith, first, m, h, children, before, a, b, g, w))
                  | inr other ↦ (
                      let e = ap (λ b. cond {A = ℕ} b 1 0) (in_push_other ids id q other) in
                      let g = holds_other spans.made id now q other in
                      omega (arith, first, m, h, children, before, e, g))
                ]);
            older = λ q p is. made_here.older q p (ap (λ (xs : List Span). (span_at xs q).parent) (sym same) ∙ is);
            one_row = rows;
          })
    ]

pub exit_live : (spans : Spans) (id lane : ℕ) → IsSound spans → MayExit spans id lane → IsLive spans.made id
exit_live spans id lane sound may =
    let first = first_if_in spans.lanes lane id (any_if_counted (λ x. x == id) (entries_on lane spans.lanes) may.0) in
    let b = sound.bound id in
    omega (arith, first, b)

pub sound_exited : (spans : Spans) (id lane : ℕ) → IsSound spans → MayExit spans id lane → IsSound (with_span_exit spans id lane)
sound_exited spans id lane sound may =
    let ids = entries_on lane spans.lanes in
    let rest = without_last (λ x. x == id) ids in
    let live : 0 < (span_at spans.made id).holds = (
    let first = first_if_in spans.lanes lane id (any_if_counted (λ x. x == id) ids may.0) in
    let b = sound.bound id in omega (arith, first, b)) in
    let within = made_if_held spans.made id live in
    let others : (q : ℕ) → (q ≡ id → ⊥) → is_in q rest ≡ is_in q ids = λ q other. (
    let t = times_without ids id q may.0 in
    let z = cond-false {A = ℕ} (id == q) 1 0 (ne_eqb id q (λ e. other (sym e))) in
    in_by_times rest ids q (omega (arith, t, z))) in
    let itself = times_without ids id id may.0 in
    let counts = cond-true {A = ℕ} (id == id) 1 0 (eq-eqb id id refl) in
    let there = any_if_counted (λ x. x == id) ids may.0 in
    let rows = one_with lane rest spans.lanes sound.one_row in
    elim (cases_Bool (times_in id ids == 1)) [
      | inl last ↦ (
          let only = eqb-true (times_in id ids) 1 last in
          let same : (with_span_exit spans id lane).made ≡ without_hold spans.made id = cond-true {A = List Span} (times_in id ids == 1) (without_hold spans.made id) spans.made last in
          let now : Span = span_without_hold (span_at spans.made id) in
          let more = may.1 only in
          let fewer = less_holds (span_at spans.made id) in
          let parent = ap (λ (s : Span). s.parent) (less_more (span_at spans.made id) (λ e. omega (arith, e, more))) in
          let gone : is_in id rest ≡ false = elim (cases_Bool (is_in id rest)) [
            | inl some ↦ absurd (let c = counted_if_any (λ x. x == id) rest some in omega (arith, c, itself, counts, only))
            | inr not ↦ not
          ] in
          record {
            bound = λ q. (
                let first = first_with spans.lanes lane q rest in
                let m = ap (λ (xs : List Span). open_child_count xs q) same in
                let h = ap (λ (xs : List Span). (span_at xs q).holds) same in
                let children = keeps_children spans.made id now within parent live (omega (arith, more, fewer)) q in
                let before = sound.bound q in
                elim (cases_eq q id) [
                  | inl here ↦ (
                      let a = cond-false {A = ℕ} (is_in q rest) 1 0 (ap (λ (k : ℕ). is_in k rest) here ∙ gone) in
                      let b = cond-true {A = ℕ} (is_in q ids) 1 0 (ap (λ (k : ℕ). is_in k ids) here ∙ there) in
                      let g = holds_set spans.made id now within q here in
                      let w = ap (λ (k : ℕ). (span_at spans.made k).holds) here in
                      omega (arith, first, m, h, children, before, a, b, g, w, fewer))
                  | inr other ↦ (
                      let e = ap (λ b. cond {A = ℕ} b 1 0) (others q other) in
                      let g = holds_other spans.made id now q other in
                      omega (arith, first, m, h, children, before, e, g))
                ]);
            older = λ q p is. keeps_older spans.made id now within (less_under (span_at spans.made id)) sound.older q p (ap (λ (xs : List Span). (span_at xs q).parent) (sym same) ∙ is);
            one_row = rows;
          })
      | inr again ↦ (
          let same : (with_span_exit spans id lane).made ≡ spans.made = cond-false {A = List Span} (times_in id ids == 1) (without_hold spans.made id) spans.made again in
          let several = eqb-false (times_in id ids) 1 again in
          record {
            bound = λ q. (
                let first = first_with spans.lanes lane q rest in
                let stays : is_in q rest ≡ is_in q ids = elim (cases_eq q id) [
                  | inl here ↦ ap (λ (k : ℕ). is_in k rest) here ∙ any_if_counted (λ x. x == id) rest (omega (arith, itself, counts, several, may.0)) ∙ sym there ∙ ap (λ (k : ℕ). is_in k ids) (sym here)
                  | inr other ↦ others q other
                ] in
                let e = ap (λ b. cond {A = ℕ} b 1 0) stays in
                let m = ap (λ (xs : List Span). open_child_count xs q) same in
                let h = ap (λ (xs : List Span). (span_at xs q).holds) same in
                let before = sound.bound q in
                omega (arith, first, e, m, h, before));
            older = λ q p is. sound.older q p (ap (λ (xs : List Span). (span_at xs q).parent) (sym same) ∙ is);
            one_row = rows;
          })
    ]

-- a span made, where its parent has room for its hold
at_push : (made : List Span) (new : Span) (q : ℕ) → (span_at made q).holds ≤ (span_at (made ++ new ∷ []) q).holds
at_push made new q =
    elim (cases_lt q (length made)) [
      | inl within ↦ (let e = ap (λ (s : Span). s.holds) (get_or_append_left made (new ∷ []) no_span q within) in omega (arith, e))
      | inr past ↦ (let e = ap (λ (s : Span). s.holds) (get_or_past made q no_span past) in omega (arith, e))
    ]

older_push : (made : List Span) (new : Span) → ((q p : ℕ) → (span_at made q).parent ≡ Some p → p < q) → ((p : ℕ) → new.parent ≡ Some p → p < length made) → (q p : ℕ) → (span_at (made ++ new ∷ []) q).parent ≡ Some p → p < q
older_push made new older under q p is =
    elim (cases_lt q (length made)) [
      | inl within ↦ older q p (ap (λ (s : Span). s.parent) (sym (get_or_append_left made (new ∷ []) no_span q within)) ∙ is)
      | inr past ↦ elim (cases_eq (length made) q) [
        | inl here ↦ (let below = under p (ap (λ (s : Span). s.parent) (sym (get_or_push made new no_span q here)) ∙ is) in omega (arith, below, here))
        | inr beyond ↦ (
            let none = ap (λ (s : Span). s.parent) (get_or_past (made ++ new ∷ []) q no_span (omega (arith, length_push made new, past, beyond))) in
            let no : None ≡ Some p = sym none ∙ is in absurd (cc no))
      ]
    ]

pub sound_push : (spans : Spans) (new : Span) → ((q : ℕ) → bound_holds spans q + cond {A = ℕ} (is_open_child q new) 1 0 ≤ (span_at spans.made q).holds) → ((q p : ℕ) → (span_at spans.made q).parent ≡ Some p → p < q)
    → ((p : ℕ) → new.parent ≡ Some p → p < length spans.made) → OneEach spans.lanes → IsSound (record spans { made = spans.made ++ new ∷ [] })
sound_push spans new room older under rows = record {
  bound = λ q. (
      let children = count_push (is_open_child q) spans.made new in
      let r = room q in
      let h = at_push spans.made new q in
      omega (arith, children, r, h));
  older = older_push spans.made new older under;
  one_row = rows;
}

pub sound_new : (spans : Spans) (above : Option ℕ) (site : ℕ) → IsSound spans → IfSome above (λ p. IsLive spans.made p) → IsSound (with_new_span spans above site)
sound_new spans None site sound live = sound_push spans (record { holds = 1; parent = None; site = site }) (λ q. let b = sound.bound q in omega (arith, b)) sound.older (λ p e. absurd (cc e)) sound.one_row
sound_new spans (Some p) site sound live =
    let within = made_if_held spans.made p live in
    let now : Span = record (span_at spans.made p) { holds = (span_at spans.made p).holds + 1 } in
    let new : Span = record { holds = 1; parent = Some p; site = site } in
    let parent_held = sound_held spans p sound live in
    sound_push (record spans { made = with_hold spans.made p }) new
    (λ q. (
    let children = keeps_children spans.made p now within refl live (omega arith) q in
    let before = sound.bound q in
    elim (cases_eq q p) [
      | inl here ↦ (
          let h = holds_set spans.made p now within q here in
          let w = ap (λ (k : ℕ). (span_at spans.made k).holds) here in
          let c = cond-true {A = ℕ} (p == q) 1 0 (eq-eqb p q (sym here)) in
          omega (arith, children, before, h, w, c))
      | inr other ↦ (
          let h = holds_other spans.made p now q other in
          let c = cond-false {A = ℕ} (p == q) 1 0 (ne_eqb p q (λ e. other (sym e))) in
          omega (arith, children, before, h, c))
    ]))
    parent_held.older
    (λ r e. (let same : p ≡ r = cc e in let l = length-set spans.made p now in omega (arith, same, within, l))) sound.one_row

-- a parent is a span that was made and is live
if_some : (o : Option ℕ) (P : ℕ → Type 0) → ((p : ℕ) → o ≡ Some p → P p) → IfSome o P
if_some None P f = tt
if_some (Some p) P f = f p refl

pub current_live : (spans : Spans) (lane p : ℕ) → IsSound spans → current_of (entries_on lane spans.lanes) ≡ Some p → IsLive spans.made p
current_live spans lane p sound is =
    elim (current_in [] None (entries_on lane spans.lanes) p is) [
      | inl none ↦ absurd (cc none)
      | inr there ↦ (let first = first_if_in spans.lanes lane p there in let b = sound.bound p in omega (arith, first, b))
    ]

pub parent_live : (spans : Spans) (lane : ℕ) (parent : Parent) → IsSound spans → IsLiveParent spans.made parent → IfSome (parent_on (entries_on lane spans.lanes) parent) (λ p. IsLive spans.made p)
parent_live spans lane parent.Root sound live = tt
parent_live spans lane parent.Current sound live = if_some (current_of (entries_on lane spans.lanes)) (λ p. IsLive spans.made p) (λ p is. current_live spans lane p sound is)
parent_live spans lane (parent.Of id) sound live = live

-- the next span to be released has a hold of its own
pub next_own : (spans : Spans) (id : ℕ) → IsSound spans → HasUnboundHold spans id → IfSome (parent_to_release spans.made id) (λ p. (p < id) × HasUnboundHold (record spans { made = without_hold spans.made id }) p)
next_own spans id sound own =
    let was = span_at spans.made id in
    let P : ℕ → Type 0 = λ p. (p < id) × HasUnboundHold (record spans { made = without_hold spans.made id }) p in
    elim (cases_Bool (was.holds == 1)) [
      | inr more ↦ subst (λ (o : Option ℕ). IfSome o P) (sym (cond-false {A = Option ℕ} (was.holds == 1) was.parent None more)) tt
      | inl last ↦ subst (λ (o : Option ℕ). IfSome o P) (sym (cond-true {A = Option ℕ} (was.holds == 1) was.parent None last)) (if_some was.parent P (λ p is.
          let only = eqb-true was.holds 1 last in
          let below = sound.older id p is in
          let within = made_if_held spans.made id (omega (arith, only)) in
          let now : Span = span_without_hold was in
          let write = children_set spans.made id now p within in
          let was_child : is_open_child p was ≡ true = cond-false {A = Bool} (0 == was.holds) false (is_child_of p was.parent) (ne_eqb 0 was.holds (λ e. omega (arith, e, only))) ∙ ap (is_child_of p) is ∙ eq-eqb p p refl in
          let isnt : is_open_child p now ≡ false = ap (is_open_child p) (less_last was only) in
          let a = cond-true {A = ℕ} (is_open_child p was) 1 0 was_child in
          let b = cond-false {A = ℕ} (is_open_child p now) 1 0 isnt in
          let h = holds_other spans.made id now p (λ e. omega (arith, e, below)) in
          let before = sound.bound p in
          (below, omega (arith, write, a, b, h, before))))
    ]

pub sound_call : (x : Spans) (call : SubscriberCall) → IsSound x → Allowed x call → IsSound (spans_after_call x call)
sound_call x (NewSpan lane at parent site callsite values) sound allowed = sound_new x (parent_on (entries_on lane.id x.lanes) parent) site sound (parent_live x lane.id parent sound allowed)
sound_call x (Records id at callsite values) sound allowed = sound
sound_call x (Follows id from at) sound allowed = sound
sound_call x (Event lane at parent site callsite values) sound allowed = sound
sound_call x (Enter id at pre later) sound allowed = sound_entered x id pre.id sound allowed
sound_call x (Exit id at pre later) sound allowed = sound_exited x id pre.id sound allowed
sound_call x (CloneSpan id) sound allowed = sound_held x id sound allowed
sound_call x (TryClose id at) sound allowed = sound_released x id sound allowed

-- a span just made has a hold of its own
pub new_own : (x : Spans) (above : Option ℕ) (site : ℕ) → IsSound x → IfSome above (λ p. IsLive x.made p) → HasUnboundHold (with_new_span x above site) (length x.made)
new_own x None site sound live =
    let new : Span = record { holds = 1; parent = None; site = site } in
    let n = length x.made in
    let children = count_push (is_open_child n) x.made new in
    let past = ap (λ (s : Span). s.holds) (get_or_past x.made n no_span (omega arith)) in
    let bound = sound.bound n in
    let h = ap (λ (s : Span). s.holds) (get_or_push x.made new no_span n refl) in
    omega (arith, children, past, bound, h)
new_own x (Some p) site sound live =
    let within = made_if_held x.made p live in
    let now : Span = record (span_at x.made p) { holds = (span_at x.made p).holds + 1 } in
    let new : Span = record { holds = 1; parent = Some p; site = site } in
    let before = with_hold x.made p in
    let n = length x.made in
    let same : length before ≡ n = length-set x.made p now in
    let children = count_push (is_open_child n) before new in
    let kept = keeps_children x.made p now within refl live (omega arith) n in
    let past = ap (λ (s : Span). s.holds) (get_or_past x.made n no_span (omega arith)) in
    let bound = sound.bound n in
    let h = ap (λ (s : Span). s.holds) (get_or_push before new no_span n same) in
    let apart = cond-false {A = ℕ} (p == n) 1 0 (ne_eqb p n (λ e. omega (arith, e, within))) in
    omega (arith, children, kept, past, bound, h, apart)

-- a span with one hold more has one of its own
pub clone_own : (x : Spans) (id : ℕ) → IsSound x → IsLive x.made id → HasUnboundHold (record x { made = with_hold x.made id }) id
clone_own x id sound live =
    let within = made_if_held x.made id live in
    let now : Span = record (span_at x.made id) { holds = (span_at x.made id).holds + 1 } in
    let children = keeps_children x.made id now within refl live (omega arith) id in
    let h = holds_set x.made id now within id refl in
    let before = sound.bound id in
    omega (arith, children, h, before)
