-- The layer stays in step with the subscriber at each call.
use Rattle.std.proofs.Common.{◌≡◌, ℕ, ◌+◌, ◌<◌, ◌≤◌, List, [], ◌∷◌, ◌++◌, length, true, Option, refl, sym, ap, ◌∙◌, arith, inl, inr}
use Rattle.std.specs.Prelude.{if◌then◌else◌, ◌==◌, ◌&&◌}
use Rattle.std.proofs.lemmas.Bool.{eqb-true, eq-eqb, ne_eqb, cases_eq, cases_Bool, cond-true, cond-false, true≢false, and_from, and_left, and_right}
use Rattle.std.proofs.lemmas.List.{length-set, length_push}
use Rattle.trace_base.specs.declared.lane.Lane.{Lane}
use Rattle.trace_base.specs.declared.span.Parent.{Parent}
use Rattle.trace_base.specs.declared.callsite.Callsite.{Callsite}
use Rattle.trace_base.specs.declared.field.ValueSet.{ValueSet}
use Rattle.trace_base.specs.Spans.{Span, Entries, Spans, span_at, entries_on, is_in, times_in, without_last, with_hold, span_without_hold, without_hold, with_hold_of_child}
use Rattle.trace_base.specs.Calls.{with_new_span, with_span_entry, with_span_exit}
use Rattle.trace_base.specs.Conditions.{IsLive, MayExit, HasUnboundHold}
use Rattle.trace_base.specs.layers.Hooks.{Hook, OnNewSpan, OnRecord, OnFollows, OnEvent, OnEnter, OnExit, OnClose, KnownSpans, Sees, makes, closes, one_if_entered, one_if_exited, one_if}
use Rattle.trace_base.proofs.EntryLemmas.{count_push, count_without_last, any_if_counted, with_same, with_other, made_if_held, length_held, no_entries}
use Rattle.span_registry.specs.Both.{InStep, KnowsNone}

-- what a call makes of the spans is what its hook tells
pub record Tracks (old : Spans) (hook : Hook) (new : Spans) : Type 0 where
  pub longer : length old.made ≤ length new.made
  pub times : (lane id : ℕ) → times_in id (entries_on lane new.lanes) + one_if_exited hook lane id ≡ times_in id (entries_on lane old.lanes) + one_if_entered hook lane id
  pub fresh : (id : ℕ) → makes hook id ≡ true → (id < length new.made) × ((lane : ℕ) → times_in id (entries_on lane new.lanes) ≡ 0)
  pub gone : (id : ℕ) → closes hook id ≡ true → (lane : ℕ) → times_in id (entries_on lane new.lanes) ≡ 0
  pub below : (lane id : ℕ) → length new.made ≤ id → times_in id (entries_on lane new.lanes) ≡ 0

in_step_entries : (old new : Spans) (hook : Hook) (seen now : KnownSpans) → InStep old seen → Tracks old hook new → Sees seen hook now → (lane id : ℕ) → now.entries lane id ≡ (if now.knows id then times_in id (entries_on lane new.lanes) else 0)
in_step_entries old new hook seen now step tracks sees lane id =
    let before = step.entries lane id in
    let t = times_in id (entries_on lane old.lanes) in
    let t' = times_in id (entries_on lane new.lanes) in
    elim (cases_Bool (now.knows id)) [
      | inl knows ↦ elim (cases_Bool (seen.knows id)) [
        | inl knew ↦ (
            let was = before ∙ cond-true {A = ℕ} (seen.knows id) t 0 knew in
            let e : now.entries lane id ≡ t' = omega (arith, sees.known lane id knew, tracks.times lane id, was) in
            e ∙ sym (cond-true {A = ℕ} (now.knows id) t' 0 knows))
        | inr new_one ↦ (
            let was = before ∙ cond-false {A = ℕ} (seen.knows id) t 0 new_one in
            let none = (tracks.fresh id (sees.gains id knows new_one)).1 lane in
            let e : now.entries lane id ≡ t' = sees.unknown lane id new_one ∙ was ∙ sym none in
            e ∙ sym (cond-true {A = ℕ} (now.knows id) t' 0 knows))
      ]
      | inr not ↦ elim (cases_Bool (seen.knows id)) [
        | inl knew ↦ (
            let was = before ∙ cond-true {A = ℕ} (seen.knows id) t 0 knew in
            let none = tracks.gone id (sees.loses id knew not) lane in
            let e : now.entries lane id ≡ 0 = omega (arith, sees.known lane id knew, tracks.times lane id, was, none) in
            e ∙ sym (cond-false {A = ℕ} (now.knows id) t' 0 not))
        | inr never ↦ (
            let was = before ∙ cond-false {A = ℕ} (seen.knows id) t 0 never in
            (sees.unknown lane id never ∙ was) ∙ sym (cond-false {A = ℕ} (now.knows id) t' 0 not))
      ]
    ]

pub in_step : (old new : Spans) (hook : Hook) (seen now : KnownSpans) → InStep old seen → Tracks old hook new → Sees seen hook now → InStep new now
in_step old new hook seen now step tracks sees = record {
  made = λ id knows. elim (cases_Bool (seen.knows id)) [
    | inl knew ↦ (let h = step.made id knew in omega (arith, h, tracks.longer))
    | inr new_one ↦ (tracks.fresh id (sees.gains id knows new_one)).0
  ];
  entries = in_step_entries old new hook seen now step tracks sees;
  below = tracks.below;
}

-- nothing of the entries changes
pub tracks_quiet : (old new : Spans) (seen : KnownSpans) → InStep old seen → length new.made ≡ length old.made → new.lanes ≡ old.lanes → Tracks old (OnFollows 0 0 0) new
tracks_quiet old new seen step as_many same = record {
  longer = omega (arith, as_many);
  times = λ lane id. ap (λ (es : List Entries). times_in id (entries_on lane es) + 0) same;
  fresh = λ id makes. absurd (true≢false (sym makes));
  gone = λ id closes. absurd (true≢false (sym closes));
  below = λ lane id past. ap (λ (es : List Entries). times_in id (entries_on lane es)) same ∙ step.below lane id (omega (arith, past, as_many));
}

pub sees_quiet : (seen : KnownSpans) → Sees seen (OnFollows 0 0 0) seen
sees_quiet seen = record {
  gains = λ id knows not. absurd (true≢false (sym knows ∙ not));
  loses = λ id knew not. absurd (true≢false (sym knew ∙ not));
  known = λ lane id knew. refl;
  unknown = λ lane id not. refl;
}

-- the same for the other quiet hooks
pub tracks_record : (old : Spans) (seen : KnownSpans) → InStep old seen → (id at : ℕ) (callsite : Callsite) (values : ValueSet) → Tracks old (OnRecord id at callsite values) old
tracks_record old seen step id at callsite values = record {
  longer = omega arith;
  times = λ lane other. refl;
  fresh = λ other makes. absurd (true≢false (sym makes));
  gone = λ other closes. absurd (true≢false (sym closes));
  below = step.below;
}

pub tracks_follows : (old : Spans) (seen : KnownSpans) → InStep old seen → (id from at : ℕ) → Tracks old (OnFollows id from at) old
tracks_follows old seen step id from at = record {
  longer = omega arith;
  times = λ lane other. refl;
  fresh = λ other makes. absurd (true≢false (sym makes));
  gone = λ other closes. absurd (true≢false (sym closes));
  below = step.below;
}

pub tracks_event : (old : Spans) (seen : KnownSpans) → InStep old seen → (reached : Option ℕ) (l : Lane) (at : ℕ) (callsite : Callsite) (values : ValueSet) → Tracks old (OnEvent reached l at callsite values) old
tracks_event old seen step reached l at callsite values = record {
  longer = omega arith;
  times = λ lane other. refl;
  fresh = λ other makes. absurd (true≢false (sym makes));
  gone = λ other closes. absurd (true≢false (sym closes));
  below = step.below;
}

pub tracks_new : (old : Spans) (seen : KnownSpans) → InStep old seen → (l : Lane) (at : ℕ) (parent : Parent) (current : Option ℕ) (callsite : Callsite) (values : ValueSet) (above : Option ℕ) (site : ℕ)
    → Tracks old (OnNewSpan (length old.made) l at parent current callsite values) (with_new_span old above site)
tracks_new old seen step l at parent current callsite values above site =
    let held_length = length_held old.made above in
    let count = length_push (with_hold_of_child old.made above) (record { holds = 1; parent = above; site = site }) in
    record {
      longer = omega (arith, held_length, count);
      times = λ lane other. refl;
      fresh = λ id makes. (
          let is = eqb-true (length old.made) id makes in
          ((omega (arith, is, held_length, count)), λ lane. step.below lane id (omega (arith, is))));
      gone = λ id closes. absurd (true≢false (sym closes));
      below = λ lane id past. step.below lane id (omega (arith, past, held_length, count));
    }

pub tracks_enter : (old : Spans) (seen : KnownSpans) → InStep old seen → (id at : ℕ) (before later : Lane) (lane : ℕ) → before.id ≡ lane → IsLive old.made id → Tracks old (OnEnter id at before later) (with_span_entry old id lane)
tracks_enter old seen step id at before later lane here live =
    let made_there = made_if_held old.made id live in
    let es = entries_on lane old.lanes in
    let as_many : length (with_span_entry old id lane).made ≡ length old.made = elim (cases_Bool (is_in id es)) [
      | inl again ↦ ap (λ (xs : List Span). length xs) (cond-true {A = List Span} (is_in id es) old.made (with_hold old.made id) again)
      | inr first ↦ ap (λ (xs : List Span). length xs) (cond-false {A = List Span} (is_in id es) old.made (with_hold old.made id) first) ∙ length-set old.made id _
    ] in
    let counts : (l other : ℕ) → times_in other (entries_on l (with_span_entry old id lane).lanes) ≡ times_in other (entries_on l old.lanes) + one_if (before.id == l && id == other) = λ l other.
    elim (cases_eq lane l) [
      | inl on ↦ (
          let at_l = ap (λ (m : ℕ). times_in other (entries_on m (with_span_entry old id lane).lanes)) (sym on) in
          let there = ap (times_in other) (with_same lane (es ++ id ∷ []) old.lanes) in
          let push = count_push (λ x. x == other) es id in
          let old_l = ap (λ (m : ℕ). times_in other (entries_on m old.lanes)) on in
          let lane_is = eq-eqb before.id l (here ∙ on) in
          elim (cases_Bool (id == other)) [
            | inl same ↦ (
                let a = cond-true {A = ℕ} (id == other) 1 0 same in
                let b = cond-true {A = ℕ} (before.id == l && id == other) 1 0 (and_from (before.id == l) (id == other) lane_is same) in
                omega (arith, at_l, there, push, old_l, a, b))
            | inr apart ↦ (
                let a = cond-false {A = ℕ} (id == other) 1 0 apart in
                let b = cond-false {A = ℕ} (before.id == l && id == other) 1 0 (and_right (before.id == l) (id == other) apart) in
                omega (arith, at_l, there, push, old_l, a, b))
          ])
      | inr off ↦ (
          let b = cond-false {A = ℕ} (before.id == l && id == other) 1 0 (and_left (before.id == l) (id == other) (ne_eqb before.id l (λ e. off (sym here ∙ e)))) in
          let there = ap (times_in other) (with_other lane l (es ++ id ∷ []) old.lanes off) in
          omega (arith, there, b))
    ] in
    record {
      longer = omega (arith, as_many);
      times = λ l other. (let c = counts l other in omega (arith, c));
      fresh = λ other makes. absurd (true≢false (sym makes));
      gone = λ other closes. absurd (true≢false (sym closes));
      below = λ l other past. (
          let c = counts l other in
          let none = step.below l other (omega (arith, past, as_many)) in
          let b = cond-false {A = ℕ} (before.id == l && id == other) 1 0 (and_right (before.id == l) (id == other) (ne_eqb id other (λ e. omega (arith, e, made_there, past, as_many)))) in
          omega (arith, c, none, b));
    }

pub tracks_exit : (old : Spans) (seen : KnownSpans) → InStep old seen → (id at : ℕ) (before later : Lane) (lane : ℕ) → before.id ≡ lane → MayExit old id lane → Tracks old (OnExit id at before later) (with_span_exit old id lane)
tracks_exit old seen step id at before later lane here may =
    let es = entries_on lane old.lanes in
    let last = times_in id es == 1 in
    let as_many : length (with_span_exit old id lane).made ≡ length old.made = elim (cases_Bool last) [
      | inl goes_too ↦ ap (λ (xs : List Span). length xs) (cond-true {A = List Span} last (without_hold old.made id) old.made goes_too) ∙ length-set old.made id _
      | inr stays ↦ ap (λ (xs : List Span). length xs) (cond-false {A = List Span} last (without_hold old.made id) old.made stays)
    ] in
    let counts : (l other : ℕ) → times_in other (entries_on l (with_span_exit old id lane).lanes) + one_if (before.id == l && id == other) ≡ times_in other (entries_on l old.lanes) = λ l other.
    elim (cases_eq lane l) [
      | inl on ↦ (
          let at_l = ap (λ (m : ℕ). times_in other (entries_on m (with_span_exit old id lane).lanes)) (sym on) in
          let there = ap (times_in other) (with_same lane (without_last (λ x. x == id) es) old.lanes) in
          let less = count_without_last (λ x. x == id) (λ x. x == other) (id == other) es (λ x is. ap (λ (y : ℕ). y == other) (eqb-true x id is)) (any_if_counted (λ x. x == id) es may.0) in
          let old_l = ap (λ (m : ℕ). times_in other (entries_on m old.lanes)) on in
          let lane_is = eq-eqb before.id l (here ∙ on) in
          elim (cases_Bool (id == other)) [
            | inl same ↦ (
                let a = cond-true {A = ℕ} (id == other) 1 0 same in
                let b = cond-true {A = ℕ} (before.id == l && id == other) 1 0 (and_from (before.id == l) (id == other) lane_is same) in
                omega (arith, at_l, there, less, old_l, a, b))
            | inr apart ↦ (
                let a = cond-false {A = ℕ} (id == other) 1 0 apart in
                let b = cond-false {A = ℕ} (before.id == l && id == other) 1 0 (and_right (before.id == l) (id == other) apart) in
                omega (arith, at_l, there, less, old_l, a, b))
          ])
      | inr off ↦ (
          let b = cond-false {A = ℕ} (before.id == l && id == other) 1 0 (and_left (before.id == l) (id == other) (ne_eqb before.id l (λ e. off (sym here ∙ e)))) in
          let there = ap (times_in other) (with_other lane l (without_last (λ x. x == id) es) old.lanes off) in
          omega (arith, there, b))
    ] in
    record {
      longer = omega (arith, as_many);
      times = λ l other. (let c = counts l other in omega (arith, c));
      fresh = λ other makes. absurd (true≢false (sym makes));
      gone = λ other closes. absurd (true≢false (sym closes));
      below = λ l other past. (
          let c = counts l other in
          let none = step.below l other (omega (arith, past, as_many)) in
          omega (arith, c, none));
    }

-- a span that closes has no entries
pub closes_without_entries : (old : Spans) (id lane : ℕ) → HasUnboundHold old id → (span_at old.made id).holds ≡ 1 → times_in id (entries_on lane old.lanes) ≡ 0
closes_without_entries old id lane own one = no_entries old.lanes id lane (omega (arith, own, one))

pub tracks_close : (old : Spans) (seen : KnownSpans) → InStep old seen → (id at : ℕ) → HasUnboundHold old id → (span_at old.made id).holds ≡ 1 → Tracks old (OnClose id at) (record old { made = without_hold old.made id })
tracks_close old seen step id at own one =
    let as_many = length-set old.made id (span_without_hold (span_at old.made id)) in
    record {
      longer = omega (arith, as_many);
      times = λ lane other. refl;
      fresh = λ other makes. absurd (true≢false (sym makes));
      gone = λ other closes lane. ap (λ (x : ℕ). times_in x (entries_on lane old.lanes)) (sym (eqb-true id other closes)) ∙ closes_without_entries old id lane own one;
      below = λ lane other past. step.below lane other (omega (arith, past, as_many));
    }

-- at a close the layer has no entry of the span
pub left_at_close : (spans : Spans) (seen : KnownSpans) → InStep spans seen → (id : ℕ) → HasUnboundHold spans id → (span_at spans.made id).holds ≡ 1 → (lane : ℕ) → seen.entries lane id ≡ 0
left_at_close spans seen step id own one lane =
    let none = closes_without_entries spans id lane own one in
    let t = times_in id (entries_on lane spans.lanes) in
    elim (cases_Bool (seen.knows id)) [
      | inl known ↦ step.entries lane id ∙ cond-true {A = ℕ} (seen.knows id) t 0 known ∙ none
      | inr unknown ↦ step.entries lane id ∙ cond-false {A = ℕ} (seen.knows id) t 0 unknown
    ]

-- a layer that knows nothing is in step with a subscriber that has entries of spans that were made alone
pub in_step_start : (spans : Spans) (seen : KnownSpans) → KnowsNone seen → ((lane id : ℕ) → length spans.made ≤ id → times_in id (entries_on lane spans.lanes) ≡ 0) → InStep spans seen
in_step_start spans seen fresh below = record {
  made = λ id knows. absurd (true≢false (sym knows ∙ fresh.none id));
  entries = λ lane id. fresh.no_entries lane id ∙ sym (cond-false {A = ℕ} (seen.knows id) (times_in id (entries_on lane spans.lanes)) 0 (fresh.none id));
  below = below;
}
