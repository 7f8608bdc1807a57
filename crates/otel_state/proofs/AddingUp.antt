-- Busy and idle add up to the time from the making to the end.
use Rattle.std.proofs.Common.{◌≡◌, ℕ, ◌+◌, ◌-◌, ◌<◌, ◌≤◌, List, [], ◌∷◌, ◌++◌, Bool, true, false, Option, Some, None, refl, sym, ap, subst, ◌∙◌, arith, append_assoc, zero, suc}
use Rattle.std.specs.Prelude.{if◌then◌else◌, ◌==◌, ◌||◌, min, fold, filter_map, unwrap_or, is_some, IsTrue}
use Rattle.std.specs.List.{cons_option}
use Rattle.std.proofs.lemmas.Bool.{eqb-true}
use Rattle.otel_state.specs.declared.times.TheConstants.{GREATEST}
use Rattle.otel_state.specs.Deeds.{Deed, TimedOp, deed}
use Rattle.otel_state.specs.Times.{open_after, open_after_ops, busy_between, busy_of, exit_moment, last_exit, idle_of, MomentsRise}
use Rattle.otel_state.specs.Content.{Making, attributes_of, counted_of, closing_count_attributes, content}
use Rattle.otel_state.specs.States.{SpanData, data_at_making, moment_after, after_stamped}
use Rattle.otel_state.specs.Laws.{TellsTimes, was_entered}
use Rattle.otel_state.proofs.SumLemmas.{folded, constant, busy_all, left_all, first_within}

-- how far busy time may reach: to the last moment where an entry is open, else to the last exit or the making
record Bounded (busy entries made_at last : ℕ) (left : Option ℕ) : Type 0 where
  pub is_moment : last ≤ GREATEST
  pub while_open : 0 < entries → busy + made_at ≤ last
  pub while_shut : entries ≡ 0 → busy + made_at ≤ unwrap_or left made_at
  pub within : unwrap_or left made_at ≤ last

gap_shut : (entries last at : ℕ) → entries ≡ 0 → busy_between entries last at ≡ 0
gap_shut entries last at is = ap (λ n. busy_between n last at) is

gap_open : (entries last at : ℕ) → 0 < entries → busy_between entries last at ≡ at - last
gap_open entries last at more = by_test (entries == 0) refl
  where
    by_test : (shut : Bool) → (entries == 0) ≡ shut → (if shut then 0 else at - last) ≡ at - last
    by_test true is = let none = eqb-true entries 0 is in absurd (omega (arith, none, more))
    by_test false is = refl

grown : (busy entries made_at last at : ℕ) (left : Option ℕ) → last ≤ at → Bounded busy entries made_at last left → busy + busy_between entries last at + made_at ≤ at
grown busy zero made_at last at left later bounded = let shut = bounded.while_shut refl in let within = bounded.within in omega (arith, shut, within, later)
grown busy (suc n) made_at last at left later bounded = let more = bounded.while_open (omega arith) in let is = gap_open (suc n) last at (omega arith) in omega (arith, more, is, later)

one_bounded : (busy entries made_at last at : ℕ) (left : Option ℕ) (d : Deed) → last ≤ at → at ≤ GREATEST → Bounded busy entries made_at last left → (exits enters : Bool)
    → Bounded (busy + busy_between entries last at) (if exits then entries - 1 else if enters then min (entries + 1) GREATEST else entries) made_at at (if exits then Some at else left)
one_bounded busy entries made_at last at left d later most bounded true enters =
    let reach = grown busy entries made_at last at left later bounded in
    record { is_moment = most; while_open = λ more. reach; while_shut = λ is. reach; within = omega (arith, later) }
one_bounded busy entries made_at last at left d later most bounded false true =
    let reach = grown busy entries made_at last at left later bounded in let within = bounded.within in
    record { is_moment = most; while_open = λ more. reach; while_shut = λ is. absurd (omega (arith, is)); within = omega (arith, within, later) }
one_bounded busy entries made_at last at left d later most bounded false false =
    let reach = grown busy entries made_at last at left later bounded in let within = bounded.within in
    record {
      is_moment = most;
      while_open = λ more. reach;
      while_shut = λ is. let none = gap_shut entries last at is in let shut = bounded.while_shut is in omega (arith, none, shut);
      within = omega (arith, within, later);
    }

later_moment : (last at : ℕ) → last ≤ GREATEST → (last ≤ moment_after last at) × (moment_after last at ≤ GREATEST)
later_moment last at most = (omega (arith, most), omega arith)

all_bounded : (span_data : SpanData) (ops : List TimedOp) → Bounded span_data.busy span_data.entries span_data.made_at span_data.last span_data.left_at
    → Bounded (fold after_stamped span_data ops).busy (fold after_stamped span_data ops).entries (fold after_stamped span_data ops).made_at (fold after_stamped span_data ops).last (fold after_stamped span_data ops).left_at
all_bounded span_data [] bounded = bounded
all_bounded span_data (op ∷ ops) bounded =
    let later = later_moment span_data.last op.at bounded.is_moment in
    all_bounded (after_stamped span_data op) ops (one_bounded span_data.busy span_data.entries span_data.made_at span_data.last (moment_after span_data.last op.at) span_data.left_at (deed op.op) later.0 later.1 bounded (deed op.op).exits (deed op.op).enters)

-- ---- a span that was entered and has no open entry was left

never_none : (at : ℕ) (moments : List ℕ) → fold (λ _ n. Some n) (Some at) moments ≡ None → ⊥
never_none at [] is = cc
never_none at (n ∷ moments) is = never_none n moments is

stays_open : (entries : ℕ) (ops : List TimedOp) (left : Option ℕ) → 0 < entries → fold (λ _ at. Some at) left (filter_map exit_moment ops) ≡ None → 0 < fold (λ n op. open_after n (deed op.op)) entries ops
stays_open entries [] left more is = more
stays_open entries (op ∷ ops) left more is = by_op (λ n less here. stays_open n ops left less here) (deed op.op).exits (deed op.op).enters is
  where
    by_op : ((n : ℕ) → 0 < n → fold (λ _ at. Some at) left (filter_map exit_moment ops) ≡ None → 0 < fold (λ n op. open_after n (deed op.op)) n ops) → (exits enters : Bool)
        → fold (λ _ at. Some at) left (cons_option (if exits then Some op.at else None) (filter_map exit_moment ops)) ≡ None
        → 0 < fold (λ n op. open_after n (deed op.op)) (if exits then entries - 1 else if enters then min (entries + 1) GREATEST else entries) ops
    by_op more_ops true enters none = absurd (never_none op.at (filter_map exit_moment ops) none)
    by_op more_ops false true none = more_ops (min (entries + 1) GREATEST) (omega arith) none
    by_op more_ops false false none = more_ops entries more none

left_if_entered : (entries : ℕ) (ops : List TimedOp) (left : Option ℕ) → open_after_ops entries ops ≡ 0 → was_entered ops ≡ true → fold (λ _ at. Some at) left (filter_map exit_moment ops) ≡ None → ⊥
left_if_entered entries [] left shut entered none = cc
left_if_entered entries (op ∷ ops) left shut entered none = by_op (λ n. left_if_entered n ops left) (deed op.op).exits (deed op.op).enters shut entered none
  where
    by_op : ((n : ℕ) → open_after_ops n ops ≡ 0 → was_entered ops ≡ true → fold (λ _ at. Some at) left (filter_map exit_moment ops) ≡ None → ⊥) → (exits enters : Bool)
        → open_after_ops (if exits then entries - 1 else if enters then min (entries + 1) GREATEST else entries) ops ≡ 0 → (enters || was_entered ops) ≡ true
        → fold (λ _ at. Some at) left (cons_option (if exits then Some op.at else None) (filter_map exit_moment ops)) ≡ None → ⊥
    by_op more_ops true enters shut entered none = never_none op.at (filter_map exit_moment ops) none
    by_op more_ops false true shut entered none = let more = stays_open (min (entries + 1) GREATEST) ops left (omega arith) none in absurd (omega (arith, more, shut))
    by_op more_ops false false shut entered none = more_ops entries shut entered none

-- ---- the law

some_unless : (left : Option ℕ) → (left ≡ None → ⊥) → is_some left ≡ true
some_unless None never = absurd (never refl)
some_unless (Some end) never = refl

sum_is : (made_at busy closed : ℕ) (left : Option ℕ) → is_some left ≡ true → busy + made_at ≤ unwrap_or left made_at → made_at + busy + idle_of left made_at busy ≡ unwrap_or left closed
sum_is made_at busy closed None has reach = cc
sum_is made_at busy closed (Some end) has reach = omega (arith, reach)

no_idle : (made_at busy : ℕ) (left : Option ℕ) → left ≡ None → idle_of left made_at busy ≡ 0
no_idle made_at busy left is = ap (λ l. idle_of l made_at busy) is

no_busy : (made_at busy : ℕ) (left : Option ℕ) → left ≡ None → busy + made_at ≤ unwrap_or left made_at → busy ≡ 0
no_busy made_at busy left is reach = let none = ap (λ l. unwrap_or l made_at) is in omega (arith, none, reach)

reached : (making : Making) (ops : List TimedOp) → MomentsRise making.made_at ops → open_after_ops 0 ops ≡ 0 → busy_of making.made_at ops + making.made_at ≤ unwrap_or (last_exit ops) making.made_at
reached making ops order shut =
    let start = data_at_making making in
    let made_at = first_within making.made_at ops order in
    let within : min making.made_at GREATEST ≡ making.made_at = omega (arith, made_at) in
    let in_order = subst (λ n. MomentsRise n ops) (sym within) order in
    let bounded = all_bounded start ops (record { is_moment = omega arith; while_open = λ more. absurd (omega (arith, more)); while_shut = λ is. omega arith; within = omega (arith, within) }) in
    let entries = folded (λ t. t.entries) (λ n op. open_after n (deed op.op)) (λ t op. refl) start ops ∙ shut in
    let reach = bounded.while_shut entries in
    let busy = busy_all start ops in_order ∙ ap (λ n. 0 + busy_of n ops) within in
    let left = ap (λ l. unwrap_or l making.made_at) (left_all start ops in_order) in
    let kept = constant (λ t. t.made_at) (λ t op. refl) start ops in
    let left_made = ap (λ n. unwrap_or (fold after_stamped start ops).left_at n) kept in
    omega (arith, reach, busy, left, kept, left_made)

pub tells_times : (making : Making) (ops : List TimedOp) (closed : ℕ) → IsTrue making.inactivity → MomentsRise making.made_at ops → open_after_ops 0 ops ≡ 0
    → TellsTimes (was_entered ops) (last_exit ops) (content making ops closed)
tells_times making ops closed tracked order shut =
    let reach = reached making ops order shut in
    let busy = busy_of making.made_at ops in
    let counted = closing_count_attributes making.counting (counted_of ops) in
    record {
      others = making.first ++ attributes_of ops ++ counted;
      busy = busy;
      idle = idle_of (last_exit ops) making.made_at busy;
      last = simp (tracked, append_assoc) refl;
      was_left = λ entered. some_unless (last_exit ops) (λ none. left_if_entered 0 ops None shut entered none);
      add_up = λ has. sum_is making.made_at busy closed (last_exit ops) has reach;
      are_zero = λ none. (no_busy making.made_at busy (last_exit ops) none reach, no_idle making.made_at busy (last_exit ops) none);
    }
