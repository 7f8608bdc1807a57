-- Calls that passed their tests are in time, and leave no entry open.
use Rattle.std.proofs.Common.{◌≡◌, ℕ, zero, suc, ◌-◌, ◌<◌, ◌≤◌, List, [], ◌∷◌, length, Bool, true, false, Ok, Err, refl, sym, ap, subst, ◌∙◌, arith, set, length-set, get_or-set_same, get_or-set_other}
use Rattle.std.specs.Prelude.{Result, Option, Some, None, ⊤, ◌==◌, ◌&&◌, ◌||◌, nat_lt, not, slice_index_or, if◌then◌else◌, slice_get}
use Rattle.std.specs.List.{list_all}
use Rattle.std.proofs.lemmas.Bool.{true≢false, eqb-true, eqb-false, ltb-true, ltb-false}
use Rattle.span_script.specs.declared.reply.What.TheVariants as names
use Rattle.span_script.specs.declared.request.TheConstants.{LAST_MOMENT}
use Rattle.span_script.specs.Fields.{all_values}
use Rattle.span_script.specs.Setups.{event_site}
use Rattle.otel_state.specs.declared.op.Op.{Op}
use Rattle.otel_state.specs.declared.times.TheConstants.{GREATEST}
use Rattle.trace_base.specs.declared.callsite.Callsite.{Callsite}
use Rattle.trace_base.specs.declared.field.Value.{Value}
use Rattle.trace_base.specs.declared.field.ValueSet.{ValueSet}
use Rattle.trace_lines.specs.declared.told.Told.{Told}
use Rattle.trace_threads.specs.Moves.{Move, enters, exits, stays, move_of, open_count_after}
use Rattle.span_script.specs.Effects.{is_bad_moment}
use Rattle.thread_script.specs.declared.plan.Plan.{Plan}
use Rattle.thread_script.specs.declared.script.ThreadScript.{ThreadScript}
use Rattle.thread_script.specs.declared.script.WorkerOp.{WorkerOp}
use Rattle.thread_script.specs.declared.script.WorkerCall.{WorkerCall}
use Rattle.thread_script.specs.declared.script.WorkerCall.TheVariants as work
use Rattle.thread_script.specs.Asks.{Ask, is_balanced, balanced_by}
use Rattle.thread_script.specs.Plans.{op_of_call, op_of_record, op_of_admitted_event, shared_callsite, with_ask, asks_on, MomentsInRange}
use Rattle.thread_lines.specs.declared.line.ThreadOp.{ThreadOp}
use Rattle.thread_lines.specs.declared.line.ThreadCall.{ThreadCall}
use Rattle.thread_lines.specs.declared.line.ThreadCall.TheVariants as said
use Rattle.thread_lines.specs.Steps.{◌>>=◌, refuse_unless, unknown_name, need, time_tested, move_of_call, open_count_on, open_counts_after, has_entry_for, shared_tested, entry_tested, call_tested, op_tested, ops_tested}

-- ---- tests that were passed

pub then_ok : {A B : Type 0} (r : Result A Told) (go : A → Result B Told) (b : B) → (r >>= go) ≡ Ok b → (a : A) × (r ≡ Ok a) × (go a ≡ Ok b)
then_ok (Ok a) go b e = (a, refl, e)
then_ok (Err why) go b e = absurd (cc e)

pub held : (why : Told) (b : Bool) (u : ⊤) → refuse_unless why b ≡ Ok u → b ≡ true
held why true u e = refl
held why false u e = absurd (cc e)

pub both : (a b : Bool) → (a && b) ≡ true → (a ≡ true) × (b ≡ true)
both true b e = (refl, e)
both false b e = absurd (cc e)

-- ---- the span of a call is there

there : (s : ThreadScript) (span : ℕ) (u : ⊤) → shared_tested s span ≡ Ok u → span < length s.shared
there s span u e = ltb-true span (length s.shared) (held (unknown_name names.Handle) (nat_lt span (length s.shared)) u e)

call_there : (s : ThreadScript) (entered : List ℕ) (span : ℕ) (call : ThreadCall) (what : WorkerCall) → call_tested s entered span call ≡ Ok what → span < length s.shared
call_there s entered span (said.Record fields) what e = let a = then_ok (shared_tested s span) _ what e in there s span a.0 a.1
call_there s entered span (said.Event site fields) what e =
    let a = then_ok (need names.Site (event_site s.callsites site)) _ what e in
    let b = then_ok (shared_tested s span) _ what a.2 in
    there s span b.0 b.1
call_there s entered span (said.Own op) what e = let a = then_ok (shared_tested s span) _ what e in there s span a.0 a.1

pub op_there : (s : ThreadScript) (before : ℕ) (entered : List ℕ) (o : ThreadOp) (op : WorkerOp) → op_tested s before entered o ≡ Ok op → op.span < length s.shared
op_there s before entered o op e =
    let a = then_ok (time_tested before o.at) _ op e in
    let b = then_ok (call_tested s entered o.span o.call) _ op a.2 in
    let is : record { at = o.at; span = o.span; what = b.0 } ≡ op = cc b.2 in
    subst (λ (x : WorkerOp). x.span < length s.shared) is (call_there s entered o.span o.call b.0 b.1)

-- ---- what a call is asked moves as the call does

-- an op that is asked moves as the call does; where none is asked the call stays
abbrev pub MovesAs : Move → Option Op → Type 0
MovesAs m None = m ≡ stays
MovesAs m (Some op) = move_of op ≡ m

by_site : (plan : Plan) (fields : List (List ℕ × Value)) (c : Option Callsite) → MovesAs stays (op_of_record plan fields c)
by_site plan fields None = refl
by_site plan fields (Some c) = refl

by_gate : (b : Bool) (op : Op) → move_of op ≡ stays → MovesAs stays (if b then Some op else None)
by_gate true op e = e
by_gate false op e = refl

by_event : (plan : Plan) (at : ℕ) (values : ValueSet) (c : Option Callsite) → MovesAs stays (op_of_admitted_event plan at values c)
by_event plan at values None = refl
by_event plan at values (Some c) = by_gate _ _ refl

asked_moves : (plan : Plan) (span at : ℕ) (call : WorkerCall) → MovesAs (move_of_call call) (op_of_call plan span at call)
asked_moves plan span at (work.Record fields) = by_site plan fields (shared_callsite plan span)
asked_moves plan span at (work.Event site values) = by_event plan at values (slice_get plan.callsites site)
asked_moves plan span at (work.Own op) = refl

-- ---- one call

by_move : (n : ℕ) (m : Move) (rest : ℕ → Bool) → has_entry_for n m ≡ true → rest (open_count_after n m) ≡ true → balanced_by n m rest ≡ true
by_move n enters rest has e = e
by_move n exits rest has e = ap (λ b. b && rest (n - 1)) has ∙ e
by_move n stays rest has e = e

by_part : (n at : ℕ) (m : Move) (op : Option Op) (rest : List Ask) → MovesAs m op → has_entry_for n m ≡ true → is_balanced rest (open_count_after n m) ≡ true → is_balanced (with_ask at op rest) n ≡ true
by_part n at m None rest moves has e = subst (λ (x : Move). is_balanced rest (open_count_after n x) ≡ true) moves e
by_part n at m (Some op) rest moves has e =
    subst (λ (x : Move). balanced_by n x (is_balanced rest) ≡ true) (sym moves) (by_move n m (is_balanced rest) has e)

-- ---- one call of a list

-- what is open on a span after a call there, and after one elsewhere
here : (entered : List ℕ) (span k : ℕ) (m : Move) → span ≡ k → k < length entered → slice_index_or (open_counts_after entered span m) k 0 ≡ open_count_after (slice_index_or entered k 0) m
here entered span k m e low =
    ap (λ (x : ℕ). slice_index_or (set entered x (open_count_after (open_count_on entered x) m)) k 0) e
    ∙ get_or-set_same entered k (open_count_after (open_count_on entered k) m) 0 low

elsewhere : (entered : List ℕ) (span k : ℕ) (m : Move) → (k ≡ span → ⊥) → slice_index_or (open_counts_after entered span m) k 0 ≡ slice_index_or entered k 0
elsewhere entered span k m other = get_or-set_other entered span k (open_count_after (open_count_on entered span) m) 0 other

one_more : (plan : Plan) (entered : List ℕ) (k : ℕ) (o : WorkerOp) (rest : List Ask) (b : Bool) → (o.span == k) ≡ b → k < length entered
    → has_entry_for (open_count_on entered o.span) (move_of_call o.what) ≡ true
    → is_balanced rest (slice_index_or (open_counts_after entered o.span (move_of_call o.what)) k 0) ≡ true
    → is_balanced (with_ask o.at (if b then op_of_call plan o.span o.at o.what else None) rest) (slice_index_or entered k 0) ≡ true
one_more plan entered k o rest true is low has e =
    let same : o.span ≡ k = eqb-true o.span k is in
    by_part (slice_index_or entered k 0) o.at (move_of_call o.what) (op_of_call plan o.span o.at o.what) rest (asked_moves plan o.span o.at o.what)
    (subst (λ (x : ℕ). has_entry_for (open_count_on entered x) (move_of_call o.what) ≡ true) same has)
    (subst (λ (n : ℕ). is_balanced rest n ≡ true) (here entered o.span k (move_of_call o.what) same low) e)
one_more plan entered k o rest false is low has e =
    subst (λ (n : ℕ). is_balanced rest n ≡ true) (elsewhere entered o.span k (move_of_call o.what) (λ same. eqb-false o.span k is (sym same))) e

-- ---- what the tests of a call say

call_has : (s : ThreadScript) (entered : List ℕ) (span : ℕ) (call : ThreadCall) (what : WorkerCall) → call_tested s entered span call ≡ Ok what → has_entry_for (open_count_on entered span) (move_of_call what) ≡ true
call_has s entered span (said.Record fields) what e =
    let a = then_ok (shared_tested s span) _ what e in
    let is : work.Record fields ≡ what = cc a.2 in
    subst (λ (w : WorkerCall). has_entry_for (open_count_on entered span) (move_of_call w) ≡ true) is refl
call_has s entered span (said.Event site fields) what e =
    let a = then_ok (need names.Site (event_site s.callsites site)) _ what e in
    let b = then_ok (shared_tested s span) _ what a.2 in
    let c = then_ok (need names.Field (all_values a.0 fields)) _ what b.2 in
    let is : work.Event site c.0 ≡ what = cc c.2 in
    subst (λ (w : WorkerCall). has_entry_for (open_count_on entered span) (move_of_call w) ≡ true) is refl
call_has s entered span (said.Own op) what e =
    let a = then_ok (shared_tested s span) _ what e in
    let b = then_ok (entry_tested (open_count_on entered span) op) _ what a.2 in
    let is : work.Own op ≡ what = cc b.2 in
    subst (λ (w : WorkerCall). has_entry_for (open_count_on entered span) (move_of_call w) ≡ true) is (held (unknown_name names.Guard) (has_entry_for (open_count_on entered span) (move_of op)) b.0 b.1)

not_late : (a b : Bool) → not (a || b) ≡ true → b ≡ false
not_late true b e = absurd (true≢false (sym e))
not_late false true e = absurd (true≢false (sym e))
not_late false false e = refl

pub timely : (before at : ℕ) (u : ⊤) → time_tested before at ≡ Ok u → at ≤ GREATEST
timely before at u e = let h = ltb-false LAST_MOMENT at (not_late (nat_lt at before) (nat_lt LAST_MOMENT at) (held _ (not (is_bad_moment before at)) u e)) in omega (arith, h)

-- A call that passed: it isn't too late, and it exits only what is entered.
pub record Passed (entered : List ℕ) (o : WorkerOp) : Type 0 where
  pub timed : o.at ≤ GREATEST
  pub has : has_entry_for (open_count_on entered o.span) (move_of_call o.what) ≡ true

passed : (s : ThreadScript) (before : ℕ) (entered : List ℕ) (o : ThreadOp) (op : WorkerOp) → op_tested s before entered o ≡ Ok op → Passed entered op
passed s before entered o op e =
    let a = then_ok (time_tested before o.at) _ op e in
    let b = then_ok (call_tested s entered o.span o.call) _ op a.2 in
    let is : record { at = o.at; span = o.span; what = b.0 } ≡ op = cc b.2 in
    subst (λ (x : WorkerOp). Passed entered x) is (record { timed = timely before o.at a.0 a.1; has = call_has s entered o.span o.call b.0 b.1 })

-- ---- all calls

none_open : (entered : List ℕ) (k : ℕ) → list_all (λ n. n == 0) entered ≡ true → k < length entered → (slice_index_or entered k 0 == 0) ≡ true
none_open [] k all low = absurd (omega (arith, low))
none_open (n ∷ entered) zero all low = (both (n == 0) (list_all (λ m. m == 0) entered) all).0
none_open (n ∷ entered) (suc k) all low = none_open entered k (both (n == 0) (list_all (λ m. m == 0) entered) all).1 (omega (arith, low))

-- no call is too late, and on no span of the plan an entry is closed that isn't open, or left open
pub record Balances (plan : Plan) (entered : List ℕ) (ops : List WorkerOp) : Type 0 where
  pub timed : MomentsInRange ops
  pub closed : (k : ℕ) → k < length entered → is_balanced (asks_on plan k 0 ops) (slice_index_or entered k 0) ≡ true

more_balances : (plan : Plan) (entered : List ℕ) (o : WorkerOp) (ops : List WorkerOp) → Passed entered o → Balances plan (open_counts_after entered o.span (move_of_call o.what)) ops → Balances plan entered (o ∷ ops)
more_balances plan entered o ops p b = record {
  timed = (p.timed, b.timed);
  closed = λ k low.
      one_more plan entered k o (asks_on plan k 0 ops) (o.span == k) refl low p.has
      (b.closed k (omega (arith, low, length-set entered o.span (open_count_after (open_count_on entered o.span) (move_of_call o.what)))));
}

pub all_balance : (s : ThreadScript) (plan : Plan) (before : ℕ) (entered : List ℕ) (os : List ThreadOp) (ops : List WorkerOp) → ops_tested s before entered os ≡ Ok ops → Balances plan entered ops
all_balance s plan before entered [] ops e =
    let a = then_ok _ _ ops e in
    let is : [] ≡ ops = cc a.2 in
    subst (λ (x : List WorkerOp). Balances plan entered x) is (record { timed = tt; closed = λ k low. none_open entered k (held _ _ a.0 a.1) low })
all_balance s plan before entered (o ∷ os) ops e =
    let a = then_ok (op_tested s before entered o) _ ops e in
    let b = then_ok (ops_tested s a.0.at (open_counts_after entered a.0.span (move_of_call a.0.what)) os) _ ops a.2 in
    let is : a.0 ∷ b.0 ≡ ops = cc b.2 in
    subst (λ (x : List WorkerOp). Balances plan entered x) is
    (more_balances plan entered a.0 b.0 (passed s before entered o a.0 a.1) (all_balance s plan a.0.at (open_counts_after entered a.0.span (move_of_call a.0.what)) os b.0 b.1))
