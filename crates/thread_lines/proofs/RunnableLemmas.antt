-- A script stays runnable with each line that passes its tests.
use Rattle.std.proofs.Common.{◌≡◌, ℕ, zero, suc, ◌≤◌, List, [], ◌∷◌, ◌++◌, length, true, Ok, refl, sym, ap, subst, arith, replicate}
use Rattle.std.specs.Prelude.{Option, Some, None, is_some, nat_lt, slice_index_or}
use Rattle.std.proofs.lemmas.Bool.{ltb-true}
use Rattle.otel_state.specs.declared.times.TheConstants.{GREATEST}
use Rattle.trace_base.specs.declared.callsite.Callsite.{Callsite}
use Rattle.span_script.specs.declared.reply.What.{What}
use Rattle.span_script.specs.declared.reply.What.TheVariants as what
use Rattle.span_script.specs.Setups.{span_site}
use Rattle.thread_script.specs.declared.plan.Plan.{Plan}
use Rattle.thread_script.specs.declared.script.ThreadScript.{ThreadScript}
use Rattle.thread_script.specs.declared.script.SharedLine.{SharedLine}
use Rattle.thread_script.specs.declared.script.WorkerOp.{WorkerOp}
use Rattle.thread_script.specs.Asks.{is_balanced}
use Rattle.thread_script.specs.Plans.{plan_of, asks_on}
use Rattle.thread_script.specs.Tests.{IsValidWork, AllValidWork}
use Rattle.thread_lines.specs.declared.limits.TheConstants.{MAX_SHARED_SPANS, MAX_WORKERS}
use Rattle.thread_lines.specs.declared.line.ThreadLine.{ThreadLine}
use Rattle.thread_lines.specs.declared.line.ThreadLine.TheVariants as line
use Rattle.thread_lines.specs.declared.line.ThreadOp.{ThreadOp}
use Rattle.thread_lines.specs.Runnable.{AreValidSharedLines, IsRunnable}
use Rattle.thread_lines.specs.Steps.{need, time_tested, lane_tested, last_shared_moment, has_no_workers, with_shared, with_worker, shared_added, ops_tested, worker_added, line_added, text_added}
use Rattle.thread_lines.proofs.BalanceLemmas.{then_ok, held, both, timely, all_balance}

is_named : {A : Type 0} (w : What) (o : Option A) (a : A) → need w o ≡ Ok a → is_some o ≡ true
is_named w (Some x) a e = refl
is_named w None a e = absurd (cc e)

-- ---- a shared span more

shared_push : (cs : List Callsite) (ls : List SharedLine) (l : SharedLine) → AreValidSharedLines cs ls → l.at ≤ GREATEST → is_some (span_site cs l.site) ≡ true → AreValidSharedLines cs (ls ++ l ∷ [])
shared_push cs [] l all low some = ((low, some), tt)
shared_push cs (x ∷ ls) l all low some = (all.0, shared_push cs ls l all.1 low some)

no_one_tested : (plan : Plan) (workers : List (List WorkerOp)) → has_no_workers workers ≡ true → AllValidWork plan workers
no_one_tested plan [] e = tt
no_one_tested plan (ops ∷ workers) e = absurd (cc e)

pushed : {A : Type 0} (xs : List A) (x : A) → length (xs ++ x ∷ []) ≡ suc (length xs)
pushed [] x = refl
pushed (y ∷ xs) x = ap suc (pushed xs x)

with_shared_runs : (s : ThreadScript) (l : SharedLine) (t : ThreadScript) → shared_added s l ≡ Ok t → IsRunnable s → IsRunnable t
with_shared_runs s l t e r =
    let a = then_ok _ _ t e in
    let b = then_ok (time_tested (last_shared_moment s.shared) l.at) _ t a.2 in
    let c = then_ok (lane_tested s 0) _ t b.2 in
    let d = then_ok (need what.Site (span_site s.callsites l.site)) _ t c.2 in
    let room = both (has_no_workers s.workers) (nat_lt (length s.shared) MAX_SHARED_SPANS) (held _ _ a.0 a.1) in
    let few = ltb-true (length s.shared) MAX_SHARED_SPANS room.1 in
    let lanes = ltb-true 0 (length s.lanes) (held _ (nat_lt 0 (length s.lanes)) c.0 c.1) in
    let runs : IsRunnable (with_shared s l) = record {
      filter = r.filter;
      shared = shared_push s.callsites s.shared l r.shared (timely (last_shared_moment s.shared) l.at b.0 b.1) (is_named what.Site (span_site s.callsites l.site) d.0 d.1);
      lane = λ some. omega (arith, lanes);
      tested = no_one_tested (plan_of (with_shared s l)) s.workers room.0;
      few_spans = omega (arith, few, pushed s.shared l);
      few_workers = r.few_workers;
    } in
    let is : with_shared s l ≡ t = cc d.2 in
    subst IsRunnable is runs

-- ---- a worker more

tested_push : (plan : Plan) (workers : List (List WorkerOp)) (ops : List WorkerOp) → AllValidWork plan workers → IsValidWork plan ops → AllValidWork plan (workers ++ ops ∷ [])
tested_push plan [] ops all one = (one, tt)
tested_push plan (x ∷ workers) ops all one = (all.0, tested_push plan workers ops all.1 one)

zeros : (n k : ℕ) → ◌≡◌ {A = ℕ} (slice_index_or (replicate n 0) k 0) 0
zeros zero k = refl
zeros (suc n) zero = refl
zeros (suc n) (suc k) = zeros n k

so_many : (n : ℕ) → length {A = ℕ} (replicate n 0) ≡ n
so_many zero = refl
so_many (suc n) = ap suc (so_many n)

with_worker_runs : (s : ThreadScript) (os : List ThreadOp) (t : ThreadScript) → worker_added s os ≡ Ok t → IsRunnable s → IsRunnable t
with_worker_runs s os t e r =
    let a = then_ok _ _ t e in
    let b = then_ok (lane_tested s (length s.workers)) _ t a.2 in
    let c = then_ok (ops_tested s (last_shared_moment s.shared) (replicate (length s.shared) 0) os) _ t b.2 in
    let few = ltb-true (length s.workers) MAX_WORKERS (held _ (nat_lt (length s.workers) MAX_WORKERS) a.0 a.1) in
    let balances = all_balance s (plan_of s) (last_shared_moment s.shared) (replicate (length s.shared) 0) os c.0 c.1 in
    let one : IsValidWork (plan_of s) c.0 = record {
      timed = balances.timed;
      closed = λ k low.
          subst (λ (n : ℕ). is_balanced (asks_on (plan_of s) k 0 c.0) n ≡ true) (zeros (length s.shared) k)
          (balances.closed k (omega (arith, low, so_many (length s.shared))));
    } in
    let runs : IsRunnable (with_worker s c.0) = record {
      filter = r.filter;
      shared = r.shared;
      lane = r.lane;
      tested = tested_push (plan_of s) s.workers c.0 r.tested one;
      few_spans = r.few_spans;
      few_workers = omega (arith, few, pushed s.workers c.0);
    } in
    let is : with_worker s c.0 ≡ t = cc c.2 in
    subst IsRunnable is runs

-- ---- a line more

pub line_runs : (s : ThreadScript) (l : ThreadLine) (t : ThreadScript) → line_added s l ≡ Ok t → IsRunnable s → IsRunnable t
line_runs s (line.Shared at site) t e r = with_shared_runs s (record { at = at; site = site }) t e r
line_runs s (line.Worker ops) t e r = with_worker_runs s ops t e r

pub text_runs : (s : ThreadScript) (text : List ℕ) (t : ThreadScript) → text_added s text ≡ Ok t → IsRunnable s → IsRunnable t
text_runs s text t e r = let a = then_ok _ (line_added s) t e in line_runs s a.0 t a.2 r

-- ---- the last shared span

pub last_is : (ls : List SharedLine) (k : ℕ) (l : SharedLine) → length ls ≡ suc k → l ≡ slice_index_or ls k l → last_shared_moment ls ≡ l.at
last_is [] k l n e = absurd (omega (arith, n))
last_is (x ∷ []) zero l n e = ap (λ (y : SharedLine). y.at) (sym e)
last_is (x ∷ []) (suc k) l n e = absurd (omega (arith, n))
last_is (x ∷ y ∷ ls) zero l n e = absurd (omega (arith, n))
last_is (x ∷ y ∷ ls) (suc k) l n e = last_is (y ∷ ls) k l (omega (arith, n)) e
