-- Workers before they have handles.
use Rattle.std.proofs.Common.{◌≡◌, ℕ, zero, suc, List, [], ◌∷◌, ◌++◌, length, refl, ap, sym, ◌∙◌, subst, arith, append_assoc, slice_index_or}
use Rattle.trace_threads.specs.Handles.{SharedHandle}
use Rattle.otel_state.specs.declared.op.Op.{Op}
use Rattle.std.specs.Prelude.{Option, Some, None}
use Rattle.thread_script.specs.declared.plan.Plan.{Plan}
use Rattle.thread_script.specs.declared.script.WorkerOp.{WorkerOp}
use Rattle.thread_script.specs.Asks.{Ask, is_balanced, balanced_by}
use Rattle.thread_handles.specs.declared.job.Job.{Job}
use Rattle.trace_threads.specs.Moves.{Move, enters, exits, stays, move_of}
use Rattle.std.specs.Prelude.{Bool, ◌+◌, ◌-◌, ◌&&◌, nat_lt}
use Rattle.thread_script.specs.Plans.{with_ask, op_on_span, asks_on, release_moment, moment_or, last_moment}
use Rattle.thread_script.specs.Tests.{IsValidWork, AllValidWork, AllAtOpening}
use Rattle.thread_work.specs.Jobs.{lists_of, gates_of}
use Rattle.thread_work.specs.Spans.{IsPreparedFor, ArePreparedFor}
use Rattle.thread_work.specs.Preparing.{IsUnstarted, AllUnstarted}

-- ---- one worker more

pub lists_push : {G : Type 0} (jobs : List (Job G)) (job : Job G) → lists_of (jobs ++ job ∷ []) ≡ lists_of jobs ++ job.ops.items ∷ []
lists_push [] job = refl
lists_push (x ∷ jobs) job = ap (λ l. x.ops.items ∷ l) (lists_push jobs job)

pub gates_push : {G : Type 0} (jobs : List (Job G)) (job : Job G) → gates_of (jobs ++ job ∷ []) ≡ gates_of jobs ++ job.gate ∷ []
gates_push [] job = refl
gates_push (x ∷ jobs) job = ap (λ l. x.gate ∷ l) (gates_push jobs job)

-- the lists and the gates that are left
pub lists_more : {G : Type 0} (jobs news : List (Job G)) (job : Job G) (ops : List WorkerOp) (rest next all : List (List WorkerOp)) → news ≡ jobs ++ job ∷ [] → job.ops.items ≡ ops → rest ≡ ops ∷ next → lists_of jobs ++ rest ≡ all → lists_of news ++ next ≡ all
lists_more jobs news job ops rest next all pushed is step e =
    ap (λ l. lists_of l ++ next) pushed ∙ ap (λ l. l ++ next) (lists_push jobs job)
    ∙ append_assoc (lists_of jobs) (job.ops.items ∷ []) next
    ∙ ap (λ (o : List WorkerOp). lists_of jobs ++ o ∷ next) is ∙ ap (λ l. lists_of jobs ++ l) (sym step) ∙ e

pub gates_more : {G : Type 0} (jobs news : List (Job G)) (job : Job G) (gate : G) (rest next all : List G) → news ≡ jobs ++ job ∷ [] → job.gate ≡ gate → rest ≡ gate ∷ next → gates_of jobs ++ rest ≡ all → gates_of news ++ next ≡ all
gates_more {G} jobs news job gate rest next all pushed is step e =
    ap (λ l. gates_of l ++ next) pushed ∙ ap (λ l. l ++ next) (gates_push jobs job)
    ∙ append_assoc (gates_of jobs) (job.gate ∷ []) next
    ∙ ap (λ (g : G). gates_of jobs ++ g ∷ next) is ∙ ap (λ l. gates_of jobs ++ l) (sym step) ∙ e

pub begun_push : {G : Type 0} (count : ℕ) (jobs : List (Job G)) (job : Job G) → AllUnstarted count jobs → IsUnstarted count job → AllUnstarted count (jobs ++ job ∷ [])
begun_push count [] job all one = (one, tt)
begun_push count (x ∷ jobs) job all one = (all.0, begun_push count jobs job all.1 one)

-- ---- what is tested at the moment 0 holds at each

by_moves : (m : Move) (f g : ℕ → Bool) (n : ℕ) → ((k : ℕ) → f k ≡ g k) → balanced_by n m f ≡ balanced_by n m g
by_moves enters f g n e = e (n + 1)
by_moves exits f g n e = ap (λ b. nat_lt 0 n && b) (e (n - 1))
by_moves stays f g n e = e n

by_asked : (at : ℕ) (asked : Option Op) (xs ys : List Ask) (n : ℕ) → ((k : ℕ) → is_balanced xs k ≡ is_balanced ys k) → is_balanced (with_ask at asked xs) n ≡ is_balanced (with_ask at asked ys) n
by_asked at None xs ys n e = e n
by_asked at (Some op) xs ys n e = by_moves (move_of op) (is_balanced xs) (is_balanced ys) n e

balanced_at : (plan : Plan) (s a b : ℕ) (ops : List WorkerOp) (n : ℕ) → is_balanced (asks_on plan s a ops) n ≡ is_balanced (asks_on plan s b ops) n
balanced_at plan s a b [] n = refl
balanced_at plan s a b (o ∷ ops) n = by_asked o.at (op_on_span plan s o) (asks_on plan s a ops) (asks_on plan s b ops) n (λ k. balanced_at plan s a b ops k)

-- ---- the workers may get their handles

one_prepared : {G : Type 0} (opening : G → List ℕ) (plan : Plan) (spans : List SharedHandle) (job : Job G) → length plan.shared ≡ length spans → IsValidWork plan job.ops.items → opening job.gate ≡ plan.filter → IsUnstarted (length spans) job → IsPreparedFor opening plan spans job
one_prepared opening plan spans job len t g b = record {
  timed = t.timed;
  last = b.last;
  gate = g;
  balanced = λ s x low. balanced_at plan s (release_moment (slice_index_or spans s x).view.origin.made_at (last_moment job.ops.items)) 0 job.ops.items 0 ∙ t.closed s (omega (arith, len, low));
  room = b.room;
}

each_prepared : {G : Type 0} (opening : G → List ℕ) (plan : Plan) (spans : List SharedHandle) (jobs : List (Job G)) → length plan.shared ≡ length spans → AllValidWork plan (lists_of jobs) → AllAtOpening opening plan.filter (lists_of jobs) (gates_of jobs) → AllUnstarted (length spans) jobs → ArePreparedFor opening plan spans jobs
each_prepared opening plan spans [] len t g b w d low = absurd (omega (arith, low))
each_prepared opening plan spans (job ∷ jobs) len t g b zero d low = one_prepared opening plan spans job len t.0 g.0 b.0
each_prepared opening plan spans (job ∷ jobs) len t g b (suc w) d low = each_prepared opening plan spans jobs len t.1 g.1 b.1 w d (omega (arith, low))

pub all_prepared : {G : Type 0} (opening : G → List ℕ) (plan : Plan) (spans : List SharedHandle) (jobs : List (Job G)) (workers : List (List WorkerOp)) (gates : List G) → lists_of jobs ≡ workers → gates_of jobs ≡ gates → length plan.shared ≡ length spans
    → AllValidWork plan workers → AllAtOpening opening plan.filter workers gates → AllUnstarted (length spans) jobs → ArePreparedFor opening plan spans jobs
all_prepared {G} opening plan spans jobs workers gates lists is_gates len t g b =
    each_prepared opening plan spans jobs len (subst (AllValidWork plan) (sym lists) t)
    (subst (λ (p : List (List WorkerOp) × List G). AllAtOpening opening plan.filter p.0 p.1) (λ i. (sym lists i, sym is_gates i)) g) b

-- as many gates as workers
pub as_many : {G : Type 0} (opening : G → List ℕ) (text : List ℕ) (workers : List (List WorkerOp)) (gates : List G) → AllAtOpening opening text workers gates → length workers ≡ length gates
as_many opening text [] [] g = refl
as_many opening text [] (x ∷ gates) g = absurd g
as_many opening text (ops ∷ workers) [] g = absurd g
as_many opening text (ops ∷ workers) (x ∷ gates) g = let e = as_many opening text workers gates g.1 in omega (arith, e)

-- ---- the last call

pub last_is : (ops : List WorkerOp) (k : ℕ) (o : WorkerOp) → length ops ≡ suc k → o ≡ slice_index_or ops k o → last_moment ops ≡ Some o.at
last_is [] k o n e = absurd (omega (arith, n))
last_is (x ∷ []) zero o n e = ap (λ (y : WorkerOp). Some y.at) (sym e)
last_is (x ∷ []) (suc k) o n e = absurd (omega (arith, n))
last_is (x ∷ y ∷ ops) zero o n e = absurd (omega (arith, n))
last_is (x ∷ y ∷ ops) (suc k) o n e = ap (moment_or x.at) (last_is (y ∷ ops) k o (omega (arith, n)) e)
