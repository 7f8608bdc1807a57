-- Calls that passed their tests, in front of those that are to be tested.
use Rattle.std.proofs.Common.{◌≡◌, ℕ, List, [], ◌∷◌, ◌++◌, length, Ok, Err, refl, sym, ap, subst, ◌∙◌, append_assoc, replicate}
use Rattle.std.specs.Prelude.{Result, ⊤, nat_lt}
use Rattle.trace_lines.specs.declared.told.Told.{Told}
use Rattle.trace_lines.specs.declared.told.Told.TheVariants as told
use Rattle.thread_script.specs.declared.script.ThreadScript.{ThreadScript}
use Rattle.thread_script.specs.declared.script.WorkerOp.{WorkerOp}
use Rattle.thread_lines.specs.declared.line.ThreadOp.{ThreadOp}
use Rattle.thread_lines.specs.declared.limits.TheConstants.{MAX_WORKERS}
use Rattle.thread_lines.specs.declared.stop.ScriptStop.{ScriptStop}
use Rattle.thread_lines.specs.declared.stop.ScriptStop.TheVariants as stop
use Rattle.thread_lines.specs.Answers.{AnswersTest, AddsToScript}
use Rattle.thread_lines.specs.Steps.{◌>>=◌, refuse_unless, lane_tested, last_shared_moment, with_worker, worker_added, move_of_call, open_counts_after, op_tested, ops_tested}

abbrev pub in_front : {A : Type 0} → List A → Result (List A) Told → Result (List A) Told
in_front front (Ok more) = Ok (front ++ more)
in_front front (Err why) = Err why

-- ---- at the front of all

pub all_err : {A : Type 0} (all : Result (List A) Told) (w : Told) → Err w ≡ in_front [] all → all ≡ Err w
all_err (Ok more) w e = absurd (cc e)
all_err (Err why) w e = sym e

-- ---- one call more

pub moved : (front : List WorkerOp) (op : WorkerOp) (rest : Result (List WorkerOp) Told) → in_front (front ++ op ∷ []) rest ≡ in_front front (rest >>= (λ ops. Ok (op ∷ ops)))
moved front op (Ok ops) = ap Ok (append_assoc front (op ∷ []) ops)
moved front op (Err why) = refl

pub one_passed : (s : ThreadScript) (before : ℕ) (entered after : List ℕ) (front : List WorkerOp) (o : ThreadOp) (os : List ThreadOp) (op : WorkerOp)
    → op_tested s before entered o ≡ Ok op → after ≡ open_counts_after entered op.span (move_of_call op.what)
    → in_front (front ++ op ∷ []) (ops_tested s op.at after os) ≡ in_front front (ops_tested s before entered (o ∷ os))
one_passed s before entered after front o os op passed is =
    ap (λ (l : List ℕ). in_front (front ++ op ∷ []) (ops_tested s op.at l os)) is
    ∙ moved front op (ops_tested s op.at (open_counts_after entered op.span (move_of_call op.what)) os)
    ∙ ap (λ (r : Result WorkerOp Told). in_front front (r >>= (λ x. ops_tested s x.at (open_counts_after entered x.span (move_of_call x.what)) os >>= (λ ops. Ok (x ∷ ops))))) (sym passed)

pub one_refused : (s : ThreadScript) (before : ℕ) (entered : List ℕ) (front : List WorkerOp) (o : ThreadOp) (os : List ThreadOp) (w : Told)
    → op_tested s before entered o ≡ Err w → Err w ≡ in_front front (ops_tested s before entered (o ∷ os))
one_refused s before entered front o os w refused =
    ap (λ (r : Result WorkerOp Told). in_front front (r >>= (λ x. ops_tested s x.at (open_counts_after entered x.span (move_of_call x.what)) os >>= (λ ops. Ok (x ∷ ops))))) (sym refused)

-- ---- at the end

-- ---- what is answered

module _ (s : ThreadScript) (before : ℕ) (entered : List ℕ) (front : List WorkerOp) (all : Result (List WorkerOp) Told) (r : Result (List WorkerOp) ScriptStop) (why : ScriptStop) (is : r ≡ Err why) where
  pub refused_here : (o : ThreadOp) (os : List ThreadOp) → AnswersTest {A = WorkerOp} (λ op. op) (Err why) (op_tested s before entered o) → in_front front (ops_tested s before entered (o ∷ os)) ≡ in_front [] all → AnswersTest {A = List WorkerOp} (λ l. l) r all
  refused_here o os a e = subst (λ (x : Result (List WorkerOp) ScriptStop). AnswersTest {A = List WorkerOp} (λ l. l) x all) (sym is) (by_why why a)
    where
      by_why : (w : ScriptStop) → AnswersTest {A = WorkerOp} (λ op. op) (Err w) (op_tested s before entered o) → AnswersTest {A = List WorkerOp} (λ l. l) (Err w) all
      by_why (stop.Refused t) refused = all_err all t (one_refused s before entered front o os t refused ∙ e)
      by_why stop.Memory refused = tt

-- ---- the line of a worker

module _ (s : ThreadScript) (os : List ThreadOp) (u v : ⊤) (room : refuse_unless told.BadLine (nat_lt (length s.workers) MAX_WORKERS) ≡ Ok u) (lane : lane_tested s (length s.workers) ≡ Ok v) where
  worker_by : worker_added s os ≡ (ops_tested s (last_shared_moment s.shared) (replicate (length s.shared) 0) os >>= (λ ops. Ok (with_worker s ops)))
  worker_by =
      ap (λ (r : Result ⊤ Told). r >>= (λ x. lane_tested s (length s.workers) >>= (λ y. ops_tested s (last_shared_moment s.shared) (replicate (length s.shared) 0) os >>= (λ ops. Ok (with_worker s ops))))) room
      ∙ ap (λ (r : Result ⊤ Told). r >>= (λ y. ops_tested s (last_shared_moment s.shared) (replicate (length s.shared) 0) os >>= (λ ops. Ok (with_worker s ops)))) lane

  pub worker_passed : (ops : List WorkerOp) → ops_tested s (last_shared_moment s.shared) (replicate (length s.shared) 0) os ≡ Ok ops → worker_added s os ≡ Ok (with_worker s ops)
  worker_passed ops e = worker_by ∙ ap (λ (r : Result (List WorkerOp) Told). r >>= (λ ops. Ok (with_worker s ops))) e

  pub worker_stopped : {U : Type 0} (r : Result U ScriptStop) (why : ScriptStop) → r ≡ Err why → AnswersTest {A = List WorkerOp} (λ l. l) (Err why) (ops_tested s (last_shared_moment s.shared) (replicate (length s.shared) 0) os) → AddsToScript s r (worker_added s os)
  worker_stopped {U = U} r why is e = subst (λ (x : Result U ScriptStop). AddsToScript s x (worker_added s os)) (sym is) (by_why why e)
    where
      by_why : (w : ScriptStop) → AnswersTest {A = List WorkerOp} (λ l. l) (Err w) (ops_tested s (last_shared_moment s.shared) (replicate (length s.shared) 0) os) → AddsToScript {U = U} s (Err w) (worker_added s os)
      by_why (stop.Refused t) e = worker_by ∙ ap (λ (r : Result (List WorkerOp) Told). r >>= (λ ops. Ok (with_worker s ops))) e
      by_why stop.Memory e = tt
