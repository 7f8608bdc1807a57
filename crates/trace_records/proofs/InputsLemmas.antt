-- What is written where a line is refused.
use Rattle.std.proofs.Common.{ℕ, List, [], ap, Option, is_ok}
use Rattle.trace_records.proofs.Common.{Refuses, ScriptHistory, script_of, accepts_within, TellsRun, AreRefused}

-- whatever is told of a script, the refusal line alone is written
pub refuses : (most : Option ℕ) (Tells : ScriptHistory → List ℕ → Type 0) (lines : List (List ℕ)) (text : List ℕ) → AreRefused most lines text
    → Refuses (accepts_within most) (λ ls. TellsRun Tells (script_of most ls)) lines text
refuses most Tells lines text a = record {
  some = a.1.some;
  refused = λ more. ap is_ok (a.1.script_is more);
  whole = λ more. rw (a.1.script_is more) a.2;
}
