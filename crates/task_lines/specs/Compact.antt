-- What a compact text begins with: a step, or the steps of a task.
use Rattle.std.specs.Prelude.{◌≡◌, ℕ, ◌+◌, List, [], ◌∷◌, ◌++◌, Some, codes, decimal}
use Rattle.serde_json.specs.Data.{Data, Items, array}
use Rattle.trace_lines.specs.declared.read.syntax.scan.TheConstants.{MAX_DEPTH}
use Rattle.trace_lines.specs.forms.Forms.{each}
use Rattle.trace_lines.specs.text.Compact.{BeginsWithValue}
use Rattle.trace_tasks.specs.declared.script.Step.{Step}
use Rattle.task_lines.specs.TaskForm.{step_of}

-- the text begins with a step
abbrev pub BeginsStep : List ℕ → Step → List ℕ → Type 0
BeginsStep text step rest = (d : Data) × BeginsWithValue (MAX_DEPTH + 3) text d rest × (step_of d ≡ Some step)

-- the text begins with an array of steps
abbrev pub BeginsSteps : List ℕ → List Step → List ℕ → Type 0
BeginsSteps text steps rest = (ds : Items) × BeginsWithValue (MAX_DEPTH + 4) text (array ds) rest × (each step_of ds ≡ Some steps)

-- the text is a front, a callsite's number, and the steps that close a task's object
abbrev pub EndsTask : (front text : List ℕ) → ℕ → List Step → Type 0
EndsTask front text site steps =
    (list : List ℕ) × (text ≡ front ++ (decimal site ++ (codes ",\"task\":" ++ list))) × BeginsSteps list steps (125 ∷ [])
