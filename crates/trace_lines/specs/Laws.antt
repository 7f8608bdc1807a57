-- How an output goes on, of which the laws speak.
use Rattle.std.specs.Prelude.{◌≡◌, ℕ, List, ◌++◌}
use Rattle.trace_lines.specs.Report.{last_text}
use Rattle.trace_lines.specs.declared.signal.Signal.{Signal}

-- an output that ended is gone on with: what stood before its end line stands first
pub record GoesOn (signal : Signal) (ended new : List ℕ) : Type 0 where
  pub before : List ℕ
  pub spans : ℕ
  pub count : ℕ
  pub more : List ℕ
  pub ended_is : ended ≡ before ++ last_text signal spans count
  pub new_is : new ≡ before ++ more
