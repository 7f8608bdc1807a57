-- What a future answers that looks for a subscriber.
use Rattle.std.specs.Prelude.{ℕ, Bool, true, false, Option, Some, None, Ok}
use Rattle.futures.specs.declared.task.Poll.TheVariants.{Ready, Pending}
use Rattle.span_futures.specs.Polls.{PollResult}

abbrev pub is_there : Option ℕ → Bool
is_there None = false
is_there (Some dispatch) = true

-- whether there is one, once it is ready
abbrev pub probe_answer : Bool → Option ℕ → PollResult Bool
probe_answer true served = Ok (Ready (is_there served))
probe_answer false served = Ok Pending
