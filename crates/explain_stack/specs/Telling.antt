-- The words of lines, and what is told behind them.
use Rattle.std.specs.Prelude.{ℕ, Bool, true, false, List, [], Option, Some, None, Ok, Err, if◌then◌else◌, codes, bytes_eq}
use Rattle.futures.specs.declared.task.Poll.TheVariants.{Ready, Pending}
use Rattle.otel_base.specs.declared.enter_error.EnterError.TheVariants as errors
use Rattle.otel_base.specs.declared.status.Status.{Status}
use Rattle.otel_base.specs.declared.status.Status.TheVariants as status
use Rattle.span_futures.specs.Polls.{PollResult}

-- that a call was made, or refused
abbrev pub done_line : Bool → List ℕ
done_line true = codes "  done\n"
done_line false = codes "  refused\n"

-- what a poll answers that had memory
abbrev pub polled_line : PollResult Bool → List ℕ
polled_line (Ok Pending) = codes "  pending\n"
polled_line (Ok (Ready true)) = codes "  ready, served true\n"
polled_line (Ok (Ready false)) = codes "  ready, served false\n"
polled_line (Err errors.Full) = codes "  full\n"
polled_line (Err errors.Memory) = []

-- the same of a poll that may have been refused
abbrev pub poll_line : Option (PollResult Bool) → List ℕ
poll_line None = done_line false
poll_line (Some polled) = polled_line polled

-- the status of a word
abbrev pub status_of_word : List ℕ → Status
status_of_word word = if bytes_eq word (codes "ok") then status.Ok else status.Error word
