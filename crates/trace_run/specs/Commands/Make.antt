-- What `make` does: it runs the script that is made for a number, and writes what that came to.
use Rattle.std.specs.Prelude.{◌≡◌, ℕ, ◌≤◌, List, [], Option, Some, None, false}
use Rattle.std.proofs.Common.{◌⊎◌}
use Rattle.span_script.specs.Tables.{History}
use Rattle.trace_lines.specs.declared.generated.TheConstants.{MAX_ROUNDS}
use Rattle.trace_lines.specs.Generated.{generated_setup, generated_requests, generated_script}
use Rattle.trace_lines.specs.Replay.{history_after, summary_of, summary_text}
use Rattle.trace_lines.specs.Report.{IsValid}
use Rattle.trace_stream.specs.Meaning.{Meaning}
use Rattle.trace_stream.specs.Streams.{Streams, IsQuiet, Puts, PutsFront}
use Rattle.trace_stream.specs.declared.status.Status.{Status}
use Rattle.trace_stream.specs.declared.status.Status.TheVariants as ends

-- the line of what a history comes to, if it is there
abbrev pub summary_line_if : Option History → List ℕ
summary_line_if None = []
summary_line_if (Some h) = summary_text (summary_of generated_setup h)

-- the summary of the script of so many rounds
abbrev pub generated_summary_line : ℕ → List ℕ
generated_summary_line rounds = summary_line_if (history_after generated_setup [] (generated_requests rounds))

-- What is left in a sink at each status: the whole line, the script being valid, a front of it, or nothing.
abbrev pub LeavesSummary : Status → ℕ → Option (List ℕ) → Option (List ℕ) → Type 0
LeavesSummary ends.Ok rounds before now = IsValid (generated_script rounds) × Puts before now (generated_summary_line rounds)
LeavesSummary ends.Usage rounds before now = ⊥
LeavesSummary ends.Refused rounds before now = ⊥
LeavesSummary ends.ReadFault rounds before now = ⊥
LeavesSummary ends.WriteFault rounds before now = PutsFront before now (generated_summary_line rounds)
LeavesSummary ends.Memory rounds before now = Puts before now []
LeavesSummary ends.TooLong rounds before now = ⊥

-- With no fault of the sink the line is written, unless memory wants.
abbrev pub CompletesSummary : Status → ℕ → ℕ → Type 0
CompletesSummary status writes writes' = IsQuiet writes writes' → (status ≡ ends.Ok) ⊎ (status ≡ ends.Memory)

-- A summary was made and written, and nothing was read.
pub record MakesSummary (rounds : ℕ) (status : Status) (before now : Streams) : Type 0 where
  pub leaves : LeavesSummary status rounds before.held now.held
  pub front : PutsFront before.held now.held (generated_summary_line rounds)
  pub complete : CompletesSummary status before.write_faults now.write_faults

abbrev pub meaning_of_make : ℕ → Meaning
meaning_of_make rounds = record { IsPossible = rounds ≤ MAX_ROUNDS; reads = false; Does = MakesSummary rounds }
