-- What is written of a script: the lines of its outcome.
use Rattle.std.specs.Prelude.{◌≡◌, ℕ, ◌+◌, List, [], ◌∷◌, ◌++◌, length, if◌then◌else◌, slice_index_or, Option, Some, None, Result, Ok, Err}
use Rattle.otel_base.specs.declared.record.Record.{Record}
use Rattle.span_script.specs.declared.outcome.Outcome.{Outcome}
use Rattle.span_script.specs.declared.reply.Refusal.{Refusal}
use Rattle.span_script.specs.declared.reply.Reply.{Reply}
use Rattle.span_script.specs.declared.request.Request.{Request}
use Rattle.span_script.specs.Admission.{OpeningRead, opening_read}
use Rattle.span_script.specs.Outcomes.{outcome_of}
use Rattle.span_script.specs.Setups.{setup_by}
use Rattle.span_eager.specs.Early.{answers}
use Rattle.trace_eager.specs.Renamed.{Script}
use Rattle.trace_eager.specs.Written.{line_numbers, requests_of}
use Rattle.trace_lines.specs.declared.told.Told.{Told}
use Rattle.trace_lines.specs.declared.told.Told.TheVariants as told
use Rattle.trace_lines.specs.Lines.{is_blank}
use Rattle.trace_lines.specs.Report.{record_lines}
use Rattle.trace_lines.specs.reading.Spelled.{request_spelled}
use Rattle.trace_lines.specs.text.Texts.{end_text, refusal_text, reply_text}

-- the number of a line and why it spells no request, else those of a later line
abbrev pub bad_line_or : Result Request Told → ℕ → Option (ℕ × Told) → Option (ℕ × Told)
bad_line_or (Ok request) number later = later
bad_line_or (Err why) number later = Some (number, why)

-- the number of the first line that spells no request, and why, so many lines having come before
abbrev pub first_bad_line : ℕ → List (List ℕ) → Option (ℕ × Told)
first_bad_line n [] = None
first_bad_line n (text ∷ lines) = if is_blank text then first_bad_line (n + 1) lines else bad_line_or (request_spelled text) (n + 1) (first_bad_line (n + 1) lines)

-- the lines of the answers to requests, which stand on lines of some numbers: each reply and then its records, so many having
-- come before
abbrev pub answer_lines : ℕ → List ℕ → List (Reply × List Record) → List ℕ
answer_lines count [] answers = []
answer_lines count (n ∷ ns) [] = []
answer_lines count (n ∷ ns) (answer ∷ answers) =
    (reply_text n answer.0 ++ record_lines (count + 1) answer.1) ++ answer_lines (count + length answer.1) ns answers

-- the last line: the refusal of the first refused request, else of the first line that spells none, else the end line
abbrev pub last_line : List ℕ → Option (ℕ × Refusal) → Option (ℕ × Told) → ℕ → ℕ → List ℕ
last_line numbers (Some refused) unread left count = refusal_text (slice_index_or numbers refused.0 0) (told.Step refused.1)
last_line numbers None (Some unread) left count = refusal_text unread.0 unread.1
last_line numbers None None left count = end_text left count

-- the lines of an outcome, the answers being parted by requests
abbrev pub outcome_text : List ℕ → Option (ℕ × Told) → List (Reply × List Record) → Outcome → List ℕ
outcome_text numbers unread all outcome = answer_lines 0 numbers all ++ last_line numbers outcome.refused unread outcome.left_open (length outcome.records)

-- what is written of a script that is opened
abbrev pub script_text : Script → List ℕ
script_text script =
    let setup = setup_by script.settings in
    let requests = requests_of script.lines in
    outcome_text (line_numbers script.line_number script.lines) (first_bad_line script.line_number script.lines) (answers setup requests) (outcome_of setup requests)

-- what is written of a script: a refusal line alone where a text of directives isn't read
abbrev pub opened_text : OpeningRead → Script → List ℕ
opened_text (Ok read) script = script_text script
opened_text (Err unread) script = refusal_text script.line_number (told.Directive unread.0 unread.1)

-- the number of the first line that isn't blank, else of the one past the last, so many lines having come before
abbrev pub first_line_number : ℕ → List (List ℕ) → ℕ
first_line_number n lines = slice_index_or (line_numbers n lines) 0 (n + length lines + 1)

-- what is written: without settings, whose line of a number is missing or spells none, the refusal of that line alone
abbrev pub IsOutput : ℕ → Option Script → List ℕ → Type 0
IsOutput number None text = text ≡ refusal_text number told.BadLine
IsOutput number (Some script) text = text ≡ opened_text (opening_read script.settings.filter script.settings.counting) script
