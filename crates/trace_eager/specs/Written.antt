-- What is written of a script, by the answers of its requests.
use Rattle.std.specs.Prelude.{ℕ, ◌+◌, List, [], ◌∷◌, ◌++◌, length, if◌then◌else◌, Result, Ok, Err}
use Rattle.otel_base.specs.declared.record.Record.{Record}
use Rattle.span_script.specs.declared.reply.Reply.{Reply}
use Rattle.span_script.specs.declared.request.Request.{Request}
use Rattle.trace_lines.specs.declared.told.Told.{Told}
use Rattle.trace_lines.specs.Lines.{is_blank}
use Rattle.trace_lines.specs.Report.{record_lines}
use Rattle.trace_lines.specs.reading.Spelled.{request_spelled}
use Rattle.trace_lines.specs.text.Texts.{end_text, reply_text}

-- a request in front of others, where one is spelled
abbrev pub with_request_if_spelled : Result Request Told → List Request → List Request
with_request_if_spelled (Ok request) requests = request ∷ requests
with_request_if_spelled (Err why) requests = []

-- the requests of the lines that aren't blank, up to the first that spells none
abbrev pub requests_of : List (List ℕ) → List Request
requests_of [] = []
requests_of (text ∷ lines) = if is_blank text then requests_of lines else with_request_if_spelled (request_spelled text) (requests_of lines)

-- the numbers of the lines that aren't blank, so many lines having come before
abbrev pub line_numbers : ℕ → List (List ℕ) → List ℕ
line_numbers n [] = []
line_numbers n (text ∷ lines) = if is_blank text then line_numbers (n + 1) lines else (n + 1) ∷ line_numbers (n + 1) lines

-- the reply and the records of each request, which stands on the line of a number, and the end line; so many records come before
abbrev pub answers_text : ℕ → List ℕ → List (Reply × List Record) → ℕ → List ℕ
answers_text count [] answers left = end_text left count
answers_text count (n ∷ ns) [] left = end_text left count
answers_text count (n ∷ ns) (answer ∷ answers) left =
    (reply_text n answer.0 ++ record_lines (count + 1) answer.1) ++ answers_text (count + length answer.1) ns answers left
