-- What is written of a script tells of its spans.
use Rattle.std.specs.Prelude.{◌≡◌, ℕ, ◌≤◌, List, [], ◌∷◌, ◌++◌, map, flat_map, length, nat_lt, ◌&&◌, not, is_some, slice_get, true, Some, Ok, IsErr}
use Rattle.otel_base.specs.declared.record.Record.{Record}
use Rattle.span_script.specs.declared.reply.Reply.{Reply}
use Rattle.span_script.specs.declared.request.Request.{Request}
use Rattle.span_script.specs.Effects.{effect_of}
use Rattle.span_script.specs.calls.Spans.{is_open}
use Rattle.span_script.specs.Outcomes.{history_of, outcome_of}
use Rattle.span_script.specs.Setups.{Setup, setup_by}
use Rattle.span_script.specs.Tables.{Effect, History, made_span_at, tables}
use Rattle.span_eager.specs.Early.{answers}
use Rattle.span_laws.specs.LegalHistories.{IsHistory, occurrences}
use Rattle.span_laws.specs.Makings.{IsRecordOf, HasContextOf, is_making}
use Rattle.span_laws.specs.Records.{EachRecord}
use Rattle.trace_base.specs.Spans.{is_in}
use Rattle.trace_eager.specs.Renamed.{Script}
use Rattle.trace_eager.specs.Written.{requests_of}
use Rattle.trace_laws.specs.Written.{script_text}

-- the spans that the requests of a history closed, in order
abbrev pub closed_spans : History → List ℕ
closed_spans h = flat_map (λ e. e.closes) h

-- the record of a span is made with what the request at its place says, and holds exactly that span's calls, in order
abbrev pub HoldsCalls : Setup → List Request → History → ℕ → Record → Type 0
HoldsCalls setup requests h s r = (of : IsRecordOf setup h s r) × (slice_get requests (length of.fore) ≡ Some of.request)

-- each answer is the reply to its request and the records of the spans that the request closed
abbrev pub AnswersEach : (ℕ → Record → Type 0) → History → List (Reply × List Record) → Type 0
AnswersEach IsOf [] [] = Unit {0}
AnswersEach IsOf (e ∷ h) (answer ∷ all) = (answer.0 ≡ e.reply) × EachRecord IsOf e.closes answer.1 × AnswersEach IsOf h all
AnswersEach IsOf [] (answer ∷ all) = ⊥
AnswersEach IsOf (e ∷ h) [] = ⊥

-- an effect behind a history is that of the request at its place, which made a span exactly if it asked for one that the
-- directives in force then admit
pub record MakesIfAdmitted (setup : Setup) (requests : List Request) (h : History) (e : Effect) : Type 0 where
  pub request : Request
  pub is_request : slice_get requests (length h) ≡ Some request
  pub effect : effect_of setup (tables setup h) request ≡ Ok e
  pub made : is_some e.new_span ≡ is_making setup (tables setup h) request

-- what answers tell of the spans of a history that requests give
pub record TellsSpans (setup : Setup) (requests : List Request) (h : History) (all : List (Reply × List Record)) : Type 0 where
  pub legal : IsHistory setup h
  -- each request is answered up to the first that is refused
  pub refused : (request : Request) → slice_get requests (length h) ≡ Some request → IsErr (effect_of setup (tables setup h) request)
  pub admitted : (fore rest : History) (e : Effect) → h ≡ fore ++ e ∷ rest → MakesIfAdmitted setup requests fore e
  pub answered : AnswersEach (HoldsCalls setup requests h) h all
  pub contexts : AnswersEach (HasContextOf setup h) h all
  pub once : (s : ℕ) → occurrences s (closed_spans h) ≤ 1
  -- so far those are closed that were made and that no unspent handle holds, theirs or a descendant's
  pub when_ended : (fore rest : History) (s : ℕ) → h ≡ fore ++ rest
      → is_in s (closed_spans fore) ≡ (nat_lt s (length (tables setup fore).spans) && not (is_open (tables setup fore).handles s))
  pub child_first : (s p : ℕ) (up fore rest : List ℕ) → (made_span_at (tables setup h).spans s).scope ≡ s ∷ p ∷ up
      → closed_spans h ≡ fore ++ p ∷ rest → is_in s fore ≡ true

-- the answers are those of the outcome, parted by requests
pub record AreAnswers (setup : Setup) (requests : List Request) (all : List (Reply × List Record)) : Type 0 where
  pub replies : map (λ answer. answer.0) all ≡ (outcome_of setup requests).replies
  pub records : flat_map (λ answer. answer.1) all ≡ (outcome_of setup requests).records

-- a text is what is written of a script, and what its answers tell
pub record TellsScript (script : Script) (text : List ℕ) : Type 0 where
  pub written : text ≡ script_text script
  pub outcome : AreAnswers (setup_by script.settings) (requests_of script.lines) (answers (setup_by script.settings) (requests_of script.lines))
  pub spans : TellsSpans (setup_by script.settings) (requests_of script.lines) (history_of (setup_by script.settings) (requests_of script.lines)) (answers (setup_by script.settings) (requests_of script.lines))
