-- What a command that reads all lines leaves, from what was read, answered and written.
use Rattle.std.proofs.Common.{◌≡◌, ◌≢◌, ℕ, List, [], ◌∷◌, ◌++◌, refl, sym, ap, subst, ◌∙◌, take, drop, length, ◌<◌, ◌≤◌, ◌+◌, ◌⊎◌, inl, inr, arith, Bool, true, false, not, min, Option, Some, None, IfSome, Result, Ok, Err, IfOk}
use Rattle.trace_stream.proofs.Common.{IsAtEnd, cases_lt, lines_of, MAX_INPUT, Refuses, NoneRefused, whole_part, whole_lines, HasCause, CarriesOut, StopsAtFault, HasRefused, PutsNothingOrFront, LeavesStreams, IsRefusedForCause, Streams, CountsFault, MeetsEnd, Takes, Puts, PutsFront}
use Rattle.std.proofs.lemmas.List.{append-nil, take_all}
use Rattle.input_lines.specs.declared.answer.Answer.{Answer}
use Rattle.trace_stream.specs.declared.input.End.{End}
use Rattle.trace_stream.specs.declared.input.End.TheVariants as end
use Rattle.trace_stream.specs.declared.status.Status.TheVariants as ends
use Rattle.trace_stream.specs.reading.AllLines.{answering_of_all_lines, meaning_of_all_lines, AnswersCut, WritesAnswer, status_at_end}
use Rattle.trace_stream.proofs.LinesLemmas.{lines_on}
use Rattle.trace_stream.proofs.ReadingLemmas.{split_at, all_read, reads_lines}

-- ---- what is written

-- told bytes don't grow by a front of nothing
front_none : (before now : Option (List ℕ)) → PutsFront before now [] → Puts before now []
front_none before now put = nothing put.0 put.1.0 put.1.1 put.2 where
  nothing : (front rest : List ℕ) → [] ≡ front ++ rest → Puts before now front → Puts before now []
  nothing [] rest is puts = puts
  nothing (b ∷ bs) rest is puts = absurd (omega (arith, ap length is))

-- the lines of an input go on behind the whole ones of what was read
whole_on : (bytes read rest : List ℕ) → bytes ≡ read ++ rest → (more : List (List ℕ)) × (lines_of bytes ≡ whole_lines (take MAX_INPUT read) ++ more)
whole_on bytes read rest is =
    let on = lines_on (take MAX_INPUT read) (drop MAX_INPUT read ++ rest) in
    (on.0, ap lines_of (is ∙ sym (split_at MAX_INPUT read rest)) ∙ on.1)

module _ (accepts : List (List ℕ) → Bool) (Whole : List (List ℕ) → List ℕ → Type 0) where
  -- a whole line is refused, so the input is
  stops_accepts : (bytes read rest text : List ℕ) → bytes ≡ read ++ rest → Refuses accepts Whole (whole_lines (take MAX_INPUT read)) text → accepts (lines_of bytes) ≡ false
  stops_accepts bytes read rest text is stops = let on = whole_on bytes read rest is in ap accepts on.1 ∙ stops.refused on.0

  stops_whole : (bytes read rest text : List ℕ) → bytes ≡ read ++ rest → Refuses accepts Whole (whole_lines (take MAX_INPUT read)) text → Whole (lines_of bytes) text
  stops_whole bytes read rest text is stops =
      let on = whole_on bytes read rest is in subst (λ (ls : List (List ℕ)). Whole ls text) (sym on.1) (stops.whole on.0)

  stops_refused : (lines : List (List ℕ)) (text : List ℕ) → Refuses accepts Whole lines text → HasRefused accepts lines
  stops_refused lines text stops = record {
    some = stops.some;
    refused = ap accepts (sym (append-nil lines)) ∙ stops.refused [];
  }

  -- where a front of the text was written, nothing was, or a front of one for the whole input
  cut_some : (refused : Bool) (bytes read rest text : List ℕ) (before now : Option (List ℕ)) → bytes ≡ read ++ rest
      → AnswersCut accepts Whole refused (whole_lines (take MAX_INPUT read)) text → PutsFront before now text → PutsNothingOrFront (answering_of_all_lines accepts Whole) bytes before now
  cut_some true bytes read rest text before now is cuts put = inr (text, stops_whole bytes read rest text is cuts, put)
  cut_some false bytes read rest text before now is cuts put = inl (front_none before now (subst (λ (t : List ℕ). PutsFront before now t) cuts.1 put))

  tells_some : (ending : End) (bytes : List ℕ) (left before now : Option (List ℕ)) (read : List ℕ) (answer : Answer) → Takes (Some bytes) left read
      → (ending ≡ end.Whole → IsAtEnd left) → WritesAnswer accepts Whole ending read answer → PutsFront before now answer.text.items
      → PutsNothingOrFront (answering_of_all_lines accepts Whole) bytes before now
  tells_some end.Whole bytes left before now read answer took none tells put =
      let same : read ≡ bytes = (all_read bytes left read took (none refl)).1 in
      inr (answer.text.items, subst (λ (b : List ℕ). Whole (lines_of b) answer.text.items) same tells.0, put)
  tells_some end.Fault bytes left before now read answer took none tells put =
      cut_some answer.refused bytes read took.0 answer.text.items before now took.2 tells put
  tells_some end.TooLong bytes left before now read answer took none tells put =
      cut_some answer.refused bytes read took.0 answer.text.items before now took.2 tells put

  pub some_of : (ending : End) (old left before now : Option (List ℕ)) (read : List ℕ) (answer : Answer) → Takes old left read
      → (ending ≡ end.Whole → IsAtEnd left) → WritesAnswer accepts Whole ending read answer → PutsFront before now answer.text.items
      → IfSome old (λ bytes. PutsNothingOrFront (answering_of_all_lines accepts Whole) bytes before now)
  some_of ending None left before now read answer took none tells put = tt
  some_of ending (Some bytes) left before now read answer took none tells put = tells_some ending bytes left before now read answer took none tells put

  -- ---- what is left at each status

  leaves_whole : (refused : Bool) (bytes : List ℕ) (left before now : Option (List ℕ)) (text read : List ℕ) → Takes (Some bytes) left read → IsAtEnd left
      → length bytes ≤ MAX_INPUT → Whole (lines_of bytes) text → accepts (lines_of bytes) ≡ not refused → Puts before now text
      → LeavesStreams (answering_of_all_lines accepts Whole) (status_at_end refused end.Whole) bytes left before now
  leaves_whole true bytes left before now text read took none short whole is put = record {
    refused = is;
    read = read;
    took = took;
    place = inr ((all_read bytes left read took none).0, short);
    put = (text, whole, put);
  }
  leaves_whole false bytes left before now text read took none short whole is put =
      (record { short = short; accepted = is }, (all_read bytes left read took none).0, (text, whole, put))

  leaves_stopped : (bytes : List ℕ) (left before now : Option (List ℕ)) (text read : List ℕ) → Takes (Some bytes) left read
      → Refuses accepts Whole (whole_lines (take MAX_INPUT read)) text → Puts before now text → LeavesStreams (answering_of_all_lines accepts Whole) ends.Refused bytes left before now
  leaves_stopped bytes left before now text read took stops put = record {
    refused = stops_accepts bytes read took.0 text took.2 stops;
    read = read;
    took = took;
    place = inl (stops_refused (whole_lines (take MAX_INPUT read)) text stops);
    put = (text, stops_whole bytes read took.0 text took.2 stops, put);
  }

  leaves_fault : (refused : Bool) (bytes : List ℕ) (left before now : Option (List ℕ)) (text read : List ℕ) → Takes (Some bytes) left read → length read ≤ MAX_INPUT
      → AnswersCut accepts Whole refused (whole_lines (take MAX_INPUT read)) text → Puts before now text → LeavesStreams (answering_of_all_lines accepts Whole) (status_at_end refused end.Fault) bytes left before now
  leaves_fault true bytes left before now text read took short cuts put = leaves_stopped bytes left before now text read took cuts put
  leaves_fault false bytes left before now text read took short cuts put = record {
    read = read;
    took = took;
    text = text;
    answered = (subst (λ (b : List ℕ). NoneRefused accepts (whole_lines b)) (take_all MAX_INPUT read short) cuts.0, cuts.1);
    put = put;
  }

  leaves_long : (refused : Bool) (bytes : List ℕ) (left before now : Option (List ℕ)) (text read : List ℕ) → Takes (Some bytes) left read → MAX_INPUT < length read
      → AnswersCut accepts Whole refused (whole_lines (take MAX_INPUT read)) text → Puts before now text → LeavesStreams (answering_of_all_lines accepts Whole) (status_at_end refused end.TooLong) bytes left before now
  leaves_long true bytes left before now text read took long cuts put = leaves_stopped bytes left before now text read took cuts put
  leaves_long false bytes left before now text read took long cuts put =
      record { read = read; took = took; long = long; text = text; answered = cuts; put = put }

  -- the text was written whole
  pub leaves_of : (ending : End) (old left before now : Option (List ℕ)) (read : List ℕ) (answer : Answer) → Takes old left read
      → (ending ≡ end.Whole → IsAtEnd left) → (ending ≢ end.TooLong → length read ≤ MAX_INPUT) → (ending ≡ end.TooLong → MAX_INPUT < length read)
      → WritesAnswer accepts Whole ending read answer → Puts before now answer.text.items
      → IfSome old (λ bytes. LeavesStreams (answering_of_all_lines accepts Whole) (status_at_end answer.refused ending) bytes left before now)
  leaves_of ending None left before now read answer took none short long tells put = tt
  leaves_of end.Whole (Some bytes) left before now read answer took none short long tells put =
      let same : read ≡ bytes = (all_read bytes left read took (none refl)).1 in
      leaves_whole answer.refused bytes left before now answer.text.items read took (none refl)
      (subst (λ (b : List ℕ). length b ≤ MAX_INPUT) same (short (λ is. cc)))
      (subst (λ (b : List ℕ). Whole (lines_of b) answer.text.items) same tells.0)
      (subst (λ (b : List ℕ). accepts (lines_of b) ≡ not answer.refused) same tells.1) put
  leaves_of end.Fault (Some bytes) left before now read answer took none short long tells put =
      leaves_fault answer.refused bytes left before now answer.text.items read took (short (λ is. cc)) tells put
  leaves_of end.TooLong (Some bytes) left before now read answer took none short long tells put =
      leaves_long answer.refused bytes left before now answer.text.items read took (long refl) tells put

  -- ---- what holds whether bytes are told or not

  refused_cut : (ending : End) (refused : Bool) (before now : Streams) (read text : List ℕ) → (ending ≡ end.Whole → ⊥) → Takes before.left now.left read
      → AnswersCut accepts Whole refused (whole_lines (take MAX_INPUT read)) text → IsRefusedForCause (answering_of_all_lines accepts Whole) (status_at_end refused ending) before now
  refused_cut ending true before now read text part took cuts = λ told. (read, took, inl (stops_refused (whole_lines (take MAX_INPUT read)) text cuts))
  refused_cut end.Whole false before now read text part took cuts = absurd (part refl)
  refused_cut end.Fault false before now read text part took cuts = λ told. cc
  refused_cut end.TooLong false before now read text part took cuts = λ told. cc

  pub refused_of : (ending : End) (before now : Streams) (read : List ℕ) (answer : Answer) → Takes before.left now.left read
      → (ending ≡ end.Whole → MeetsEnd before.ends now.ends) → WritesAnswer accepts Whole ending read answer → IsRefusedForCause (answering_of_all_lines accepts Whole) (status_at_end answer.refused ending) before now
  refused_of end.Whole before now read answer took meets tells = λ told. (read, took, inr (meets refl))
  refused_of end.Fault before now read answer took meets tells = refused_cut end.Fault answer.refused before now read answer.text.items (λ is. cc) took tells
  refused_of end.TooLong before now read answer took meets tells = refused_cut end.TooLong answer.refused before now read answer.text.items (λ is. cc) took tells

  -- a write failed
  pub carries_broken : (ending : End) (before now : Streams) (read : List ℕ) (answer : Answer) → Takes before.left now.left read
      → (ending ≡ end.Whole → IsAtEnd now.left) → WritesAnswer accepts Whole ending read answer → PutsFront before.held now.held answer.text.items
      → CountsFault before.write_faults now.write_faults → now.ends ≤ before.ends + 1 → CarriesOut (meaning_of_all_lines accepts Whole) ends.WriteFault before now
  carries_broken ending before now read answer took none tells put fault once =
      let some : IfSome before.left (λ bytes. PutsNothingOrFront (answering_of_all_lines accepts Whole) bytes before.held now.held) =
      some_of ending before.left now.left before.held now.held read answer took none tells put in
      record {
        does = reads_lines (answering_of_all_lines accepts Whole) ends.WriteFault before now some some fault (λ told. cc) (λ told. cc);
        ended = record { causes = fault; over = λ told. cc; end_once = once; usage = λ told. cc };
      }

-- ---- the cause of the status

causes_of : (refused : Bool) (ending : End) (before now : Streams) → (ending ≡ end.Fault → CountsFault before.read_faults now.read_faults)
    → HasCause (status_at_end refused ending) before now
causes_of true ending before now fault = tt
causes_of false end.Whole before now fault = tt
causes_of false end.Fault before now fault = fault refl
causes_of false end.TooLong before now fault = tt

-- a text that is written tells of no fault of the sink
pub stops_of : (refused : Bool) (ending : End) {Reading Writing : Type 0} → (ending ≡ end.Fault → Reading) → StopsAtFault (status_at_end refused ending) Reading Writing
stops_of true ending stops = record { source = λ told. cc; sink = λ told. cc }
stops_of false end.Whole stops = record { source = λ told. cc; sink = λ told. cc }
stops_of false end.Fault stops = record { source = λ told. stops refl; sink = λ told. cc }
stops_of false end.TooLong stops = record { source = λ told. cc; sink = λ told. cc }

-- a status tells of no other end
long_of : (refused : Bool) (ending : End) → status_at_end refused ending ≡ ends.TooLong → ending ≡ end.TooLong
long_of true ending told = cc
long_of false end.Whole told = cc
long_of false end.Fault told = cc
long_of false end.TooLong told = refl

whole_number_of : (refused : Bool) (ending : End) → status_at_end refused ending ≡ ends.Ok → ending ≡ end.Whole
whole_number_of true ending told = cc
whole_number_of false end.Whole told = refl
whole_number_of false end.Fault told = cc
whole_number_of false end.TooLong told = cc

not_usage : (refused : Bool) (ending : End) → status_at_end refused ending ≢ ends.Usage
not_usage true ending = λ told. cc
not_usage false end.Whole = λ told. cc
not_usage false end.Fault = λ told. cc
not_usage false end.TooLong = λ told. cc

not_fault : (ending : End) → ending ≡ end.TooLong → ending ≢ end.Fault
not_fault ending is = λ other. let no : end.TooLong ≡ end.Fault = sym is ∙ other in cc

-- what was read, by how its reading ended
pub record IsRead (ending : End) (before now : Streams) (read : List ℕ) : Type 0 where
  pub took : Takes before.left now.left read
  pub none : ending ≡ end.Whole → IsAtEnd now.left
  pub short : ending ≢ end.TooLong → length read ≤ MAX_INPUT
  pub long : ending ≡ end.TooLong → MAX_INPUT < length read
  pub fault : ending ≡ end.Fault → CountsFault before.read_faults now.read_faults
  pub sure : ending ≢ end.Fault → now.read_faults ≡ before.read_faults
  pub met : ending ≡ end.Whole → MeetsEnd before.ends now.ends
  pub over : ending ≡ end.TooLong → now.ends ≡ before.ends
  pub end_once : now.ends ≤ before.ends + 1

-- all was written
pub carries_whole : (accepts : List (List ℕ) → Bool) (Whole : List (List ℕ) → List ℕ → Type 0) (ending : End) (before now : Streams) (read : List ℕ) (answer : Answer)
    → IsRead ending before now read → WritesAnswer accepts Whole ending read answer → Puts before.held now.held answer.text.items
    → CarriesOut (meaning_of_all_lines accepts Whole) (status_at_end answer.refused ending) before now
carries_whole accepts Whole ending before now read answer is tells put =
    let causes : HasCause (status_at_end answer.refused ending) before now = causes_of answer.refused ending before now is.fault in
    let all : PutsFront before.held now.held answer.text.items = (answer.text.items, ([], sym (append-nil answer.text.items)), put) in
    record {
      does = reads_lines (answering_of_all_lines accepts Whole) (status_at_end answer.refused ending) before now
          (leaves_of accepts Whole ending before.left now.left before.held now.held read answer is.took is.none is.short is.long tells put)
          (some_of accepts Whole ending before.left now.left before.held now.held read answer is.took is.none tells all)
          causes
          (refused_of accepts Whole ending before now read answer is.took is.met tells)
          (λ told. is.met (whole_number_of answer.refused ending told));
      ended = record {
        causes = causes;
        over = λ told. let long = long_of answer.refused ending told in (is.over long, is.sure (not_fault ending long));
        end_once = is.end_once;
        usage = not_usage answer.refused ending;
      };
    }

-- ---- what is answered

-- the first bytes, as many as there are of the longest input
least_take : (least size most : ℕ) (read : List ℕ) → least ≡ min size most → size ≡ length read → take least read ≡ take most read
least_take least size most read is all = elim (cases_lt most (length read)) [
  | inl below ↦ ap (λ (n : ℕ). take n read) (omega (arith, is, all))
  | inr above ↦ take_all least read (omega (arith, is, all)) ∙ sym (take_all most read above)
]

-- the whole lines of these are the lines that were answered
cut_part : (accepts : List (List ℕ) → Bool) (Whole : List (List ℕ) → List ℕ → Type 0) (least size : ℕ) (read bytes part : List ℕ) (refused : Bool) (text : List ℕ) → part ≡ whole_part (take least bytes) → bytes ≡ read
    → least ≡ min size MAX_INPUT → size ≡ length read → AnswersCut accepts Whole refused (lines_of part) text → AnswersCut accepts Whole refused (whole_lines (take MAX_INPUT read)) text
cut_part accepts Whole least size read bytes part refused text parts same is all cuts =
    let front : part ≡ whole_part (take MAX_INPUT read) =
    parts ∙ ap (λ (b : List ℕ). whole_part (take least b)) same ∙ ap whole_part (least_take least size MAX_INPUT read is all) in
    subst (λ (p : List ℕ). AnswersCut accepts Whole refused (lines_of p) text) front cuts

cut_tells : (accepts : List (List ℕ) → Bool) (Whole : List (List ℕ) → List ℕ → Type 0) (ending : End) (read : List ℕ) (answer : Answer) → (ending ≡ end.Fault) ⊎ (ending ≡ end.TooLong)
    → AnswersCut accepts Whole answer.refused (whole_lines (take MAX_INPUT read)) answer.text.items → WritesAnswer accepts Whole ending read answer
cut_tells accepts Whole ending read answer (inl is) cuts = rw is cuts
cut_tells accepts Whole ending read answer (inr is) cuts = rw is cuts

pub tells_cut : {E : Type 0} (accepts : List (List ℕ) → Bool) (Whole : List (List ℕ) → List ℕ → Type 0) (ending : End) (least size : ℕ) (read bytes part : List ℕ) (result : Result Answer E)
    → part ≡ whole_part (take least bytes) → bytes ≡ read → least ≡ min size MAX_INPUT → size ≡ length read → (ending ≡ end.Fault) ⊎ (ending ≡ end.TooLong)
    → IfOk result (λ answer. AnswersCut accepts Whole answer.refused (lines_of part) answer.text.items) → IfOk result (λ answer. WritesAnswer accepts Whole ending read answer)
tells_cut accepts Whole ending least size read bytes part (Err why) parts same is all broken cuts = tt
tells_cut accepts Whole ending least size read bytes part (Ok answer) parts same is all broken cuts =
    cut_tells accepts Whole ending read answer broken (cut_part accepts Whole least size read bytes part answer.refused answer.text.items parts same is all cuts)
