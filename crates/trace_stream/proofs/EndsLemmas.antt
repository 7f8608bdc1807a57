-- What a run leaves, from what was read, answered and written.
use Rattle.std.proofs.Common.{◌≡◌, ℕ, List, [], ◌++◌, refl, sym, ap, subst, ◌∙◌, take, drop, length, ◌<◌, ◌≤◌, inl, inr, Bool, true, false, Option, Some, None, IfSome}
use Rattle.trace_stream.proofs.Common.{IsAtEnd, lines_of, Signal, Report, report_from, report, output, accepts, MAX_INPUT, Progress, Status, Streams, Takes, Puts, PutsFront, whole_lines, AnswersAll, IsStopped, AnswersBrokenOff, is_refused, answering_of_run, HasRefused, PutsWhole, PutsNothingOrFront, LeavesStreams, IsRefusedForCause, HasAnsweredLines, IsMidway, HasFront, Reports, status_if_accepted}
use Rattle.std.proofs.lemmas.List.{append-nil, take_all}
use Rattle.trace_lines.proofs.laws.OutputsLaws.{alike}
use Rattle.trace_stream.specs.declared.status.Status.TheVariants as ends
use Rattle.trace_stream.proofs.ReadingLemmas.{split_at, all_read, takes_none}
use Rattle.trace_stream.proofs.AnswersLemmas.{stops_end, cut_at}
use Rattle.trace_stream.proofs.ProgressLemmas.{same_front, stops_report}

-- what a run leaves, where the source tells its bytes
abbrev pub Ends : Signal → Status → Option (List ℕ) → Option (List ℕ) → Option (List ℕ) → Option (List ℕ) → Type 0
Ends signal status old left before now = IfSome old (λ bytes. LeavesStreams (answering_of_run signal) status bytes left before now)

abbrev pub Fronts : Signal → Option (List ℕ) → Option (List ℕ) → Option (List ℕ) → Type 0
Fronts signal old before now = IfSome old (λ bytes. PutsNothingOrFront (answering_of_run signal) bytes before now)

-- lines are accepted as a report on them says, whatever it tells
accepted_as : (signal : Signal) (lines : List (List ℕ)) (text : List ℕ) (accepted : Bool) → report_from signal 0 lines ≡ record { written = text; accepted = accepted }
    → accepts lines ≡ accepted
accepted_as signal lines text accepted is = sym (alike signal lines) ∙ ap (λ (r : Report). r.accepted) is

-- the text as a whole was written
puts_report : (signal : Signal) (before now : Option (List ℕ)) (text bytes : List ℕ) (accepted : Bool) → report signal bytes ≡ record { written = text; accepted = accepted }
    → Puts before now text → PutsWhole (answering_of_run signal) bytes before now
puts_report signal before now text bytes accepted is put = (text, sym (ap (λ (r : Report). r.written) is), put)

-- some of the output was written
puts_some : (signal : Signal) (before now : Option (List ℕ)) (bytes : List ℕ) → PutsFront before now (output signal bytes) → PutsNothingOrFront (answering_of_run signal) bytes before now
puts_some signal before now bytes put = inr (output signal bytes, refl, put)

leaves_whole : (signal : Signal) (accepted : Bool) (bytes : List ℕ) (left before now : Option (List ℕ)) (text read : List ℕ) → Takes (Some bytes) left read → IsAtEnd left
    → length bytes ≤ MAX_INPUT → report signal bytes ≡ record { written = text; accepted = accepted } → Puts before now text
    → LeavesStreams (answering_of_run signal) (status_if_accepted accepted) bytes left before now
leaves_whole signal false bytes left before now text read took none short told put = record {
  refused = accepted_as signal (lines_of bytes) text false told;
  read = read;
  took = took;
  place = inr ((all_read bytes left read took none).0, short);
  put = puts_report signal before now text bytes false told put;
}
leaves_whole signal true bytes left before now text read took none short told put = (
  record { short = short; accepted = accepted_as signal (lines_of bytes) text true told },
  (all_read bytes left read took none).0,
  puts_report signal before now text bytes true told put,
)

-- a whole line is refused
leaves_refused : (signal : Signal) (most : ℕ) (bytes : List ℕ) (left before now : Option (List ℕ)) (text read : List ℕ) → Takes (Some bytes) left read
    → IsStopped signal (whole_lines (take most read)) text → Puts before now text
    → (report signal bytes ≡ record { written = text; accepted = false }) × HasRefused accepts (whole_lines (take most read))
leaves_refused signal most bytes left before now text read took stops put =
    let is : report signal (read ++ took.0) ≡ record { written = text; accepted = false } =
    subst (λ (b : List ℕ). report signal b ≡ record { written = text; accepted = false }) (split_at most read took.0) (stops_report signal (take most read) (drop most read ++ took.0) text stops) in
    (ap (report signal) took.2 ∙ is, record { some = stops.some; refused = accepted_as signal (whole_lines (take most read)) text false (stops_end signal (whole_lines (take most read)) text stops) })

-- nothing was written that isn't a front of the output
pub front_of : (signal : Signal) (most : ℕ) (old left before now : Option (List ℕ)) (read : List ℕ) → Takes old left read → HasFront signal before now (take most read)
    → Fronts signal old before now
front_of signal most None left before now read took front = tt
front_of signal most (Some bytes) left before now read took front =
    puts_some signal before now bytes (subst (λ (b : List ℕ). PutsFront before now (output signal b)) (split_at most read took.0 ∙ sym took.2) (front (drop most read ++ took.0)))

-- no byte was left
pub ends_whole : (signal : Signal) (accepted : Bool) (old left before now : Option (List ℕ)) (read : List ℕ) → Takes old left read → IsAtEnd left → length read ≤ MAX_INPUT
    → Reports signal accepted before now read → Ends signal (status_if_accepted accepted) old left before now
ends_whole signal accepted None left before now read took none short told = tt
ends_whole signal accepted (Some bytes) left before now read took none short told =
    let same : read ≡ bytes = (all_read bytes left read took none).1 in
    leaves_whole signal accepted bytes left before now told.0 read took none
    (subst (λ (b : List ℕ). length b ≤ MAX_INPUT) same short)
    (subst (λ (b : List ℕ). report signal b ≡ record { written = told.0; accepted = accepted }) same told.1) told.2

pub front_whole : (signal : Signal) (old left before now : Option (List ℕ)) (read : List ℕ) → Takes old left read → IsAtEnd left
    → PutsFront before now (output signal read) → Fronts signal old before now
front_whole signal None left before now read took none put = tt
front_whole signal (Some bytes) left before now read took none put =
    puts_some signal before now bytes (subst (λ (b : List ℕ). PutsFront before now (output signal b)) ((all_read bytes left read took none).1) put)

pub reports_front : (signal : Signal) (accepted : Bool) (before now : Option (List ℕ)) (read : List ℕ) → Reports signal accepted before now read → PutsFront before now (output signal read)
reports_front signal accepted before now read told = (told.0, same_front signal told.0 read accepted told.1, told.2)

pub ends_met : (signal : Signal) (accepted told : Bool) (old mid left before now : Option (List ℕ)) (read buf : List ℕ) (total count : ℕ) → Takes old mid read → Takes mid left (take count buf) → count ≡ 0
    → IsAtEnd left → total ≡ length read → total ≤ MAX_INPUT → told ≡ accepted → Reports signal told before now (take MAX_INPUT read) → Ends signal (status_if_accepted accepted) old left before now
ends_met signal accepted told old mid left before now read buf total count first second gone none size within is reports =
    let short : length read ≤ MAX_INPUT = subst (λ (n : ℕ). n ≤ MAX_INPUT) size within in
    ends_whole signal accepted old left before now read (takes_none old mid left read buf count first second gone) none short
    (subst (λ (b : List ℕ). Reports signal accepted before now b) (take_all MAX_INPUT read short)
    (subst (λ (a : Bool). Reports signal a before now (take MAX_INPUT read)) is reports))

pub front_met : (signal : Signal) (old mid left before now : Option (List ℕ)) (read buf : List ℕ) (total count : ℕ) → Takes old mid read → Takes mid left (take count buf) → count ≡ 0
    → IsAtEnd left → total ≡ length read → total ≤ MAX_INPUT → PutsFront before now (output signal (take MAX_INPUT read)) → Fronts signal old before now
front_met signal old mid left before now read buf total count first second gone none size within put =
    let short : length read ≤ MAX_INPUT = subst (λ (n : ℕ). n ≤ MAX_INPUT) size within in
    front_whole signal old left before now read (takes_none old mid left read buf count first second gone) none
    (subst (λ (b : List ℕ). PutsFront before now (output signal b)) (take_all MAX_INPUT read short) put)

-- what the lines that came whole are answered, where none is refused, is all written
answered_all : (signal : Signal) (put front : List ℕ) (p : Progress) → HasAnsweredLines signal put front p → p.answers.written.text.items ≡ [] → is_refused p.answers.stage ≡ false
    → AnswersAll signal (whole_lines front) put
answered_all signal put front p k empty going =
    let cuts : AnswersBrokenOff signal (is_refused p.answers.stage) (whole_lines front) (put ++ p.answers.written.text.items) =
    cut_at signal p.answers.stage (whole_lines front) p.answers.line_count (put ++ p.answers.written.text.items) p.answers.written.count k.answered in
    let text : put ++ p.answers.written.text.items ≡ put = ap (λ (r : List ℕ). put ++ r) empty ∙ append-nil put in
    (rw (going, text) at cuts).0

-- a read failed
pub ends_fault : (signal : Signal) (old left before now : Option (List ℕ)) (read : List ℕ) (p : Progress) → Takes old left read → length read ≤ MAX_INPUT
    → IsMidway signal before now (take MAX_INPUT read) p → p.answers.written.text.items ≡ [] → is_refused p.answers.stage ≡ false
    → Ends signal ends.ReadFault old left before now
ends_fault signal None left before now read p took short m empty going = tt
ends_fault signal (Some bytes) left before now read p took short m empty going = record {
  read = read;
  took = took;
  text = m.put;
  answered = subst (λ (b : List ℕ). AnswersAll signal (whole_lines b) m.put) (take_all MAX_INPUT read short) (answered_all signal m.put (take MAX_INPUT read) p m.keeps empty going);
  put = m.puts;
}

-- too much came
pub ends_long : (signal : Signal) (old left before now : Option (List ℕ)) (read : List ℕ) (p : Progress) → Takes old left read → MAX_INPUT < length read
    → IsMidway signal before now (take MAX_INPUT read) p → p.answers.written.text.items ≡ [] → is_refused p.answers.stage ≡ false
    → Ends signal ends.TooLong old left before now
ends_long signal None left before now read p took long m empty going = tt
ends_long signal (Some bytes) left before now read p took long m empty going = record {
  read = read;
  took = took;
  long = long;
  text = m.put;
  answered = answered_all signal m.put (take MAX_INPUT read) p m.keeps empty going;
  put = m.puts;
}

-- a line was refused
stopped : (signal : Signal) (put front : List ℕ) (p : Progress) → HasAnsweredLines signal put front p → p.answers.written.text.items ≡ [] → is_refused p.answers.stage ≡ true
    → IsStopped signal (whole_lines front) put
stopped signal put front p k empty going =
    let cuts : AnswersBrokenOff signal (is_refused p.answers.stage) (whole_lines front) (put ++ p.answers.written.text.items) =
    cut_at signal p.answers.stage (whole_lines front) p.answers.line_count (put ++ p.answers.written.text.items) p.answers.written.count k.answered in
    let text : put ++ p.answers.written.text.items ≡ put = ap (λ (r : List ℕ). put ++ r) empty ∙ append-nil put in
    rw (going, text) at cuts

pub ends_refused : (signal : Signal) (old left before now : Option (List ℕ)) (read : List ℕ) (p : Progress) → Takes old left read
    → IsMidway signal before now (take MAX_INPUT read) p → p.answers.written.text.items ≡ [] → is_refused p.answers.stage ≡ true
    → Ends signal ends.Refused old left before now
ends_refused signal None left before now read p took m empty is = tt
ends_refused signal (Some bytes) left before now read p took m empty is =
    let facts = leaves_refused signal MAX_INPUT bytes left before now m.put read took (stopped signal m.put (take MAX_INPUT read) p m.keeps empty is) m.puts in
    record {
      refused = accepted_as signal (lines_of bytes) m.put false facts.0;
      read = read;
      took = took;
      place = inl facts.1;
      put = puts_report signal before now m.put bytes false facts.0 m.puts;
    }

pub refused_at : (signal : Signal) (before now : Streams) (read : List ℕ) (p : Progress) → Takes before.left now.left read
    → IsMidway signal before.held now.held (take MAX_INPUT read) p → p.answers.written.text.items ≡ [] → is_refused p.answers.stage ≡ true
    → IsRefusedForCause (answering_of_run signal) ends.Refused before now
refused_at signal before now read p took m empty is = λ same.
    let stops : IsStopped signal (whole_lines (take MAX_INPUT read)) m.put = stopped signal m.put (take MAX_INPUT read) p m.keeps empty is in (
      read,
      took,
      inl (record {
        some = stops.some;
        refused = accepted_as signal (whole_lines (take MAX_INPUT read)) m.put false (stops_end signal (whole_lines (take MAX_INPUT read)) m.put stops);
      }),
    )
