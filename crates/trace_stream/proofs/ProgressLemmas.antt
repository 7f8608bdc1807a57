-- A run goes on behind a piece of its input.
use Rattle.std.proofs.Common.{◌≡◌, ℕ, List, [], ◌∷◌, ◌++◌, refl, sym, ap, subst, ◌∙◌, append_assoc, take, length, ◌<◌, ◌≤◌, ◌+◌, ◌-◌, arith, zero, suc, inl, inr, Bool, true, false, min, Option, Result, Ok, Err, OnOk}
use Rattle.trace_stream.proofs.Common.{cases_lt, lines_of, Signal, Report, report_from, report, output, IsFrontOf, Puts, PutsFront, has_feed, whole_part, whole_lines, AnswersTo, IsStopped, AnswersBrokenOff, is_refused, HasAnsweredLines, IsMidway, HasFront, Progress, only_line}
use Rattle.std.proofs.lemmas.List.{append-nil, take_all, take-take, length-append, length-take-le}
use Rattle.trace_stream.specs.declared.answers.Answers.{Answers}
use Rattle.trace_stream.proofs.StreamsLemmas.{puts_more}
use Rattle.trace_stream.proofs.LinesLemmas.{lines_on, lines_ended, lines_last, feedless, part_ended, part_still, kept_still, rest_still}
use Rattle.trace_stream.proofs.AnswersLemmas.{cut_at}

-- ---- what is kept

-- a line ends
pub ended : (signal : Signal) (put front line : List ℕ) (old new : Progress) → HasAnsweredLines signal put front old → has_feed line ≡ false → new.partial_line.items ≡ []
    → AnswersTo signal put (whole_lines front ++ (old.partial_line.items ++ line) ∷ []) new.answers → HasAnsweredLines signal put (front ++ line ++ 10 ∷ []) new
ended signal put front line old new k none empty a =
    let all : List ℕ = front ++ line ++ 10 ∷ [] in
    record {
      parts = sym (ap (λ (r : List ℕ). whole_part all ++ r) empty ∙ append-nil (whole_part all) ∙ part_ended front line);
      rest = ap has_feed empty;
      answered = subst (λ (ls : List (List ℕ)). AnswersTo signal put ls new.answers) (sym (lines_ended front old.partial_line.items line k.parts k.rest none)) a;
    }

-- the same, where nothing was kept of it
pub ended_whole : (signal : Signal) (put front line : List ℕ) (p : Progress) (answers : Answers) → HasAnsweredLines signal put front p → has_feed line ≡ false → p.partial_line.items ≡ []
    → AnswersTo signal put (whole_lines front ++ line ∷ []) answers → HasAnsweredLines signal put (front ++ line ++ 10 ∷ []) (record p { answers = answers })
ended_whole signal put front line p answers k none empty a =
    ended signal put front line p (record p { answers = answers }) k none empty
    (subst (λ (kept : List ℕ). AnswersTo signal put (whole_lines front ++ (kept ++ line) ∷ []) answers) (sym empty) a)

-- bytes came that end no line
pub kept_on : (signal : Signal) (put front piece : List ℕ) (old new : Progress) → HasAnsweredLines signal put front old → has_feed piece ≡ false
    → new.partial_line.items ≡ old.partial_line.items ++ piece → new.answers ≡ old.answers → HasAnsweredLines signal put (front ++ piece) new
kept_on signal put front piece old new k none is same = record {
  parts = kept_still front old.partial_line.items piece k.parts none ∙ ap (λ (r : List ℕ). whole_part (front ++ piece) ++ r) (sym is);
  rest = ap has_feed is ∙ rest_still old.partial_line.items piece k.rest none;
  answered = rw same (subst (λ (ls : List (List ℕ)). AnswersTo signal put ls old.answers) (ap lines_of (sym (part_still front piece none))) k.answered);
}

-- what was answered is put
pub put_on : (signal : Signal) (put front : List ℕ) (old new : Progress) → HasAnsweredLines signal put front old
    → new.answers.stage ≡ old.answers.stage → new.answers.line_count ≡ old.answers.line_count → new.answers.written.count ≡ old.answers.written.count
    → new.answers.written.text.items ≡ [] → new.partial_line ≡ old.partial_line → HasAnsweredLines signal (put ++ old.answers.written.text.items) front new
put_on signal put front old new k stage lines count empty kept =
    let text : List ℕ = put ++ old.answers.written.text.items in
    let none : text ++ new.answers.written.text.items ≡ text = ap (λ (r : List ℕ). text ++ r) empty ∙ append-nil text in
    record {
      parts = rw kept k.parts;
      rest = rw kept k.rest;
      answered = rw (none, stage, lines, count) k.answered;
    }

pub midway_put : (signal : Signal) (before mid now : Option (List ℕ)) (front : List ℕ) (old new : Progress) → IsMidway signal before mid front old
    → Puts mid now old.answers.written.text.items
    → new.answers.stage ≡ old.answers.stage → new.answers.line_count ≡ old.answers.line_count → new.answers.written.count ≡ old.answers.written.count
    → new.answers.written.text.items ≡ [] → new.partial_line ≡ old.partial_line → IsMidway signal before now front new
midway_put signal before mid now front old new m puts stage lines count empty kept = record {
  put = m.put ++ old.answers.written.text.items;
  puts = puts_more before mid now m.put old.answers.written.text.items m.puts puts;
  keeps = put_on signal m.put front old new m.keeps stage lines count empty kept;
}

-- ---- fronts of the output

pub same_front : (signal : Signal) (text bytes : List ℕ) (accepted : Bool) → report signal bytes ≡ record { written = text; accepted = accepted } → IsFrontOf text (output signal bytes)
same_front signal text bytes accepted is = ([], ap (λ (r : Report). r.written) is ∙ sym (append-nil text))

-- a whole line is refused, whatever bytes follow
pub stops_report : (signal : Signal) (bytes tail text : List ℕ) → IsStopped signal (whole_lines bytes) text → report signal (bytes ++ tail) ≡ record { written = text; accepted = false }
stops_report signal bytes tail text stops = let on = lines_on bytes tail in ap (report_from signal 0) on.1 ∙ stops.report_is on.0

cut_front : (signal : Signal) (refused : Bool) (bytes tail text : List ℕ) → AnswersBrokenOff signal refused (whole_lines bytes) text → IsFrontOf text (output signal (bytes ++ tail))
cut_front signal true bytes tail text stops = same_front signal text (bytes ++ tail) false (stops_report signal bytes tail text stops)
cut_front signal false bytes tail text cuts =
    let on = lines_on bytes tail in
    let front = cuts.1 on.0 in
    (front.0, ap (λ (ls : List (List ℕ)). (report_from signal 0 ls).written) on.1 ∙ front.1)

pub front_again : (text part bytes : List ℕ) → IsFrontOf part text → IsFrontOf text bytes → IsFrontOf part bytes
front_again text part bytes first second =
    (first.0 ++ second.0, second.1 ∙ ap (λ (t : List ℕ). t ++ second.0) first.1 ∙ append_assoc part first.0 second.0)

-- what is answered, written or not, is a front of the output
answered_front : (signal : Signal) (put front tail : List ℕ) (p : Progress) → HasAnsweredLines signal put front p → IsFrontOf (put ++ p.answers.written.text.items) (output signal (front ++ tail))
answered_front signal put front tail p k =
    cut_front signal (is_refused p.answers.stage) front tail (put ++ p.answers.written.text.items)
    (cut_at signal p.answers.stage (whole_lines front) p.answers.line_count (put ++ p.answers.written.text.items) p.answers.written.count k.answered)

pub put_front : (put part text : List ℕ) → IsFrontOf part text → IsFrontOf (put ++ part) (put ++ text)
put_front put part text front = (front.0, ap (λ (t : List ℕ). put ++ t) front.1 ∙ sym (append_assoc put part front.0))

-- nothing more was written
pub left_front : (signal : Signal) (before now : Option (List ℕ)) (front : List ℕ) (p : Progress) → IsMidway signal before now front p → HasFront signal before now front
left_front signal before now front p m = λ tail.
    (m.put, front_again (m.put ++ p.answers.written.text.items) m.put (output signal (front ++ tail)) (p.answers.written.text.items, refl) (answered_front signal m.put front tail p m.keeps), m.puts)

-- a front of what was answered was written
pub broken_front : (signal : Signal) (before mid now : Option (List ℕ)) (front : List ℕ) (p : Progress) → IsMidway signal before mid front p
    → PutsFront mid now p.answers.written.text.items → HasFront signal before now front
broken_front signal before mid now front p m part = λ tail. (
  m.put ++ part.0,
  front_again (m.put ++ p.answers.written.text.items) (m.put ++ part.0) (output signal (front ++ tail))
      (put_front m.put part.0 p.answers.written.text.items part.1) (answered_front signal m.put front tail p m.keeps),
  puts_more before mid now m.put part.0 m.puts part.2,
)

-- the same of more bytes
pub front_on : (signal : Signal) (before now : Option (List ℕ)) (front more : List ℕ) → HasFront signal before now front → HasFront signal before now (front ++ more)
front_on signal before now front more h = λ tail.
    subst (λ (b : List ℕ). PutsFront before now (output signal b)) (sym (append_assoc front more tail)) (h (more ++ tail))

-- ---- pieces

-- the same, of a piece of which some was taken in
pub front_of_piece : (signal : Signal) (before now : Option (List ℕ)) (front done rest piece : List ℕ) → piece ≡ done ++ rest → HasFront signal before now (front ++ done) → HasFront signal before now (front ++ piece)
front_of_piece signal before now front done rest piece is h =
    subst (λ (b : List ℕ). HasFront signal before now b) (append_assoc front done rest ∙ ap (λ (p : List ℕ). front ++ p) (sym is)) (front_on signal before now (front ++ done) rest h)

-- a line more of a piece is taken in
pub piece_on : (piece done rest line after : List ℕ) → piece ≡ done ++ rest → rest ≡ line ++ 10 ∷ after → piece ≡ (done ++ line ++ 10 ∷ []) ++ after
piece_on piece done rest line after is parts =
    is ∙ ap (λ (r : List ℕ). done ++ r) parts ∙ sym (append_assoc done line (10 ∷ after)) ∙ sym (append_assoc (done ++ line) (10 ∷ []) after)

front_line : (front done line : List ℕ) → (front ++ done) ++ line ++ 10 ∷ [] ≡ front ++ (done ++ line ++ 10 ∷ [])
front_line front done line =
    append_assoc (front ++ done) line (10 ∷ []) ∙ append_assoc front done (line ++ 10 ∷ []) ∙ ap (λ (r : List ℕ). front ++ r) (sym (append_assoc done line (10 ∷ [])))

-- a line of a piece is answered
pub midway_line : (signal : Signal) (before now : Option (List ℕ)) (front done line : List ℕ) (old new : Progress) → IsMidway signal before now (front ++ done) old
    → ((put behind : List ℕ) → HasAnsweredLines signal put behind old → HasAnsweredLines signal put (behind ++ line ++ 10 ∷ []) new) → IsMidway signal before now (front ++ (done ++ line ++ 10 ∷ [])) new
midway_line signal before now front done line old new m keeps = record {
  put = m.put;
  puts = m.puts;
  keeps = subst (λ (f : List ℕ). HasAnsweredLines signal m.put f new) (front_line front done line) (keeps m.put (front ++ done) m.keeps);
}

-- the rest of a piece is kept
pub midway_kept : (signal : Signal) (before now : Option (List ℕ)) (front done rest piece : List ℕ) (old new : Progress) → IsMidway signal before now (front ++ done) old → piece ≡ done ++ rest
    → has_feed rest ≡ false → new.partial_line.items ≡ old.partial_line.items ++ rest → new.answers ≡ old.answers → IsMidway signal before now (front ++ piece) new
midway_kept signal before now front done rest piece old new m is none items same = record {
  put = m.put;
  puts = m.puts;
  keeps = subst (λ (f : List ℕ). HasAnsweredLines signal m.put f new) (append_assoc front done rest ∙ ap (λ (p : List ℕ). front ++ p) (sym is))
      (kept_on signal m.put (front ++ done) rest old new m.keeps none items same);
}

take_behind : (read xs : List ℕ) (most : ℕ) → length read ≤ most → take most (read ++ xs) ≡ read ++ take (most - length read) xs
take_behind [] xs most within = let same : most ≡ most - length {A = ℕ} [] = omega arith in ap (λ (n : ℕ). take n xs) same
take_behind (b ∷ bs) xs zero within = absurd (omega (arith, within))
take_behind (b ∷ bs) xs (suc most) within =
    let same : most - length bs ≡ suc most - length (b ∷ bs) = omega arith in
    ap (λ (r : List ℕ). b ∷ r) (take_behind bs xs most (omega (arith, within)) ∙ ap (λ (n : ℕ). bs ++ take n xs) same)

take_short : (a : ℕ) (xs : List ℕ) → length (take a xs) ≤ a
take_short zero xs = omega arith
take_short (suc a) [] = omega arith
take_short (suc a) (x ∷ xs) = omega (arith, take_short a xs)

take_least : (a b : ℕ) (xs : List ℕ) → take (min a b) xs ≡ take b (take a xs)
take_least a b xs = elim (cases_lt b a) [
  | inl below ↦ (let same : min a b ≡ b = omega (arith, below) in ap (λ (n : ℕ). take n xs) same ∙ sym (take-take b a xs (omega (arith, below))))
  | inr above ↦ (
      let same : min a b ≡ a = omega (arith, above) in
      ap (λ (n : ℕ). take n xs) same ∙ sym (take_all b (take a xs) (omega (arith, take_short a xs, above))))
]

-- a block more is read, of which no more is fed than the longest input has
pub take_piece : (most total count least : ℕ) (read block : List ℕ) → total ≡ length read → total ≤ most → least ≡ min count (most - total)
    → take most read ++ take least block ≡ take most (read ++ take count block)
take_piece most total count least read block size within is =
    let all : take most read ≡ read = take_all most read (omega (arith, size, within)) in
    let part : take least block ≡ take (most - length read) (take count block) =
    ap (λ (n : ℕ). take n block) is ∙ take_least count (most - total) block ∙ ap (λ (n : ℕ). take (most - n) (take count block)) size in
    ap (λ (r : List ℕ). r ++ take least block) all ∙ ap (λ (r : List ℕ). read ++ r) part ∙ sym (take_behind read (take count block) most (omega (arith, size, within)))

-- what was read, with a block more
pub size_on : (read buf : List ℕ) (total count : ℕ) → total ≡ length read → count ≤ length buf → total + count ≡ length (read ++ take count buf)
size_on read buf total count size within =
    let some : length (take count buf) ≡ count = length-take-le count buf within in
    omega (arith, size, some, length-append read (take count buf))

-- ---- the end of the input

-- nothing more was written
pub last_left : (signal : Signal) (before now : Option (List ℕ)) (front : List ℕ) (p : Progress) → IsMidway signal before now front p → PutsFront before now (output signal front)
last_left signal before now front p m =
    subst (λ (b : List ℕ). PutsFront before now (output signal b)) (append-nil front) (left_front signal before now front p m [])

-- a front of what was left to write was written
pub last_broken : (signal : Signal) (accepted : Bool) (before mid now : Option (List ℕ)) (put front text : List ℕ) → Puts before mid put
    → report signal front ≡ record { written = put ++ text; accepted = accepted } → PutsFront mid now text → PutsFront before now (output signal front)
last_broken signal accepted before mid now put front text puts told part = (
  put ++ part.0,
  front_again (put ++ text) (put ++ part.0) (output signal front) (put_front put part.0 text part.1) (same_front signal (put ++ text) front accepted told),
  puts_more before mid now put part.0 puts part.2,
)

-- what is kept is the last line
pub lines_kept : (front kept : List ℕ) → front ≡ whole_part front ++ kept → has_feed kept ≡ false → 0 < length kept → lines_of front ≡ whole_lines front ++ kept ∷ []
lines_kept front kept parts rest some = lines_last front kept parts ∙ ap (λ (ls : List (List ℕ)). whole_lines front ++ ls) (only_line kept some (feedless kept rest))

pub on_ok_then : {T E P Q : Type 0} (r : Result T E) → (P → Q) → OnOk r P → OnOk r Q
on_ok_then (Ok x) f p = f p
on_ok_then (Err e) f p = tt
