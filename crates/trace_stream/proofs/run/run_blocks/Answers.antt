use Rattle.std.proofs.Common.{rules, ◌≡◌, ◌<◌, ◌≤◌, ◌++◌, ◌∙◌, sym, subst, ℕ, List, length, take, false, true, inr}
use Rattle.trace_stream.proofs.Common.{IsAtEnd, MAX_INPUT, MeetsEnd, Takes, streams_of, IsMidway, HasFront}
use Rattle.trace_stream.proofs.StreamsLemmas.{takes_more, takes_still}
use Rattle.trace_stream.proofs.ProgressLemmas.{left_front, take_piece, size_on}
use Rattle.trace_stream.proofs.EndsLemmas.{ends_met, front_met, reports_front, ends_fault, ends_long, ends_refused, refused_at, front_of}
use Rattle.trace_stream.proofs.ReadingLemmas.{takes_none}
use Rattle.trace_stream.proofs.run.run_blocks.Goals as goal

pub returns-in-Ok-true-clause-leaves : goal.returns-in-Ok-true-clause-leaves
returns-in-Ok-true-clause-leaves g c =
    let told = c.loop-total.invariant.told in
    let room : 0 < length c.read.new.buf = search rules in
    let none : IsAtEnd (g.R.Source.remaining c.read.new.self) = c.in-Ok-eq0.ensures.end c.in-Ok-eq0.field-0-test room in
    ends_met c.args.signal true c.in-Ok-true.field-0 (g.R.Source.remaining c.args.source.now) (g.R.Source.remaining c.loop-total.source) (g.R.Source.remaining c.read.new.self) (g.W.Sink.holds c.args.sink.now) (g.W.Sink.holds c.finish.new.sink) told.0 c.read.new.buf c.loop-total.total c.in-Ok-eq0.field-0
    told.1 c.in-Ok-eq0.ensures.bytes c.in-Ok-eq0.field-0-test none told.2 c.loop-total-test.true c.in-Ok-true.field-0-test
    (c.in-Ok-true.ensures.ends (g.W.Sink.holds c.args.sink.now) (take MAX_INPUT told.0) told.3)

pub returns-in-Ok-true-clause-front : goal.returns-in-Ok-true-clause-front
returns-in-Ok-true-clause-front g c =
    let told = c.loop-total.invariant.told in
    let room : 0 < length c.read.new.buf = search rules in
    let none : IsAtEnd (g.R.Source.remaining c.read.new.self) = c.in-Ok-eq0.ensures.end c.in-Ok-eq0.field-0-test room in
    front_met c.args.signal (g.R.Source.remaining c.args.source.now) (g.R.Source.remaining c.loop-total.source) (g.R.Source.remaining c.read.new.self) (g.W.Sink.holds c.args.sink.now) (g.W.Sink.holds c.finish.new.sink) told.0 c.read.new.buf c.loop-total.total c.in-Ok-eq0.field-0
    told.1 c.in-Ok-eq0.ensures.bytes c.in-Ok-eq0.field-0-test none told.2 c.loop-total-test.true
    (reports_front c.args.signal c.in-Ok-true.field-0 (g.W.Sink.holds c.args.sink.now) (g.W.Sink.holds c.finish.new.sink) (take MAX_INPUT told.0) (c.in-Ok-true.ensures.ends (g.W.Sink.holds c.args.sink.now) (take MAX_INPUT told.0) told.3))

pub returns-in-Ok-false-clause-leaves : goal.returns-in-Ok-false-clause-leaves
returns-in-Ok-false-clause-leaves g c =
    let told = c.loop-total.invariant.told in
    let room : 0 < length c.read.new.buf = search rules in
    let none : IsAtEnd (g.R.Source.remaining c.read.new.self) = c.in-Ok-eq0.ensures.end c.in-Ok-eq0.field-0-test room in
    ends_met c.args.signal false c.in-Ok-false.field-0 (g.R.Source.remaining c.args.source.now) (g.R.Source.remaining c.loop-total.source) (g.R.Source.remaining c.read.new.self) (g.W.Sink.holds c.args.sink.now) (g.W.Sink.holds c.finish.new.sink) told.0 c.read.new.buf c.loop-total.total c.in-Ok-eq0.field-0
    told.1 c.in-Ok-eq0.ensures.bytes c.in-Ok-eq0.field-0-test none told.2 c.loop-total-test.true c.in-Ok-false.field-0-test
    (c.in-Ok-false.ensures.ends (g.W.Sink.holds c.args.sink.now) (take MAX_INPUT told.0) told.3)

pub returns-in-Ok-false-clause-front : goal.returns-in-Ok-false-clause-front
returns-in-Ok-false-clause-front g c =
    let told = c.loop-total.invariant.told in
    let room : 0 < length c.read.new.buf = search rules in
    let none : IsAtEnd (g.R.Source.remaining c.read.new.self) = c.in-Ok-eq0.ensures.end c.in-Ok-eq0.field-0-test room in
    front_met c.args.signal (g.R.Source.remaining c.args.source.now) (g.R.Source.remaining c.loop-total.source) (g.R.Source.remaining c.read.new.self) (g.W.Sink.holds c.args.sink.now) (g.W.Sink.holds c.finish.new.sink) told.0 c.read.new.buf c.loop-total.total c.in-Ok-eq0.field-0
    told.1 c.in-Ok-eq0.ensures.bytes c.in-Ok-eq0.field-0-test none told.2 c.loop-total-test.true
    (reports_front c.args.signal c.in-Ok-false.field-0 (g.W.Sink.holds c.args.sink.now) (g.W.Sink.holds c.finish.new.sink) (take MAX_INPUT told.0) (c.in-Ok-false.ensures.ends (g.W.Sink.holds c.args.sink.now) (take MAX_INPUT told.0) told.3))

pub returns-in-Ok-false-clause-refused : goal.returns-in-Ok-false-clause-refused
returns-in-Ok-false-clause-refused g c = λ refused.
    let told = c.loop-total.invariant.told in
    let room : 0 < length c.read.new.buf = search rules in (
      told.0,
      takes_none (g.R.Source.remaining c.args.source.now) (g.R.Source.remaining c.loop-total.source) (g.R.Source.remaining c.read.new.self) told.0 c.read.new.buf c.in-Ok-eq0.field-0
          told.1 c.in-Ok-eq0.ensures.bytes c.in-Ok-eq0.field-0-test,
      inr (subst (λ (m : ℕ). MeetsEnd m (g.R.Source.ends c.read.new.self)) c.loop-total.invariant.goes (c.in-Ok-eq0.ensures.met c.in-Ok-eq0.field-0-test room)),
    )

pub returns-in-Err-Memory-clause-leaves : goal.returns-in-Err-Memory-clause-leaves
returns-in-Err-Memory-clause-leaves g c =
    let told = c.loop-total.invariant.told in
    let room : 0 < length c.read.new.buf = search rules in
    let none : IsAtEnd (g.R.Source.remaining c.read.new.self) = c.in-Ok-eq0.ensures.end c.in-Ok-eq0.field-0-test room in
    front_met c.args.signal (g.R.Source.remaining c.args.source.now) (g.R.Source.remaining c.loop-total.source) (g.R.Source.remaining c.read.new.self) (g.W.Sink.holds c.args.sink.now) (g.W.Sink.holds c.finish.new.sink) told.0 c.read.new.buf c.loop-total.total c.in-Ok-eq0.field-0
    told.1 c.in-Ok-eq0.ensures.bytes c.in-Ok-eq0.field-0-test none told.2 c.loop-total-test.true
    (c.in-Err-Memory.ensures.ends (g.W.Sink.holds c.args.sink.now) (take MAX_INPUT told.0) told.3)

pub returns-in-Err-Memory-clause-front : goal.returns-in-Err-Memory-clause-front
returns-in-Err-Memory-clause-front g c =
    let told = c.loop-total.invariant.told in
    let room : 0 < length c.read.new.buf = search rules in
    let none : IsAtEnd (g.R.Source.remaining c.read.new.self) = c.in-Ok-eq0.ensures.end c.in-Ok-eq0.field-0-test room in
    front_met c.args.signal (g.R.Source.remaining c.args.source.now) (g.R.Source.remaining c.loop-total.source) (g.R.Source.remaining c.read.new.self) (g.W.Sink.holds c.args.sink.now) (g.W.Sink.holds c.finish.new.sink) told.0 c.read.new.buf c.loop-total.total c.in-Ok-eq0.field-0
    told.1 c.in-Ok-eq0.ensures.bytes c.in-Ok-eq0.field-0-test none told.2 c.loop-total-test.true
    (c.in-Err-Memory.ensures.ends (g.W.Sink.holds c.args.sink.now) (take MAX_INPUT told.0) told.3)

pub returns-in-Err-Write-clause-leaves : goal.returns-in-Err-Write-clause-leaves
returns-in-Err-Write-clause-leaves g c =
    let told = c.loop-total.invariant.told in
    let room : 0 < length c.read.new.buf = search rules in
    let none : IsAtEnd (g.R.Source.remaining c.read.new.self) = c.in-Ok-eq0.ensures.end c.in-Ok-eq0.field-0-test room in
    front_met c.args.signal (g.R.Source.remaining c.args.source.now) (g.R.Source.remaining c.loop-total.source) (g.R.Source.remaining c.read.new.self) (g.W.Sink.holds c.args.sink.now) (g.W.Sink.holds c.finish.new.sink) told.0 c.read.new.buf c.loop-total.total c.in-Ok-eq0.field-0
    told.1 c.in-Ok-eq0.ensures.bytes c.in-Ok-eq0.field-0-test none told.2 c.loop-total-test.true
    (c.in-Err-Write.ensures.ends (g.W.Sink.holds c.args.sink.now) (take MAX_INPUT told.0) told.3)

pub returns-in-Err-Write-clause-front : goal.returns-in-Err-Write-clause-front
returns-in-Err-Write-clause-front g c =
    let told = c.loop-total.invariant.told in
    let room : 0 < length c.read.new.buf = search rules in
    let none : IsAtEnd (g.R.Source.remaining c.read.new.self) = c.in-Ok-eq0.ensures.end c.in-Ok-eq0.field-0-test room in
    front_met c.args.signal (g.R.Source.remaining c.args.source.now) (g.R.Source.remaining c.loop-total.source) (g.R.Source.remaining c.read.new.self) (g.W.Sink.holds c.args.sink.now) (g.W.Sink.holds c.finish.new.sink) told.0 c.read.new.buf c.loop-total.total c.in-Ok-eq0.field-0
    told.1 c.in-Ok-eq0.ensures.bytes c.in-Ok-eq0.field-0-test none told.2 c.loop-total-test.true
    (c.in-Err-Write.ensures.ends (g.W.Sink.holds c.args.sink.now) (take MAX_INPUT told.0) told.3)

pub returns-in-Err-clause-leaves : goal.returns-in-Err-clause-leaves
returns-in-Err-clause-leaves g c =
    let told = c.loop-total.invariant.told in
    let took : Takes (g.R.Source.remaining c.args.source.now) (g.R.Source.remaining c.read.new.self) told.0 = takes_still (g.R.Source.remaining c.args.source.now) (g.R.Source.remaining c.loop-total.source) (g.R.Source.remaining c.read.new.self) told.0 told.1 c.in-Err.ensures.kept in
    let short : length told.0 ≤ MAX_INPUT = subst (λ (n : ℕ). n ≤ MAX_INPUT) told.2 c.loop-total-test.true in
    ends_fault c.args.signal (g.R.Source.remaining c.args.source.now) (g.R.Source.remaining c.read.new.self) (g.W.Sink.holds c.args.sink.now) (g.W.Sink.holds c.loop-total.sink) told.0 c.loop-total.progress took short told.3 c.loop-total.invariant.empty c.loop-total.invariant.going

pub returns-in-Err-clause-front : goal.returns-in-Err-clause-front
returns-in-Err-clause-front g c =
    let told = c.loop-total.invariant.told in
    let took : Takes (g.R.Source.remaining c.args.source.now) (g.R.Source.remaining c.read.new.self) told.0 = takes_still (g.R.Source.remaining c.args.source.now) (g.R.Source.remaining c.loop-total.source) (g.R.Source.remaining c.read.new.self) told.0 told.1 c.in-Err.ensures.kept in
    front_of c.args.signal MAX_INPUT (g.R.Source.remaining c.args.source.now) (g.R.Source.remaining c.read.new.self) (g.W.Sink.holds c.args.sink.now) (g.W.Sink.holds c.loop-total.sink) told.0 took
    (left_front c.args.signal (g.W.Sink.holds c.args.sink.now) (g.W.Sink.holds c.loop-total.sink) (take MAX_INPUT told.0) c.loop-total.progress told.3)

pub returns-in-Err-clause-stops : goal.returns-in-Err-clause-stops
returns-in-Err-clause-stops g c = record {
  source = λ fault. (c.loop-total.source, c.loop-total.invariant.reads, c.in-Err.ensures.kept);
  sink = λ fault. absurd (cc fault);
}

pub returns-in-Err-Memory-feed-clause-leaves : goal.returns-in-Err-Memory-feed-clause-leaves
returns-in-Err-Memory-feed-clause-leaves g c =
    let told = c.loop-total.invariant.told in
    let more : List ℕ = take c.in-Ok.count c.read.new.buf in
    let took : Takes (g.R.Source.remaining c.args.source.now) (g.R.Source.remaining c.read.new.self) (told.0 ++ more) = takes_more (g.R.Source.remaining c.args.source.now) (g.R.Source.remaining c.loop-total.source) (g.R.Source.remaining c.read.new.self) told.0 more told.1 c.in-Ok.ensures.bytes in
    let all : take MAX_INPUT told.0 ++ take c.min.result c.read.new.buf ≡ take MAX_INPUT (told.0 ++ more) =
    take_piece MAX_INPUT c.loop-total.total c.in-Ok.count c.min.result told.0 c.read.new.buf told.2 c.loop-total-test.true c.min.ensures in
    front_of c.args.signal MAX_INPUT (g.R.Source.remaining c.args.source.now) (g.R.Source.remaining c.read.new.self) (g.W.Sink.holds c.args.sink.now) (g.W.Sink.holds c.feed.new.sink) (told.0 ++ more) took
    (subst (λ (b : List ℕ). HasFront c.args.signal (g.W.Sink.holds c.args.sink.now) (g.W.Sink.holds c.feed.new.sink) b) all (c.in-Err-Memory-feed.ensures.midway (g.W.Sink.holds c.args.sink.now) (take MAX_INPUT told.0) told.3))

pub returns-in-Err-Memory-feed-clause-front : goal.returns-in-Err-Memory-feed-clause-front
returns-in-Err-Memory-feed-clause-front g c =
    let told = c.loop-total.invariant.told in
    let more : List ℕ = take c.in-Ok.count c.read.new.buf in
    let took : Takes (g.R.Source.remaining c.args.source.now) (g.R.Source.remaining c.read.new.self) (told.0 ++ more) = takes_more (g.R.Source.remaining c.args.source.now) (g.R.Source.remaining c.loop-total.source) (g.R.Source.remaining c.read.new.self) told.0 more told.1 c.in-Ok.ensures.bytes in
    let all : take MAX_INPUT told.0 ++ take c.min.result c.read.new.buf ≡ take MAX_INPUT (told.0 ++ more) =
    take_piece MAX_INPUT c.loop-total.total c.in-Ok.count c.min.result told.0 c.read.new.buf told.2 c.loop-total-test.true c.min.ensures in
    front_of c.args.signal MAX_INPUT (g.R.Source.remaining c.args.source.now) (g.R.Source.remaining c.read.new.self) (g.W.Sink.holds c.args.sink.now) (g.W.Sink.holds c.feed.new.sink) (told.0 ++ more) took
    (subst (λ (b : List ℕ). HasFront c.args.signal (g.W.Sink.holds c.args.sink.now) (g.W.Sink.holds c.feed.new.sink) b) all (c.in-Err-Memory-feed.ensures.midway (g.W.Sink.holds c.args.sink.now) (take MAX_INPUT told.0) told.3))

pub returns-in-Err-Write-feed-clause-leaves : goal.returns-in-Err-Write-feed-clause-leaves
returns-in-Err-Write-feed-clause-leaves g c =
    let told = c.loop-total.invariant.told in
    let more : List ℕ = take c.in-Ok.count c.read.new.buf in
    let took : Takes (g.R.Source.remaining c.args.source.now) (g.R.Source.remaining c.read.new.self) (told.0 ++ more) = takes_more (g.R.Source.remaining c.args.source.now) (g.R.Source.remaining c.loop-total.source) (g.R.Source.remaining c.read.new.self) told.0 more told.1 c.in-Ok.ensures.bytes in
    let all : take MAX_INPUT told.0 ++ take c.min.result c.read.new.buf ≡ take MAX_INPUT (told.0 ++ more) =
    take_piece MAX_INPUT c.loop-total.total c.in-Ok.count c.min.result told.0 c.read.new.buf told.2 c.loop-total-test.true c.min.ensures in
    front_of c.args.signal MAX_INPUT (g.R.Source.remaining c.args.source.now) (g.R.Source.remaining c.read.new.self) (g.W.Sink.holds c.args.sink.now) (g.W.Sink.holds c.feed.new.sink) (told.0 ++ more) took
    (subst (λ (b : List ℕ). HasFront c.args.signal (g.W.Sink.holds c.args.sink.now) (g.W.Sink.holds c.feed.new.sink) b) all (c.in-Err-Write-feed.ensures.midway (g.W.Sink.holds c.args.sink.now) (take MAX_INPUT told.0) told.3))

pub returns-in-Err-Write-feed-clause-front : goal.returns-in-Err-Write-feed-clause-front
returns-in-Err-Write-feed-clause-front g c =
    let told = c.loop-total.invariant.told in
    let more : List ℕ = take c.in-Ok.count c.read.new.buf in
    let took : Takes (g.R.Source.remaining c.args.source.now) (g.R.Source.remaining c.read.new.self) (told.0 ++ more) = takes_more (g.R.Source.remaining c.args.source.now) (g.R.Source.remaining c.loop-total.source) (g.R.Source.remaining c.read.new.self) told.0 more told.1 c.in-Ok.ensures.bytes in
    let all : take MAX_INPUT told.0 ++ take c.min.result c.read.new.buf ≡ take MAX_INPUT (told.0 ++ more) =
    take_piece MAX_INPUT c.loop-total.total c.in-Ok.count c.min.result told.0 c.read.new.buf told.2 c.loop-total-test.true c.min.ensures in
    front_of c.args.signal MAX_INPUT (g.R.Source.remaining c.args.source.now) (g.R.Source.remaining c.read.new.self) (g.W.Sink.holds c.args.sink.now) (g.W.Sink.holds c.feed.new.sink) (told.0 ++ more) took
    (subst (λ (b : List ℕ). HasFront c.args.signal (g.W.Sink.holds c.args.sink.now) (g.W.Sink.holds c.feed.new.sink) b) all (c.in-Err-Write-feed.ensures.midway (g.W.Sink.holds c.args.sink.now) (take MAX_INPUT told.0) told.3))

pub returns-then-is_refused-clause-leaves : goal.returns-then-is_refused-clause-leaves
returns-then-is_refused-clause-leaves g c =
    let told = c.loop-total.invariant.told in
    let more : List ℕ = take c.in-Ok.count c.read.new.buf in
    let took : Takes (g.R.Source.remaining c.args.source.now) (g.R.Source.remaining c.read.new.self) (told.0 ++ more) = takes_more (g.R.Source.remaining c.args.source.now) (g.R.Source.remaining c.loop-total.source) (g.R.Source.remaining c.read.new.self) told.0 more told.1 c.in-Ok.ensures.bytes in
    let all : take MAX_INPUT told.0 ++ take c.min.result c.read.new.buf ≡ take MAX_INPUT (told.0 ++ more) =
    take_piece MAX_INPUT c.loop-total.total c.in-Ok.count c.min.result told.0 c.read.new.buf told.2 c.loop-total-test.true c.min.ensures in
    let midway : IsMidway c.args.signal (g.W.Sink.holds c.args.sink.now) (g.W.Sink.holds c.feed.new.sink) (take MAX_INPUT (told.0 ++ more)) c.feed.new.self =
    subst (λ (b : List ℕ). IsMidway c.args.signal (g.W.Sink.holds c.args.sink.now) (g.W.Sink.holds c.feed.new.sink) b c.feed.new.self) all (c.in-Ok-feed.ensures.midway (g.W.Sink.holds c.args.sink.now) (take MAX_INPUT told.0) told.3) in
    ends_refused c.args.signal (g.R.Source.remaining c.args.source.now) (g.R.Source.remaining c.read.new.self) (g.W.Sink.holds c.args.sink.now) (g.W.Sink.holds c.feed.new.sink) (told.0 ++ more) c.feed.new.self took midway c.in-Ok-feed.ensures.empty (sym c.if-is_refused.ensures)

pub returns-then-is_refused-clause-front : goal.returns-then-is_refused-clause-front
returns-then-is_refused-clause-front g c =
    let told = c.loop-total.invariant.told in
    let more : List ℕ = take c.in-Ok.count c.read.new.buf in
    let took : Takes (g.R.Source.remaining c.args.source.now) (g.R.Source.remaining c.read.new.self) (told.0 ++ more) = takes_more (g.R.Source.remaining c.args.source.now) (g.R.Source.remaining c.loop-total.source) (g.R.Source.remaining c.read.new.self) told.0 more told.1 c.in-Ok.ensures.bytes in
    let all : take MAX_INPUT told.0 ++ take c.min.result c.read.new.buf ≡ take MAX_INPUT (told.0 ++ more) =
    take_piece MAX_INPUT c.loop-total.total c.in-Ok.count c.min.result told.0 c.read.new.buf told.2 c.loop-total-test.true c.min.ensures in
    let midway : IsMidway c.args.signal (g.W.Sink.holds c.args.sink.now) (g.W.Sink.holds c.feed.new.sink) (take MAX_INPUT (told.0 ++ more)) c.feed.new.self =
    subst (λ (b : List ℕ). IsMidway c.args.signal (g.W.Sink.holds c.args.sink.now) (g.W.Sink.holds c.feed.new.sink) b c.feed.new.self) all (c.in-Ok-feed.ensures.midway (g.W.Sink.holds c.args.sink.now) (take MAX_INPUT told.0) told.3) in
    front_of c.args.signal MAX_INPUT (g.R.Source.remaining c.args.source.now) (g.R.Source.remaining c.read.new.self) (g.W.Sink.holds c.args.sink.now) (g.W.Sink.holds c.feed.new.sink) (told.0 ++ more) took
    (left_front c.args.signal (g.W.Sink.holds c.args.sink.now) (g.W.Sink.holds c.feed.new.sink) (take MAX_INPUT (told.0 ++ more)) c.feed.new.self midway)

pub returns-then-is_refused-clause-refused : goal.returns-then-is_refused-clause-refused
returns-then-is_refused-clause-refused g c =
    let told = c.loop-total.invariant.told in
    let more : List ℕ = take c.in-Ok.count c.read.new.buf in
    let took : Takes (g.R.Source.remaining c.args.source.now) (g.R.Source.remaining c.read.new.self) (told.0 ++ more) = takes_more (g.R.Source.remaining c.args.source.now) (g.R.Source.remaining c.loop-total.source) (g.R.Source.remaining c.read.new.self) told.0 more told.1 c.in-Ok.ensures.bytes in
    let all : take MAX_INPUT told.0 ++ take c.min.result c.read.new.buf ≡ take MAX_INPUT (told.0 ++ more) =
    take_piece MAX_INPUT c.loop-total.total c.in-Ok.count c.min.result told.0 c.read.new.buf told.2 c.loop-total-test.true c.min.ensures in
    let midway : IsMidway c.args.signal (g.W.Sink.holds c.args.sink.now) (g.W.Sink.holds c.feed.new.sink) (take MAX_INPUT (told.0 ++ more)) c.feed.new.self =
    subst (λ (b : List ℕ). IsMidway c.args.signal (g.W.Sink.holds c.args.sink.now) (g.W.Sink.holds c.feed.new.sink) b c.feed.new.self) all (c.in-Ok-feed.ensures.midway (g.W.Sink.holds c.args.sink.now) (take MAX_INPUT told.0) told.3) in
    refused_at c.args.signal
    (streams_of g.R.Source.remaining g.R.Source.ends g.R.Source.faults g.W.Sink.holds g.W.Sink.faults c.args.source.now c.args.sink.now)
    (streams_of g.R.Source.remaining g.R.Source.ends g.R.Source.faults g.W.Sink.holds g.W.Sink.faults c.read.new.self c.feed.new.sink) (told.0 ++ more) c.feed.new.self
    took midway c.in-Ok-feed.ensures.empty (sym c.if-is_refused.ensures)

pub loop-total-preserved : goal.loop-total-preserved
loop-total-preserved g c =
    let told = c.loop-total.invariant.told in
    let more : List ℕ = take c.in-Ok.count c.read.new.buf in
    let took : Takes (g.R.Source.remaining c.args.source.now) (g.R.Source.remaining c.read.new.self) (told.0 ++ more) = takes_more (g.R.Source.remaining c.args.source.now) (g.R.Source.remaining c.loop-total.source) (g.R.Source.remaining c.read.new.self) told.0 more told.1 c.in-Ok.ensures.bytes in
    let all : take MAX_INPUT told.0 ++ take c.min.result c.read.new.buf ≡ take MAX_INPUT (told.0 ++ more) =
    take_piece MAX_INPUT c.loop-total.total c.in-Ok.count c.min.result told.0 c.read.new.buf told.2 c.loop-total-test.true c.min.ensures in
    let midway : IsMidway c.args.signal (g.W.Sink.holds c.args.sink.now) (g.W.Sink.holds c.feed.new.sink) (take MAX_INPUT (told.0 ++ more)) c.feed.new.self =
    subst (λ (b : List ℕ). IsMidway c.args.signal (g.W.Sink.holds c.args.sink.now) (g.W.Sink.holds c.feed.new.sink) b c.feed.new.self) all (c.in-Ok-feed.ensures.midway (g.W.Sink.holds c.args.sink.now) (take MAX_INPUT told.0) told.3) in
    let some : 0 < c.in-Ok.count = search rules in
    record {
      told = (told.0 ++ more, took, size_on told.0 c.read.new.buf c.loop-total.total c.in-Ok.count told.2 c.in-Ok.ensures.bound, midway);
      empty = c.in-Ok-feed.ensures.empty;
      going = sym c.if-is_refused.ensures;
      reads = c.in-Ok.ensures.moved ∙ c.loop-total.invariant.reads;
      goes = c.in-Ok.ensures.goes some ∙ c.loop-total.invariant.goes;
      writes = c.in-Ok-feed.ensures.sure ∙ c.loop-total.invariant.writes;
    }

pub returns-clause-leaves : goal.returns-clause-leaves
returns-clause-leaves g c =
    let told = c.loop-total.invariant.told in
    let long : MAX_INPUT < length told.0 = subst (λ (n : ℕ). MAX_INPUT < n) told.2 c.loop-total-test.false in
    ends_long c.args.signal (g.R.Source.remaining c.args.source.now) (g.R.Source.remaining c.loop-total.source) (g.W.Sink.holds c.args.sink.now) (g.W.Sink.holds c.loop-total.sink) told.0 c.loop-total.progress told.1 long told.3 c.loop-total.invariant.empty c.loop-total.invariant.going

pub returns-clause-front : goal.returns-clause-front
returns-clause-front g c =
    let told = c.loop-total.invariant.told in
    front_of c.args.signal MAX_INPUT (g.R.Source.remaining c.args.source.now) (g.R.Source.remaining c.loop-total.source) (g.W.Sink.holds c.args.sink.now) (g.W.Sink.holds c.loop-total.sink) told.0 told.1
    (left_front c.args.signal (g.W.Sink.holds c.args.sink.now) (g.W.Sink.holds c.loop-total.sink) (take MAX_INPUT told.0) c.loop-total.progress told.3)
