use Rattle.std.proofs.Common.{arith, ◌∙◌}
use Rattle.trace_stream.proofs.StreamsLemmas.{puts_next, puts_front, puts_stuck, puts_nothing, length_rest, on_any_err}
use Rattle.trace_stream.proofs.sink.write_all.Goals as goal

pub returns-in_err-count-clause-err : goal.returns-in_err-count-clause-err
returns-in_err-count-clause-err g c =
    on_any_err c.from_residual.result (puts_front _ _ _ c.args.piece.now c.loop-at.at c.loop-at.invariant.told c.in_err-count.ensures.kept)

pub returns-in_err-count-clause-stops : goal.returns-in_err-count-clause-stops
returns-in_err-count-clause-stops g c =
    on_any_err c.from_residual.result (c.loop-at.sink, c.loop-at.invariant.sure, c.in_err-count.ensures.kept)

pub returns-then-count-eq0-clause-err : goal.returns-then-count-eq0-clause-err
returns-then-count-eq0-clause-err g c =
    puts_stuck _ _ _ c.args.piece.now _ c.loop-at.at _ c.if-count-eq0.true c.loop-at.invariant.told c.in_ok-count.ensures.bytes

pub returns-then-count-eq0-clause-stops : goal.returns-then-count-eq0-clause-stops
returns-then-count-eq0-clause-stops g c =
    (c.loop-at.sink, c.loop-at.invariant.sure, puts_nothing _ _ _ _ c.if-count-eq0.true c.in_ok-count.ensures.bytes)

pub loop-at-preserved : goal.loop-at-preserved
loop-at-preserved g c =
    let room = length_rest c.args.piece.now c.loop-at.at in
    record {
      within = omega (arith, room, c.in_ok-count.ensures.bound);
      told = puts_next _ _ _ c.args.piece.now c.loop-at.at c.in_ok-count.count (omega (arith, room, c.in_ok-count.ensures.bound)) c.loop-at.invariant.told c.in_ok-count.ensures.bytes;
      sure = c.in_ok-count.ensures.moved (omega (arith, c.if-count-eq0.false)) ∙ c.loop-at.invariant.sure;
    }
