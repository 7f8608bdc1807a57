-- One poll more, whose requests are handed on.
use Rattle.std.proofs.Common.{◌≡◌, ◌∙◌, true, None, Err, refl, ap, arith}
use Rattle.std.proofs.lemmas.Result.{err_from_is_err_and}
use Rattle.trace_tasks.proofs.Common.{dispatch_serving, DoesTape, TouchesTape, tape_spans}
use Rattle.trace_tasks.proofs.queues.QueueLemmas.{all_known}
use Rattle.trace_tasks.proofs.queues.TurnsLemmas.{turn_if, no_turn, one_poll_less}
use Rattle.trace_tasks.proofs.tapes.HandingOnLemmas.{handed_first, handed_more, handed_all, full_never, known_still, still_there}
use Rattle.trace_tasks.proofs.taped.spell_turns.Goals as goal

pub loop-batch-init : goal.loop-batch-init
loop-batch-init g c = record {
  handed = handed_first g.K.RequestSink.takes c.args.dispatch c.args.world.now.sites c.args.queue.now.items c.args.world.now c.args.lane.now c.args.sink.now c.requires.ready c.requires.serves c.requires.wait;
  empty = c.new-batch.ensures.items;
  context = λ fact h. h;
}

pub hand_on-requires : goal.hand_on-requires
hand_on-requires g c =
    let turn = turn_if tape_spans (λ s. None) (λ s lane c. true) (λ s lane number. 0) (λ s. Unit {0}) DoesTape TouchesTape c.in_ok-take_turn.field-0 _ c.loop-batch.queue.items c.take_turn.new.queue.items c.loop-batch.world c.take_turn.new.world c.loop-batch.lane c.take_turn.new.lane c.if-branch.true c.in_ok-take_turn.ensures.ok in
    record { there = still_there c.args.dispatch _ c.loop-batch.queue.items c.take_turn.new.queue.items c.loop-batch.world c.take_turn.new.world c.loop-batch.lane c.take_turn.new.lane c.loop-batch.invariant.handed.serves turn; empty = c.loop-batch.invariant.empty }

pub close_all-requires-clause-known : goal.close_all-requires-clause-known
close_all-requires-clause-known g c =
    let turn = turn_if tape_spans (λ s. None) (λ s lane c. true) (λ s lane number. 0) (λ s. Unit {0}) DoesTape TouchesTape c.in_ok-take_turn.field-0 _ c.loop-batch.queue.items c.take_turn.new.queue.items c.loop-batch.world c.take_turn.new.world c.loop-batch.lane c.take_turn.new.lane c.if-branch.true c.in_ok-take_turn.ensures.ok in
    known_still c.args.dispatch c.take_turn.new.world c.hand_on.new.world c.hand_on.ensures.changes c.take_turn.new.queue.items (all_known tape_spans c.take_turn.new.world (dispatch_serving c.take_turn.new.lane) c.take_turn.new.queue.items turn.wait)

pub loop-batch-smaller : goal.loop-batch-smaller
loop-batch-smaller g c =
    let turn = turn_if tape_spans (λ s. None) (λ s lane c. true) (λ s lane number. 0) (λ s. Unit {0}) DoesTape TouchesTape c.in_ok-take_turn.field-0 _ c.loop-batch.queue.items c.take_turn.new.queue.items c.loop-batch.world c.take_turn.new.world c.loop-batch.lane c.take_turn.new.lane c.if-branch.true c.in_ok-take_turn.ensures.ok in
    let less = one_poll_less tape_spans (λ s. None) (λ s lane c. true) (λ s lane number. 0) (λ s. Unit {0}) DoesTape TouchesTape _ c.loop-batch.queue.items c.take_turn.new.queue.items c.loop-batch.world c.take_turn.new.world c.loop-batch.lane c.take_turn.new.lane turn in
    omega (arith, less)

pub loop-batch-preserved : goal.loop-batch-preserved
loop-batch-preserved g c =
    let turn = turn_if tape_spans (λ s. None) (λ s lane c. true) (λ s lane number. 0) (λ s. Unit {0}) DoesTape TouchesTape c.in_ok-take_turn.field-0 _ c.loop-batch.queue.items c.take_turn.new.queue.items c.loop-batch.world c.take_turn.new.world c.loop-batch.lane c.take_turn.new.lane c.if-branch.true c.in_ok-take_turn.ensures.ok in
    record {
      handed = handed_more g.K.RequestSink.takes c.args.dispatch c.args.world.now.sites c.args.queue.now.items c.loop-batch.queue.items c.take_turn.new.queue.items c.args.world.now c.loop-batch.world c.take_turn.new.world c.hand_on.new.world c.args.lane.now c.loop-batch.lane c.take_turn.new.lane c.loop-batch.polls _
          c.args.sink.now c.loop-batch.sink c.hand_on.new.sink c.requires.few refl c.loop-batch.invariant.handed turn c.in_default.ensures.ok;
      empty = c.in_default.ensures.empty;
      context = λ fact h. c.take_turn.ensures.context fact (c.loop-batch.invariant.context fact h);
    }

pub returns-clause-turns : goal.returns-clause-turns
returns-clause-turns g c =
    let none = no_turn tape_spans (λ s. None) (λ s lane c. true) (λ s lane number. 0) (λ s. Unit {0}) DoesTape TouchesTape c.in_ok-take_turn.field-0 _ c.loop-batch.queue.items c.take_turn.new.queue.items c.loop-batch.world c.take_turn.new.world c.loop-batch.lane c.take_turn.new.lane c.if-branch.false c.in_ok-take_turn.ensures.ok in
    handed_all g.K.RequestSink.takes c.args.dispatch c.args.world.now.sites c.args.queue.now.items c.loop-batch.queue.items c.args.world.now c.loop-batch.world c.args.lane.now c.loop-batch.lane c.loop-batch.polls c.args.sink.now c.loop-batch.sink none.0 c.loop-batch.invariant.handed

pub returns-clause-context : goal.returns-clause-context
returns-clause-context g c = λ fact h. c.take_turn.ensures.context fact (c.loop-batch.invariant.context fact h)

pub returns-in-Err-clause-context : goal.returns-in-Err-clause-context
returns-in-Err-clause-context g c = λ fact h. c.take_turn.ensures.context fact (c.loop-batch.invariant.context fact h)

pub returns-in_err-take_turn-clause-context : goal.returns-in_err-take_turn-clause-context
returns-in_err-take_turn-clause-context g c = λ fact h. c.take_turn.ensures.context fact (c.loop-batch.invariant.context fact h)

pub returns-in_err-take_turn-clause-never_full : goal.returns-in_err-take_turn-clause-never_full
returns-in_err-take_turn-clause-never_full g c = λ is.
    let p = err_from_is_err_and c.from_residual.result c.from_residual.ensures.1 in
    let same : c.from_residual.result ≡ Err c.in_err-take_turn.field-0.0 = p.1 ∙ ap Err p.2 in
    full_never (dispatch_serving c.loop-batch.lane) c.loop-batch.polls _ c.loop-batch.queue.items c.loop-batch.world c.take_turn.new.world c.loop-batch.lane c.take_turn.new.lane c.in_err-take_turn.field-0.0 c.loop-batch.invariant.handed.wait refl c.in_err-take_turn.ensures.stops (cc (is, same))
