-- One poll more.
use Rattle.std.proofs.Common.{◌≡◌, ◌∙◌, Err, refl, ap, arith}
use Rattle.std.proofs.lemmas.Result.{err_from_is_err_and}
use Rattle.trace_tasks.proofs.queues.TurnsLemmas.{at_err, taking_first, taking_more, taken, turn_if, no_turn, one_poll_less, stops_turns}
use Rattle.trace_tasks.proofs.queue.poll_all.Goals as goal

pub loop-polls-init : goal.loop-polls-init
loop-polls-init g c = record {
  taking = taking_first g.S.Subscriber.spans g.S.Subscriber.hint g.S.Subscriber.enables g.S.Subscriber.kept g.S.Subscriber.is_whole g.S.Subscriber.does g.S.OtelPart.touches c.args.queue.now.items c.args.world.now c.args.lane.now c.requires.ready c.requires.wait;
  context = λ fact h. h;
}

pub loop-polls-smaller : goal.loop-polls-smaller
loop-polls-smaller g c =
    let turn = turn_if g.S.Subscriber.spans g.S.Subscriber.hint g.S.Subscriber.enables g.S.Subscriber.kept g.S.Subscriber.is_whole g.S.Subscriber.does g.S.OtelPart.touches c.in_ok-take_turn.field-0 _ c.loop-polls.queue.items c.take_turn.new.queue.items c.loop-polls.world c.take_turn.new.world c.loop-polls.lane c.take_turn.new.lane c.if-branch.true c.in_ok-take_turn.ensures.ok in
    let less = one_poll_less g.S.Subscriber.spans g.S.Subscriber.hint g.S.Subscriber.enables g.S.Subscriber.kept g.S.Subscriber.is_whole g.S.Subscriber.does g.S.OtelPart.touches _ c.loop-polls.queue.items c.take_turn.new.queue.items c.loop-polls.world c.take_turn.new.world c.loop-polls.lane c.take_turn.new.lane turn in
    omega (arith, less)

pub loop-polls-preserved : goal.loop-polls-preserved
loop-polls-preserved g c =
    let turn = turn_if g.S.Subscriber.spans g.S.Subscriber.hint g.S.Subscriber.enables g.S.Subscriber.kept g.S.Subscriber.is_whole g.S.Subscriber.does g.S.OtelPart.touches c.in_ok-take_turn.field-0 _ c.loop-polls.queue.items c.take_turn.new.queue.items c.loop-polls.world c.take_turn.new.world c.loop-polls.lane c.take_turn.new.lane c.if-branch.true c.in_ok-take_turn.ensures.ok in
    record {
      taking = taking_more g.S.Subscriber.spans g.S.Subscriber.hint g.S.Subscriber.enables g.S.Subscriber.kept g.S.Subscriber.is_whole g.S.Subscriber.does g.S.OtelPart.touches c.args.queue.now.items c.loop-polls.queue.items c.take_turn.new.queue.items c.args.world.now c.loop-polls.world c.take_turn.new.world c.args.lane.now c.loop-polls.lane c.take_turn.new.lane c.loop-polls.polls _ refl c.loop-polls.invariant.taking turn;
      context = λ fact h. c.take_turn.ensures.context fact (c.loop-polls.invariant.context fact h);
    }

pub returns-clause-ok : goal.returns-clause-ok
returns-clause-ok g c =
    taken g.S.Subscriber.spans g.S.Subscriber.hint g.S.Subscriber.enables g.S.Subscriber.kept g.S.Subscriber.is_whole g.S.Subscriber.does g.S.OtelPart.touches c.args.queue.now.items c.loop-polls.queue.items c.take_turn.new.queue.items c.args.world.now c.loop-polls.world c.take_turn.new.world c.args.lane.now c.loop-polls.lane c.take_turn.new.lane c.loop-polls.polls
    (no_turn g.S.Subscriber.spans g.S.Subscriber.hint g.S.Subscriber.enables g.S.Subscriber.kept g.S.Subscriber.is_whole g.S.Subscriber.does g.S.OtelPart.touches c.in_ok-take_turn.field-0 _ c.loop-polls.queue.items c.take_turn.new.queue.items c.loop-polls.world c.take_turn.new.world c.loop-polls.lane c.take_turn.new.lane c.if-branch.false c.in_ok-take_turn.ensures.ok) c.loop-polls.invariant.taking

pub returns-clause-context : goal.returns-clause-context
returns-clause-context g c = λ fact h. c.take_turn.ensures.context fact (c.loop-polls.invariant.context fact h)

pub returns-in_err-take_turn-clause-context : goal.returns-in_err-take_turn-clause-context
returns-in_err-take_turn-clause-context g c = λ fact h. c.take_turn.ensures.context fact (c.loop-polls.invariant.context fact h)

pub returns-in_err-take_turn-clause-stops : goal.returns-in_err-take_turn-clause-stops
returns-in_err-take_turn-clause-stops g c =
    let p = err_from_is_err_and c.from_residual.result c.from_residual.ensures.1 in
    let same : c.from_residual.result ≡ Err c.in_err-take_turn.field-0.0 = p.1 ∙ ap Err p.2 in
    at_err c.from_residual.result c.in_err-take_turn.field-0.0 _ same (λ handles ts stand.
    stops_turns g.S.Subscriber.spans g.S.Subscriber.hint g.S.Subscriber.enables g.S.Subscriber.kept g.S.Subscriber.is_whole g.S.Subscriber.does g.S.OtelPart.touches g.S.Subscriber.activates g.S.Subscriber.same_but_room c.args.queue.now.items c.loop-polls.queue.items c.args.world.now c.loop-polls.world c.take_turn.new.world c.args.lane.now c.loop-polls.lane c.take_turn.new.lane c.loop-polls.polls _ c.in_err-take_turn.field-0.0 refl
    c.loop-polls.invariant.taking c.in_err-take_turn.ensures.stops handles ts stand)
