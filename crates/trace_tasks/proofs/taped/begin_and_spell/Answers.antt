-- The makings and the turns are handed on, which are the flat list.
use Rattle.std.proofs.Common.{ℕ, ◌+◌, ◌<◌, ◌^◌, length, sym, subst, arith}
use Rattle.trace_tasks.proofs.Common.{spans_in, tape_spans, AllWait, DoesTape, TouchesTape}
use Rattle.trace_tasks.proofs.queues.BegunTasksLemmas.{few_polls}
use Rattle.trace_tasks.proofs.tapes.HandedOnRunLemmas.{flat_taken, polls_taken}
use Rattle.trace_tasks.proofs.tapes.HandingOnLemmas.{known_still, wait_still, ready_still}
use Rattle.trace_tasks.proofs.tapes.RunsLemmas.{few_new}
use Rattle.trace_tasks.proofs.taped.begin_and_spell.Goals as goal

pub begin_all-requires-clause-few : goal.begin_all-requires-clause-few
begin_all-requires-clause-few g c =
    subst (λ (n : ℕ). length (spans_in tape_spans c.args.world.now n).made + length c.args.tasks < 2 ^ 63) (sym c.requires.serves)
    (few_new c.args.world.now c.args.dispatch (length c.args.tasks) c.requires.new_tape.0 c.requires.new_tape.1 c.requires.few)

pub hand_on-requires : goal.hand_on-requires
hand_on-requires g c = (
    let there = c.in-Ok.ensures.ok.ready.there in
    let same = c.requires.serves in
    record { there = omega (arith, there, same); empty = c.new-makings.ensures.items })

pub close_all-requires-in-Err-hand_on-clause-known : goal.close_all-requires-in-Err-hand_on-clause-known
close_all-requires-in-Err-hand_on-clause-known g c = known_still c.args.dispatch c.begin_all.new.world c.hand_on.new.world c.hand_on.ensures.changes c.begin_all.new.queue.items c.begin_all.ensures.known

pub spell_turns-requires-clause-ready : goal.spell_turns-requires-clause-ready
spell_turns-requires-clause-ready g c = ready_still c.args.dispatch c.begin_all.new.world c.hand_on.new.world c.hand_on.ensures.changes c.args.lane.now c.requires.serves c.in-Ok.ensures.ok.ready

pub spell_turns-requires-clause-wait : goal.spell_turns-requires-clause-wait
spell_turns-requires-clause-wait g c =
    subst (λ (n : ℕ). AllWait tape_spans c.hand_on.new.world n c.begin_all.new.queue.items) (sym c.requires.serves)
    (wait_still c.args.dispatch c.begin_all.new.world c.hand_on.new.world c.hand_on.ensures.changes c.begin_all.new.queue.items (subst (λ (n : ℕ). AllWait tape_spans c.begin_all.new.world n c.begin_all.new.queue.items) c.requires.serves c.in-Ok.ensures.ok.wait))

pub spell_turns-requires-clause-few : goal.spell_turns-requires-clause-few
spell_turns-requires-clause-few g c = few_polls tape_spans _ _ _ _ DoesTape TouchesTape c.args.tasks c.args.lane.now c.args.world.now c.begin_all.new.world c.begin_all.new.queue.items c.in-Ok.ensures.ok c.requires.few_polls

pub returns-in-Ok-hand_on-clause-taken : goal.returns-in-Ok-hand_on-clause-taken
returns-in-Ok-hand_on-clause-taken g c =
    flat_taken g.K.RequestSink.takes c.args.dispatch c.args.tasks c.args.world.now c.begin_all.new.world c.hand_on.new.world c.args.lane.now c.requires.new_tape.0 c.begin_all.new.queue.items c.args.sink.now c.hand_on.new.sink c.requires.serves c.requires.new_tape.1 c.requires.ready c.requires.tested c.in-Ok.ensures.ok c.in-Ok-hand_on.ensures.ok
    c.spell_turns.result c.spell_turns.new.sink c.spell_turns.ensures.turns

pub returns-in-Ok-hand_on-clause-polls : goal.returns-in-Ok-hand_on-clause-polls
returns-in-Ok-hand_on-clause-polls g c =
    polls_taken g.K.RequestSink.takes c.args.dispatch c.args.tasks c.args.world.now c.begin_all.new.world c.hand_on.new.world c.args.lane.now c.requires.new_tape.0 c.begin_all.new.queue.items c.args.sink.now c.hand_on.new.sink c.requires.serves c.requires.new_tape.1 c.requires.ready c.requires.tested c.in-Ok.ensures.ok c.in-Ok-hand_on.ensures.ok
    c.spell_turns.result c.spell_turns.new.sink c.spell_turns.ensures.turns
