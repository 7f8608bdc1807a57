-- Without memory for a copy of the tasks nothing is done.
use Rattle.std.proofs.Common.{◌∙◌}
use Rattle.trace_tasks.proofs.queues.BegunTasksLemmas.{gave_up_first}
use Rattle.trace_tasks.proofs.run.run_tasks.Goals as goal

pub returns-in-Err-clause-gives_up : goal.returns-in-Err-clause-gives_up
returns-in-Err-clause-gives_up g c =
    gave_up_first g.S.Subscriber.spans g.S.Subscriber.hint g.S.Subscriber.enables g.S.Subscriber.kept g.S.Subscriber.is_whole g.S.Subscriber.does g.S.OtelPart.touches g.S.Subscriber.activates g.S.Subscriber.same_but_room c.args.script.now.settings.callsites c.args.script.now.tasks c.args.lane.now c.args.world.now (λ none. c.in-Err.ensures.some (c.as_slice.ensures ∙ none)) c.requires.ready
