-- Tasks that fit their settings, and aren't too many, can be polled over a tape.
use Rattle.task_runs.proofs.FitsLemmas.{can_spell}
use Rattle.task_runs.proofs.run.run_task_script.Goals as goal

pub run_in_poll-requires-clause-spells : goal.run_in_poll-requires-clause-spells
run_in_poll-requires-clause-spells g c =
    let few = rw (c.in-Some.is, c.as_slice.ensures) at c.poll_count.ensures in
    can_spell c.args.script c.in-Some.field-0 c.requires few.0 few.1
