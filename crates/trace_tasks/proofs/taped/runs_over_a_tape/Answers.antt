use Rattle.trace_tasks.proofs.tapes.SpelledRunLemmas.{run_spells, never_full}
use Rattle.trace_tasks.proofs.taped.runs_over_a_tape.Goals as goal

pub returns-clause-spelled : goal.returns-clause-spelled
returns-clause-spelled c = λ tasks old new before later tape polls is_new ready tested few ran. run_spells tasks old new before later tape polls is_new ready tested few ran

pub returns-clause-never_full : goal.returns-clause-never_full
returns-clause-never_full c = λ d sites tasks s new later gave. never_full d sites tasks s new later gave
