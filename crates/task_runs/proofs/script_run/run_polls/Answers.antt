-- The world has a new tape, and the lane is served by it.
use Rattle.std.proofs.Common.{List, length, refl, sym, subst}
use Rattle.trace_base.specs.declared.callsite.Callsite.{Callsite}
use Rattle.trace_tasks.specs.Begun.{AllHaveCallsites}
use Rattle.trace_tasks.specs.Spelled.{TasksAreDeclared}
use Rattle.trace_tasks.proofs.tapes.NewTapeLemmas.{below_at_first, new_tape, ready}
use Rattle.task_runs.proofs.script_run.run_polls.Goals as goal

pub run_on_tape-ran-requires-clause-new_tape : goal.run_on_tape-ran-requires-clause-new_tape
unfolding below_at_first
run_on_tape-ran-requires-clause-new_tape c = new_tape c.in_ok-world.world _ _ c.new.ensures c.in_ok-world.ensures.subscriber c.in_ok-world.ensures.dispatch c.in_ok-world.ensures.fresh

pub run_on_tape-ran-requires-clause-ready : goal.run_on_tape-ran-requires-clause-ready
unfolding below_at_first
run_on_tape-ran-requires-clause-ready c = ready c.in_ok-world.world _ _ c.new.ensures c.in_ok-world.ensures.subscriber c.in_ok-world.ensures.dispatch _ refl

pub run_on_tape-ran-requires-clause-sited : goal.run_on_tape-ran-requires-clause-sited
run_on_tape-ran-requires-clause-sited c = subst (λ (xs : List Callsite). AllHaveCallsites (length xs) c.args.tasks) (sym c.in_ok-world.ensures.sites) c.requires.sited

pub run_on_tape-ran-requires-clause-tested : goal.run_on_tape-ran-requires-clause-tested
run_on_tape-ran-requires-clause-tested c = subst (λ (xs : List Callsite). TasksAreDeclared xs c.args.tasks) (sym c.in_ok-world.ensures.sites) c.requires.tested
