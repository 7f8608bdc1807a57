-- All requests of the flat list are run.
use Rattle.std.proofs.Common.{◌∙◌, List, sym, subst}
use Rattle.span_script.specs.declared.request.Request.{Request}
use Rattle.span_script.specs.Setups.{setup_by}
use Rattle.trace_base.specs.declared.callsite.Callsite.{Callsite}
use Rattle.trace_tasks.specs.Flat.{flat_list}
use Rattle.trace_tasks.specs.TapeTurns.{TakesAll}
use Rattle.task_runs.specs.Runs.{CanSpell}
use Rattle.task_runs.specs.Writing.{RunsRequest}
use Rattle.task_runs.proofs.WritingLemmas.{runs_these}
use Rattle.task_runs.proofs.script_run.script_text.Goals as goal

pub run_polls-requires : goal.run_polls-requires
run_polls-requires c = subst (λ (xs : List Callsite). CanSpell xs c.args.script.tasks) (sym (c.in_ok-callsites.ensures ∙ c.as_slice.ensures)) c.requires.spells

pub returns-in-Ok-clause-text : goal.returns-in-Ok-clause-text
returns-in-Ok-clause-text c =
    let settings = c.args.script.settings in
    let requests : List Request = flat_list settings.callsites c.args.script.tasks in
    let all : TakesAll RunsRequest requests c.in_ok-runner.runner c.run_polls.new.runner =
    subst (λ (xs : List Callsite). TakesAll RunsRequest (flat_list xs c.args.script.tasks) c.in_ok-runner.runner c.run_polls.new.runner) (c.in_ok-callsites.ensures ∙ c.as_slice.ensures) c.in-Ok.ensures.ran in
    c.end.ensures (setup_by settings) requests (runs_these (setup_by settings) requests c.in_ok-runner.runner c.run_polls.new.runner all (c.in_ok-runner.ensures requests))
