-- The world has a new tape, and the lane is served by it; afterwards the tape is there.
use Rattle.std.proofs.Common.{◌≡◌, ◌<◌, ◌^◌, List, length, true, Some, None, refl, sym, ap, subst, ◌∙◌, arith}
use Rattle.std.proofs.lemmas.Option.{slice_get_within}
use Rattle.trace_base.specs.declared.callsite.Callsite.{Callsite}
use Rattle.trace_base.specs.declared.lane.Lane.{Lane}
use Rattle.span_script.specs.declared.settings.Settings.{Settings}
use Rattle.trace_lines.specs.Generated.{generated_settings}
use Rattle.trace_tape.specs.Tapes.{DoesTape}
use Rattle.trace_tape.specs.PartCalls.{TouchesTape}
use Rattle.trace_tasks.specs.Begun.{RunsTasks}
use Rattle.trace_tasks.specs.Flat.{poll_count, tasks_at_first}
use Rattle.trace_tasks.specs.Spelled.{TasksAreDeclared, tape_spans}
use Rattle.trace_tasks.proofs.tapes.NewTapeLemmas.{below_at_first, new_tape, ready}
use Rattle.trace_tasks.proofs.tapes.RunsLemmas.{few_new}
use Rattle.run_tests.proofs.tests.polled_tasks.spelled_requests.Goals as goal

pub run_tasks-requires-clause-ready : goal.run_tasks-requires-clause-ready
unfolding below_at_first
run_tasks-requires-clause-ready c = ready c.in_ok-world.world _ _ c.new.ensures c.in_ok-world.ensures.subscriber c.in_ok-world.ensures.dispatch _ refl

pub run_tasks-requires-clause-few : goal.run_tasks-requires-clause-few
unfolding below_at_first
run_tasks-requires-clause-few c =
    let new = new_tape c.in_ok-world.world _ _ c.new.ensures c.in_ok-world.ensures.subscriber c.in_ok-world.ensures.dispatch c.in_ok-world.ensures.fresh in
    few_new c.in_ok-world.world c.in_ok-world.dispatch (length c.in_ok-script.script.tasks) new.0 new.1 (let n = c.in_ok-script.ensures.count in omega (arith, n))

pub subscriber-requires : goal.subscriber-requires
unfolding below_at_first
subscriber-requires c =
    let lane : Lane = record { id = 0; name = None; default = Some c.in_ok-world.dispatch; contexts = c.new-2.result } in
    let new = new_tape c.in_ok-world.world _ _ c.new.ensures c.in_ok-world.ensures.subscriber c.in_ok-world.ensures.dispatch c.in_ok-world.ensures.fresh in
    let sites : c.in_ok-world.world.sites ≡ generated_settings.callsites = c.in_ok-world.ensures.sites ∙ c.into_vec-callsites.ensures ∙ ap (λ (s : Settings). s.callsites) c.in_ok-generated_settings.ensures in
    let kept = c.runs_over_a_tape.ensures.spelled c.in_ok-script.script.tasks c.in_ok-world.world c.run_tasks.new.world lane c.run_tasks.new.lane new.0 c.in-Ok.polls new.1
    (ready c.in_ok-world.world _ _ c.new.ensures c.in_ok-world.ensures.subscriber c.in_ok-world.ensures.dispatch lane refl)
    (subst (λ (xs : List Callsite). TasksAreDeclared xs c.in_ok-script.script.tasks) (sym sites) c.in_ok-script.ensures.tested)
    (let n = c.in_ok-script.ensures.polls in omega (arith, n))
    (subst (λ (xs : List Callsite). RunsTasks tape_spans (λ s. None) (λ s lane c. true) DoesTape TouchesTape xs c.in_ok-script.script.tasks c.in_ok-world.world c.run_tasks.new.world lane c.run_tasks.new.lane c.in-Ok.polls)
    (ap (λ (s : Settings). s.callsites) c.in_ok-script.ensures.settings ∙ sym sites) c.in-Ok.ensures.ok) in
    slice_get_within c.run_tasks.new.world.subscribers c.in_ok-world.dispatch kept.0 kept.1
