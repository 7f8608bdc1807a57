-- The pipeline as it begins.
use Rattle.std.proofs.Common.{rules, [], map, ap, subst, sym, refl}
use Rattle.span_script.specs.Admission.{IsCountingFilter}
use Rattle.trace_pipeline.proofs.Common.{setup_by, plain_filter, stack_interest, stack_shows}
use Rattle.otel_layer.specs.Recording.{Recording}
use Rattle.span_script.proofs.runs.BeginLemmas.{begins, recorded_nothing, measured_nothing, keeps_begun, begun_setup, records_none}
use Rattle.trace_pipeline.specs.Contexts.{context_slots}
use Rattle.trace_pipeline.proofs.pipeline.Pipeline.with_filters.Goals as goal

pub invariant_of-result : goal.invariant_of-result
invariant_of-result c = keeps_begun _ _ _ _ _ _ c.same.ensures c.new_stack-stack.result c.in_ok-world.world (record c.in_ok-world.world { subscribers = [] }) c.in_ok-world.dispatch (record { filter = c.args.settings.filter; counting = c.args.settings.counting }) c.in-Ok.lanes.items (map (λ n. n.0) c.args.settings.lanes) (search rules) refl (search rules) c.new_stack-stack.ensures.spans (setup_by c.args.settings) (records_none _ (setup_by c.args.settings) _ c.new_stack-stack.ensures.recording c.requires.counting_filter) (search rules) stack_interest stack_shows (search rules) (plain_filter c.args.gate) c.requires.gate c.new_stack-stack.ensures.filter (subst (λ o. IsCountingFilter c.args.settings.counting o) (sym c.new_stack-stack.ensures.counting_filter) c.requires.counting_filter) c.new_stack-stack.ensures.measures c.new.result.items c.new.ensures.items c.new-2.result.items c.new-2.ensures.items (context_slots c.new-3.result) c.new-3.ensures c.new_stack-stack.ensures.whole (search rules) c.requires.ids (search rules) c.new_stack-stack.ensures.kept

pub returns-clause-stands : goal.returns-clause-stands
returns-clause-stands c = begins _ _ _ _ _ _ c.same.ensures c.new_stack-stack.result c.in_ok-world.world (record c.in_ok-world.world { subscribers = [] }) c.in_ok-world.dispatch (record { filter = c.args.settings.filter; counting = c.args.settings.counting }) c.in-Ok.lanes.items (map (λ n. n.0) c.args.settings.lanes) (search rules) refl (search rules) c.new_stack-stack.ensures.spans (setup_by c.args.settings) (records_none _ (setup_by c.args.settings) _ c.new_stack-stack.ensures.recording c.requires.counting_filter) (search rules) stack_interest stack_shows (search rules) (plain_filter c.args.gate) c.requires.gate c.new_stack-stack.ensures.filter (subst (λ o. IsCountingFilter c.args.settings.counting o) (sym c.new_stack-stack.ensures.counting_filter) c.requires.counting_filter) c.new_stack-stack.ensures.measures c.new.result.items c.new.ensures.items c.new-2.result.items c.new-2.ensures.items (context_slots c.new-3.result) c.new-3.ensures

pub returns-clause-setup : goal.returns-clause-setup
returns-clause-setup c = begun_setup _ _ _ _ _ _ c.same.ensures c.new_stack-stack.result c.in_ok-world.world (record c.in_ok-world.world { subscribers = [] }) c.in_ok-world.dispatch (record { filter = c.args.settings.filter; counting = c.args.settings.counting }) c.in-Ok.lanes.items (map (λ n. n.0) c.args.settings.lanes) (search rules) refl (search rules) c.new_stack-stack.ensures.spans (setup_by c.args.settings) (records_none _ (setup_by c.args.settings) _ c.new_stack-stack.ensures.recording c.requires.counting_filter) (search rules) stack_interest stack_shows (search rules) (plain_filter c.args.gate) c.requires.gate c.new_stack-stack.ensures.filter (subst (λ o. IsCountingFilter c.args.settings.counting o) (sym c.new_stack-stack.ensures.counting_filter) c.requires.counting_filter) c.new_stack-stack.ensures.measures c.new.result.items c.new.ensures.items c.new-2.result.items c.new-2.ensures.items (context_slots c.new-3.result) c.new-3.ensures c.args.settings.callsites (map (λ n. n.1) c.args.settings.lanes) _ (search rules) (search rules) (search rules) refl

pub returns-clause-records : goal.returns-clause-records
returns-clause-records c = ap (λ (r : Recording). r.finished) (recorded_nothing _ _ _ _ _ _ c.same.ensures c.new_stack-stack.result c.in_ok-world.world (record c.in_ok-world.world { subscribers = [] }) c.in_ok-world.dispatch (record { filter = c.args.settings.filter; counting = c.args.settings.counting }) c.in-Ok.lanes.items (map (λ n. n.0) c.args.settings.lanes) (search rules) refl (search rules) c.new_stack-stack.ensures.spans (setup_by c.args.settings) (records_none _ (setup_by c.args.settings) _ c.new_stack-stack.ensures.recording c.requires.counting_filter) (search rules) stack_interest stack_shows (search rules) (plain_filter c.args.gate) c.requires.gate c.new_stack-stack.ensures.filter (subst (λ o. IsCountingFilter c.args.settings.counting o) (sym c.new_stack-stack.ensures.counting_filter) c.requires.counting_filter) c.new_stack-stack.ensures.measures c.new.result.items c.new.ensures.items c.new-2.result.items c.new-2.ensures.items (context_slots c.new-3.result) c.new-3.ensures)

pub returns-clause-measures : goal.returns-clause-measures
returns-clause-measures c = measured_nothing _ _ _ _ _ _ c.same.ensures c.new_stack-stack.result c.in_ok-world.world (record c.in_ok-world.world { subscribers = [] }) c.in_ok-world.dispatch (record { filter = c.args.settings.filter; counting = c.args.settings.counting }) c.in-Ok.lanes.items (map (λ n. n.0) c.args.settings.lanes) (search rules) refl (search rules) c.new_stack-stack.ensures.spans (setup_by c.args.settings) (records_none _ (setup_by c.args.settings) _ c.new_stack-stack.ensures.recording c.requires.counting_filter) (search rules) stack_interest stack_shows (search rules) (plain_filter c.args.gate) c.requires.gate c.new_stack-stack.ensures.filter (subst (λ o. IsCountingFilter c.args.settings.counting o) (sym c.new_stack-stack.ensures.counting_filter) c.requires.counting_filter) c.new_stack-stack.ensures.measures c.new.result.items c.new.ensures.items c.new-2.result.items c.new-2.ensures.items (context_slots c.new-3.result) c.new-3.ensures
