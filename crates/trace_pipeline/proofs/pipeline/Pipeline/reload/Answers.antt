-- Another filter in force.
use Rattle.std.proofs.Common.{rules}
use Rattle.trace_pipeline.proofs.Common.{plain_filter, stack_interest, stack_same, stack_shows, serves_reloaded, keeps_reloaded, by_view, parts_of}
use Rattle.span_script.specs.declared.request.Call.TheVariants as call
use Rattle.trace_pipeline.proofs.pipeline.Pipeline.reload.Goals as goal

pub invariant_of-self-2 : goal.invariant_of-self-2
invariant_of-self-2 c = keeps_reloaded _ _ _ _ _ (parts_of c.self.inside) c.args.at c.args.place c.put_in_force.new.world c.put_in_force.ensures.others c.put_in_force.ensures.sites c.put_in_force.ensures.recording (stack_same c.self.inside.world c.put_in_force.new.world c.self.inside.dispatch c.put_in_force.ensures.counting_filter c.put_in_force.ensures.measures) c.args.text c.as_str.result.now (search rules) (plain_filter c.in-Ok.filter) c.in-Ok.ensures.filter c.in_ok-put_in_force.ensures.filter stack_interest stack_shows c.in_ok-put_in_force.ensures.current c.self.invariant

pub returns : goal.returns
returns c = by_view c.args.at c.args.place (call.Reload c.args.text) _ _ _ _ c.self.view_is (λ t stands. serves_reloaded _ _ _ _ _ (parts_of c.self.inside) c.args.at c.args.place c.put_in_force.new.world c.put_in_force.ensures.others c.put_in_force.ensures.sites c.put_in_force.ensures.recording (stack_same c.self.inside.world c.put_in_force.new.world c.self.inside.dispatch c.put_in_force.ensures.counting_filter c.put_in_force.ensures.measures) c.args.text c.as_str.result.now (search rules) (plain_filter c.in-Ok.filter) c.in-Ok.ensures.filter c.in_ok-put_in_force.ensures.filter stack_interest stack_shows c.in_ok-put_in_force.ensures.current c.self.invariant t stands)
