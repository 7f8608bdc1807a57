-- The entry by a guard that owns its handle.
use Rattle.std.proofs.Common.{rules, refl}
use Rattle.span_script.specs.declared.request.Call.TheVariants as call
use Rattle.trace_pipeline.proofs.Common.{by_view_refused, serves_refusal, entered_is, parts_of}
use Rattle.trace_pipeline.proofs.NamedHandlesLemmas.{named_there, enters_ok, enters_refused}
use Rattle.trace_pipeline.proofs.pipeline.Pipeline.entered.Goals as goal

pub returns-then-is_borrowed : goal.returns-then-is_borrowed
returns-then-is_borrowed c =
    let named = named_there _ _ _ _ (parts_of c.self.inside) c.self.invariant c.args.handle (search rules) in
    serves_refusal _ _ _ _ _ (λ t stands. by_view_refused c.args.at c.args.place (call.Entered c.args.handle) _ _ _ c.self.view_is (λ t stands. (entered_is _ c.self.inside.handles.items refl c.args.handle named.0 named.1 c.args.at c.args.place t stands).1 (search rules)) t stands) (search rules) refl

pub returns : goal.returns
returns c = record {
  ok = enters_ok _ _ c.self.view_is c.self.inside.handles.items refl c.args.handle (search rules) c.args.at c.args.place c.enter.result c.enter.new.self c.enter.ensures.ok;
  refused = enters_refused _ _ c.self.view_is c.self.inside.handles.items refl c.args.handle (search rules) c.args.at c.args.place c.enter.result c.enter.ensures.refused;
  err = (search rules);
  room = (search rules);
}
