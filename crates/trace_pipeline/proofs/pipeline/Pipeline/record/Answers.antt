-- Recording fields.
use Rattle.std.proofs.Common.{rules, refl, ◌∙◌, false}
use Rattle.span_script.specs.declared.request.Call.TheVariants as call
use Rattle.trace_pipeline.proofs.Common.{needs_known, needs_whole, refuses_unknown, by_view, serves_refusal, on_err, same_state, same_kept, needs_site, serves_recorded, keeps_recorded, parts_of}
use Rattle.trace_pipeline.proofs.pipeline.Pipeline.record.Goals as goal

pub returns-in_default : goal.returns-in_default
returns-in_default c = serves_refusal _ _ _ _ _ (λ t stands. refuses_unknown _ _ c.self.view_is c.self.inside.handles.items refl c.args.handle (search rules) t stands.fits _) (search rules) refl

pub record_at-requires-clause-site : goal.record_at-requires-clause-site
record_at-requires-clause-site c = needs_site _ _ (λ x. false) _ _ (parts_of c.self.inside) c.args.handle c.in-Some.span.now (search rules) c.self.invariant

pub record_at-requires-clause-known : goal.record_at-requires-clause-known
record_at-requires-clause-known c = needs_known _ _ _ _ (parts_of c.self.inside) c.self.invariant c.args.handle c.in-Some.span.now (search rules)

pub record_at-requires-clause-whole : goal.record_at-requires-clause-whole
record_at-requires-clause-whole c = needs_whole _ _ _ _ (parts_of c.self.inside) c.self.invariant c.args.handle c.in-Some.span.now (search rules)

pub invariant_of-self : goal.invariant_of-self
invariant_of-self c = same_kept _ _ _ _ _ _ c.same.ensures (parts_of c.self.inside) c.record_at.new.world c.self.invariant c.args.handle c.in-Some.span.now (search rules) c.in_err-record_at.ensures.memory_leaves

pub returns-in_err-record_at : goal.returns-in_err-record_at
returns-in_err-record_at c = record {
  ok = (search rules);
  refused = (search rules);
  err = on_err _ _ (same_state _ _ _ _ _ _ c.same.ensures (parts_of c.self.inside) c.record_at.new.world c.self.invariant c.args.handle c.in-Some.span.now (search rules) c.in_err-record_at.ensures.memory_leaves ∙ c.self.view_is);
  room = (search rules);
}

pub invariant_of-self-2 : goal.invariant_of-self-2
invariant_of-self-2 c = keeps_recorded _ _ _ _ _ (parts_of c.self.inside) c.args.handle c.in-Some.span.now (search rules) c.record_at.new.world c.args.at c.args.place _ c.calls.ensures c.args.fields _ refl c.in_ok-record_at.ensures.did c.self.invariant

pub returns : goal.returns
returns c = by_view c.args.at c.args.place (call.Record c.args.handle c.args.fields) _ _ _ _ c.self.view_is (λ t stands. serves_recorded _ _ _ _ _ (parts_of c.self.inside) c.args.handle c.in-Some.span.now (search rules) c.record_at.new.world c.args.at c.args.place _ c.calls.ensures c.args.fields _ refl c.in_ok-record_at.ensures.did t stands)
