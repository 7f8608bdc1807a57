-- A span that is followed.
use Rattle.std.proofs.Common.{rules, refl, ◌∙◌, false}
use Rattle.span_script.specs.declared.request.Call.TheVariants as call
use Rattle.span_script.proofs.links.FollowsLemmas.{needs_one, refuses_from, serves_follow, keeps_follow}
use Rattle.trace_pipeline.proofs.Common.{on_err, same_state, same_kept, refuses_unknown, needs_known, needs_whole, by_view, serves_refusal, parts_of}
use Rattle.trace_pipeline.proofs.pipeline.Pipeline.follows.Goals as goal

pub returns-in_default : goal.returns-in_default
returns-in_default c = serves_refusal _ _ _ _ _ (λ t stands. refuses_unknown _ _ c.self.view_is c.self.inside.handles.items refl c.args.handle (search rules) t stands.fits _) (search rules) refl

pub returns-in_default-get : goal.returns-in_default-get
returns-in_default-get c = serves_refusal _ _ _ _ _ (λ t stands. refuses_from _ _ (λ x. false) (λ x lane number. 0) (λ x. Unit {0}) (parts_of c.self.inside) c.args.handle c.in-Some.span.now (search rules) _ c.self.view_is c.args.from (search rules) t stands c.args.at c.args.place) (search rules) refl

pub follows_from-requires-clause-known : goal.follows_from-requires-clause-known
follows_from-requires-clause-known c = needs_known _ _ _ _ (parts_of c.self.inside) c.self.invariant c.args.handle c.in-Some.span.now (search rules)

pub follows_from-requires-clause-from_known : goal.follows_from-requires-clause-from_known
follows_from-requires-clause-from_known c = needs_known _ _ _ _ (parts_of c.self.inside) c.self.invariant c.args.from c.in-Some-get.followed.now (search rules)

pub follows_from-requires-clause-of_one : goal.follows_from-requires-clause-of_one
follows_from-requires-clause-of_one c = needs_one _ _ (λ x. false) _ _ (parts_of c.self.inside) c.args.handle c.in-Some.span.now (search rules) c.args.from c.in-Some-get.followed.now (search rules) c.self.invariant

pub follows_from-requires-clause-whole : goal.follows_from-requires-clause-whole
follows_from-requires-clause-whole c = needs_whole _ _ _ _ (parts_of c.self.inside) c.self.invariant c.args.handle c.in-Some.span.now (search rules)

pub invariant_of-self : goal.invariant_of-self
invariant_of-self c = same_kept _ _ _ _ _ _ c.same.ensures (parts_of c.self.inside) c.follows_from.new.world c.self.invariant c.args.handle c.in-Some.span.now (search rules) c.in_err-follows_from.ensures.memory_leaves

pub returns-in_err-follows_from : goal.returns-in_err-follows_from
returns-in_err-follows_from c = record {
  ok = (search rules);
  refused = (search rules);
  err = on_err _ _ (same_state _ _ _ _ _ _ c.same.ensures (parts_of c.self.inside) c.follows_from.new.world c.self.invariant c.args.handle c.in-Some.span.now (search rules) c.in_err-follows_from.ensures.memory_leaves ∙ c.self.view_is);
  room = (search rules);
}

pub invariant_of-self-2 : goal.invariant_of-self-2
invariant_of-self-2 c = keeps_follow _ _ _ _ _ (parts_of c.self.inside) c.args.handle c.in-Some.span.now (search rules) c.args.from c.in-Some-get.followed.now (search rules) c.follows_from.new.world c.args.at c.args.place _ c.calls.ensures c.in_ok-follows_from.ensures.did c.self.invariant

pub returns : goal.returns
returns c = by_view c.args.at c.args.place (call.Follows c.args.handle c.args.from) _ _ _ _ c.self.view_is (λ t stands. serves_follow _ _ _ _ _ (parts_of c.self.inside) c.args.handle c.in-Some.span.now (search rules) c.args.from c.in-Some-get.followed.now (search rules) c.follows_from.new.world c.args.at c.args.place _ c.calls.ensures c.in_ok-follows_from.ensures.did t stands)
