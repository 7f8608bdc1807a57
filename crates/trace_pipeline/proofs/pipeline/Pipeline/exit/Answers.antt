-- The exit.
use Rattle.std.proofs.Common.{rules, ◌≡◌, Err, refl}
use Rattle.trace_pipeline.proofs.Common.{needs_there, needs_whole, exit_may, exit_still, guard_named, guard_entry, within_view, by_view, by_view_refused, serves_refusal, serves_exited, keeps_exited, parts_of}
use Rattle.span_script.specs.declared.request.Call.TheVariants as call
use Rattle.trace_pipeline.proofs.SpendingLemmas.{spent_entry, is_there, refuses_exit, exit_named}
use Rattle.trace_pipeline.proofs.pipeline.Pipeline.exit.Goals as goal

pub returns-in_err-open : goal.returns-in_err-open
returns-in_err-open c =
    let is : c.from_residual.result ≡ Err c.in_err-open.field-0.0 = (search rules) in
    rw is (serves_refusal _ _ _ _ _ (λ t stands. by_view_refused c.args.at c.args.place (call.Exit c.args.guard) _ _ _ c.self.view_is (λ t stands. refuses_exit _ c.args.guard c.args.at c.args.place t stands _ c.in_err-open.ensures.value) t stands) (search rules) (exit_named _ c.args.guard c.args.place _ c.in_err-open.ensures.value))

pub at-span-requires : goal.at-span-requires
at-span-requires c = is_there _ (guard_named _ _ _ _ (parts_of c.self.inside) c.self.invariant c.args.guard c.in_ok-open.open (spent_entry c.self.inside.guards.items c.args.guard c.args.place c.in_ok-open.open c.in_ok-open.ensures.value).0)

pub close_entry-requires-clause-own : goal.close_entry-requires-clause-own
close_entry-requires-clause-own c = guard_entry _ _ _ _ (parts_of c.self.inside) c.self.invariant c.args.guard c.in_ok-open.open (spent_entry c.self.inside.guards.items c.args.guard c.args.place c.in_ok-open.open c.in_ok-open.ensures.value).0 c.at-span.result.now c.at-span.ensures

pub close_entry-requires-clause-there : goal.close_entry-requires-clause-there
close_entry-requires-clause-there c = needs_there _ _ _ _ (parts_of c.self.inside) c.self.invariant c.in_ok-open.open.handle c.at-span.result.now c.at-span.ensures

pub close_entry-requires-clause-whole : goal.close_entry-requires-clause-whole
close_entry-requires-clause-whole c = needs_whole _ _ _ _ (parts_of c.self.inside) c.self.invariant c.in_ok-open.open.handle c.at-span.result.now c.at-span.ensures

pub close_entry-requires-clause-may : goal.close_entry-requires-clause-may
close_entry-requires-clause-may c = exit_may _ _ _ _ (parts_of c.self.inside) c.self.invariant c.args.guard c.in_ok-open.open (spent_entry c.self.inside.guards.items c.args.guard c.args.place c.in_ok-open.open c.in_ok-open.ensures.value).0 c.at-span.result.now c.at-span.ensures c.args.place c.index_mut.result.now (within_view _ _ c.self.inside.lanes.items c.args.place c.self.view_is refl c.requires) c.index_mut.ensures.value (spent_entry c.self.inside.guards.items c.args.guard c.args.place c.in_ok-open.open c.in_ok-open.ensures.value).2

pub close_entry-requires-clause-still : goal.close_entry-requires-clause-still
close_entry-requires-clause-still c = exit_still _ _ _ _ (parts_of c.self.inside) c.self.invariant c.args.guard c.in_ok-open.open (spent_entry c.self.inside.guards.items c.args.guard c.args.place c.in_ok-open.open c.in_ok-open.ensures.value).0 c.at-span.result.now c.at-span.ensures c.args.place c.index_mut.result.now (within_view _ _ c.self.inside.lanes.items c.args.place c.self.view_is refl c.requires) c.index_mut.ensures.value

pub invariant_of-self-2 : goal.invariant_of-self-2
invariant_of-self-2 c = keeps_exited _ _ _ _ _ (parts_of c.self.inside) c.close_entry.new.world _ c.calls.ensures c.args.at c.args.place c.index_mut.result.now c.close_entry.new.lane (within_view _ _ c.self.inside.lanes.items c.args.place c.self.view_is refl c.requires) c.index_mut.ensures.value
    c.args.guard c.in_ok-open.open (spent_entry c.self.inside.guards.items c.args.guard c.args.place c.in_ok-open.open c.in_ok-open.ensures.value).0 (spent_entry c.self.inside.guards.items c.args.guard c.args.place c.in_ok-open.open c.in_ok-open.ensures.value).2 c.take_on_lane.new.self.items c.in_ok-open.ensures.spent c.at-span.result.now (guard_entry _ _ _ _ (parts_of c.self.inside) c.self.invariant c.args.guard c.in_ok-open.open (spent_entry c.self.inside.guards.items c.args.guard c.args.place c.in_ok-open.open c.in_ok-open.ensures.value).0 c.at-span.result.now c.at-span.ensures) c.close_entry.ensures.did c.close_entry.ensures.none (spent_entry c.self.inside.guards.items c.args.guard c.args.place c.in_ok-open.open c.in_ok-open.ensures.value).1 c.self.invariant

pub returns : goal.returns
returns c = by_view c.args.at c.args.place (call.Exit c.args.guard) _ _ _ _ c.self.view_is (λ t stands. serves_exited _ _ _ _ _ (parts_of c.self.inside) c.close_entry.new.world _ c.calls.ensures c.args.at c.args.place c.index_mut.result.now c.close_entry.new.lane (within_view _ _ c.self.inside.lanes.items c.args.place c.self.view_is refl c.requires) c.index_mut.ensures.value
    c.args.guard c.in_ok-open.open (spent_entry c.self.inside.guards.items c.args.guard c.args.place c.in_ok-open.open c.in_ok-open.ensures.value).0 (spent_entry c.self.inside.guards.items c.args.guard c.args.place c.in_ok-open.open c.in_ok-open.ensures.value).2 c.take_on_lane.new.self.items c.in_ok-open.ensures.spent c.at-span.result.now (guard_entry _ _ _ _ (parts_of c.self.inside) c.self.invariant c.args.guard c.in_ok-open.open (spent_entry c.self.inside.guards.items c.args.guard c.args.place c.in_ok-open.open c.in_ok-open.ensures.value).0 c.at-span.result.now c.at-span.ensures) c.close_entry.ensures.did c.close_entry.ensures.none (spent_entry c.self.inside.guards.items c.args.guard c.args.place c.in_ok-open.open c.in_ok-open.ensures.value).1 c.self.invariant t stands)
