-- The lanes so far have the ids and names of those that were passed, no contexts, and the subscriber for their own.
use Rattle.std.proofs.Common.{◌≡◌, ◌++◌, map, [], Some}
use Rattle.trace_pipeline.proofs.opening.new_lanes.Given as goal

abbrev pub invariant-loop-id : goal.invariant-loop-id
invariant-loop-id l = record {
  ids : (map (λ x. x.id) l.lanes.items ++ map (λ n. n.0) l.id-iterator.rest.items) ≡ map (λ n. n.0) l.fn.ids_and_names;
  names : (map (λ x. x.name) l.lanes.items ++ map (λ n. n.1) l.id-iterator.rest.items) ≡ map (λ n. n.1) l.fn.ids_and_names;
  contexts : map (λ x. x.contexts.live) l.lanes.items ≡ map (λ x. []) l.lanes.items;
  served : map (λ x. x.default) l.lanes.items ≡ map (λ x. Some l.fn.dispatch) l.lanes.items;
}
