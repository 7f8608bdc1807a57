-- A start leaves the ids, and as many states.
use Rattle.std.proofs.Common.{rules, ◌≡◌, List, length, ap, subst, ◌∙◌}
use Rattle.otel_layer.proofs.Common.{Entry, entry_ids, all_data}
use Rattle.otel_layer.proofs.RisingIdsLemmas.{kept_whole}
use Rattle.otel_layer.proofs.StartsLemmas.{started_count}
use Rattle.otel_layer.specs.Starts.{StartsIn}
use Rattle.otel_layer.proofs.table.Table.start.Goals as goal

pub invariant_of-self : goal.invariant_of-self
invariant_of-self g c =
    let old : List Entry = c.self.inside.entries.items in
    let now = c.start.new.entries in
    let as_many : length now ≡ c.self.inside.entries.len = search rules in
    let did = subst (λ (xs : List Entry). StartsIn g.T.Tracer.does c.args.id c.args.at (all_data xs) c.args.tracer.now c.start.new.tracer (all_data now)) c.as_mut_slice.ensures.value c.start.ensures.starts in
    let same = c.start.ensures.ids ∙ ap (λ (xs : List Entry). entry_ids xs) c.as_mut_slice.ensures.value in
    kept_whole c.self.inside.rising c.self.inside.known c.self.inside.entries.len old now as_many same (started_count g.T.Tracer.does c.args.id c.args.at (all_data old) c.args.tracer.now c.start.new.tracer (all_data now) did) c.self.invariant
