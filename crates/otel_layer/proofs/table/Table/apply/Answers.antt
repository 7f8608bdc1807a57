-- An op leaves the ids, and as many states.
use Rattle.std.proofs.Common.{rules, ◌≡◌, List, length, ap, subst, ◌∙◌}
use Rattle.otel_layer.proofs.Common.{Entry, AppliesIn, entry_ids, all_data, data_at}
use Rattle.otel_layer.proofs.Gaps.{applied_count}
use Rattle.otel_layer.proofs.RisingIdsLemmas.{kept_whole}
use Rattle.otel_layer.proofs.table.Table.apply.Goals as goal

pub invariant_of-self : goal.invariant_of-self
invariant_of-self c =
    let old : List Entry = c.self.inside.entries.items in
    let now = c.apply.new.entries in
    let as_many : length now ≡ c.self.inside.entries.len = search rules in
    let did = subst (λ (xs : List Entry). AppliesIn (all_data xs) c.args.id c.args.at c.args.op c.apply.result (all_data now)) c.as_mut_slice.ensures.value c.apply.ensures.did in
    let same = c.apply.ensures.ids ∙ ap (λ (xs : List Entry). entry_ids xs) c.as_mut_slice.ensures.value in
    kept_whole c.self.inside.rising c.self.inside.known c.self.inside.entries.len old now as_many same
    (applied_count (data_at c.args.id (all_data old)) (all_data old) (all_data now) c.args.id c.args.at c.args.op c.apply.result did) c.self.invariant
