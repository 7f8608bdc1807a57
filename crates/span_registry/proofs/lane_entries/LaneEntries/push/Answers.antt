-- The spans that the lane is in, with an entry more.
use Rattle.std.proofs.Common.{sym, ap, ◌∙◌, List, ℕ, [], ◌∷◌, ◌++◌, Bool, if◌then◌else◌}
use Rattle.span_registry.proofs.Common.{is_in, firsts_of}
use Rattle.span_registry.proofs.LaneSpansLemmas.{firsts_push}
use Rattle.span_registry.proofs.lane_entries.LaneEntries.push.Goals as goal

pub invariant_of-self-2 : goal.invariant_of-self-2
invariant_of-self-2 c =
    let ids = c.self.inside.ids.items in
    c.push_unless.ensures
    ∙ ap (λ (b : Bool). if b then c.reserve.new.self.items else c.reserve.new.self.items ++ c.args.id ∷ []) (c.contains-again.ensures ∙ ap (is_in c.args.id) c.as_slice.ensures.value)
    ∙ ap (λ (xs : List ℕ). if is_in c.args.id ids then xs else xs ++ c.args.id ∷ []) (c.reserve.ensures.items ∙ c.self.invariant)
    ∙ sym (firsts_push [] ids c.args.id) ∙ ap firsts_of (sym c.in_ok-push.ensures.items)
