use Rattle.std.proofs.Common.{sym, ◌∙◌}
use Rattle.env_directives.proofs.cuts.CutsLemmas.{before_stop, behind_stop}
use Rattle.env_directives.proofs.env.cut.cut.Goals as goal

pub range-requires-clause-end_boundary : goal.range-requires-clause-end_boundary
range-requires-clause-end_boundary c =
    before_stop c.args.stops.now c.args.text.now _ c.loop-at.at c.as_bytes-byte-items.ensures.value c.requires
    (sym c.contains.ensures.value ∙ c.if-contains.true) c.loop-at-test.true

pub range_from-requires : goal.range_from-requires
range_from-requires c =
    λ _. behind_stop c.args.stops.now c.args.text.now _ c.loop-at.at c.as_bytes-byte-items.ensures.value c.requires
    (sym c.contains.ensures.value ∙ c.if-contains.true) c.loop-at-test.true c.utf8.text
