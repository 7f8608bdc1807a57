-- The layer is there.
use Rattle.std.proofs.Common.{subst, Option, ◌≡◌, true}
use Rattle.env_filter.proofs.Common.{no_known_spans, AreAttached, layer_or, none_kept}
use Rattle.env_filter.proofs.reload.hooks.LayerLayer.on_exit.Goals as goal

pub on_exit-requires-clause-still : goal.on_exit-requires-clause-still
on_exit-requires-clause-still g c =
    subst (λ (o : Option g.row.L.Denot). (layer_or no_known_spans g.L.Layer.seen o).knows c.args.id ≡ true → AreAttached (layer_or none_kept g.L.Layer.kept o) c.args.lane.now) c.in-Some.is c.requires.still
