-- The layer is there.
use Rattle.std.proofs.Common.{subst, Option, ◌≡◌, true, ℕ}
use Rattle.env_filter.proofs.Common.{no_known_spans, layer_or}
use Rattle.env_filter.proofs.reload.hooks.LayerLayer.on_close.Goals as goal

pub on_close-requires-clause-left : goal.on_close-requires-clause-left
on_close-requires-clause-left g c =
    subst (λ (o : Option g.row.L.Denot). (layer_or no_known_spans g.L.Layer.seen o).knows c.args.id ≡ true → (lane : ℕ) → (layer_or no_known_spans g.L.Layer.seen o).entries lane c.args.id ≡ 0) c.in-Some.is c.requires.left
