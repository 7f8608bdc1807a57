-- The context is among the live ones.
use Rattle.otel_layer.proofs.Common.{has_if_counted}
use Rattle.otel_layer.proofs.layer.tokens.detach.Goals as goal

pub detach-requires : goal.detach-requires
detach-requires c = has_if_counted _ c.args.lane.now.contexts.live c.requires
