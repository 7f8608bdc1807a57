-- A span that closes has no entries, so the layer has none.
use Rattle.std.proofs.Common.{sym, ◌∙◌}
use Rattle.std.proofs.lemmas.Bool.{eqb-true}
use Rattle.span_registry.proofs.Common.{left_at_close}
use Rattle.span_registry.proofs.layered.LayeredSubscriber.try_close.Goals as goal

pub on_close-requires-clause-left : goal.on_close-requires-clause-left
on_close-requires-clause-left g c = λ known. left_at_close _ _ c.requires.whole.in_step c.args.id c.requires.own (eqb-true _ 1 (sym c.try_close-closing.ensures.closed ∙ c.if-closing.true))
