-- What is taken out stood at the last place of the span on the lane.
use Rattle.std.proofs.Common.{refl, sym}
use Rattle.otel_layer.proofs.Common.{is_token}
use Rattle.otel_state.proofs.LastItemLemmas.{popped}
use Rattle.otel_layer.proofs.layer.tokens.take_last.Goals as goal

pub returns-clause-last : goal.returns-clause-last
returns-clause-last c = sym (popped (is_token c.args.lane c.args.id) _ _ _ _ _ _ c.as_slice.ensures.value refl c.last_place-at.ensures c.remove.ensures.value c.remove.ensures.items).1

pub returns-clause-others : goal.returns-clause-others
returns-clause-others c = (popped (is_token c.args.lane c.args.id) _ _ _ _ _ _ c.as_slice.ensures.value refl c.last_place-at.ensures c.remove.ensures.value c.remove.ensures.items).0
