-- It has no level on a lane, and no dynamic directive cares for an event.
use Rattle.span_stack.proofs.hooks.StaticFilterLemmas.{statics_decide}
use Rattle.span_stack.proofs.laws.new_filter_admits_by_statics.Goals as goal

pub returns : goal.returns
returns c = statics_decide
