use Rattle.span_laws.proofs.spans.ChildrenLemmas.{children_first}
use Rattle.span_laws.proofs.spans.ChainsLemmas.{only_drops, one_chain}
use Rattle.span_laws.proofs.chains.chains.Goals as goal

pub returns-clause-only_drops : goal.returns-clause-only_drops
returns-clause-only_drops c = only_drops

pub returns-clause-one_chain : goal.returns-clause-one_chain
returns-clause-one_chain c = one_chain

pub returns-clause-children_first : goal.returns-clause-children_first
returns-clause-children_first c = children_first
