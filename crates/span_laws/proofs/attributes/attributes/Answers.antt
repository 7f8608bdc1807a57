use Rattle.span_laws.proofs.records.RecordsLemmas.{attributes}
use Rattle.span_laws.proofs.attributes.attributes.Goals as goal

pub returns : goal.returns
returns c = attributes
