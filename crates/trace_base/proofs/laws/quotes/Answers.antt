use Rattle.trace_base.proofs.QuotesApartLemmas.{quoted_apart}
use Rattle.trace_base.proofs.laws.quotes.Goals as goal

pub returns : goal.returns
returns c = record { differ = quoted_apart }
