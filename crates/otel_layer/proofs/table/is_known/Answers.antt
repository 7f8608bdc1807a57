-- A span is known where its entry is found.
use Rattle.std.proofs.Common.{◌∙◌}
use Rattle.otel_layer.proofs.TableLemmas.{found_known}
use Rattle.otel_layer.proofs.table.is_known.Goals as goal

pub returns : goal.returns
returns c = c.is_some.ensures ∙ found_known c.args.id c.args.entries.now c.find.result c.find.ensures
