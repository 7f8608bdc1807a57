use Rattle.trace_lines.proofs.texts.AddsLemmas.{retold}
use Rattle.trace_lines.proofs.write.record.add_kind.Goals as goal

pub returns : goal.returns
returns c = retold _ _ _ _ c.in_ok-add.ensures c.kind_member.ensures
