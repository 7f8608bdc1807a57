-- By the rule for what a filter stands for.
use Rattle.env_filter.proofs.Common.{plain_filter, gate_is_admitted}
use Rattle.env_filter.proofs.laws.gates.Goals as goal

pub returns : goal.returns
returns c f lane callsite w = gate_is_admitted (plain_filter f) lane callsite w
