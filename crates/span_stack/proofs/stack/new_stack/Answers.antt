-- No entry is open.
use Rattle.std.proofs.Common.{rules}
use Rattle.span_stack.proofs.worlds.NewStackLemmas.{nothing_kept}
use Rattle.span_stack.proofs.stack.new_stack.Goals as goal

pub returns-clause-kept : goal.returns-clause-kept
returns-clause-kept c = λ lane number. nothing_kept c.with-3.result.layer.inner c.with-3.result.inner.inner.layer.inner.core lane number (search rules)
