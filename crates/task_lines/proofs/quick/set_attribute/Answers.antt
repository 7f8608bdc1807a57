use Rattle.std.proofs.Common.{List, ℕ, sym, subst}
use Rattle.trace_lines.specs.text.Compact.{plain_data}
use Rattle.trace_tasks.specs.declared.script.Step.TheVariants as step
use Rattle.task_lines.specs.Compact.{BeginsStep}
use Rattle.task_lines.proofs.StepsLemmas.{attribute_begins}
use Rattle.task_lines.proofs.quick.set_attribute.Goals as goal

pub returns : goal.returns
returns c =
    subst (λ (key : List ℕ). BeginsStep c.args.bytes.now (step.SetAttribute key c.in_ok-value.value) c.in_ok-rest.rest.now) (sym c.in_ok-key.ensures)
    (attribute_begins c.args.bytes.now c.in_ok-named.named.now c.in_ok-words.words.now c.in_ok-words.tail.now c.in_ok-inner.inner.now c.in_ok-plain.end.now c.in_ok-rest.rest.now (plain_data c.in_ok-plain.plain)
    c.in_ok-value.value c.in_ok-named.ensures c.in_ok-words.ensures c.in_ok-inner.ensures c.in_ok-plain.ensures c.in_ok-value.ensures c.in_ok-rest.ensures)
