use Rattle.trace_lines.proofs.Common.{both_ways, sym}
use Rattle.trace_lines.proofs.texts.DecimalsLemmas.{is_spelled, no_decimal, no_number}
use Rattle.trace_lines.proofs.read.decimal.u128_of.Goals as goal

pub returns-then-is_decimal : goal.returns-then-is_decimal
returns-then-is_decimal c = sym (is_spelled c.args.word.now c.in-Ok.number c.in-Ok.ensures.value.0 (c.is_decimal.ensures.0 c.if-is_decimal.true))

pub returns-else-is_decimal : goal.returns-else-is_decimal
returns-else-is_decimal c = sym (no_decimal c.args.word.now c.in-Ok.number c.in-Ok.ensures.value.0 (λ is. both_ways _ c.if-is_decimal.false (c.is_decimal.ensures.1 is)))

pub returns-in-Err : goal.returns-in-Err
returns-in-Err c = sym (no_number c.args.word.now c.in-Err.ensures.value.0)
