-- By the rule of the gate.
use Rattle.span_stack.proofs.hooks.AdmissionLemmas.{admits_by_rule}
use Rattle.span_stack.proofs.laws.gate_answers_by_filter.Goals as goal

pub returns : goal.returns
returns c = λ world dispatch lane site answer admits current whole f callsite in_force at. admits_by_rule world dispatch lane site answer admits current (λ s there. (whole s there).outer) f callsite in_force at
