-- What is taken out stood at the last place of the span.
use Rattle.std.proofs.Common.{rules, sym, ap, ◌∙◌, option_map}
use Rattle.otel_state.specs.Stack.{is_pair_of}
use Rattle.otel_state.proofs.LastItemLemmas.{popped, none_taken}
use Rattle.otel_state.proofs.stack.IdValueStack.pop.Goals as goal

pub returns-in_err-at-clause-latest : goal.returns-in_err-at-clause-latest
returns-in_err-at-clause-latest g c =
    c.from_residual.ensures ∙ ap (option_map (λ pair. pair.1)) (sym (none_taken (is_pair_of c.args.id.now) c.args.self.now (search rules)).1)

pub returns-in_err-at-clause-others : goal.returns-in_err-at-clause-others
returns-in_err-at-clause-others g c = sym (none_taken (is_pair_of c.args.id.now) c.args.self.now (search rules)).0

pub returns-clause-latest : goal.returns-clause-latest
returns-clause-latest g c =
    ap (option_map (λ pair. pair.1)) (popped (is_pair_of c.args.id.now) _ _ _ _ _ _ c.as_slice.ensures.value c.self.view_is c.in_ok-at.ensures.some c.remove-value.ensures.value c.remove-value.ensures.items).1

pub returns-clause-others : goal.returns-clause-others
returns-clause-others g c =
    (popped (is_pair_of c.args.id.now) _ _ _ _ _ _ c.as_slice.ensures.value c.self.view_is c.in_ok-at.ensures.some c.remove-value.ensures.value c.remove-value.ensures.items).0
