-- By the rule of the gate, since the subscriber that serves the lane is asked.
use Rattle.std.proofs.Common.{subst}
use Rattle.span_handles.specs.Handles.{HasIf}
use Rattle.span_stack.specs.Reading.{SubscriberStack}
use Rattle.span_stack.proofs.Common.{Admits}
use Rattle.span_stack.proofs.hooks.AdmissionLemmas.{hint_over, enables_over, admits_by_rule}
use Rattle.span_stack.proofs.gate.admits.Goals as goal

pub returns-clause-served : goal.returns-clause-served
returns-clause-served c = λ dispatch f callsite serves in_force at. admits_by_rule c.args.world.now dispatch c.args.lane.now.id c.args.site c.admits.result
    (subst (λ o. Admits hint_over enables_over c.args.world.now c.args.lane.now.id c.args.site o c.admits.result) serves c.admits.ensures) c.requires.current
    (λ s there. (subst (HasIf _ c.args.world.now) serves c.requires.whole s there).outer) f callsite in_force at

pub returns-clause-none : goal.returns-clause-none
returns-clause-none c = λ none. subst (λ o. Admits hint_over enables_over c.args.world.now c.args.lane.now.id c.args.site o c.admits.result) none c.admits.ensures
