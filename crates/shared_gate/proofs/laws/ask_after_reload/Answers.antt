-- What was reloaded was learnt, and then asked.
use Rattle.shared_gate.proofs.laws.ask_after_reload.Goals as goal

pub returns-clause-answers : goal.returns-clause-answers
returns-clause-answers g c = c.ask_again.ensures.answers _ _ c.in_ok-number.ensures

pub returns-clause-from : goal.returns-clause-from
returns-clause-from g c = c.ask_again.ensures.from _ _ c.in_ok-number.ensures
