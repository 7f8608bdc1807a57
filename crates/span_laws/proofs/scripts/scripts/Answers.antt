-- The history of a script is legal.
use Rattle.span_laws.proofs.steps.LegalLemmas.{scripts_are_legal}
use Rattle.span_laws.proofs.scripts.scripts.Goals as goal

pub returns : goal.returns
returns c = scripts_are_legal
