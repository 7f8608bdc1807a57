use Rattle.std.specs.Prelude.{is_some}
use Rattle.std.proofs.Common.{sym, ap, ◌∙◌}
use Rattle.otel_metrics.proofs.InstrumentsLemmas.{some_mapped}
use Rattle.otel_metrics.proofs.family.is_of_family.Goals as goal

pub returns-in-Some : goal.returns-in-Some
returns-in-Some c = sym (ap (λ f. is_some f) c.in-Some.is) ∙ some_mapped _ _ _ c.family_alone.ensures

pub returns-in-None : goal.returns-in-None
returns-in-None c = sym (ap (λ f. is_some f) c.in-None.is) ∙ some_mapped _ _ _ c.family_alone.ensures
