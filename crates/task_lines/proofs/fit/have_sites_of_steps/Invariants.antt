-- The steps that are left decide.
use Rattle.std.proofs.Common.{◌≡◌, drop}
use Rattle.std.specs.List.{list_all}
use Rattle.task_lines.specs.Fit.{has_site_of_step}
use Rattle.task_lines.proofs.fit.have_sites_of_steps.Given as goal

abbrev pub invariant-loop-step : goal.invariant-loop-step
invariant-loop-step l = list_all (λ s. has_site_of_step l.sites s) (drop l.step-index l.steps) ≡ list_all (λ s. has_site_of_step l.sites s) l.fn.steps
