-- The steps that are left decide.
use Rattle.std.proofs.Common.{◌≡◌, drop}
use Rattle.std.specs.List.{list_all}
use Rattle.task_lines.specs.Fit.{declares_event_fields}
use Rattle.task_lines.proofs.fit.declare_event_fields.Given as goal

abbrev pub invariant-loop-step : goal.invariant-loop-step
invariant-loop-step l = list_all (λ s. declares_event_fields l.sites s) (drop l.step-index l.steps) ≡ list_all (λ s. declares_event_fields l.sites s) l.fn.steps
