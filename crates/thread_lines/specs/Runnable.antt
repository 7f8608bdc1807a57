-- What is known of a script whose lines passed their tests.
use Rattle.std.specs.Prelude.{◌≡◌, ℕ, ◌<◌, ◌≤◌, List, [], ◌∷◌, length, true, false, is_some}
use Rattle.env_directives.specs.declared.env.directive.Directive.{Directive}
use Rattle.env_filter.specs.texts.Pieces.{ReadsText}
use Rattle.otel_state.specs.declared.times.TheConstants.{GREATEST}
use Rattle.span_script.specs.Setups.{span_site}
use Rattle.trace_base.specs.declared.callsite.Callsite.{Callsite}
use Rattle.thread_script.specs.declared.script.SharedLine.{SharedLine}
use Rattle.thread_script.specs.declared.script.ThreadScript.{ThreadScript}
use Rattle.thread_script.specs.Plans.{plan_of}
use Rattle.thread_script.specs.Tests.{AllValidWork}
use Rattle.thread_lines.specs.declared.limits.TheConstants.{MAX_SHARED_SPANS, MAX_WORKERS}

-- each piece of a filter's text that isn't empty is a directive
abbrev pub HasFilter : List ℕ → Type 0
HasFilter text = (ds : List Directive) × ReadsText false text ds []

-- a shared span isn't made too late, and is of a callsite of spans
abbrev pub IsValidSharedLine : List Callsite → SharedLine → Type 0
IsValidSharedLine callsites l = (l.at ≤ GREATEST) × (is_some (span_site callsites l.site) ≡ true)

abbrev pub AreValidSharedLines : List Callsite → List SharedLine → Type 0
AreValidSharedLines callsites [] = Unit {0}
AreValidSharedLines callsites (l ∷ ls) = IsValidSharedLine callsites l × AreValidSharedLines callsites ls

-- A script that workers may run.
pub record IsRunnable (script : ThreadScript) : Type 0 where
  pub filter : HasFilter script.filter
  pub shared : AreValidSharedLines script.callsites script.shared
  pub lane : 0 < length script.shared → 0 < length script.lanes
  pub tested : AllValidWork (plan_of script) script.workers
  pub few_spans : length script.shared ≤ MAX_SHARED_SPANS
  pub few_workers : length script.workers ≤ MAX_WORKERS
