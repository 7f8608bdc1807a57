-- A run of tasks over a tape.
use Rattle.std.specs.Prelude.{◌≡◌, ℕ, ◌<◌, true, List, [], ◌∷◌, length, Option, Some, None, slice_get}
use Rattle.std.specs.List.{list_all}
use Rattle.trace_base.specs.declared.callsite.Callsite.{Callsite}
use Rattle.trace_base.specs.declared.subscriber.Interest.TheVariants as interests
use Rattle.trace_base.specs.Gate.{WorldValue, cached_at}
use Rattle.trace_base.specs.Spans.{Spans}
use Rattle.span_script.specs.declared.request.Request.{Request}
use Rattle.trace_tape.specs.Tapes.{TapeValue, DoesTape}
use Rattle.trace_tape.specs.PartCalls.{TouchesTape}
use Rattle.trace_tasks.specs.declared.script.Step.{Step}
use Rattle.trace_tasks.specs.declared.script.Step.TheVariants as step
use Rattle.trace_tasks.specs.declared.script.Task.{Task}
use Rattle.trace_tasks.specs.Carrying.{TaskScene, Carries}
use Rattle.span_script.specs.Fields.{Fields, declares}

abbrev pub tape_spans : TapeValue → Spans
tape_spans s = s.below.spans

-- requests carried out over a tape
abbrev pub CarriesTape : ℕ → List Request → TaskScene TapeValue → TaskScene TapeValue → Type 0
CarriesTape d rs s t = Carries tape_spans (λ s. None) (λ s lane c. true) DoesTape TouchesTape d rs s t

-- a callsite declares all of some fields
abbrev pub IsDeclared : Option Callsite → Fields → Type 0
IsDeclared None fields = ⊥
IsDeclared (Some c) fields = list_all (λ field. declares c field.0) fields ≡ true

-- what the tests of a script let through: each callsite is there, and declares the fields of a span or an event
abbrev pub StepsAreDeclared : List Callsite → List Step → Type 0
StepsAreDeclared sites [] = Unit {0}
StepsAreDeclared sites (step.Event site fields ∷ steps) = IsDeclared (slice_get sites site) fields × StepsAreDeclared sites steps
StepsAreDeclared sites (step.Record fields ∷ steps) = StepsAreDeclared sites steps
StepsAreDeclared sites (step.SetAttribute key value ∷ steps) = StepsAreDeclared sites steps
StepsAreDeclared sites (step.Yield ∷ steps) = StepsAreDeclared sites steps

abbrev pub TasksAreDeclared : List Callsite → List Task → Type 0
TasksAreDeclared sites [] = Unit {0}
TasksAreDeclared sites (t ∷ ts) = IsDeclared (slice_get sites t.site) t.fields × StepsAreDeclared sites t.steps × TasksAreDeclared sites ts

-- a tape of a world keeps exactly some requests
abbrev pub KeepsOnTape : ℕ → List Request → WorldValue TapeValue → Type 0
KeepsOnTape d requests world = (tape : TapeValue) × (slice_get world.subscribers d ≡ Some tape) × (tape.requests ≡ requests)

-- a tape of a world that is asked for everything, and on which nothing was spelled yet
pub record IsNewTape (world : WorldValue TapeValue) (d : ℕ) (tape : TapeValue) : Type 0 where
  pub there : slice_get world.subscribers d ≡ Some tape
  pub cached : (site : ℕ) → site < length world.sites → cached_at world.cached d site ≡ interests.Always
  pub no_spans : tape.below.spans.made ≡ []
  pub no_handles : tape.handle_counts ≡ []
  pub no_due : tape.due ≡ None
  pub no_entries : tape.entries ≡ []
  pub no_guards : tape.made_guard_count ≡ 0
  pub no_requests : tape.requests ≡ []
