-- What a step of a task does in a world on a lane.
use Rattle.std.specs.Prelude.{◌≡◌, ℕ, Bool, true, false, List, [], ◌∷◌, ◌++◌, Option, Some, None, Result, Ok, Err, slice_get}
use Rattle.futures.specs.declared.task.Poll.TheVariants.{Ready, Pending}
use Rattle.otel_base.specs.declared.enter_error.EnterError.TheVariants.{Memory}
use Rattle.otel_base.specs.declared.memory.Memory as memory
use Rattle.trace_base.specs.declared.callsite.Callsite.{Callsite}
use Rattle.trace_base.specs.declared.lane.Lane.{Lane}
use Rattle.trace_base.specs.declared.level.LevelFilter.{LevelFilter}
use Rattle.trace_base.specs.declared.span.Parent.TheVariants as parent
use Rattle.trace_base.specs.Calls.{SubscriberCall, Records, Event}
use Rattle.trace_base.specs.Gate.{WorldValue, Admits, dispatch_on}
use Rattle.trace_base.specs.Spans.{Spans, current_on}
use Rattle.span_handles.specs.Worlds.{Replaced, spans_in}
use Rattle.span_futures.specs.Polls.{PollResult}
use Rattle.otel_state.specs.declared.op.Op.{Op}
use Rattle.otel_state.specs.declared.op.Op.TheVariants as ops
use Rattle.otel_state.specs.declared.op.OpReply.{OpReply}
use Rattle.otel_layer.specs.Parts.{PartCall, Applies}
use Rattle.trace_tasks.specs.declared.script.Step.{Step}
use Rattle.trace_tasks.specs.declared.script.Step.TheVariants as step
use Rattle.span_script.specs.Fields.{Fields, values_of}

-- ---- polls of a list of steps

-- the steps up to a yield or the end
abbrev pub steps_now : List Step → List Step
steps_now [] = []
steps_now (step.Yield ∷ steps) = []
steps_now (step.Event site fields ∷ steps) = step.Event site fields ∷ steps_now steps
steps_now (step.Record fields ∷ steps) = step.Record fields ∷ steps_now steps
steps_now (step.SetAttribute key value ∷ steps) = step.SetAttribute key value ∷ steps_now steps

-- the steps after the first yield, none where there is no yield
abbrev pub steps_left : List Step → Option (List Step)
steps_left [] = None
steps_left (step.Yield ∷ steps) = Some steps
steps_left (step.Event site fields ∷ steps) = steps_left steps
steps_left (step.Record fields ∷ steps) = steps_left steps
steps_left (step.SetAttribute key value ∷ steps) = steps_left steps

-- an answer that is none or isn't want of memory
abbrev pub IsGranted : {A E : Type 0} → Option (Result A E) → Type 0
IsGranted None = Unit {0}
IsGranted (Some (Ok reply)) = Unit {0}
IsGranted (Some (Err memory)) = ⊥

-- ---- steps, by a subscriber on a lane at a moment

module _ {S : Type 0} (spans : S → Spans) (hint : S → Option LevelFilter) (enables : S → ℕ → Callsite → Bool) (does : S → SubscriberCall → S → Type 0) (touches : S → PartCall → S → Type 0) where
  -- a call of a subscriber, if it is made
  abbrev pub CallsIf : Bool → SubscriberCall → WorldValue S → WorldValue S → ℕ → Type 0
  CallsIf true call old new d = Replaced (λ s t. does s call t) old new d
  CallsIf false call old new d = new ≡ old

  -- an event of a callsite, if it is let through
  abbrev pub TellsAt : (lane : Lane) (at d site : ℕ) → Fields → Option Callsite → WorldValue S → WorldValue S → Type 0
  TellsAt lane at d site fields None old new = new ≡ old
  TellsAt lane at d site fields (Some callsite) old new = (answer : Bool) × Admits hint enables old lane.id site (Some d) answer
      × CallsIf answer (Event lane at parent.Current site callsite (values_of callsite fields)) old new d

  -- a record on a span with a callsite
  abbrev pub RecordsTo : (at d id : ℕ) → Fields → Option Callsite → WorldValue S → WorldValue S → Type 0
  RecordsTo at d id fields None old new = new ≡ old
  RecordsTo at d id fields (Some callsite) old new = Replaced (λ s t. does s (Records id at callsite (values_of callsite fields)) t) old new d

  -- an op on a span
  abbrev pub SetsTo : (at d id : ℕ) → Op → WorldValue S → WorldValue S → Type 0
  SetsTo at d id op old new = (answer : _) × IsGranted answer × Replaced (λ s t. touches s (Applies id at op answer) t) old new d

  -- a step by a subscriber, on its current span of the lane
  abbrev pub StepAt : (lane : Lane) (at d : ℕ) (current : Option (ℕ × ℕ)) → Step → WorldValue S → WorldValue S → Type 0
  StepAt lane at d current (step.Event site fields) old new = TellsAt lane at d site fields (slice_get old.sites site) old new
  StepAt lane at d None (step.Record fields) old new = new ≡ old
  StepAt lane at d (Some c) (step.Record fields) old new = RecordsTo at d c.0 fields (slice_get old.sites c.1) old new
  StepAt lane at d None (step.SetAttribute key value) old new = new ≡ old
  StepAt lane at d (Some c) (step.SetAttribute key value) old new = SetsTo at d c.0 (ops.SetAttribute (record { key = key; value = value })) old new
  StepAt lane at d current step.Yield old new = new ≡ old

  -- a step by the subscriber that serves the lane, if one does
  abbrev pub StepIf : (lane : Lane) (at : ℕ) → Option ℕ → Step → WorldValue S → WorldValue S → Type 0
  StepIf lane at None s old new = new ≡ old
  StepIf lane at (Some d) s old new = StepAt lane at d (current_on lane.id (spans_in spans old d)) s old new

  abbrev pub StepOn : (lane : Lane) (at : ℕ) → Step → WorldValue S → WorldValue S → Type 0
  StepOn lane at s old new = StepIf lane at (dispatch_on lane.default old.global) s old new

  -- some steps, one after another
  abbrev pub StepsOn : (lane : Lane) (at : ℕ) → List Step → WorldValue S → WorldValue S → Type 0
  StepsOn lane at [] old new = new ≡ old
  StepsOn lane at (s ∷ steps) old new = (world : WorldValue S) × StepOn lane at s old world × StepsOn lane at steps world new

  -- ---- what wanting memory leaves

  -- nothing; spare room that was taken; or an op from outside that wasn't granted
  pub data WantsMemory (same : S → S → Type 0) (at : ℕ) (old new : WorldValue S) : Type 0 where
    untouched : new ≡ old → WantsMemory same at old new
    spare : (d : ℕ) → Replaced same old new d → WantsMemory same at old new
    denied : (d id : ℕ) (op : Op) (wanted : memory.Memory) → Replaced (λ s t. touches s (Applies id at op (Some (Err wanted))) t) old new d → WantsMemory same at old new

  -- the first of some steps were done, and the next one wanted memory
  pub record StopsIn (same : S → S → Type 0) (lane : Lane) (at : ℕ) (steps : List Step) (old new : WorldValue S) : Type 0 where
    pub done : List Step
    pub refused : Step
    pub others : List Step
    pub within : done ++ refused ∷ others ≡ steps
    pub world : WorldValue S
    pub did : StepsOn lane at done old world
    pub wants : WantsMemory same at world new

  -- a poll of some steps: those up to a yield or the end, and what is left
  abbrev pub PollsSteps : (S → S → Type 0) → List Step → WorldValue S → Lane → ℕ → PollResult (Unit {0}) → List Step → WorldValue S → Lane → Type 0
  PollsSteps same steps old before at (Ok (Ready x)) left new later = (later ≡ before) × (steps_left steps ≡ None) × StepsOn before at (steps_now steps) old new
  PollsSteps same steps old before at (Ok Pending) left new later = (later ≡ before) × (steps_left steps ≡ Some left) × StepsOn before at (steps_now steps) old new
  PollsSteps same steps old before at (Err e) left new later = (later ≡ before) × (e ≡ Memory) × StopsIn same before at (steps_now steps) old new

  -- ---- what a step may change

  -- nothing but room; one call that makes, enters, exits and closes no span; or one op from outside
  pub data Changes (same : S → S → Type 0) (at : ℕ) (old new : WorldValue S) : Type 0 where
    nothing : new ≡ old → Changes same at old new
    room : (d : ℕ) → Replaced same old new d → Changes same at old new
    told : (d : ℕ) (lane : Lane) (parent : _) (site : ℕ) (callsite : Callsite) (values : _) → Replaced (λ s t. does s (Event lane at parent site callsite values) t) old new d → Changes same at old new
    recorded : (d id : ℕ) (callsite : Callsite) (values : _) → Replaced (λ s t. does s (Records id at callsite values) t) old new d → Changes same at old new
    asked : (d id : ℕ) (op : Op) (answer : _) → Replaced (λ s t. touches s (Applies id at op answer) t) old new d → Changes same at old new

-- what a task does beside calls, at a moment: ops from outside
pub record Asks {S : Type 0} (touches : S → PartCall → S → Type 0) (at : ℕ) (s t : S) : Type 0 where
  pub id : ℕ
  pub op : Op
  pub answer : Option (Result OpReply memory.Memory)
  pub did : touches s (Applies id at op answer) t
