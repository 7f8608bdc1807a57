-- What the gate decides.
use Rattle.std.specs.Prelude.{◌≡◌, ℕ, Bool, true, false, Some}
use Rattle.trace_base.specs.declared.field.ValueSet.{ValueSet}
use Rattle.trace_base.specs.declared.lane.Lane.{Lane}
use Rattle.trace_base.specs.declared.span.Parent.{Parent}
use Rattle.trace_base.specs.declared.subscriber.Subscriber.{Ghosts}
use Rattle.trace_base.specs.Gate.{WorldValue, Admits, dispatch_on}
use Rattle.span_handles.specs.Events.{TellsEvent}
use Rattle.span_handles.specs.Handles.{Handle, Makes}

-- the gate's answer for a callsite on a lane, by the subscriber that serves it
abbrev pub GateAnswers : {S : Type 0} → Ghosts S → WorldValue S → Lane → ℕ → Bool → Type 0
GateAnswers sub world lane site answer = Admits sub.hint sub.enables world lane.id site (dispatch_on lane.default world.global) answer

-- that subscriber made one span under a parent, of which there is this handle
pub record MakesOne {S : Type 0} (sub : Ghosts S) (old new : WorldValue S) (lane : Lane) (at : ℕ) (parent : Parent) (site : ℕ) (values : ValueSet) (handle : Handle) : Type 0 where
  pub dispatch : ℕ
  pub serves : dispatch_on lane.default old.global ≡ Some dispatch
  pub made : Makes sub.spans sub.does old new lane at parent site values dispatch handle

-- that subscriber was told one event under a parent
pub record TellsOne {S : Type 0} (sub : Ghosts S) (old new : WorldValue S) (lane : Lane) (at : ℕ) (parent : Parent) (site : ℕ) (values : ValueSet) : Type 0 where
  pub dispatch : ℕ
  pub serves : dispatch_on lane.default old.global ≡ Some dispatch
  pub told : TellsEvent sub.does old new lane at parent site values dispatch

-- the same where the gate lets the callsite through, and else nothing
pub record TellsIfGateAdmits {S : Type 0} (sub : Ghosts S) (old new : WorldValue S) (lane : Lane) (at : ℕ) (parent : Parent) (site : ℕ) (values : ValueSet) : Type 0 where
  pub told : GateAnswers sub old lane site true → TellsOne sub old new lane at parent site values
  pub refused : GateAnswers sub old lane site false → new ≡ old

-- the same where something was so, and else nothing
abbrev pub TellsWhen : {S : Type 0} → Bool → Ghosts S → WorldValue S → WorldValue S → Lane → ℕ → Parent → ℕ → ValueSet → Type 0
TellsWhen true sub old new lane at parent site values = TellsIfGateAdmits sub old new lane at parent site values
TellsWhen false sub old new lane at parent site values = new ≡ old
