-- Requests carried out, each by exactly its call of a subscriber.
use Rattle.std.specs.Prelude.{◌≡◌, ℕ, Bool, true, false, List, [], ◌∷◌, ◌++◌, Option, Some, None, slice_get}
use Rattle.trace_base.specs.declared.callsite.Callsite.{Callsite}
use Rattle.trace_base.specs.declared.lane.Lane.{Lane}
use Rattle.trace_base.specs.declared.level.LevelFilter.{LevelFilter}
use Rattle.trace_base.specs.declared.span.Parent.TheVariants as parent
use Rattle.trace_base.specs.Calls.{SubscriberCall, Exit}
use Rattle.trace_base.specs.Gate.{WorldValue, Admits}
use Rattle.trace_base.specs.Spans.{Spans}
use Rattle.span_handles.specs.Worlds.{Chain}
use Rattle.span_handles.specs.Handles.{Handle, HeldSpan, ReplacedOn, RecordsOn, Makes, callsite_in}
use Rattle.span_handles.specs.Entries.{BeginsInside}
use Rattle.otel_state.specs.declared.op.Op.TheVariants as ops
use Rattle.otel_layer.specs.Parts.{PartCall}
use Rattle.otel_layer.specs.Asking.{AppliesOn}
use Rattle.span_script.specs.declared.request.Call.{Call}
use Rattle.span_script.specs.declared.request.Call.TheVariants as call
use Rattle.span_script.specs.declared.request.RequestParent.TheVariants as request_parent
use Rattle.span_script.specs.declared.request.Request.{Request}
use Rattle.trace_tasks.specs.Acts.{TellsAt, IsGranted}
use Rattle.span_script.specs.Fields.{Fields, values_of, values_by}

-- a world, the lane, and the handles and guards that were made, by their numbers; a guard is of a handle
pub record TaskScene (S : Type 0) : Type 0 where
  pub world : WorldValue S
  pub lane : Lane
  pub handles : List Handle
  pub guards : List HeldSpan

-- a span's handle if its making is let through, else a disabled one
module _ {S : Type 0} (spans : S → Spans) (hint : S → Option LevelFilter) (enables : S → ℕ → Callsite → Bool) (does : S → SubscriberCall → S → Type 0) (touches : S → PartCall → S → Type 0) (d : ℕ) where
  abbrev pub MakesGated : Bool → WorldValue S → WorldValue S → Lane → ℕ → ℕ → Callsite → Fields → Handle → Type 0
  MakesGated true old new lane at site callsite fields handle = Makes spans does old new lane at parent.Current site (values_of callsite fields) d handle
  MakesGated false old new lane at site callsite fields handle = (handle ≡ record { held = None; site = Some site }) × (new ≡ old)

  pub record CarriesNew (at site : ℕ) (fields : Fields) (s t : TaskScene S) : Type 0 where
    pub callsite : Callsite
    pub is : slice_get s.world.sites site ≡ Some callsite
    pub admitted : Bool
    pub gate : Admits hint enables s.world s.lane.id site (Some d) admitted
    pub handle : Handle
    pub made : MakesGated admitted s.world t.world s.lane at site callsite fields handle
    pub lane : t.lane ≡ s.lane
    pub handles : t.handles ≡ s.handles ++ handle ∷ []
    pub guards : t.guards ≡ s.guards

  -- what a request on a handle does to the world and the lane
  abbrev pub OnHandle : ℕ → Call → Handle → WorldValue S → Lane → WorldValue S → Lane → Type 0
  OnHandle at (call.Record n fields) handle old before new later = (later ≡ before) × RecordsOn does old new at (values_by (callsite_in old handle.site) fields) handle
  OnHandle at (call.SetAttribute n key value) handle old before new later = (later ≡ before) × ((answer : _) × IsGranted answer
      × AppliesOn touches old new at (ops.SetAttribute (record { key = key; value = value })) handle.held answer)
  OnHandle at (call.Drop n) handle old before new later = (later ≡ before) × ReplacedOn (λ id s t. Chain spans does at (Some id) s t) old new handle.held
  OnHandle at _ handle old before new later = ⊥

  -- of the handle of a number
  pub record CarriesOnHandle (at number : ℕ) (call : Call) (s t : TaskScene S) : Type 0 where
    pub handle : Handle
    pub is : slice_get s.handles number ≡ Some handle
    pub did : OnHandle at call handle s.world s.lane t.world t.lane
    pub handles : t.handles ≡ s.handles
    pub guards : t.guards ≡ s.guards

  pub record CarriesEnter (at number : ℕ) (s t : TaskScene S) : Type 0 where
    pub handle : Handle
    pub is : slice_get s.handles number ≡ Some handle
    pub begins : BeginsInside does at handle.held s.world s.lane t.world t.lane
    pub handles : t.handles ≡ s.handles
    pub guards : t.guards ≡ s.guards ++ handle.held ∷ []

  pub record CarriesExit (at number : ℕ) (s t : TaskScene S) : Type 0 where
    pub held : HeldSpan
    pub is : slice_get s.guards number ≡ Some held
    pub exited : ReplacedOn (λ id a b. does a (Exit id at s.lane t.lane) b) s.world t.world held
    pub none : held ≡ None → t.lane ≡ s.lane
    pub handles : t.handles ≡ s.handles
    pub guards : t.guards ≡ s.guards

  pub record CarriesEvent (at site : ℕ) (fields : Fields) (s t : TaskScene S) : Type 0 where
    pub told : TellsAt spans hint enables does touches s.lane at d site fields (slice_get s.world.sites site) s.world t.world
    pub lane : t.lane ≡ s.lane
    pub handles : t.handles ≡ s.handles
    pub guards : t.guards ≡ s.guards

  -- a request carried out, of those that tasks make
  abbrev pub CarriesCall : ℕ → Call → TaskScene S → TaskScene S → Type 0
  CarriesCall at (call.New site request_parent.Contextual fields) s t = CarriesNew at site fields s t
  CarriesCall at (call.Enter n) s t = CarriesEnter at n s t
  CarriesCall at (call.Exit n) s t = CarriesExit at n s t
  CarriesCall at (call.Event site request_parent.Contextual fields) s t = CarriesEvent at site fields s t
  CarriesCall at (call.Record n fields) s t = CarriesOnHandle at n (call.Record n fields) s t
  CarriesCall at (call.SetAttribute n key value) s t = CarriesOnHandle at n (call.SetAttribute n key value) s t
  CarriesCall at (call.Drop n) s t = CarriesOnHandle at n (call.Drop n) s t
  CarriesCall at _ s t = ⊥

  -- requests carried out, one after another, and nothing else
  abbrev pub Carries : List Request → TaskScene S → TaskScene S → Type 0
  Carries [] s t = t ≡ s
  Carries (r ∷ rs) s t = (m : TaskScene S) × CarriesCall r.at r.call s m × Carries rs m t
