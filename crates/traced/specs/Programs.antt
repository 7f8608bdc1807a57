-- What the definitions of a program take from here, from one place.
pub use Rattle.trace_base.specs.declared.lane.Lane.{Lane}
pub use Rattle.trace_base.specs.declared.span.Parent.TheVariants.{Current, Root}
pub use Rattle.trace_base.specs.declared.subscriber.Subscriber.{Ghosts}
pub use Rattle.trace_base.specs.Gate.{WorldValue}
pub use Rattle.trace_base.specs.lanes.Contexts.{IsFull}
pub use Rattle.span_handles.specs.Handles.{Handle, as_parent}
pub use Rattle.traced.specs.Standing.{IsHeld, IsUnused}
pub use Rattle.traced.specs.Between.{MakesAndCloses, EntersAndExits}
pub use Rattle.traced.specs.Gating.{TellsIfGateAdmits, TellsWhen}
pub use Rattle.traced.specs.Keeping.{StandsAlone, StandsWith, RestoresWorld, RestoresAndDid}
