-- What the definitions of a program with futures take from here, from one place.
pub use Rattle.traced.specs.Programs.{Lane, Current, Root, Ghosts, WorldValue, IsFull, Handle, as_parent, IsHeld, IsUnused, MakesAndCloses, EntersAndExits, TellsIfGateAdmits, TellsWhen, StandsAlone, StandsWith, RestoresWorld, RestoresAndDid}
pub use Rattle.traced_futures.specs.Polling.{Instrumented, Plain, PollsOnce, KeepsFuture, RunsUnder}
