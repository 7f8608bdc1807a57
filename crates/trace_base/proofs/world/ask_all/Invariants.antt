-- The callsites that were passed have their rows, and all subscribers are the same but for room.
use Rattle.std.proofs.Common.{◌≡◌, map, take}
use Rattle.trace_base.specs.Gate.{AreSame, interests_in}
use Rattle.trace_base.proofs.world.ask_all.Given as goal

abbrev pub invariant-loop-site : goal.invariant-loop-site
invariant-loop-site g l = record {
  same : AreSame g.S.Subscriber.same_but_room l.initial.subscribers.items l.subscribers.items;
  rows : l.rows.items ≡ map (interests_in g.S.Subscriber.interest l.initial.subscribers.items) (take l.site-index l.sites);
}
