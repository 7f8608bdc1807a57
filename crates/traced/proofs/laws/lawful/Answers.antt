-- By the trait's laws.
use Rattle.traced.proofs.laws.lawful.Goals as goal

pub returns : goal.returns
returns g c = record {
  sound = g.met.S.Subscriber.sound;
  allowed = g.met.S.Subscriber.allowed;
  shows = g.met.S.Subscriber.shows;
  keeps_lanes = g.met.S.Subscriber.keeps_lanes;
  keeps_attaches = g.met.S.Subscriber.keeps_attaches;
  keeps_whole = g.met.S.Subscriber.keeps_whole;
  same_spans = g.met.S.Subscriber.same_spans;
  same_attaches = g.met.S.Subscriber.same_attaches;
  same_kept = g.met.S.Subscriber.same_kept;
  same_whole = g.met.S.Subscriber.same_whole;
}
