-- What all calls on a subscriber keep to, whichever it is.
use Rattle.std.specs.Prelude.{◌≡◌}
use Rattle.trace_base.specs.declared.subscriber.Subscriber.{Ghosts}
use Rattle.trace_base.specs.Calls.{SubscriberCall, spans_after_call}
use Rattle.trace_base.specs.Conditions.{Allowed}
use Rattle.trace_base.specs.lanes.Contexts.{CallKeepsLanes}
use Rattle.trace_base.specs.Sound.{IsSound}

-- the laws of the trait, of one subscriber type
pub record IsLawful {S : Type 0} (sub : Ghosts S) : Type 0 where
  pub sound : (s : S) (call : SubscriberCall) (t : S) → sub.does s call t → IsSound (sub.spans s)
  pub allowed : (s : S) (call : SubscriberCall) (t : S) → sub.does s call t → Allowed (sub.spans s) call
  pub shows : (s : S) (call : SubscriberCall) (t : S) → sub.does s call t → sub.spans t ≡ spans_after_call (sub.spans s) call
  pub keeps_lanes : (s : S) (call : SubscriberCall) (t : S) → sub.does s call t → CallKeepsLanes (sub.attaches s) (sub.kept s) call (sub.kept t)
  pub keeps_attaches : (s : S) (call : SubscriberCall) (t : S) → sub.does s call t → sub.attaches t ≡ sub.attaches s
  pub keeps_whole : (s : S) (call : SubscriberCall) (t : S) → sub.does s call t → sub.is_whole s → sub.is_whole t
  pub same_spans : (s t : S) → sub.same_but_room s t → sub.spans t ≡ sub.spans s
  pub same_attaches : (s t : S) → sub.same_but_room s t → sub.attaches t ≡ sub.attaches s
  pub same_kept : (s t : S) → sub.same_but_room s t → sub.kept t ≡ sub.kept s
  pub same_whole : (s t : S) → sub.same_but_room s t → sub.is_whole s → sub.is_whole t
