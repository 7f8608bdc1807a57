-- A layer that knows no span and attaches nothing: what it has to show of its hooks.
use Rattle.std.specs.Prelude.{◌≡◌, false}
use Rattle.std.proofs.Common.{refl, sym, ap, arith}
use Rattle.std.proofs.lemmas.Bool.{true≢false}
use Rattle.trace_base.specs.declared.lane.Lane.{Lane}
use Rattle.trace_base.specs.lanes.Contexts.{KeepsLane, TracksAttached, attached_count_on}
use Rattle.trace_base.specs.layers.Hooks.{Hook, OnNewSpan, OnRecord, OnFollows, OnEvent, OnEnter, OnExit, OnClose, KnownSpans, Sees, HookKeepsLanes}

abbrev pub no_known_spans : KnownSpans
no_known_spans = record { knows = λ id. false; entries = λ lane id. 0 }

-- an entry and an exit leave the lane as it is
abbrev pub LeavesLanes : Hook → Type 0
LeavesLanes (OnEnter id at before later) = later ≡ before
LeavesLanes (OnExit id at before later) = later ≡ before
LeavesLanes (OnNewSpan id lane at parent current callsite values) = Unit {0}
LeavesLanes (OnRecord id at callsite values) = Unit {0}
LeavesLanes (OnFollows id from at) = Unit {0}
LeavesLanes (OnEvent reached lane at callsite values) = Unit {0}
LeavesLanes (OnClose id at) = Unit {0}

pub unseeing_sees : (hook : Hook) → Sees no_known_spans hook no_known_spans
unseeing_sees hook = record {
  gains = λ id knows not. absurd (true≢false (sym knows));
  loses = λ id knew not. absurd (true≢false (sym knew));
  known = λ lane id knew. absurd (true≢false (sym knew));
  unknown = λ lane id not. refl;
}

-- a lane that was left as it is
pub left_as_it_is : (a b : Lane) → b ≡ a → KeepsLane false a b
left_as_it_is a b e = record { id = ap (λ (l : Lane). l.id) e; name = ap (λ (l : Lane). l.name) e; default = ap (λ (l : Lane). l.default) e; as_it_is = λ no. e }

pub nothing_kept : (a b : Lane) → b ≡ a → TracksAttached (λ lane number. 0) a b (λ lane number. 0)
nothing_kept a b e lane number = let y = ap (λ (l : Lane). attached_count_on lane number l) e in omega (arith, y)

pub unseeing_lanes : (hook : Hook) → LeavesLanes hook → HookKeepsLanes false (λ lane number. 0) hook (λ lane number. 0)
unseeing_lanes (OnEnter id at before later) left = (left_as_it_is before later left, nothing_kept before later left)
unseeing_lanes (OnExit id at before later) left = (left_as_it_is before later left, nothing_kept before later left)
unseeing_lanes (OnNewSpan id lane at parent current callsite values) left = refl
unseeing_lanes (OnRecord id at callsite values) left = refl
unseeing_lanes (OnFollows id from at) left = refl
unseeing_lanes (OnEvent reached lane at callsite values) left = refl
unseeing_lanes (OnClose id at) left = refl
