-- What a handle's turns promise.
use Rattle.std.specs.Prelude.{◌≡◌, ℕ, List, [], ◌∷◌, ◌++◌, length, Some, None, true, false}
use mathlib.Core.List.{IsPrefix}
use Rattle.trace_threads.specs.declared.making.Making.{Making}
use Rattle.trace_threads.specs.declared.history.Entry.{Entry}
use Rattle.trace_threads.specs.declared.history.HandleAct.{HandleAct}
use Rattle.trace_threads.specs.declared.history.HandleAct.TheVariants.{Call}
use Rattle.otel_state.specs.declared.op.Op.{Op}
use Rattle.otel_state.specs.declared.op.OpReply.{OpReply}
use Rattle.trace_threads.specs.declared.turns.View.{View}
use Rattle.trace_threads.specs.declared.turns.TicketStage.TheVariants.{Idle, Waits, Holds}
use Rattle.trace_threads.specs.History.{IsLegal, entries_by, written_entry, is_closed}
use Rattle.trace_threads.specs.Shared.{SharedSpanValue, shared_of, reply_at}
use Rattle.trace_threads.specs.Turns.{Turn, Slot, SeatValue, entries, view, AllBegin, Known, home_of, view_after, after_turn, MayTurn}

-- a seat that has no ticket, and was not joined into another
abbrev pub IsFree : SeatValue → Type 0
IsFree m = (m.0.stage ≡ Idle) × (m.0.live ≡ true)

-- a seat that waits with this ticket
abbrev pub IsWaiting : SeatValue → ℕ → Type 0
IsWaiting m t = (m.0.stage ≡ Waits t) × (m.0.live ≡ true) × (m.1 ≡ [])

-- between calls a seat has no ticket and no slot
abbrev pub IsIdle : SeatValue → Type 0
IsIdle m = (m.1 ≡ []) × (m.0.stage ≡ Idle) × (m.0.live ≡ true)

-- a seat that has no number
abbrev pub IsBare : SeatValue → Type 0
IsBare m = (m.0.number ≡ None) × (m.0.other ≡ None)

-- and it has the number of its handle, all whose entries it has seen
abbrev pub IsAtRest : SeatValue → ℕ → Type 0
IsAtRest m k =
    IsIdle m × (m.0.number ≡ Some k) × (m.0.other ≡ None) × (entries_by k (entries m.0.seen) ≡ m.0.mine)

-- the turn came, and the state was taken out of the slot
pub record Begun (m w : SeatValue) (ticket : ℕ) (had : SharedSpanValue) : Type 0 where
  pub view : w.0 ≡ view m.0.origin w.0.seen [] m.0.number m.0.mine m.0.other m.0.theirs (Holds ticket)
  pub slot : w.1 ≡ (0, None) ∷ []
  pub state : had ≡ shared_of m.0.origin (entries w.0.seen)
  pub begins : IsPrefix m.0.seen w.0.seen
  pub before : AllBegin m.0.origin m.0.earlier w.0.seen
  pub legal : IsLegal m.0.origin.made_at (entries w.0.seen)
  pub own_entries : Known m.0.origin (entries w.0.seen) m.0.mine m.0.number
  pub other : Known m.0.origin (entries w.0.seen) m.0.theirs m.0.other
  pub apart : (k : ℕ) → m.0.number ≡ Some k → m.0.other ≡ Some k → ⊥

-- What a turn with an entry leaves. What is seen afterwards begins with what was seen before and ends with this entry,
-- which is the one more that the handle made, and the history has no others of it.
pub record MakesEntry (v w : View) (k at : ℕ) (what : HandleAct) : Type 0 where
  pub between : List Turn
  pub ends : w.seen
      ≡ (v.seen ++ between) ++ Some (written_entry v.origin.made_at (entries (v.seen ++ between)) k at what) ∷ []
  pub mine : w.mine ≡ v.mine ++ written_entry v.origin.made_at (entries (v.seen ++ between)) k at what ∷ []
  pub own_entries : entries_by k (entries w.seen) ≡ w.mine
  pub legal : IsLegal v.origin.made_at (entries w.seen)
  pub same : w.origin ≡ v.origin

-- the same of a call: its place in the history, and what the op answers there
pub record Called (v w : View) (k at : ℕ) (op : Op) (place : ℕ) (reply : OpReply) : Type 0 where
  pub made : MakesEntry v w k at (Call op)
  pub at_place : place ≡ length (entries (v.seen ++ made.between))
  pub replied : reply ≡ reply_at v.origin (entries (v.seen ++ made.between)) op

-- no entry more: where for want of memory the turn is passed on empty, and where a handle learns what others have seen
pub record MakesNoEntry (v w : View) (k : ℕ) : Type 0 where
  pub begins : IsPrefix v.seen w.seen
  pub mine : w.mine ≡ v.mine
  pub own_entries : entries_by k (entries w.seen) ≡ w.mine
  pub legal : IsLegal v.origin.made_at (entries w.seen)
  pub same : w.origin ≡ v.origin

-- what `finish` asks: the state with what this turn added, and some handle held
abbrev pub MayFinish : View → SharedSpanValue → Type 0
MayFinish v state =
    (ticket : ℕ) × (turn : Turn) × (v.stage ≡ Holds ticket) × (state ≡ after_turn v turn)
    × (home_of v.origin (entries (v.seen ++ turn ∷ [])) ≡ Some (after_turn v turn))
    × MayTurn v (entries v.seen) turn

-- and what it leaves
abbrev pub PassedWith : View → SharedSpanValue → SeatValue → Type 0
PassedWith v state w = (turn : Turn) × (state ≡ after_turn v turn) × (w ≡ (view_after v turn, []))

-- what the last turn asks: no handle is held
abbrev pub MayClose : View → ℕ → Slot → Type 0
MayClose v ticket last =
    (turn : Turn) × (v.stage ≡ Holds ticket) × (last ≡ Some (after_turn v turn))
    × (home_of v.origin (entries (v.seen ++ turn ∷ [])) ≡ None) × MayTurn v (entries v.seen) turn

-- and what it leaves
abbrev pub LastPassed : View → Slot → SeatValue → Type 0
LastPassed v last w = (turn : Turn) × (last ≡ Some (after_turn v turn)) × (w ≡ (view_after v turn, []))

-- a new handle has seen as much, and has no entries
abbrev pub IsCloneOf : View → View → Type 0
IsCloneOf v w = (w.seen ≡ v.seen) × (w.mine ≡ []) × (w.origin ≡ v.origin)

-- the state comes back exactly if no handle is held after this history, and stands for all of it
abbrev pub ClosesWith : Making → List Entry → Slot → Type 0
ClosesWith making log None = is_closed making.made_at log ≡ false
ClosesWith making log (Some state) = (state ≡ shared_of making log) × (is_closed making.made_at log ≡ true)
