-- What contracts see of a handle, and of what it leaves.
use Rattle.std.specs.Prelude.{◌≡◌, ◌⊎◌, ℕ, List, Option, Some, None, true, false}
use mathlib.Core.List.{IsPrefix}
use Rattle.atomic_table.specs.Seated.{TableId}
use Rattle.otel_base.specs.declared.record.Record.{Record}
use Rattle.trace_threads.specs.declared.making.Making.{Making}
use Rattle.trace_threads.specs.declared.history.Entry.{Entry}
use Rattle.trace_threads.specs.declared.history.HandleAct.{HandleAct}
use Rattle.otel_state.specs.declared.op.Op.{Op}
use Rattle.otel_state.specs.declared.op.OpReply.{OpReply}
use Rattle.trace_threads.specs.declared.turns.View.{View}
use Rattle.trace_threads.specs.History.{IsLegal, is_closed, open_count}
use Rattle.trace_threads.specs.Shared.{content_of}
use Rattle.trace_threads.specs.Turns.{Turn, SeatValue, IsSized, entries}
use Rattle.trace_threads.specs.Calls.{IsIdle, IsBare, IsAtRest, MakesEntry, Called, MakesNoEntry}

-- a handle: of which span it is, its number, and what it knows
pub record SharedHandle : Type 0 where
  pub span : TableId
  pub number : ℕ
  pub view : View

-- what is left of a handle that was released
pub record ReleasedHandle : Type 0 where
  pub span : TableId
  pub view : View

-- what always holds of them
pub record IsHandle (table seat : TableId) (me : SeatValue) (number entered : ℕ) : Type 0 where
  pub sized : IsSized table
  pub of_table : seat ≡ table
  pub rests : IsAtRest me number
  pub counts : entered ≡ open_count me.0.mine
  pub legal : IsLegal me.0.origin.made_at (entries me.0.seen)

pub record IsPass (table seat : TableId) (me : SeatValue) : Type 0 where
  pub sized : IsSized table
  pub of_table : seat ≡ table
  pub idle : IsIdle me
  pub bare : IsBare me

-- how many entries of a handle are open
abbrev pub open_count_of : SharedHandle → ℕ
open_count_of h = open_count h.view.mine

-- what a turn of a handle leaves: an entry more, a call's entry more, or none, after Memory or where the handle learns
abbrev pub AddsEntry : SharedHandle → SharedHandle → ℕ → HandleAct → Type 0
AddsEntry h g at what = MakesEntry h.view g.view h.number at what

abbrev pub Calls : SharedHandle → SharedHandle → ℕ → Op → ℕ → OpReply → Type 0
Calls h g at op place reply = Called h.view g.view h.number at op place reply

abbrev pub AddsNoEntry : SharedHandle → SharedHandle → Type 0
AddsNoEntry h g = MakesNoEntry h.view g.view h.number

-- the same was seen of the same span, and the same entries were made
abbrev pub IsSameSight : View → View → Type 0
IsSameSight v w = (w.seen ≡ v.seen) × (w.origin ≡ v.origin) × (w.mine ≡ v.mine)

abbrev pub IsSameHandle : SharedHandle → SharedHandle → Type 0
IsSameHandle h g = (g.span ≡ h.span) × (g.number ≡ h.number)

-- the history and the record come back exactly if no handle is held after this history, and are those of it all
abbrev pub ClosedAs : Making → List Entry → Option (List Entry × Record) → Type 0
ClosedAs making log None = is_closed making.made_at log ≡ false
ClosedAs making log (Some last) =
    (last.0 ≡ log) × (last.1 ≡ content_of making log) × (is_closed making.made_at log ≡ true)

-- of two lists of turns that begin one list, one begins the other, and so do their entries
abbrev pub OneBeginsTheOther : Type 0
OneBeginsTheOther =
    (xs ys turns : List Turn) → IsPrefix xs turns → IsPrefix ys turns
    → (IsPrefix xs ys × IsPrefix (entries xs) (entries ys)) ⊎ (IsPrefix ys xs × IsPrefix (entries ys) (entries xs))
