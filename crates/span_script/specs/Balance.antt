-- The holds and entries of spans, by what the history says of handles and guards.
use Rattle.std.specs.Prelude.{◌≡◌, ℕ, ◌+◌, ◌==◌, ◌&&◌, Bool, false, List, [], ◌∷◌, Option, Some, None, count_by}
use Rattle.trace_base.specs.Spans.{Spans, span_at, entries_on, times_in, entered_lane_count, open_child_count}
use Rattle.span_script.specs.Tables.{Scope, ScopeGuard, slot_at, span_of_scope}
use Rattle.span_script.specs.Setups.{id_at}

-- what an open guard stands for: its handle, the span that was entered, and the id of the lane
pub record OpenGuard : Type 0 where
  pub handle : ℕ
  pub span : ℕ
  pub lane : ℕ

-- an unspent handle names that span; an open guard is of that span on that lane
abbrev pub names_span : ℕ → Option ℕ → Bool
names_span s None = false
names_span s (Some t) = t == s

abbrev pub guards_span : ℕ → ℕ → Option OpenGuard → Bool
guards_span lane s None = false
guards_span lane s (Some g) = g.lane == lane && g.span == s

-- The holds of a span are its unspent handles, its first entries and its open children. The entries of a lane are
-- those of the history, and each has an open guard, whose handle is unspent and names the span.
pub record Balanced (spans : Spans) (hs : List (Option ℕ)) (gs : List (Option OpenGuard)) (es : ℕ → List ℕ) : Type 0 where
  pub holds : (s : ℕ) → (span_at spans.made s).holds
      ≡ count_by (names_span s) hs + entered_lane_count spans.lanes s + open_child_count spans.made s
  pub entries : (lane : ℕ) → entries_on lane spans.lanes ≡ es lane
  pub guarded : (lane s : ℕ) → times_in s (es lane) ≡ count_by (guards_span lane s) gs
  pub borrowed : (n : ℕ) (g : OpenGuard) → slot_at gs n ≡ Some g → slot_at hs g.handle ≡ Some g.span

-- the span that an unspent handle names, and what an open guard of an enabled one stands for
abbrev pub span_of_handle : Option Scope → Option ℕ
span_of_handle None = None
span_of_handle (Some scope) = span_of_scope scope

abbrev pub open_guard_on : ℕ → ℕ → Scope → Option OpenGuard
open_guard_on handle lane [] = None
open_guard_on handle lane (s ∷ up) = Some (record { handle = handle; span = s; lane = lane })

abbrev pub open_guard_by : List ℕ → Option ScopeGuard → Option OpenGuard
open_guard_by ids None = None
open_guard_by ids (Some g) = open_guard_on g.handle (id_at ids g.place) g.scope
