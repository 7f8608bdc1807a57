-- When a span ended, and how long it was busy and idle.
use Rattle.std.specs.Prelude.{ℕ, ◌+◌, ◌-◌, ◌≤◌, ◌==◌, min, List, [], ◌∷◌, Option, None, Some, if◌then◌else◌, filter_map, fold, unwrap_or}
use Rattle.std.specs.Option.{option_map_or}
use Rattle.otel_state.specs.declared.times.TheConstants.{GREATEST}
use Rattle.otel_state.specs.Deeds.{Deed, TimedOp, deed}

-- how many entries are open after an op; the count stands still at its greatest
abbrev pub open_after : ℕ → Deed → ℕ
open_after entries d = if d.exits then entries - 1 else if d.enters then min (entries + 1) GREATEST else entries

-- how many entries are open after some ops
abbrev pub open_after_ops : ℕ → List TimedOp → ℕ
open_after_ops entries ops = fold (λ n op. open_after n (deed op.op)) entries ops

-- the time since the op before, where an entry is open
abbrev pub busy_between : ℕ → ℕ → ℕ → ℕ
busy_between entries last at = if entries == 0 then 0 else at - last

-- the sum of the gaps between ops that follow one another, from so many entries and a moment on
abbrev pub busy_from : ℕ → ℕ → List TimedOp → ℕ
busy_from entries last [] = 0
busy_from entries last (op ∷ ops) = busy_between entries last op.at + busy_from (open_after entries (deed op.op)) op.at ops

-- busy is the time in which some entry was open
abbrev pub busy_of : ℕ → List TimedOp → ℕ
busy_of made_at ops = busy_from 0 made_at ops

-- the moment of an op that closes an entry
abbrev pub exit_moment : TimedOp → Option ℕ
exit_moment op = if (deed op.op).exits then Some op.at else None

-- the moment of the last exit, if there is one
abbrev pub last_exit : List TimedOp → Option ℕ
last_exit ops = fold (λ _ at. Some at) None (filter_map exit_moment ops)

-- the end is the last exit, else the close
abbrev pub end_of : Option ℕ → ℕ → ℕ
end_of left closed = unwrap_or left closed

-- idle is the rest from the making to the last exit, 0 where there is none
abbrev pub idle_of : Option ℕ → ℕ → ℕ → ℕ
idle_of left made_at busy = option_map_or (λ end. end - made_at - busy) left 0

-- moments don't fall, and are at most the greatest
abbrev pub MomentsRise : ℕ → List TimedOp → Type 0
MomentsRise last [] = last ≤ GREATEST
MomentsRise last (op ∷ ops) = (last ≤ op.at) × MomentsRise op.at ops
