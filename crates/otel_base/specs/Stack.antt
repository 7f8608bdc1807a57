-- The contexts that are attached to a lane: those of its attaches less those of its detaches.
use Rattle.std.specs.Prelude.{ℕ, ◌-◌, ◌^◌, ◌<◌, ◌≤◌, suc, min, if◌then◌else◌, Bool, false, eqb, ◌||◌, List, [], ◌∷◌, length, None}
use Rattle.otel_base.specs.declared.context.Context.{Context}

-- what a stack stands for
pub record StackValue : Type 0 where
  -- the contexts that are attached and not detached, in the order of their attaches, each with the number of its attach
  pub live : List (ℕ × Context)
  -- how many attaches more need no memory
  pub room : ℕ

-- the context without a span
abbrev pub empty_context : Context
empty_context = record { span = None }

-- one of the contexts has that number
abbrev pub has_number : ℕ → List (ℕ × Context) → Bool
has_number number [] = false
has_number number (item ∷ items) = eqb item.0 number || has_number number items

-- the contexts without the one of that number
abbrev pub without_number : ℕ → List (ℕ × Context) → List (ℕ × Context)
without_number number [] = []
without_number number (item ∷ items) = if eqb item.0 number then items else item ∷ without_number number items

-- the context that was attached last, the first argument where none is
abbrev pub last_context : Context → List (ℕ × Context) → Context
last_context context [] = context
last_context context (item ∷ items) = last_context item.1 items

-- one more than the number of the last context, the first argument where there is none
abbrev pub next_number : ℕ → List (ℕ × Context) → ℕ
next_number number [] = number
next_number number (item ∷ items) = next_number (suc item.0) items

-- the numbers rise, from the first argument on
abbrev pub NumbersRise : ℕ → List (ℕ × Context) → Type 0
NumbersRise least [] = Unit {0}
NumbersRise least (item ∷ items) = (least ≤ item.0) × NumbersRise (suc item.0) items

-- how many attaches have their memory and a number that fits 64 bits, where there is memory for so many contexts in all
abbrev pub room_left : List (ℕ × Context) → ℕ → ℕ
room_left items capacity = min (capacity - length items) (2 ^ 64 - next_number 0 items)

-- the next attach can't be refused
abbrev pub IsReadyToAttach : StackValue → Type 0
IsReadyToAttach stack = (0 < stack.room) × (length stack.live < 65534)
