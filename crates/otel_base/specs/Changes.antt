-- What a list of attaches and detaches leaves attached.
use Rattle.std.specs.Prelude.{◌≡◌, ℕ, if◌then◌else◌, Bool, false, true, eqb, ◌||◌, List, [], ◌∷◌, ◌++◌}
use Rattle.otel_base.specs.declared.context.Context.{Context}
use Rattle.otel_base.specs.Stack.{has_number, without_number}

-- one change of a stack, with the number of the attach that it makes or undoes
pub data StackChange : Type 0 where
  Attach : (number : ℕ) → (context : Context) → StackChange
  Detach : (number : ℕ) → StackChange

-- what is live after one change, as the calls of a stack make it
abbrev pub after_change : StackChange → List (ℕ × Context) → List (ℕ × Context)
after_change (Attach number context) live = live ++ (number, context) ∷ []
after_change (Detach number) live = without_number number live

-- what is live after all changes, one after the other
abbrev pub after_changes : List (ℕ × Context) → List StackChange → List (ℕ × Context)
after_changes live [] = live
after_changes live (change ∷ changes) = after_changes (after_change change live) changes

-- an attach takes a number that no live context has, a detach one that a live context has
abbrev pub IsPossible : StackChange → List (ℕ × Context) → Type 0
IsPossible (Attach number context) live = has_number number live ≡ false
IsPossible (Detach number) live = has_number number live ≡ true

-- each change is possible where it comes
abbrev pub ArePossible : List (ℕ × Context) → List StackChange → Type 0
ArePossible live [] = Unit {0}
ArePossible live (change ∷ changes) = IsPossible change live × ArePossible (after_change change live) changes

-- one of the changes detaches that number
abbrev pub is_detached : List StackChange → ℕ → Bool
is_detached [] number = false
is_detached (Attach other context ∷ changes) number = is_detached changes number
is_detached (Detach other ∷ changes) number = eqb number other || is_detached changes number

-- the attaches, in their order, but for those that a later change detaches
abbrev pub left_attached : List StackChange → List (ℕ × Context)
left_attached [] = []
left_attached (Attach number context ∷ changes) = if is_detached changes number then left_attached changes else (number, context) ∷ left_attached changes
left_attached (Detach number ∷ changes) = left_attached changes
