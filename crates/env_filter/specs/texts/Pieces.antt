-- What the pieces of a filter's text are read as.
use Rattle.std.specs.Prelude.{◌≡◌, ℕ, ◌+◌, Bool, true, false, List, [], ◌∷◌, ◌++◌, map}
use Rattle.std.specs.Borrow.{Bor}
use Rattle.std.specs.Str.{trim}
use Rattle.env_directives.specs.reading.Faults.{HasFault}
use Rattle.env_directives.specs.reading.Forms.{IsDirective}
use Rattle.env_directives.specs.reading.Separators.{comma_pieces}
use Rattle.env_directives.specs.declared.directive.ParseError.{ParseError}
use Rattle.env_directives.specs.declared.directive.ParseError.TheVariants as fault
use Rattle.env_directives.specs.declared.env.directive.Directive.{Directive}
use Rattle.env_filter.specs.declared.pieces.Ignored.{Ignored}

-- the texts behind references
abbrev pub texts_of : List (Bor (List ℕ)) → List (List ℕ)
texts_of pieces = map (λ p. p.now) pieces

-- whether a fault tells want of memory
abbrev pub is_memory : ParseError → Bool
is_memory fault.Memory = true
is_memory fault.Shape = false
is_memory fault.Level = false
is_memory fault.Field = false
is_memory fault.Pattern = false
is_memory fault.Equals = false
is_memory (fault.Fields many) = false

-- a piece has a number, and a fault as a directive's text
pub record IsIgnored (patterns : Bool) (number : ℕ) (piece : List ℕ) (ignored : Ignored) : Type 0 where
  pub numbered : ignored.piece ≡ number
  pub text : ignored.text ≡ piece
  pub fault : HasFault patterns (trim piece) ignored.fault
  pub no_memory : is_memory ignored.fault ≡ false

-- What a piece is read as: an empty one as nothing, and any other as a directive or as a fault.
abbrev pub ReadsPiece : Bool → ℕ → List ℕ → List Directive → List Ignored → Type 0
ReadsPiece patterns number [] [] [] = Unit {0}
ReadsPiece patterns number [] [] (i ∷ is) = ⊥
ReadsPiece patterns number [] (d ∷ ds) is = ⊥
ReadsPiece patterns number (b ∷ bs) [] [] = ⊥
ReadsPiece patterns number (b ∷ bs) (d ∷ []) [] = IsDirective patterns (trim (b ∷ bs)) d
ReadsPiece patterns number (b ∷ bs) [] (i ∷ []) = IsIgnored patterns number (b ∷ bs) i
ReadsPiece patterns number (b ∷ bs) [] (i ∷ j ∷ is) = ⊥
ReadsPiece patterns number (b ∷ bs) (d ∷ []) (i ∷ is) = ⊥
ReadsPiece patterns number (b ∷ bs) (d ∷ e ∷ ds) is = ⊥

-- a piece is read, and then the pieces behind it
pub record ReadsFirst (patterns : Bool) (number : ℕ) (piece : List ℕ) (rest : List Directive → List Ignored → Type 0) (ds : List Directive) (is : List Ignored) : Type 0 where
  pub directives : List Directive
  pub ignored : List Ignored
  pub later : List Directive
  pub later_ignored : List Ignored
  pub reads : ReadsPiece patterns number piece directives ignored
  pub behind : rest later later_ignored
  pub all : ds ≡ directives ++ later
  pub all_ignored : is ≡ ignored ++ later_ignored

-- What pieces are read as, in their order. They are numbered on from a number, with those that are empty.
abbrev pub ReadsAll : Bool → ℕ → List (List ℕ) → List Directive → List Ignored → Type 0
ReadsAll patterns number [] ds is = (ds ≡ []) × (is ≡ [])
ReadsAll patterns number (piece ∷ pieces) ds is = ReadsFirst patterns number piece (ReadsAll patterns (number + 1) pieces) ds is

-- what a text is read as, cut at commas
abbrev pub ReadsText : Bool → List ℕ → List Directive → List Ignored → Type 0
ReadsText patterns text ds is = ReadsAll patterns 1 (comma_pieces text) ds is

-- the first fault of a text, with its piece's number
pub record IsFirstFault (patterns : Bool) (text : List ℕ) (number : ℕ) (fault : ParseError) : Type 0 where
  pub directives : List Directive
  pub first : Ignored
  pub others : List Ignored
  pub reads : ReadsText patterns text directives (first ∷ others)
  pub numbered : number ≡ first.piece
  pub told : fault ≡ first.fault

-- a piece is read after others
pub record AddsPiece (patterns : Bool) (number : ℕ) (piece : List ℕ) (old : List Directive) (old_ignored : List Ignored) (new : List Directive) (new_ignored : List Ignored) : Type 0 where
  pub directives : List Directive
  pub ignored : List Ignored
  pub reads : ReadsPiece patterns number piece directives ignored
  pub added : new ≡ old ++ directives
  pub added_ignored : new_ignored ≡ old_ignored ++ ignored
