-- Why a text gives no filter.
use Rattle.std.proofs.Common.{◌≡◌, ℕ, ◌+◌, List, [], ◌∷◌, ◌++◌, length, drop, Bool, true, false, Option, Some, None, refl, sym, ap, subst, ◌∙◌, arith, ◌==◌, slice_get}
use Rattle.env_filter.proofs.Common.{comma_pieces, Directive, Ignored, HasFilterFault, HasFilterFaultAt, Each, is_memory, IsIgnored, ReadsPiece, ReadsAll, ReadsText, IsFirstFault}
use Rattle.std.proofs.lemmas.Bool.{true≢false, eqb-true}
use Rattle.env_directives.specs.declared.directive.ParseError.{ParseError}
use Rattle.env_directives.specs.declared.directive.ParseError.TheVariants as fault

-- what one piece is read as
pub reads_empty : (patterns : Bool) (n : ℕ) (piece : List ℕ) → (length piece == 0) ≡ true → ReadsPiece patterns n piece [] []
reads_empty patterns n [] empty = tt
reads_empty patterns n (b ∷ bs) empty = absurd (let e = eqb-true (length (b ∷ bs)) 0 empty in omega (arith, e))

pub reads_ignored : (patterns : Bool) (n : ℕ) (piece : List ℕ) (i : Ignored) → (length piece == 0) ≡ false → IsIgnored patterns n piece i → ReadsPiece patterns n piece [] (i ∷ [])
reads_ignored patterns n [] i some is = absurd (true≢false some)
reads_ignored patterns n (b ∷ bs) i some is = is

-- no piece is left out for want of memory
none_here : (patterns : Bool) (n : ℕ) (piece : List ℕ) (ds : List Directive) (is : List Ignored) → ReadsPiece patterns n piece ds is → Each (λ (i : Ignored). is_memory i.fault ≡ false) is
none_here patterns n [] [] [] r = tt
none_here patterns n [] [] (i ∷ is) r = absurd r
none_here patterns n [] (d ∷ ds) is r = absurd r
none_here patterns n (b ∷ bs) [] [] r = absurd r
none_here patterns n (b ∷ bs) (d ∷ []) [] r = tt
none_here patterns n (b ∷ bs) [] (i ∷ []) r = (r.no_memory, tt)
none_here patterns n (b ∷ bs) [] (i ∷ j ∷ is) r = absurd r
none_here patterns n (b ∷ bs) (d ∷ []) (i ∷ is) r = absurd r
none_here patterns n (b ∷ bs) (d ∷ e ∷ ds) is r = absurd r

pub both_each : {X : Type 0} (P : X → Type 0) (xs ys : List X) → Each P xs → Each P ys → Each P (xs ++ ys)
both_each P [] ys front back = back
both_each P (x ∷ xs) ys front back = (front.0, both_each P xs ys front.1 back)

pub none_for_memory : (patterns : Bool) (n : ℕ) (pieces : List (List ℕ)) (ds : List Directive) (is : List Ignored) → ReadsAll patterns n pieces ds is → Each (λ (i : Ignored). is_memory i.fault ≡ false) is
none_for_memory patterns n [] ds is r = subst (Each (λ (i : Ignored). is_memory i.fault ≡ false)) (sym r.1) tt
none_for_memory patterns n (piece ∷ pieces) ds is r =
    subst (Each (λ (i : Ignored). is_memory i.fault ≡ false)) (sym r.all_ignored)
    (both_each (λ (i : Ignored). is_memory i.fault ≡ false) r.ignored r.later_ignored (none_here patterns n piece r.directives r.ignored r.reads) (none_for_memory patterns (n + 1) pieces r.later r.later_ignored r.behind))

pub refused_at : (patterns : Bool) (text : List ℕ) (number : ℕ) (cause : ParseError) → is_memory cause ≡ false → IsFirstFault patterns text number cause → HasFilterFaultAt patterns text number cause
refused_at patterns text number fault.Shape other first = first
refused_at patterns text number fault.Level other first = first
refused_at patterns text number fault.Field other first = first
refused_at patterns text number fault.Pattern other first = first
refused_at patterns text number fault.Equals other first = first
refused_at patterns text number (fault.Fields many) other first = first
refused_at patterns text number fault.Memory other first = absurd (true≢false other)

first_of : (is : List Ignored) (i : Ignored) → ◌≡◌ {A = Option Ignored} (Some i) (slice_get is 0) → is ≡ i ∷ drop 1 is
first_of [] i at = absurd (let none : ◌≡◌ {A = Option Ignored} (Some i) None = at in cc none)
first_of (j ∷ is) i at = ap (λ (k : Ignored). k ∷ is) (let same : ◌≡◌ {A = Option Ignored} (Some i) (Some j) = at in let k : j ≡ i = cc same in k)

-- the first of the pieces that are left out has the first fault
pub refused_first : (patterns : Bool) (text : List ℕ) (ds : List Directive) (is seen : List Ignored) (i : Ignored) → ReadsText patterns text ds is → seen ≡ is → ◌≡◌ {A = Option Ignored} (Some i) (slice_get seen 0) → HasFilterFaultAt patterns text i.piece i.fault
refused_first patterns text ds is seen i r same at =
    let whole = first_of is i (at ∙ ap (λ (xs : List Ignored). slice_get xs 0) same) in
    let reads : ReadsText patterns text ds (i ∷ drop 1 is) = subst (λ (xs : List Ignored). ReadsText patterns text ds xs) whole r in
    refused_at patterns text i.piece i.fault (none_for_memory patterns 1 (comma_pieces text) ds (i ∷ drop 1 is) reads).0
    (record { directives = ds; first = i; others = drop 1 is; reads = reads; numbered = refl; told = refl })
