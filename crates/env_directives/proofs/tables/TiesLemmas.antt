-- What the orders don't tell apart is the same, but for the level of directives.
use Rattle.std.proofs.Common.{◌≡◌, ℕ, Bool, true, false, true≢false, List, [], ◌∷◌, Option, Some, None, refl, sym, ap, ap₂, ◌∙◌}
use Rattle.std.proofs.lemmas.Cmp.{ranked, int_ranked, tied_itself}
use Rattle.env_directives.proofs.Common.{slice_cmp, option_cmp, ordering_then, bool_cmp, text_cmp, value_cmp, field_cmp, Directive, Match, ValueMatch, U64, I64, Pat, Debug}
use Rattle.std.specs.declared.cmp.Ordering.{Ordering}
use Rattle.std.specs.declared.cmp.Ordering.TheVariants.{Less, Equal, Greater}
use Rattle.std.specs.Ordering.{is_eq}
use Rattle.env_directives.specs.orders.DirectiveOrder.{directive_cmp, SameButLevel}
use Rattle.env_directives.specs.laws.DirectiveLemmas.{directive_total}
use Rattle.env_directives.specs.declared.env.field.ValueMatch.TheVariants.{Bool as Truth}

untied : (o : Ordering) → is_eq o ≡ false → o ≡ Equal → ⊥
untied o other h = true≢false (ap is_eq (sym h) ∙ other)

both_equal : (o p : Ordering) → ordering_then o p ≡ Equal → (o ≡ Equal) × (p ≡ Equal)
both_equal Less p h = absurd (untied _ refl h)
both_equal Equal p h = (refl, h)
both_equal Greater p h = absurd (untied _ refl h)

list_tie : {X : Type 0} (R : X → X → Ordering) → ((x y : X) → R x y ≡ Equal → x ≡ y) → (xs ys : List X) → slice_cmp R xs ys ≡ Equal → xs ≡ ys
list_tie R tie [] [] h = refl
list_tie R tie [] (y ∷ ys) h = absurd (untied _ refl h)
list_tie R tie (x ∷ xs) [] h = absurd (untied _ refl h)
list_tie R tie (x ∷ xs) (y ∷ ys) h = let both = both_equal (R x y) (slice_cmp R xs ys) h in ap₂ ◌∷◌ (tie x y both.0) (list_tie R tie xs ys both.1)

option_tie : {X : Type 0} (R : X → X → Ordering) → ((x y : X) → R x y ≡ Equal → x ≡ y) → (v w : Option X) → option_cmp R v w ≡ Equal → v ≡ w
option_tie R tie None None h = refl
option_tie R tie None (Some y) h = absurd (untied _ refl h)
option_tie R tie (Some x) None h = absurd (untied _ refl h)
option_tie R tie (Some x) (Some y) h = ap Some (tie x y h)

text_tie : (xs ys : List ℕ) → text_cmp xs ys ≡ Equal → xs ≡ ys
text_tie = list_tie _ (λ x y h. ranked x y Equal (sym h))

truth_tie : (a b : Bool) → bool_cmp a b ≡ Equal → a ≡ b
truth_tie false false h = refl
truth_tie false true h = absurd (untied _ refl h)
truth_tie true false h = absurd (untied _ refl h)
truth_tie true true h = refl

value_tie : (v w : ValueMatch) → value_cmp v w ≡ Equal → v ≡ w
value_tie (Truth a) (Truth b) h = ap Truth (truth_tie a b h)
value_tie (Truth a) (U64 b) h = absurd (untied _ refl h)
value_tie (Truth a) (I64 b) h = absurd (untied _ refl h)
value_tie (Truth a) (Pat b) h = absurd (untied _ refl h)
value_tie (Truth a) (Debug b) h = absurd (untied _ refl h)
value_tie (U64 a) (Truth b) h = absurd (untied _ refl h)
value_tie (U64 a) (U64 b) h = ap U64 (ranked a b Equal (sym h))
value_tie (U64 a) (I64 b) h = absurd (untied _ refl h)
value_tie (U64 a) (Pat b) h = absurd (untied _ refl h)
value_tie (U64 a) (Debug b) h = absurd (untied _ refl h)
value_tie (I64 a) (Truth b) h = absurd (untied _ refl h)
value_tie (I64 a) (U64 b) h = absurd (untied _ refl h)
value_tie (I64 a) (I64 b) h = ap I64 (int_ranked a b Equal (sym h))
value_tie (I64 a) (Pat b) h = absurd (untied _ refl h)
value_tie (I64 a) (Debug b) h = absurd (untied _ refl h)
value_tie (Pat a) (Truth b) h = absurd (untied _ refl h)
value_tie (Pat a) (U64 b) h = absurd (untied _ refl h)
value_tie (Pat a) (I64 b) h = absurd (untied _ refl h)
value_tie (Pat a) (Pat b) h = ap Pat (text_tie a b h)
value_tie (Pat a) (Debug b) h = absurd (untied _ refl h)
value_tie (Debug a) (Truth b) h = absurd (untied _ refl h)
value_tie (Debug a) (U64 b) h = absurd (untied _ refl h)
value_tie (Debug a) (I64 b) h = absurd (untied _ refl h)
value_tie (Debug a) (Pat b) h = absurd (untied _ refl h)
value_tie (Debug a) (Debug b) h = ap Debug (text_tie a b h)

field_tie : (a b : Match) → field_cmp a b ≡ Equal → a ≡ b
field_tie a b h =
    let parts = both_equal (text_cmp a.name b.name) (option_cmp value_cmp a.value b.value) (both_equal _ _ h).1 in
    let name = text_tie a.name b.name parts.0 in
    let value = option_tie value_cmp value_tie a.value b.value parts.1 in
    λ i. record { name = name i; value = value i }

pub directive_tie : (a b : Directive) → directive_cmp a b ≡ Equal → SameButLevel a b
directive_tie a b h =
    let parts = both_equal _ _ (both_equal _ _ h).1 in
    let later = both_equal _ _ parts.1 in (
      sym (option_tie text_cmp text_tie b.target a.target parts.0),
      sym (option_tie text_cmp text_tie b.in_span a.in_span later.0),
      sym (list_tie field_cmp field_tie b.fields a.fields later.1),
    )

pub tied_directives : (a b : Directive) → SameButLevel a b → directive_cmp a b ≡ Equal
tied_directives a b same =
    sym (λ i. directive_cmp a (record { target = same.0 i; in_span = same.1 i; fields = same.2 i; level = b.level })) ∙ tied_itself directive_total a
