-- Why the orders on fields and on values are total, and agree with `==`.
use Rattle.std.specs.Prelude.{◌≡◌, Option, Some, None, is_some, Bool, true, ◌&&◌, ℕ, List, bytes_eq}
use Rattle.std.proofs.Common.{refl, subst, sym, ap, ◌∙◌}
use Rattle.std.proofs.Math.Bool.{and-false}
use Rattle.std.specs.Cmp.{IsTotalOrder, then_total, on_total, bool_cmp_total}
use Rattle.std.specs.Cmp.Lexicographic.{on_texts, options_total, texts_ties}
use Rattle.std.specs.Option.{option_cmp, option_eq}
use Rattle.std.specs.declared.cmp.Ordering.{Ordering}
use Rattle.std.specs.declared.cmp.Ordering.TheVariants.{Less, Equal, Greater}
use Rattle.std.specs.Ordering.{ordering_then, is_eq, eq_by_cmp, bool_cmp}
use Rattle.env_directives.specs.declared.env.field.Match.{Match}
use Rattle.env_directives.specs.declared.env.field.ValueMatch.{ValueMatch}
use Rattle.env_directives.specs.declared.env.field.ValueMatch.TheVariants.{Bool as Truth, U64, I64, Pat, Debug}
use Rattle.env_directives.specs.contracts.env.field.ValueMatchOrd.TheImpl.{cmp-value}
use Rattle.env_directives.specs.contracts.env.field.ValueMatchOrd.TheImpl.Laws.{total-law, matches_eq-law}
use Rattle.env_directives.specs.contracts.env.field.ValueMatchPartialEq.TheImpl.{eq-value}
use Rattle.env_directives.specs.orders.FieldOrder.{text_cmp, value_cmp, field_cmp}

-- the derived order on values is the one that is said
pub derived_cmp : (a b : ValueMatch) → cmp-value.it a b ≡ value_cmp a b
derived_cmp (Truth a) (Truth b) = refl
derived_cmp (Truth a) (U64 b) = refl
derived_cmp (Truth a) (I64 b) = refl
derived_cmp (Truth a) (Pat b) = refl
derived_cmp (Truth a) (Debug b) = refl
derived_cmp (U64 a) (Truth b) = refl
derived_cmp (U64 a) (U64 b) = refl
derived_cmp (U64 a) (I64 b) = refl
derived_cmp (U64 a) (Pat b) = refl
derived_cmp (U64 a) (Debug b) = refl
derived_cmp (I64 a) (Truth b) = refl
derived_cmp (I64 a) (U64 b) = refl
derived_cmp (I64 a) (I64 b) = refl
derived_cmp (I64 a) (Pat b) = refl
derived_cmp (I64 a) (Debug b) = refl
derived_cmp (Pat a) (Truth b) = refl
derived_cmp (Pat a) (U64 b) = refl
derived_cmp (Pat a) (I64 b) = refl
derived_cmp (Pat a) (Pat b) = refl
derived_cmp (Pat a) (Debug b) = refl
derived_cmp (Debug a) (Truth b) = refl
derived_cmp (Debug a) (U64 b) = refl
derived_cmp (Debug a) (I64 b) = refl
derived_cmp (Debug a) (Pat b) = refl
derived_cmp (Debug a) (Debug b) = refl

value_total : IsTotalOrder value_cmp
value_total = subst IsTotalOrder (λ i a b. derived_cmp a b i) total-law

value_ties : (a b : ValueMatch) → eq-value.it a b ≡ eq_by_cmp value_cmp a b
value_ties a b = matches_eq-law a b ∙ ap is_eq (derived_cmp a b)

pub field_total : IsTotalOrder field_cmp
field_total = then_total (on_total (λ m. is_some m.value) bool_cmp_total) (then_total (on_texts (λ m. m.name)) (on_total (λ m. m.value) (options_total value_total)))

-- two orders, one after the other, tie where both do
pub both_tie : (o p : Ordering) → is_eq (ordering_then o p) ≡ (is_eq o && is_eq p)
both_tie Less p = refl
both_tie Equal p = refl
both_tie Greater p = refl

pub field_ties : (a b : Match) → (bytes_eq a.name b.name && option_eq eq-value.it a.value b.value) ≡ eq_by_cmp field_cmp a b
field_ties a b = go a.name b.name a.value b.value
  where
    go : (n m : List ℕ) (v w : Option ValueMatch) → (bytes_eq n m && option_eq eq-value.it v w) ≡
        is_eq (ordering_then (bool_cmp (is_some v) (is_some w)) (ordering_then (text_cmp n m) (option_cmp value_cmp v w)))
    go n m None None = ap (λ (b : Bool). b && true) (texts_ties n m) ∙ sym (both_tie (text_cmp n m) Equal)
    go n m None (Some w) = and-false (bytes_eq n m)
    go n m (Some v) None = and-false (bytes_eq n m)
    go n m (Some v) (Some w) = (λ i. texts_ties n m i && value_ties v w i) ∙ sym (both_tie (text_cmp n m) (value_cmp v w))
