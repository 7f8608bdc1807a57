-- Pairs of names and values, and fields in a text.
use Rattle.std.specs.Str.{IsUtf8}
use Rattle.std.specs.Borrow.{Bor}
use Rattle.trace_lines.proofs.Common.{BeginsWithValue, Data, IsNumber-decimal, List, None, Option, Some, [], all_of, ap, append_assoc, arith, array, as_object, boolean, codes, compact_text, decimal, each, escape_byte, field_data, field_of, fields_of, item, items, length, length-append, member, nested_value, no_items, no_members, null, number, number_of-decimal, object, option_and_then, option_map, pair_with, plain_data, quoted, read, refl, string, sym, typed_form, unsigned, unwrap_or, value_data, value_spelled, ℕ, ◌++◌, ◌+◌, ◌<◌, ◌^◌, ◌∙◌, ◌∷◌, ◌≡◌, ◌≢◌}
use Rattle.trace_base.specs.declared.field.Value.{Value as FieldValue}
use Rattle.trace_base.specs.declared.field.Value.TheVariants.{U64}
use Rattle.trace_lines.specs.declared.read.plain.Plain.TheVariants.{Nested}
use Rattle.trace_lines.specs.declared.read.syntax.value.Value.{Value}
use Rattle.trace_lines.proofs.readings.CompactLemmas.{Pair, read_compact, read_items}
use Rattle.trace_lines.proofs.readings.LinesLemmas.{read_value}
use Rattle.trace_lines.proofs.readings.ValuesLemmas.{of_nested_array}

-- ---- pairs

-- the two values of a list that were taken off its end
pub only_two : (vs one none : List Value) (first second : Value) → length vs ≡ 2 → vs ≡ one ++ second ∷ [] → one ≡ none ++ first ∷ [] → vs ≡ first ∷ second ∷ []
only_two vs one [] first second two a b = a ∙ ap (λ (l : List Value). l ++ second ∷ []) b
only_two vs one (x ∷ none) first second two a b = absurd (longer none (sym two ∙ ap (λ (l : List Value). length l) (a ∙ ap (λ (l : List Value). l ++ second ∷ []) b))) where
  longer : (none : List Value) → 2 ≡ length (((x ∷ none) ++ first ∷ []) ++ second ∷ []) → ⊥
  longer none same = omega (arith, same, length-append (none ++ first ∷ []) (second ∷ []), length-append none (first ∷ []))

pub no_pair : {A : Type 0} (f : Data → Option A) (vs : List Value) → length vs ≢ 2 → pair_with f (items value_data vs) ≡ None
no_pair f [] other = refl
no_pair f (x ∷ []) other = refl
no_pair f (x ∷ y ∷ []) other = absurd (other refl)
no_pair f (x ∷ y ∷ z ∷ vs) other = refl

-- ---- nested values

-- a value that nests is an object, or none of a field
pub typed_nested : (d : Data) → value_spelled (nested_value d) ≡ option_and_then (all_of typed_form) (as_object (nested_value d))
typed_nested null = refl
typed_nested (boolean b) = refl
typed_nested (number n) = refl
typed_nested (string s) = refl
typed_nested (array ds) = refl
typed_nested (object ms) = refl

-- the fields of a nested text are those of the line that it is
pub nested_fields : (o : Option Data) → fields_of (nested_value (unwrap_or o null)) ≡ option_and_then fields_of o
nested_fields None = refl
nested_fields (Some d) = ap (option_and_then (each field_of)) (of_nested_array d)

-- the object that names a number of 64 bits
pub u64_nested : (words : Bor (List ℕ)) (n : ℕ) → IsUtf8 words.now → n < 2 ^ 64 → words.now ≡ codes "{\"u64\":" ++ (decimal n ++ 125 ∷ []) → value_spelled (plain_data (Nested words)) ≡ Some (U64 n)
unfolding typed_form escape_byte
u64_nested words n utf8 fits is =
    let named = object (member (codes "u64") (number (unsigned n)) no_members) in
    let value = read_value words.now named utf8 (ap read is ∙ read_compact named named (IsNumber-decimal n fits, tt) (omega arith) (rw (number_of-decimal n fits) refl)) in
    ap (λ v. value_spelled (nested_value (unwrap_or v null))) value

-- ---- a pair in a text

joined : (name value rest : List ℕ) → 91 ∷ (name ++ 44 ∷ (value ++ 93 ∷ rest)) ≡ (91 ∷ (name ++ 44 ∷ (value ++ 93 ∷ []))) ++ rest
joined name value rest = simp append_assoc

-- what stands in front of a field's value, and in front of what is behind the field
pub value_front : (field inner comma more words : List ℕ) → field ≡ 91 ∷ inner → inner ≡ 34 ∷ (words ++ 34 ∷ comma) → comma ≡ 44 ∷ more → field ≡ (91 ∷ 34 ∷ (words ++ 34 ∷ 44 ∷ [])) ++ more
value_front field inner comma more words a b c =
    a ∙ ap (λ (l : List ℕ). 91 ∷ l) (b ∙ ap (λ (l : List ℕ). 34 ∷ l) (ap (λ (l : List ℕ). words ++ 34 ∷ l) c ∙ sym (append_assoc words (34 ∷ 44 ∷ []) more)))

pub field_front : (field front value more end rest : List ℕ) → field ≡ front ++ more → more ≡ value ++ end → end ≡ 93 ∷ rest → field ≡ (front ++ value) ++ 93 ∷ rest
field_front field front value more end rest is b e = is ∙ ap (λ (l : List ℕ). front ++ l) (b ∙ ap (λ (l : List ℕ). value ++ l) e) ∙ sym (append_assoc front value (93 ∷ rest))

pub pair_begins : (deep : ℕ) (text inner comma more end rest name : List ℕ) (d : Data)
    → text ≡ 91 ∷ inner → inner ≡ quoted name ++ comma → comma ≡ 44 ∷ more → BeginsWithValue deep more d end → end ≡ 93 ∷ rest
    → BeginsWithValue (deep + 1) text (field_data name d) rest
pair_begins deep text inner comma more end rest name d a b c v e = (
  array (item (string name) (item v.0 no_items)),
  a ∙ ap (λ (l : List ℕ). 91 ∷ l) (b ∙ ap (λ (l : List ℕ). quoted name ++ l) (c ∙ ap (λ (l : List ℕ). 44 ∷ l) (v.1 ∙ ap (λ (l : List ℕ). compact_text v.0 ++ l) e))) ∙ joined (quoted name) (compact_text v.0) rest,
  ((tt, (v.2.0, tt)), omega (arith, v.2.1), ap (λ o. option_map array (option_map (item (string name)) (option_and_then (λ x. option_map (item x) (Some no_items)) o))) v.2.2),
)

-- ---- one field more

one_more : (o : Option (List ℕ × FieldValue)) (e : Option (List (List ℕ × FieldValue))) (l : Option (List ℕ × FieldValue))
    → option_and_then (λ a. option_map (λ more. a ∷ more) (option_and_then (λ fs. option_map (λ f. fs ++ f ∷ []) l) e)) o
    ≡ option_and_then (λ fs. option_map (λ f. fs ++ f ∷ []) l) (option_and_then (λ a. option_map (λ more. a ∷ more) e) o)
one_more None e l = refl
one_more (Some a) None l = refl
one_more (Some a) (Some fs) None = refl
one_more (Some a) (Some fs) (Some f) = refl

alone : (l : Option (List ℕ × FieldValue)) → option_and_then (λ a. option_map (λ more. a ∷ more) (Some [])) l ≡ option_map (λ f. [] ++ f ∷ []) l
alone None = refl
alone (Some f) = refl

read_more : (ps : List Pair) (p : Pair) → each field_of (read_items (ps ++ p ∷ [])) ≡ option_and_then (λ fs. option_map (λ f. fs ++ f ∷ []) (field_of p.1)) (each field_of (read_items ps))
read_more [] p = alone (field_of p.1)
read_more (q ∷ ps) p =
    ap (λ e. option_and_then (λ a. option_map (λ more. a ∷ more) e) (field_of q.1)) (read_more ps p)
    ∙ one_more (field_of q.1) (each field_of (read_items ps)) (field_of p.1)

put_behind : (old : List (List ℕ × FieldValue)) (name : List ℕ) (o : Option FieldValue)
    → option_map (λ x. old ++ x ∷ []) (option_map (λ (v : FieldValue). (name, v)) o) ≡ option_map (λ (v : FieldValue). old ++ (name, v) ∷ []) o
put_behind old name None = refl
put_behind old name (Some v) = refl

-- the fields with one more, which is read of a text that stands as raw
pub field_more : (ps : List Pair) (raw d : Data) (name : List ℕ) (old new : List (List ℕ × FieldValue))
    → each field_of (read_items ps) ≡ Some old → option_map (λ (v : FieldValue). old ++ (name, v) ∷ []) (value_spelled d) ≡ Some new
    → each field_of (read_items (ps ++ (raw, field_data name d) ∷ [])) ≡ Some new
field_more ps raw d name old new before all =
    read_more ps (raw, field_data name d)
    ∙ ap (λ e. option_and_then (λ fs. option_map (λ x. fs ++ x ∷ []) (field_of (field_data name d))) e) before
    ∙ put_behind old name (value_spelled d)
    ∙ all
