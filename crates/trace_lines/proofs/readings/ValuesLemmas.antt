-- What a nested text is, beside the reader of its tree.
use Rattle.trace_lines.proofs.Common.{Data, Items, List, None, Option, Some, [], ap, ap₂, array, as_array, as_bool, as_object, as_str, as_whole, boolean, item, items, nested_value, no_items, null, number, object, option_and_then, refl, string, sym, unwrap_or, value_data, ◌++◌, ◌∙◌, ◌∷◌, ◌≡◌}
use Rattle.trace_lines.specs.declared.read.syntax.value.Value.{Value}
use Rattle.trace_lines.proofs.readings.CompactLemmas.{Pair, read_items}

of_nested : (d : Data) → as_object (nested_value d) ≡ as_object d
of_nested null = refl
of_nested (boolean b) = refl
of_nested (number n) = refl
of_nested (string s) = refl
of_nested (array ds) = refl
of_nested (object ms) = refl

pub of_nested_array : (d : Data) → as_array (nested_value d) ≡ as_array d
of_nested_array null = refl
of_nested_array (boolean b) = refl
of_nested_array (number n) = refl
of_nested_array (string s) = refl
of_nested_array (array ds) = refl
of_nested_array (object ms) = refl

-- the object of a nested text is that of the line that it is
pub nested_object : (o : Option Data) → as_object (nested_value (unwrap_or o null)) ≡ option_and_then as_object o
nested_object None = refl
nested_object (Some d) = of_nested d

-- and so is the array
pub nested_array : (o : Option Data) → as_array (nested_value (unwrap_or o null)) ≡ option_and_then as_array o
nested_array None = refl
nested_array (Some d) = of_nested_array d

pub no_number : (d : Data) → None ≡ as_whole (nested_value d)
no_number null = refl
no_number (boolean b) = refl
no_number (number n) = refl
no_number (string s) = refl
no_number (array ds) = refl
no_number (object ms) = refl

pub no_flag : (d : Data) → None ≡ as_bool (nested_value d)
no_flag null = refl
no_flag (boolean b) = refl
no_flag (number n) = refl
no_flag (string s) = refl
no_flag (array ds) = refl
no_flag (object ms) = refl

pub no_text : (d : Data) → None ≡ as_str (nested_value d)
no_text null = refl
no_text (boolean b) = refl
no_text (number n) = refl
no_text (string s) = refl
no_text (array ds) = refl
no_text (object ms) = refl

-- ---- items, one more at a time

abbrev at_end : Items → Data → Items
at_end no_items d = item d no_items
at_end (item e ds) d = item e (at_end ds d)

items_push : (vs : List Value) (v : Value) → items value_data (vs ++ v ∷ []) ≡ at_end (items value_data vs) (value_data v)
items_push [] v = refl
items_push (x ∷ vs) v = ap (item (value_data x)) (items_push vs v)

read_push : (ps : List Pair) (p : Pair) → read_items (ps ++ p ∷ []) ≡ at_end (read_items ps) p.1
read_push [] p = refl
read_push (q ∷ ps) p = ap (item q.1) (read_push ps p)

pub one_more : (vs : List Value) (v : Value) (ps : List Pair) (p : Pair) → items value_data vs ≡ read_items ps → value_data v ≡ p.1 → items value_data (vs ++ v ∷ []) ≡ read_items (ps ++ p ∷ [])
one_more vs v ps p same is = items_push vs v ∙ ap₂ at_end same is ∙ sym (read_push ps p)

-- items that were moved, in front of others
abbrev pub in_front : List Value → Items → Items
in_front [] ds = ds
in_front (v ∷ vs) ds = item (value_data v) (in_front vs ds)

pub in_front_push : (vs : List Value) (v : Value) (ds : Items) → in_front (vs ++ v ∷ []) ds ≡ in_front vs (item (value_data v) ds)
in_front_push [] v ds = refl
in_front_push (x ∷ vs) v ds = ap (item (value_data x)) (in_front_push vs v ds)

pub all_in_front : (vs : List Value) → in_front vs no_items ≡ items value_data vs
all_in_front [] = refl
all_in_front (v ∷ vs) = ap (item (value_data v)) (all_in_front vs)
