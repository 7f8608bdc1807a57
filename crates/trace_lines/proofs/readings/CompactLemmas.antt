-- What a compact text reads as, one value after another.
use Rattle.std.specs.Prelude.{⊤}
use Rattle.std.specs.Str.{IsUtf8}
use Rattle.trace_lines.proofs.Common.{BeginsItems, BeginsMembers, BeginsNested, BeginsWithValue, Bool, Bor, Data, Decides-eqb, HasNumbers, IfSome, IsNumber-decimal, IsNumber-signed_decimal, Items, ItemsHaveNumbers, List, MatchOption, Members, MembersHaveNumbers, None, Option, ReadsValue, Some, [], ap, append-nil, append_assoc, arith, array, as_object, boolean, compact_text, decimal, depth, drop, escape, false, get_or, item, items_depth, items_outline, items_text, json_tokens, length, length-append, line_members, line_value, max_depth, member, members_depth, members_outline, members_text, nat_eq, negative, negsuc, nested_value, no_items, no_members, null, number, number_of-decimal, number_of-negative, object, of_items, of_json, of_members, option_and_then, option_map, outline, plain_data, pointwise, put, quoted, read, refl, string, strip_prefix_is, suc, sym, take, true, unsigned, unwrap_or, with_members_first, ℕ, ◌++◌, ◌+◌, ◌-◌, ◌<◌, ◌^◌, ◌∙◌, ◌∷◌, ◌≡◌, ◌≤◌}
use Rattle.std.proofs.Math.ListN.{take-append-drop}
use Rattle.std.proofs.Math.Seq.{drop-cons}
use Rattle.json.specs.Token.{Token}
use Rattle.json.specs.Json.{value, if_last}
use Rattle.json.proofs.Printed.Tokens.{tokens-print}
use Rattle.json.proofs.Printed.Trees.{value-json_tokens, ArePrintable-json_tokens}
use Rattle.serde_json.proofs.Texts.{print-outline}
use Rattle.trace_lines.specs.declared.read.plain.Plain.{Plain}
use Rattle.trace_lines.proofs.readings.LinesLemmas.{read_value}

-- The members of `raw` may come in any order and more than once: d has them in the order of their names, with the last.
pub read_compact : (raw d : Data) → HasNumbers (outline raw) → depth (outline raw) ≤ max_depth → of_json (outline raw) ≡ Some d → read (compact_text raw) ≡ Some d
read_compact raw d numbers shallow is =
    let ts = json_tokens (outline raw) in
    ap read (sym (print-outline raw))
    ∙ ap (λ (us : List Token). option_and_then of_json (option_and_then (λ p. if_last p.0 p.1) (value max_depth us))) (tokens-print ts (ArePrintable-json_tokens (outline raw) numbers) ∙ sym (append-nil ts))
    ∙ ap (λ r. option_and_then of_json (option_and_then (λ p. if_last p.0 p.1) r)) (value-json_tokens (outline raw) max_depth [] shallow)
    ∙ is

-- ---- values that don't nest

pub whole_begins : (text rest : List ℕ) (n : ℕ) → text ≡ decimal n ++ rest → n < 2 ^ 64 → BeginsWithValue 0 text (number (unsigned n)) rest
whole_begins text rest n is fits = (number (unsigned n), is, (IsNumber-decimal n fits, omega arith, ap (option_map number) (number_of-decimal n fits)))

pub below_begins : (text digits rest : List ℕ) (m n : ℕ) → text ≡ 45 ∷ digits → digits ≡ decimal m ++ rest → m ≡ suc n → n < 2 ^ 63 - 1 → BeginsWithValue 0 text (number (negative (negsuc n))) rest
below_begins text digits rest m n a b one fits =
    (number (negative (negsuc n)), a ∙ ap (λ (l : List ℕ). 45 ∷ l) (b ∙ ap (λ k. decimal k ++ rest) one), (IsNumber-signed_decimal (negsuc n) (omega (arith, fits)), omega arith, ap (option_map number) (number_of-negative n (omega (arith, fits)))))

pub text_begins : (text rest words : List ℕ) → text ≡ quoted words ++ rest → BeginsWithValue 0 text (string words) rest
text_begins text rest words is = (string words, is, (tt, omega arith, refl))

pub flag_begins : (text rest : List ℕ) (b : Bool) → text ≡ compact_text (boolean b) ++ rest → BeginsWithValue 0 text (boolean b) rest
flag_begins text rest b is = (boolean b, is, (tt, omega arith, refl))

-- a leaf is a value of any depth
pub leaf_begins : (deep : ℕ) (text rest : List ℕ) (d : Data) → BeginsWithValue 0 text d rest → BeginsWithValue deep text d rest
leaf_begins deep text rest d b = (b.0, b.1, (b.2.0, omega (arith, b.2.1), b.2.2))

-- ---- items: what is written, and what it is read as

abbrev pub Pair : Type 0
Pair = Data × Data

-- items as they are written, in front of others
abbrev pub raw_items : List Pair → Items → Items
raw_items [] ds = ds
raw_items (p ∷ ps) ds = item p.0 (raw_items ps ds)

-- items as they are read
abbrev pub read_items : List Pair → Items
read_items [] = no_items
read_items (p ∷ ps) = item p.1 (read_items ps)

abbrev pub AllRead : ℕ → List Pair → Type 0
AllRead deep [] = ⊤
AllRead deep (p ∷ ps) = ReadsValue deep p.0 p.1 × AllRead deep ps

pub AllRead-push : (deep : ℕ) (ps : List Pair) (p : Pair) → AllRead deep ps → ReadsValue deep p.0 p.1 → AllRead deep (ps ++ p ∷ [])
AllRead-push deep [] p all one = (one, tt)
AllRead-push deep (q ∷ ps) p all one = (all.0, AllRead-push deep ps p all.1 one)

raw_items_push : (ps : List Pair) (p : Pair) (ds : Items) → raw_items (ps ++ p ∷ []) ds ≡ raw_items ps (item p.0 ds)
raw_items_push [] p ds = refl
raw_items_push (q ∷ ps) p ds = ap (item q.0) (raw_items_push ps p ds)

items_numbers : (deep : ℕ) (ps : List Pair) → AllRead deep ps → ItemsHaveNumbers (items_outline (raw_items ps no_items))
items_numbers deep [] all = tt
items_numbers deep (p ∷ ps) all = (all.0.0, items_numbers deep ps all.1)

items_shallow : (deep : ℕ) (ps : List Pair) → AllRead deep ps → items_depth (items_outline (raw_items ps no_items)) ≤ deep
items_shallow deep [] all = omega arith
items_shallow deep (p ∷ ps) all = omega (arith, all.0.1, items_shallow deep ps all.1)

items_read : (deep : ℕ) (ps : List Pair) → AllRead deep ps → of_items (items_outline (raw_items ps no_items)) ≡ Some (read_items ps)
items_read deep [] all = refl
items_read deep (p ∷ ps) all =
    ap (option_and_then (λ d. option_map (item d) (of_items (items_outline (raw_items ps no_items))))) all.0.2
    ∙ ap (option_map (item p.1)) (items_read deep ps all.1)

-- the text is these items and what is left, which begins with an item
abbrev pub GoesItems : List ℕ → List Pair → List ℕ → Type 0
GoesItems text ps left = (d : Data) (ds : Items) (tail : List ℕ) → left ≡ items_text false (item d ds) ++ tail → text ≡ items_text false (raw_items ps (item d ds)) ++ tail

pub items_first : (text : List ℕ) → GoesItems text [] text
items_first text d ds tail is = is

pub items_on : (text left after more : List ℕ) (ps : List Pair) (p : Pair) → GoesItems text ps left → left ≡ compact_text p.0 ++ after → after ≡ 44 ∷ more → GoesItems text (ps ++ p ∷ []) more
items_on text left after more ps p goes a b d ds tail is =
    goes p.0 (item d ds) tail (a ∙ ap (λ (l : List ℕ). compact_text p.0 ++ l) (b ∙ ap (λ (l : List ℕ). 44 ∷ l) is) ∙ sym (append_assoc (compact_text p.0) (items_text true (item d ds)) tail))
    ∙ ap (λ (es : Items). items_text false es ++ tail) (sym (raw_items_push ps p (item d ds)))

pub items_text_end : (text left after tail : List ℕ) (ps : List Pair) (p : Pair) → GoesItems text ps left → left ≡ compact_text p.0 ++ after → after ≡ 93 ∷ tail
    → text ≡ items_text false (raw_items (ps ++ p ∷ []) no_items) ++ tail
items_text_end text left after tail ps p goes a b =
    goes p.0 no_items tail (a ∙ ap (λ (l : List ℕ). compact_text p.0 ++ l) b ∙ sym (append_assoc (compact_text p.0) (93 ∷ []) tail))
    ∙ ap (λ (es : Items). items_text false es ++ tail) (sym (raw_items_push ps p no_items))

pub items_begin : (deep : ℕ) (text tail : List ℕ) (ps : List Pair) → AllRead deep ps → text ≡ items_text false (raw_items ps no_items) ++ tail → BeginsItems deep text tail
items_begin deep text tail ps all is = (raw_items ps no_items, read_items ps, is, items_numbers deep ps all, items_shallow deep ps all, items_read deep ps all)

-- ---- members

abbrev pub Named : Type 0
Named = List ℕ × Pair

abbrev pub raw_members : List Named → Members → Members
raw_members [] ms = ms
raw_members (n ∷ ns) ms = member n.0 n.1.0 (raw_members ns ms)

-- the members of the object, where the last of a name counts
abbrev pub held : List Named → Members → Members
held [] found = found
held (n ∷ ns) found = held ns (put n.0 n.1.1 found)

abbrev pub AllNamed : ℕ → List Named → Type 0
AllNamed deep [] = ⊤
AllNamed deep (n ∷ ns) = ReadsValue deep n.1.0 n.1.1 × AllNamed deep ns

pub AllNamed-push : (deep : ℕ) (ns : List Named) (n : Named) → AllNamed deep ns → ReadsValue deep n.1.0 n.1.1 → AllNamed deep (ns ++ n ∷ [])
AllNamed-push deep [] n all one = (one, tt)
AllNamed-push deep (m ∷ ns) n all one = (all.0, AllNamed-push deep ns n all.1 one)

raw_members_push : (ns : List Named) (n : Named) (ms : Members) → raw_members (ns ++ n ∷ []) ms ≡ raw_members ns (member n.0 n.1.0 ms)
raw_members_push [] n ms = refl
raw_members_push (m ∷ ns) n ms = ap (member m.0 m.1.0) (raw_members_push ns n ms)

pub held_push : (ns : List Named) (n : Named) (found : Members) → held (ns ++ n ∷ []) found ≡ put n.0 n.1.1 (held ns found)
held_push [] n found = refl
held_push (m ∷ ns) n found = held_push ns n (put m.0 m.1.1 found)

members_numbers : (deep : ℕ) (ns : List Named) → AllNamed deep ns → MembersHaveNumbers (members_outline (raw_members ns no_members))
members_numbers deep [] all = tt
members_numbers deep (n ∷ ns) all = (all.0.0, members_numbers deep ns all.1)

members_shallow : (deep : ℕ) (ns : List Named) → AllNamed deep ns → members_depth (members_outline (raw_members ns no_members)) ≤ deep
members_shallow deep [] all = omega arith
members_shallow deep (n ∷ ns) all = omega (arith, all.0.1, members_shallow deep ns all.1)

members_read : (deep : ℕ) (ns : List Named) (found : Members) → AllNamed deep ns → of_members (members_outline (raw_members ns no_members)) found ≡ Some (held ns found)
members_read deep [] found all = refl
members_read deep (n ∷ ns) found all =
    ap (option_and_then (λ d. of_members (members_outline (raw_members ns no_members)) (put n.0 d found))) all.0.2
    ∙ members_read deep ns (put n.0 n.1.1 found) all.1

-- the text is these members and what is left, which begins with a member
abbrev pub GoesMembers : List ℕ → List Named → List ℕ → Type 0
GoesMembers text ns left = (k : List ℕ) (d : Data) (ms : Members) (tail : List ℕ) → left ≡ members_text false (member k d ms) ++ tail → text ≡ members_text false (raw_members ns (member k d ms)) ++ tail

pub members_first : (text : List ℕ) → GoesMembers text [] text
members_first text k d ms tail is = is

one_member : (name value more tail : List ℕ) → name ++ 58 ∷ (value ++ (more ++ tail)) ≡ (name ++ 58 ∷ (value ++ more)) ++ tail
one_member name value more tail = sym (append_assoc name (58 ∷ (value ++ more)) tail ∙ ap (λ (l : List ℕ). name ++ 58 ∷ l) (append_assoc value more tail))

pub member_is : (left colon inner after rest : List ℕ) (n : Named) → left ≡ quoted n.0 ++ colon → colon ≡ 58 ∷ inner → inner ≡ compact_text n.1.0 ++ after → after ≡ rest → left ≡ quoted n.0 ++ 58 ∷ (compact_text n.1.0 ++ rest)
member_is left colon inner after rest n a b c f = a ∙ ap (λ (l : List ℕ). quoted n.0 ++ l) (b ∙ ap (λ (l : List ℕ). 58 ∷ l) (c ∙ ap (λ (l : List ℕ). compact_text n.1.0 ++ l) f))

pub members_on : (text left colon inner after more : List ℕ) (ns : List Named) (n : Named) → GoesMembers text ns left
    → left ≡ quoted n.0 ++ colon → colon ≡ 58 ∷ inner → inner ≡ compact_text n.1.0 ++ after → after ≡ 44 ∷ more → GoesMembers text (ns ++ n ∷ []) more
members_on text left colon inner after more ns n goes a b c f k d ms tail is =
    goes n.0 n.1.0 (member k d ms) tail (member_is left colon inner after _ n a b c (f ∙ ap (λ (l : List ℕ). 44 ∷ l) is) ∙ one_member (quoted n.0) (compact_text n.1.0) (members_text true (member k d ms)) tail)
    ∙ ap (λ (es : Members). members_text false es ++ tail) (sym (raw_members_push ns n (member k d ms)))

pub members_text_end : (text left colon inner after tail : List ℕ) (ns : List Named) (n : Named) → GoesMembers text ns left
    → left ≡ quoted n.0 ++ colon → colon ≡ 58 ∷ inner → inner ≡ compact_text n.1.0 ++ after → after ≡ 125 ∷ tail
    → text ≡ members_text false (raw_members (ns ++ n ∷ []) no_members) ++ tail
members_text_end text left colon inner after tail ns n goes a b c f =
    goes n.0 n.1.0 no_members tail (member_is left colon inner after _ n a b c f ∙ one_member (quoted n.0) (compact_text n.1.0) (125 ∷ []) tail)
    ∙ ap (λ (es : Members). members_text false es ++ tail) (sym (raw_members_push ns n no_members))

pub members_begin : (deep : ℕ) (text tail : List ℕ) (ns : List Named) → AllNamed deep ns → text ≡ members_text false (raw_members ns no_members) ++ tail → BeginsMembers deep text tail
members_begin deep text tail ns all is = (raw_members ns no_members, held ns no_members, is, members_numbers deep ns all, members_shallow deep ns all, members_read deep ns no_members all)

-- ---- arrays and objects

pub no_items_begin : (deep : ℕ) (text rest : List ℕ) → text ≡ 93 ∷ rest → BeginsItems deep text rest
no_items_begin deep text rest is = (no_items, no_items, is, tt, omega arith, refl)

pub no_members_begin : (deep : ℕ) (text rest : List ℕ) → text ≡ 125 ∷ rest → BeginsMembers deep text rest
no_members_begin deep text rest is = (no_members, no_members, is, tt, omega arith, refl)

pub leaf_is_value : (deep : ℕ) (text rest : List ℕ) (d : Data) → BeginsWithValue 0 text d rest → (e : Data) × BeginsWithValue deep text e rest
leaf_is_value deep text rest d b = (d, leaf_begins deep text rest d b)

pub text_is_value : (deep : ℕ) (text rest words : List ℕ) → text ≡ quoted words ++ rest → (d : Data) × BeginsWithValue deep text d rest
text_is_value deep text rest words is = leaf_is_value deep text rest (string words) (text_begins text rest words is)

pub nested_is_value : (deep : ℕ) (text rest : List ℕ) → BeginsNested deep text rest → (d : Data) × BeginsWithValue deep text d rest
nested_is_value deep text rest b = (b.0, b.2)

pub array_begins : (deep inner : ℕ) (text items rest : List ℕ) → deep ≡ suc inner → text ≡ 91 ∷ items → BeginsItems inner items rest → BeginsNested deep text rest
array_begins deep inner text items rest one is b =
    (array b.1, refl, (array b.0, is ∙ ap (λ (l : List ℕ). 91 ∷ l) b.2, (b.3, omega (arith, b.4, one), ap (option_map array) b.5)))

pub object_begins : (deep inner : ℕ) (text members rest : List ℕ) → deep ≡ suc inner → text ≡ 123 ∷ members → BeginsMembers inner members rest → BeginsNested deep text rest
object_begins deep inner text members rest one is b =
    (object b.1, refl, (object b.0, is ∙ ap (λ (l : List ℕ). 123 ∷ l) b.2, (b.3, omega (arith, b.4, one), ap (option_map object) b.5)))

pub object_read : (deep : ℕ) (line rest : List ℕ) (ns : List Named) → IsUtf8 line → deep < max_depth → AllNamed deep ns → line ≡ 123 ∷ rest → rest ≡ members_text false (raw_members ns no_members) ++ [] → line_members line ≡ Some (held ns no_members)
object_read deep line rest ns utf8 shallow all a b =
    let raw = object (raw_members ns no_members) in
    let reads = ap read (a ∙ ap (λ (l : List ℕ). 123 ∷ l) (b ∙ append-nil (members_text false (raw_members ns no_members))))
    ∙ read_compact raw (object (held ns no_members)) (members_numbers deep ns all) (omega (arith, shallow, members_shallow deep ns all)) (ap (option_map object) (members_read deep ns no_members all)) in
    ap (option_and_then as_object) (read_value line (object (held ns no_members)) utf8 reads)

pub array_read : (deep : ℕ) (line rest : List ℕ) (ps : List Pair) → IsUtf8 line → deep < max_depth → AllRead deep ps → line ≡ 91 ∷ rest → rest ≡ items_text false (raw_items ps no_items) ++ [] → line_value line ≡ Some (array (read_items ps))
array_read deep line rest ps utf8 shallow all a b =
    let raw = array (raw_items ps no_items) in
    let reads = ap read (a ∙ ap (λ (l : List ℕ). 91 ∷ l) (b ∙ append-nil (items_text false (raw_items ps no_items))))
    ∙ read_compact raw (array (read_items ps)) (items_numbers deep ps all) (omega (arith, shallow, items_shallow deep ps all)) (ap (option_map array) (items_read deep ps all)) in
    read_value line (array (read_items ps)) utf8 reads

-- an array in front of a text, by its items
pub array_front : (deep : ℕ) (text items rest : List ℕ) (ps : List Pair) → AllRead deep ps → text ≡ 91 ∷ items → items ≡ items_text false (raw_items ps no_items) ++ rest
    → BeginsWithValue (deep + 1) text (array (read_items ps)) rest
array_front deep text items rest ps all is more = (
  array (raw_items ps no_items),
  is ∙ ap (λ (l : List ℕ). 91 ∷ l) more,
  (items_numbers deep ps all, omega (arith, items_shallow deep ps all), ap (option_map array) (items_read deep ps all)),
)

-- a text with nothing behind its value
pub whole_text_read : (deep : ℕ) (line text rest : List ℕ) (d : Data) → IsUtf8 line → deep ≤ max_depth → line ≡ text → rest ≡ [] → BeginsWithValue deep text d rest → line_value line ≡ Some d
whole_text_read deep line text rest d utf8 shallow is none b =
    read_value line d utf8
    (ap read (is ∙ b.1 ∙ ap (λ (l : List ℕ). compact_text b.0 ++ l) none ∙ append-nil (compact_text b.0)) ∙ read_compact b.0 d b.2.0 (omega (arith, shallow, b.2.1)) b.2.2)

-- a nested value stays a text, which is read as the value
pub nested_begins : (deep : ℕ) (text words rest : List ℕ) → IsUtf8 words → words ++ rest ≡ text → deep ≤ max_depth → (d : Data) → nested_value d ≡ d → (raw : Data) → words ≡ compact_text raw → ReadsValue deep raw d
    → BeginsWithValue deep text (nested_value (unwrap_or (line_value words) null)) rest
nested_begins deep text words rest utf8 cut shallow d same raw is reads =
    let read_as = ap read is ∙ read_compact raw d reads.0 (omega (arith, shallow, reads.1)) reads.2 in
    let value : nested_value (unwrap_or (line_value words) null) ≡ d = ap (λ v. nested_value (unwrap_or v null)) (read_value words d utf8 read_as) ∙ same in
    (raw, sym cut ∙ ap (λ (l : List ℕ). l ++ rest) is, (reads.0, reads.1, reads.2 ∙ ap (λ e. Some e) (sym value)))

-- ---- entries of the list

abbrev pub Entry : Type 0
Entry = Bor (List ℕ) × Plain

pub onto_push : (es : List Entry) (e : Entry) (ms : Members) → with_members_first (es ++ e ∷ []) ms ≡ with_members_first es (member e.0.now (plain_data e.1) ms)
onto_push [] e ms = refl
onto_push (x ∷ es) e ms = ap (member x.0.now (plain_data x.1)) (onto_push es e ms)

-- ---- texts with no escape

pub behind_byte : (text : List ℕ) (byte : ℕ) → 0 < length text → get_or text 0 0 ≡ byte → text ≡ byte ∷ drop 1 text
behind_byte text byte some here = drop-cons text 0 0 some ∙ ap (λ x. x ∷ drop 1 text) here

pub text_cut : (bytes body rest : List ℕ) (at : ℕ) → bytes ≡ 34 ∷ body → drop at body ≡ 34 ∷ rest → bytes ≡ 34 ∷ (take at body ++ 34 ∷ rest)
text_cut bytes body rest at a b = a ∙ ap (λ (l : List ℕ). 34 ∷ l) (sym (take-append-drop at body) ∙ ap (λ (l : List ℕ). take at body ++ l) b)

pub quoted_text : (bytes words rest : List ℕ) → bytes ≡ 34 ∷ (words ++ 34 ∷ rest) → escape words ≡ words → bytes ≡ quoted words ++ rest
quoted_text bytes words rest is plain =
    is ∙ ap (λ (l : List ℕ). 34 ∷ l) (sym (append_assoc words (34 ∷ []) rest) ∙ ap (λ (l : List ℕ). (l ++ 34 ∷ []) ++ rest) (sym plain))

-- the front of a text, where what is behind it is known
pub cut_front : (text front rest : List ℕ) → text ≡ front ++ rest → take (length text - length rest) text ≡ front
cut_front text front rest is =
    let long : length text - length rest ≡ length front = omega (arith, ap (λ (l : List ℕ). length l) is, length-append front rest) in
    rw (long, is) (take-append front rest)
  where
    take-append : (xs ys : List ℕ) → take (length xs) (xs ++ ys) ≡ xs
    take-append [] ys = refl
    take-append (x ∷ xs) ys = ap (λ (l : List ℕ). x ∷ l) (take-append xs ys)
