-- Texts that are added one after another.
use Rattle.std.specs.Str.{IsUtf8}
use Rattle.trace_lines.proofs.Common.{AddsText, Bool, Data, IsUtf8-append, IsUtf8-nil, IsUtf8-quoted, List, [], ap, append-nil, append_assoc, arith, comma_if, compact_text, drop, drop_more, drop_of_length-le, escape, get_or, items, items_text, length, quoted, subst, sym, true, ℕ, ◌++◌, ◌+◌, ◌<◌, ◌∙◌, ◌∷◌, ◌≡◌, ◌≤◌}

pub begun : (old : List ℕ) → AddsText old old []
begun old = (sym (append-nil old), IsUtf8-nil)

pub then : (old mid new s t : List ℕ) → AddsText old mid s → AddsText mid new t → AddsText old new (s ++ t)
then old mid new s t x y = (y.0 ∙ ap (λ (l : List ℕ). l ++ t) x.0 ∙ append_assoc old s t, IsUtf8-append s t x.1 y.1)

-- the same text, told otherwise
pub retold : (old new s t : List ℕ) → AddsText old new s → s ≡ t → AddsText old new t
retold old new s t x same = (x.0 ∙ ap (λ (l : List ℕ). old ++ l) same, subst IsUtf8 same x.1)

-- a front, a quote, a text and a quote, put down one after another
pub quoted_put : (old first begin body new front text : List ℕ) → first ≡ old ++ front → begin ≡ first ++ 34 ∷ [] → body ≡ begin ++ text → new ≡ body ++ 34 ∷ [] → new ≡ old ++ (front ++ 34 ∷ (text ++ 34 ∷ []))
quoted_put old first begin body new front text a b c d =
    d ∙ ap (λ (l : List ℕ). l ++ 34 ∷ []) (c ∙ ap (λ (l : List ℕ). l ++ text) (b ∙ ap (λ (l : List ℕ). l ++ 34 ∷ []) a)) ∙ parts old front text
  where
    parts : (old front body : List ℕ) → (((old ++ front) ++ 34 ∷ []) ++ body) ++ 34 ∷ [] ≡ old ++ (front ++ 34 ∷ (body ++ 34 ∷ []))
    parts old front body = simp append_assoc

pub quoted_added : (old a b d new front s : List ℕ) → AddsText old a front → b ≡ a ++ 34 ∷ [] → d ≡ b ++ escape s → new ≡ d ++ 34 ∷ [] → IsUtf8 s → AddsText old new (front ++ quoted s)
quoted_added old a b d new front s x begin body close utf8 = (quoted_put old a b d new front (escape s) x.0 begin body close, IsUtf8-append front (quoted s) x.1 (IsUtf8-quoted s utf8))

-- a text of no byte
pub none_added : (old text : List ℕ) → length text ≡ 0 → AddsText old old text
none_added old [] none = begun old
none_added old (x ∷ text) none = absurd (omega (arith, none))

-- a text of one byte
pub byte_added : (old new text : List ℕ) (byte : ℕ) → length text ≡ 1 → byte ≡ get_or text 0 byte → new ≡ old ++ byte ∷ [] → IsUtf8 text → AddsText old new text
byte_added old new [] byte one is added utf8 = absurd (omega (arith, one))
byte_added old new (x ∷ []) byte one is added utf8 = (added ∙ ap (λ (b : ℕ). old ++ b ∷ []) is, utf8)
byte_added old new (x ∷ y ∷ text) byte one is added utf8 = absurd (omega (arith, one))

-- a text that was added to none
pub alone : (old new s : List ℕ) → old ≡ [] → AddsText old new s → new ≡ s
alone old new s none x = x.0 ∙ ap (λ (l : List ℕ). l ++ s) none

pub alone_utf8 : (old new s : List ℕ) → old ≡ [] → AddsText old new s → IsUtf8 new
alone_utf8 old new s none x = subst IsUtf8 (sym (alone old new s none x)) x.1

-- one item more of an array
pub item_added : {A : Type 0} (f : A → Data) (xs : List A) (i : ℕ) (x : A) (later : Bool) (w all : List ℕ) → i < length xs → x ≡ get_or xs i x → w ++ items_text later (items f (drop i xs)) ≡ all
    → (w ++ (comma_if later ++ compact_text (f x))) ++ items_text true (items f (drop (i + 1) xs)) ≡ all
item_added f xs i x later w all within is rest =
    append_assoc w (comma_if later ++ compact_text (f x)) (items_text true (items f (drop (i + 1) xs)))
    ∙ ap (λ (l : List ℕ). w ++ l) (append_assoc (comma_if later) (compact_text (f x)) (items_text true (items f (drop (i + 1) xs))))
    ∙ ap (λ y. w ++ (comma_if later ++ (compact_text (f y) ++ items_text true (items f (drop (i + 1) xs))))) is
    ∙ ap (λ ys. w ++ items_text later (items f ys)) (sym (drop_more xs i x within))
    ∙ rest

-- the last item of an array was added
pub items_added : {A : Type 0} (f : A → Data) (xs : List A) (i : ℕ) (later : Bool) (w all : List ℕ) → length xs ≤ i → w ++ items_text later (items f (drop i xs)) ≡ all → w ++ 93 ∷ [] ≡ all
items_added f xs i later w all past rest = ap (λ ys. w ++ items_text later (items f ys)) (sym (drop_of_length-le xs past)) ∙ rest
