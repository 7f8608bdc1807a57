-- Forms of objects: a form takes members one by one, and gives a value and the members that are left.
use Rattle.std.specs.Prelude.{ℕ, ◌-◌, ◌^◌, List, [], ◌∷◌, Bool, nat_le, if◌then◌else◌, Option, Some, None, option_map, option_and_then, ⊤}
use Rattle.std.specs.Ordering.{nat_cmp, match_ordering}
use Rattle.std.specs.Cmp.Lexicographic.{slice_cmp}
use Rattle.serde_json.specs.Data.{Data, Items, no_items, item, Members, no_members}
use Rattle.serde_json.specs.Data as json
use Rattle.serde_json.specs.Find.{get_member, as_number, as_u64, as_str, as_bool, as_array, as_object}

-- a form of a value: what it takes from the members, and what is left
abbrev pub Form : Type 0 → Type 0
Form A = Members → Option (A × Members)

-- one form after another
infixl 10 ◌>>=◌
abbrev pub ◌>>=◌ : {A B : Type 0}
    → (Members → Option (A × Members)) → (A → Members → Option (B × Members)) → Members → Option (B × Members)
(f >>= g) ms = option_and_then (λ x. g x.0 x.1) (f ms)

-- takes nothing
abbrev pub give : {A : Type 0} → A → Members → Option (A × Members)
give a ms = Some (a, ms)

-- takes nothing, and fails where there is no value
abbrev pub when : {A : Type 0} → Option A → Members → Option (A × Members)
when o ms = option_map (λ a. (a, ms)) o

-- something, if a test holds
abbrev pub unit_if : Bool → Option ⊤
unit_if b = if b then Some tt else None

-- the members without the one of a name
abbrev pub without_member : List ℕ → Members → Members
without_member k no_members = no_members
without_member k (json.member l d ms) =
    match_ordering (slice_cmp nat_cmp k l)
    (json.member l d (without_member k ms)) ms (json.member l d (without_member k ms))

-- the member of a name, which has to be there
abbrev pub member : List ℕ → Members → Option (Data × Members)
member name ms = option_map (λ d. (d, without_member name ms)) (get_member name ms)

-- the member of a name, if it is there
abbrev pub optional : List ℕ → Members → Option (Option Data × Members)
optional name ms = Some (get_member name ms, without_member name ms)

-- ---- kinds of values

-- a whole number of 64 bits
abbrev pub as_whole : Data → Option ℕ
as_whole d = option_and_then as_u64 (as_number d)

-- a number that is at most the greatest
abbrev pub if_at_most : ℕ → ℕ → Option ℕ
if_at_most greatest n = if nat_le n greatest then Some n else None

-- a whole number of 32 bits
abbrev pub as_u32 : Data → Option ℕ
as_u32 d = option_and_then (if_at_most (2 ^ 32 - 1)) (as_whole d)

-- a value, if there is one, has to be of a kind
abbrev pub if_there : {A : Type 0} → (Data → Option A) → Option Data → Option (Option A)
if_there f None = Some None
if_there f (Some d) = option_map Some (f d)

-- something else where there is no value; a value has to be of a kind
abbrev pub if_absent : {A : Type 0} → A → (Data → Option A) → Option Data → Option A
if_absent a f None = Some a
if_absent a f (Some d) = f d

-- each item has to be of a kind
abbrev pub each : {A : Type 0} → (Data → Option A) → Items → Option (List A)
each f no_items = Some []
each f (item d ds) = option_and_then (λ a. option_map (λ more. a ∷ more) (each f ds)) (f d)

-- a name and a value of a kind
abbrev pub pair_with : {A : Type 0} → (Data → Option A) → Items → Option (List ℕ × A)
pair_with f no_items = None
pair_with f (item name no_items) = None
pair_with f (item name (item value no_items)) = option_and_then (λ n. option_map (λ v. (n, v)) (f value)) (as_str name)
pair_with f (item name (item value (item d ds))) = None

-- ---- members of a kind

-- a whole number
abbrev pub natural : List ℕ → Members → Option (ℕ × Members)
natural name = do
  d ← member name
  when (as_whole d)

-- a whole number up to the greatest
abbrev pub whole_to : ℕ → List ℕ → Members → Option (ℕ × Members)
whole_to greatest name = do
  n ← natural name
  when (if_at_most greatest n)

-- a text
abbrev pub text : List ℕ → Members → Option (List ℕ × Members)
text name = do
  d ← member name
  when (as_str d)

-- true or false, and what else it is where it isn't there
abbrev pub flag_or : Bool → List ℕ → Members → Option (Bool × Members)
flag_or otherwise name = do
  there ← optional name
  when (if_absent otherwise as_bool there)

-- a text, if it is there
abbrev pub optional_text : List ℕ → Members → Option (Option (List ℕ) × Members)
optional_text name = do
  there ← optional name
  when (if_there as_str there)

-- a whole number of 32 bits, if it is there
abbrev pub optional_u32 : List ℕ → Members → Option (Option ℕ × Members)
optional_u32 name = do
  there ← optional name
  when (if_there as_u32 there)

-- an array, as its items
abbrev pub array : List ℕ → Members → Option (Items × Members)
array name = do
  d ← member name
  when (as_array d)

-- an array of texts
abbrev pub texts : List ℕ → Members → Option (List (List ℕ) × Members)
texts name = do
  ds ← array name
  when (each as_str ds)

-- ---- whole objects

-- no member is left
abbrev pub no_more : Members → Option ⊤
no_more no_members = Some tt
no_more (json.member k d ms) = None

-- the members are of a form, and there is none more
abbrev pub all_of : {A : Type 0} → (Members → Option (A × Members)) → Members → Option A
all_of f ms = option_and_then (λ x. option_map (λ _. x.0) (no_more x.1)) (f ms)

-- a value that is an object of a form
abbrev pub object_of : {A : Type 0} → (Members → Option (A × Members)) → Data → Option A
object_of f d = option_and_then (all_of f) (as_object d)
