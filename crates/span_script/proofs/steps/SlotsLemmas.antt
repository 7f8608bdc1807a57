-- Lists of slots, of which some are spent.
use Rattle.std.proofs.Common.{◌≡◌, ℕ, zero, suc, ◌+◌, ◌<◌, List, [], ◌∷◌, ◌++◌, length, Option, Some, None, option_map, map, refl, sym, ap, ◌∙◌, arith, slice_set}
use Rattle.span_script.proofs.Common.{map_push, map-set, length_push, get_or-map, Handle, held_by, slot_at, with_item, spend, slots_after, with_either, either_after}
use Rattle.std.proofs.lemmas.List.{length-set}

-- what holds of each name that isn't spent holds after one more, if it holds of that
pub named_push : {A : Type 0} (P : A → Type 0) (slots : List (Option A)) (o : Option A) → ((n : ℕ) (x : A) → slot_at slots n ≡ Some x → P x) → ((x : A) → o ≡ Some x → P x) → (n : ℕ) (x : A) → slot_at (slots ++ o ∷ []) n ≡ Some x → P x
named_push P [] o h g zero x e = g x e
named_push P [] o h g (suc n) x e = absurd (cc e)
named_push P (s ∷ ss) o h g zero x e = h zero x e
named_push P (s ∷ ss) o h g (suc n) x e = named_push P ss o (λ m y f. h (suc m) y f) g n x e

-- what isn't spent after one more is spent wasn't before
pub named_set : {A : Type 0} (slots : List (Option A)) (i n : ℕ) (x : A) → slot_at (slice_set slots i None) n ≡ Some x → slot_at slots n ≡ Some x
named_set [] i n x e = e
named_set (s ∷ ss) zero zero x e = absurd (cc e)
named_set (s ∷ ss) zero (suc n) x e = e
named_set (s ∷ ss) (suc i) zero x e = e
named_set (s ∷ ss) (suc i) (suc n) x e = named_set ss i n x e

pub named_within : {A : Type 0} (slots : List (Option A)) (n : ℕ) (x : A) → slot_at slots n ≡ Some x → n < length slots
named_within [] n x e = absurd (cc e)
named_within (s ∷ ss) zero x e = omega arith
named_within (s ∷ ss) (suc n) x e = let below = named_within ss n x e in omega arith

spend_map : {A B : Type 0} (f : A → B) (ys : List (Option A)) (zs : List (Option B)) → zs ≡ map (option_map f) ys → (spent : Option ℕ) → spend zs spent ≡ map (option_map f) (spend ys spent)
spend_map f ys zs same None = same
spend_map f ys zs same (Some n) = ap (λ xs. slice_set xs n None) same ∙ sym (map-set (option_map f) ys n None)

-- a name more and a name less, seen by a view
pub slots_map : {A B : Type 0} (f : A → B) (xs : List (Option A)) (new : Option A) (spent : Option ℕ) → slots_after (map (option_map f) xs) (option_map f new) spent ≡ map (option_map f) (slots_after xs new spent)
slots_map f xs new spent = spend_map f (with_item xs (option_map Some new)) (with_item (map (option_map f) xs) (option_map Some (option_map f new))) (new_map new) spent
  where
    new_map : (new : Option _) → with_item (map (option_map f) xs) (option_map Some (option_map f new)) ≡ map (option_map f) (with_item xs (option_map Some new))
    new_map None = refl
    new_map (Some x) = sym (map_push (option_map f) xs (Some x))

-- where the numbers are shared with another kind
pub either_map : {A B C : Type 0} (f : A → B) (xs : List (Option A)) (new : Option A) (other : Option C) (spent : Option ℕ) → either_after (map (option_map f) xs) (option_map f new) other spent ≡ map (option_map f) (either_after xs new other spent)
either_map {A} {B} {C} f xs new other spent = spend_map f (with_either xs new other) (with_either (map (option_map f) xs) (option_map f new) other) (by_new new other) spent
  where
    by_new : (new : Option A) (other : Option C) → with_either (map (option_map f) xs) (option_map f new) other ≡ map (option_map f) (with_either xs new other)
    by_new (Some x) other = sym (map_push (option_map f) xs (Some x))
    by_new None (Some y) = sym (map_push (option_map f) xs None)
    by_new None None = refl

-- as many numbers of either kind
pub either_count : {A B : Type 0} (xs : List (Option A)) (ys : List (Option B)) (new : Option A) (other : Option B) (m n : Option ℕ) → length xs ≡ length ys → length (either_after xs new other m) ≡ length (either_after ys other new n)
either_count {A} {B} xs ys new other m n same = spend_count (with_either xs new other) m ∙ by_new new other ∙ sym (spend_count (with_either ys other new) n)
  where
    spend_count : {D : Type 0} (zs : List (Option D)) (spent : Option ℕ) → length (spend zs spent) ≡ length zs
    spend_count zs None = refl
    spend_count zs (Some k) = length-set zs k None

    by_new : (new : Option A) (other : Option B) → length (with_either xs new other) ≡ length (with_either ys other new)
    by_new None None = same
    by_new (Some x) None = length_push xs (Some x) ∙ ap (λ (k : ℕ). k + 1) same ∙ sym (length_push ys None)
    by_new None (Some y) = length_push xs None ∙ ap (λ (k : ℕ). k + 1) same ∙ sym (length_push ys (Some y))
    by_new (Some x) (Some y) = length_push xs (Some x) ∙ ap (λ (k : ℕ). k + 1) same ∙ sym (length_push ys (Some y))

pub still_named : {A : Type 0} (slots : List (Option A)) (spent : Option ℕ) (n : ℕ) (x : A) → slot_at (spend slots spent) n ≡ Some x → slot_at slots n ≡ Some x
still_named slots None n x there = there
still_named slots (Some k) n x there = named_set slots k n x there

-- what was found in a view stands behind it
pub record Found {A B : Type 0} (f : A → B) (xs : List (Option A)) (n : ℕ) (y : B) : Type 0 where
  pub at : A
  pub there : slot_at xs n ≡ Some at
  pub is : y ≡ f at

pub find : {A B : Type 0} (f : A → B) (ys : List (Option B)) (xs : List (Option A)) (n : ℕ) (y : B) → ys ≡ map (option_map f) xs → slot_at ys n ≡ Some y → Found f xs n y
find f ys xs n y slots there = by_slot (slot_at xs n) refl (sym (ap (λ zs. slot_at zs n) slots ∙ get_or-map (option_map f) xs n None) ∙ there)
  where
    by_slot : (o : Option _) → slot_at xs n ≡ o → option_map f o ≡ Some y → Found f xs n y
    by_slot None e g = absurd (cc g)
    by_slot (Some x) e g = record { at = x; there = e; is = cc g }

-- what a handle in a slot stands for
pub held_slot : (hs : List (Option Handle)) (n : ℕ) (handle : Handle) → slot_at hs n ≡ Some handle → slot_at (map held_by hs) n ≡ Some handle.held
held_slot hs n handle there = get_or-map held_by hs n None ∙ ap held_by there

-- what is there is one
pub some_is : {A : Type 0} (a b : A) → Some a ≡ Some b → a ≡ b
some_is a b e = cc e
