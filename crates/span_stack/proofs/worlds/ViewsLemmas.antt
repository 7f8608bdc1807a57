-- What is read of worlds below the outer layers, and of subscribers at a place.
use Rattle.std.proofs.Common.{◌≡◌, ℕ, zero, suc, Bool, List, [], ◌∷◌, map, Option, Some, None, refl, sym, ap, subst, ◌∙◌, slice_get, slice_set}
use Rattle.span_stack.proofs.Common.{option_map_or, slice_get-map, WorldValue, Spans, Layered, Has, Replaced, KeepsPlainData, read_subscriber, seen_before, seen_later, alike, inner_of, inner_worlds}
use Rattle.std.specs.Option.{option_map}

-- a change at a place, seen through a function
map_set : {X Y : Type 0} (f : X → Y) (xs : List X) (n : ℕ) (y : X) → map f (slice_set xs n y) ≡ slice_set (map f xs) n (f y)
map_set f [] n y = refl
map_set f (x ∷ xs) zero y = refl
map_set {X} {Y} f (x ∷ xs) (suc n) y = ap (λ (ys : List Y). f x ∷ ys) (map_set f xs n y)

pub replaced_below : {L S : Type 0} (R : Layered L S → Layered L S → Type 0) (Q : S → S → Type 0) → ((s t : Layered L S) → R s t → Q s.inner t.inner)
    → (old new : WorldValue (Layered L S)) (dispatch : ℕ) → Replaced R old new dispatch → Replaced Q (inner_worlds old) (inner_worlds new) dispatch
replaced_below {L} {S} R Q step old new dispatch r = record {
  before = r.before.inner;
  later = r.later.inner;
  there = slice_get-map inner_of old.subscribers dispatch ∙ ap (λ (o : Option (Layered L S)). option_map inner_of o) r.there;
  did = step r.before r.later r.did;
  others = ap (λ (w : WorldValue (Layered L S)). inner_worlds w) r.others ∙ ap (λ (xs : List S). record (inner_worlds old) { subscribers = xs }) (map_set inner_of old.subscribers dispatch r.later);
}

read_inner : {L S A : Type 0} (read : S → A) (none : A) (o : Option (Layered L S)) → option_map_or read (option_map inner_of o) none ≡ option_map_or (λ (s : Layered L S). read s.inner) o none
read_inner read none None = refl
read_inner read none (Some s) = refl

pub seen_below : {L S A : Type 0} (read : S → A) (none : A) (world : WorldValue (Layered L S)) (dispatch : ℕ) → read_subscriber read none (inner_worlds world) dispatch ≡ read_subscriber (λ (s : Layered L S). read s.inner) none world dispatch
seen_below {L} {S} {A} read none world dispatch = ap (λ (o : Option S). option_map_or read o none) (slice_get-map inner_of world.subscribers dispatch) ∙ read_inner read none (slice_get world.subscribers dispatch)

pub the_one : {X : Type 0} (x y : X) → ◌≡◌ {A = Option X} (Some x) (Some y) → x ≡ y
the_one x y e = cc e

inner_there : {L S : Type 0} (P : S → Type 0) (o : Option (Layered L S)) (x : S) → option_map inner_of o ≡ Some x → ((s : Layered L S) → o ≡ Some s → P s.inner) → P x
inner_there P None x e all = absurd (cc e)
inner_there P (Some s) x e all = subst P (the_one s.inner x e) (all s refl)

pub has_below : {L S : Type 0} (Q : Layered L S → Type 0) (P : S → Type 0) → ((s : Layered L S) → Q s → P s.inner) → (world : WorldValue (Layered L S)) (dispatch : ℕ) → Has Q world dispatch → Has P (inner_worlds world) dispatch
has_below P' P step world dispatch has x there = inner_there P (slice_get world.subscribers dispatch) x (sym (slice_get-map inner_of world.subscribers dispatch) ∙ there) (λ s at. step s (has s at))

pub see : {S A : Type 0} (read : S → A) (none : A) (world : WorldValue S) (dispatch : ℕ) (s : S) → slice_get world.subscribers dispatch ≡ Some s → read_subscriber read none world dispatch ≡ read s
see {S} read none world dispatch s there = ap (λ (o : Option S). option_map_or read o none) there

-- of three things, along what they are
pub along : {A B C : Type 0} (P : A → B → C → Type 0) {a a' : A} {b b' : B} {c c' : C} → a ≡ a' → b ≡ b' → c ≡ c' → P a b c → P a' b' c'
along P {a} {a'} {b} {b'} {c} {c'} e f g h = subst (P a' b') g (subst (λ y. P a' y c) f (subst (λ x. P x b c) e h))

pub replaced_as : {S : Type 0} (R Q : S → S → Type 0) → ((s t : S) → R s t → Q s t) → (old new : WorldValue S) (dispatch : ℕ) → Replaced R old new dispatch → Replaced Q old new dispatch
replaced_as R Q step old new dispatch r = record { before = r.before; later = r.later; there = r.there; did = step r.before r.later r.did; others = r.others }

pub along_four : {A B C D : Type 0} (P : A → B → C → D → Type 0) {a a' : A} {b b' : B} {c c' : C} {d d' : D} → a ≡ a' → b ≡ b' → c ≡ c' → d ≡ d' → P a b c d → P a' b' c' d'
along_four P {a} {a'} {b} {b'} {c} {c'} {d} {d'} e f g h k = subst (P a' b' c') h (along (λ x y z. P x y z d) e f g k)

pub along_two : {A B : Type 0} (P : A → B → Type 0) {a a' : A} {b b' : B} → a ≡ a' → b ≡ b' → P a b → P a' b'
along_two P {a} {a'} {b} {b'} e f h = subst (P a') f (subst (λ x. P x b) e h)

-- what is read of a subscriber, where it is replaced by one with the same
pub kept_place : {S A : Type 0} {R : S → S → Type 0} (read : S → A) (none : A) → ((s t : S) → R s t → read t ≡ read s) → (old new : WorldValue S) (dispatch : ℕ) → Replaced R old new dispatch → read_subscriber read none new dispatch ≡ read_subscriber read none old dispatch
kept_place {S} {A} {R} read none keeps old new dispatch r = seen_later R old new dispatch r read none ∙ keeps r.before r.later r.did ∙ sym (seen_before R old new dispatch r read none)

-- what a change of a subscriber leaves, if it leaves it of each
pub leave_alike : {S : Type 0} (spans : S → Spans) (attaches : S → Bool) (kept : S → ℕ → ℕ → ℕ) (is_whole : S → Type 0) (change : S → S)
    → ((s : S) → spans (change s) ≡ spans s) → ((s : S) → attaches (change s) ≡ attaches s) → ((s : S) → kept (change s) ≡ kept s) → ((s : S) → is_whole s → is_whole (change s))
    → (old new : WorldValue S) (dispatch : ℕ) → Replaced (λ s t. t ≡ change s) old new dispatch → KeepsPlainData spans attaches kept is_whole old new dispatch
leave_alike {S} spans attaches kept is_whole change same_spans same_attaches same_kept same_whole old new dispatch r =
    alike spans attaches kept is_whole (λ s t. t ≡ change s) (λ s t e. ap spans e ∙ same_spans s) (λ s t e. ap attaches e ∙ same_attaches s) (λ s t e. ap kept e ∙ same_kept s)
    (λ s t e w. subst is_whole (sym e) (same_whole s w)) old new dispatch r

-- what a step of a subscriber is to what is read of it
pub read_step : {S A B C : Type 0} {R : S → S → Type 0} (P : A → B → C → C → Type 0) (f : S → A) (no_f : A) (g : S → B) (no_g : B) (k : S → C) (no_k : C) → ((s t : S) → R s t → P (f s) (g s) (k s) (k t))
    → (old new : WorldValue S) (dispatch : ℕ) → Replaced R old new dispatch → P (read_subscriber f no_f old dispatch) (read_subscriber g no_g old dispatch) (read_subscriber k no_k old dispatch) (read_subscriber k no_k new dispatch)
read_step {S} {A} {B} {C} {R} P f no_f g no_g k no_k step old new dispatch r =
    along_four P (sym (seen_before R old new dispatch r f no_f)) (sym (seen_before R old new dispatch r g no_g)) (sym (seen_before R old new dispatch r k no_k)) (sym (seen_later R old new dispatch r k no_k)) (step r.before r.later r.did)

pub read_two : {S C : Type 0} {R : S → S → Type 0} (P : C → C → Type 0) (k : S → C) (no_k : C) → ((s t : S) → R s t → P (k s) (k t))
    → (old new : WorldValue S) (dispatch : ℕ) → Replaced R old new dispatch → P (read_subscriber k no_k old dispatch) (read_subscriber k no_k new dispatch)
read_two {S} {C} {R} P k no_k step old new dispatch r =
    along_two P (sym (seen_before R old new dispatch r k no_k)) (sym (seen_later R old new dispatch r k no_k)) (step r.before r.later r.did)

-- the same below two layers
pub seen_two : {K L S A : Type 0} (read : S → A) (none : A) (world : WorldValue (Layered K (Layered L S))) (dispatch : ℕ) → read_subscriber read none (inner_worlds (inner_worlds world)) dispatch ≡ read_subscriber (λ (s : Layered K (Layered L S)). read s.inner.inner) none world dispatch
seen_two {K} {L} {S} read none world dispatch = seen_below read none (inner_worlds world) dispatch ∙ seen_below (λ (s : Layered L S). read s.inner) none world dispatch
