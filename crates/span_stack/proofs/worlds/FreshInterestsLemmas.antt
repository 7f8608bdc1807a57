-- The interests that are cached, where a subscriber is replaced that has the same ones.
use Rattle.std.proofs.Common.{◌≡◌, ℕ, zero, suc, List, [], ◌∷◌, map, Option, Some, refl, sym, ap, subst, ◌∙◌, slice_get, slice_set}
use Rattle.span_stack.proofs.Common.{Callsite, Interest, WorldValue, IsFresh, interests_in, interests_of_sites, Spans, parent_to_release, SubscriberCall, TryClose, Replaced, Chain, ended, closes}
use Rattle.span_stack.proofs.worlds.ViewsLemmas.{the_one}

map_same : {X Y : Type 0} (f : X → Y) (xs : List X) (n : ℕ) (x y : X) → slice_get xs n ≡ Some x → f y ≡ f x → map f (slice_set xs n y) ≡ map f xs
map_same f [] n x y there e = refl
map_same {X} {Y} f (z ∷ xs) zero x y there e = ap (λ (v : Y). v ∷ map f xs) (e ∙ ap f (sym (the_one z x there)))
map_same {X} {Y} f (z ∷ xs) (suc n) x y there e = ap (λ (ys : List Y). f z ∷ ys) (map_same f xs n x y there e)

rows_same : {S : Type 0} (interest : S → Callsite → Interest) (xs ys : List S) → ((c : Callsite) → interests_in interest ys c ≡ interests_in interest xs c) → (sites : List Callsite) → interests_of_sites interest ys sites ≡ interests_of_sites interest xs sites
rows_same interest xs ys e [] = refl
rows_same interest xs ys e (c ∷ sites) =
    ap (λ (row : List Interest). row ∷ interests_of_sites interest ys sites) (e c) ∙ ap (λ (rows : List (List Interest)). interests_in interest xs c ∷ rows) (rows_same interest xs ys e sites)

pub fresh_later : {S : Type 0} (interest : S → Callsite → Interest) (R : S → S → Type 0) → ((s t : S) → R s t → interest t ≡ interest s)
    → (old new : WorldValue S) (dispatch : ℕ) → Replaced R old new dispatch → IsFresh interest old → IsFresh interest new
fresh_later {S} interest R keeps old new dispatch r fresh =
    let each : (c : Callsite) → interests_in interest (slice_set old.subscribers dispatch r.later) c ≡ interests_in interest old.subscribers c =
    λ c. map_same (λ (s : S). interest s c) old.subscribers dispatch r.before r.later r.there (ap (λ (f : Callsite → Interest). f c) (keeps r.before r.later r.did)) in
    subst (λ (w : WorldValue S). IsFresh interest w) (sym r.others) (fresh ∙ sym (rows_same interest old.subscribers (slice_set old.subscribers dispatch r.later) each old.sites))

pub chain_keeps : {S A : Type 0} (spans : S → Spans) (does : S → SubscriberCall → S → Type 0) (read : S → A) → ((s : S) (call : SubscriberCall) (t : S) → does s call t → read t ≡ read s)
    → (at : ℕ) (next : Option ℕ) (s t : S) → Chain spans does at next s t → read t ≡ read s
chain_keeps spans does read keeps at _ _ _ (ended s) = refl
chain_keeps spans does read keeps at _ _ _ (closes id s m t did rest) = chain_keeps spans does read keeps at (parent_to_release (spans s).made id) m t rest ∙ keeps s (TryClose id at) m did
