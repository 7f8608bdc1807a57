-- A world in which nothing was called.
use Rattle.std.proofs.Common.{◌≡◌, ℕ, zero, suc, ◌<◌, List, [], ◌∷◌, length, Some, None, Result, Ok, Err, refl, sym, ap, arith, slice_get, slice_set, OnErr}
use Rattle.span_handles.proofs.Common.{WorldValue, Spans, HeldSpan, IsKnown, Replaced, ReplacedOn}

record Found {X : Type 0} (xs : List X) (n : ℕ) : Type 0 where
  item : X
  there : slice_get xs n ≡ Some item

found : {X : Type 0} (xs : List X) (n : ℕ) → n < length xs → Found xs n
found [] n within = absurd (omega (arith, within))
found (x ∷ xs) zero within = record { item = x; there = refl }
found (x ∷ xs) (suc n) within = (let rest = found xs n (omega (arith, within)) in record { item = rest.item; there = rest.there })

-- what was taken and is put back
put_back : {X : Type 0} (xs : List X) (n : ℕ) (x : X) → slice_get xs n ≡ Some x → slice_set xs n x ≡ xs
put_back [] n x there = refl
put_back {X} (y ∷ ys) zero x there = ap (λ (z : X). z ∷ ys) (let same : y ≡ x = cc there in sym same)
put_back {X} (y ∷ ys) (suc n) x there = ap (λ (zs : List X). y ∷ zs) (put_back ys n x there)

pub world_back : {S : Type 0} (world : WorldValue S) (dispatch : ℕ) (s : S) → slice_get world.subscribers dispatch ≡ Some s → ◌≡◌ {A = WorldValue S} (record world { subscribers = slice_set world.subscribers dispatch s }) world
world_back {S} world dispatch s there = ap (λ (ss : List S). let w : WorldValue S = record world { subscribers = ss } in w) (put_back world.subscribers dispatch s there)

pub none_replaced : {S : Type 0} (same : S → S → Type 0) → ((s : S) → same s s) → (world : WorldValue S) (dispatch : ℕ) → dispatch < length world.subscribers → Replaced same world world dispatch
none_replaced same reflexive world dispatch within =
    let it = found world.subscribers dispatch within in
    record { before = it.item; later = it.item; there = it.there; did = reflexive it.item; others = sym (world_back world dispatch it.item it.there) }

pub untouched : {S : Type 0} (spans : S → Spans) (same : S → S → Type 0) → ((s : S) → same s s) → (world : WorldValue S) (held : HeldSpan) → IsKnown spans world held → ReplacedOn (λ id s t. same s t) world world held
untouched spans same reflexive world None known = refl
untouched spans same reflexive world (Some held) known = none_replaced same reflexive world held.0 known.0

pub on_err : {T E : Type 0} (result : Result T E) (P : Type 0) → P → OnErr result P
on_err (Ok x) P p = tt
on_err (Err e) P p = p
