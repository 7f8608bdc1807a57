-- Moves of told bytes, one after another.
use Rattle.std.proofs.Common.{◌≡◌, ℕ, List, [], ◌++◌, sym, ap, subst, ◌∙◌, append_assoc, take, drop, length, ◌+◌, ◌≤◌, ◌-◌, arith, Option, Some, None, Result, Ok, Err, OnErr}
use Rattle.trace_stream.proofs.Common.{drop-take, take_rest, Takes, Puts, PutsFront}
use Rattle.std.proofs.lemmas.List.{append-nil, take-append-drop, take-take, length-drop}

pub puts_more : (a b c : Option (List ℕ)) (x y : List ℕ) → Puts a b x → Puts b c y → Puts a c (x ++ y)
puts_more None b c x y first second = tt
puts_more (Some xs) b c x y first second =
    let next : Puts (Some (xs ++ x)) c y = subst (λ (m : Option (List ℕ)). Puts m c y) first second in
    next ∙ ap Some (append_assoc xs x y)

-- some more is taken
pub takes_more : (a b c : Option (List ℕ)) (x y : List ℕ) → Takes a b x → Takes b c y → Takes a c (x ++ y)
takes_more None b c x y first second = tt
takes_more (Some xs) b c x y first second =
    let next : Takes (Some first.0) c y = subst (λ (m : Option (List ℕ)). Takes m c y) first.1 second in
    (next.0, next.1, first.2 ∙ ap (λ (r : List ℕ). x ++ r) next.2 ∙ sym (append_assoc x y next.0))

-- nothing more is taken
pub takes_still : (a b c : Option (List ℕ)) (x : List ℕ) → Takes a b x → Takes b c [] → Takes a c x
takes_still a b c x first second = subst (λ (r : List ℕ). Takes a c r) (append-nil x) (takes_more a b c x [] first second)

-- the front up to a place, and some of the rest, is the front up to a later place
take_on : (at n : ℕ) (piece : List ℕ) → take at piece ++ take n (drop at piece) ≡ take (at + n) piece
take_on at n piece =
    ap (λ (r : List ℕ). r ++ take n (drop at piece)) (sym (take-take at (at + n) piece (omega arith)))
    ∙ ap (λ (r : List ℕ). take at (take (at + n) piece) ++ r) (sym (drop-take at n piece))
    ∙ take-append-drop at (take (at + n) piece)

take_within : (at n : ℕ) (piece : List ℕ) → n ≤ length piece - at → take at piece ++ take n (take (length piece - at) (drop at piece)) ≡ take (at + n) piece
take_within at n piece within =
    ap (λ (r : List ℕ). take at piece ++ r) (take-take n (length piece - at) (drop at piece) within) ∙ take_on at n piece

-- one write more
pub puts_next : (a b c : Option (List ℕ)) (piece : List ℕ) (at n : ℕ) → n ≤ length piece - at
    → Puts a b (take at piece) → Puts b c (take n (take (length piece - at) (drop at piece))) → Puts a c (take (at + n) piece)
puts_next a b c piece at n within first second =
    subst (λ (text : List ℕ). Puts a c text) (take_within at n piece within) (puts_more a b c _ _ first second)

-- a write that failed after some
pub puts_front : (a b c : Option (List ℕ)) (piece : List ℕ) (at : ℕ) → Puts a b (take at piece) → Puts b c [] → PutsFront a c piece
puts_front a b c piece at first second =
    (take at piece, (drop at piece, sym (take-append-drop at piece)), subst (λ (text : List ℕ). Puts a c text) (append-nil (take at piece)) (puts_more a b c _ _ first second))

pub on_any_err : {T E P : Type 0} (r : Result T E) → P → OnErr r P
on_any_err (Ok x) fact = tt
on_any_err (Err e) fact = fact

-- a write that took nothing after some
pub puts_stuck : (a b c : Option (List ℕ)) (piece rest : List ℕ) (at n : ℕ) → n ≡ 0 → Puts a b (take at piece) → Puts b c (take n rest) → PutsFront a c piece
puts_stuck a b c piece rest at n none first second =
    puts_front a b c piece at first (subst (λ (k : ℕ). Puts b c (take k rest)) none second)

pub puts_nothing : (a b : Option (List ℕ)) (piece : List ℕ) (n : ℕ) → n ≡ 0 → Puts a b (take n piece) → Puts a b []
puts_nothing a b piece n none puts = subst (λ (k : ℕ). Puts a b (take k piece)) none puts

pub length_rest : (xs : List ℕ) (i : ℕ) → length (take (length xs - i) (drop i xs)) ≡ length xs - i
length_rest xs i = ap length (take_rest xs i) ∙ length-drop i xs
