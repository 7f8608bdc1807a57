-- Where a text is cut, and what a cut leaves.
use Rattle.std.proofs.Common.{◌≡◌, ℕ, ◌<◌, ◌+◌, Bool, true, false, true≢false, List, [], ◌∷◌, ◌++◌, take, drop, length, get_or, Some, None, Option, refl, sym, ap, ◌∙◌, arith, not, subst, append-nil, append_assoc, add-one, drop-cons, ◌==◌, ◌&&◌, ◌||◌, nat_lt, IfSome}
use Rattle.std.proofs.Math.Seq.{take-suc}
use Rattle.env_directives.proofs.Common.{list_all, IsCharBoundary-before_ascii, IsCharBoundary-after_ascii, Pieces, pieces_at, is_among, lacks}
use Rattle.std.proofs.lemmas.Bool.{ltb-true, eqb-true}
use Rattle.std.specs.Str.{IsCharBoundary, IsUtf8}

-- the same pieces, with a text more in front
abbrev pub behind_front : List ℕ → Pieces → Pieces
behind_front front pieces = record { front = front ++ pieces.front; stop = pieces.stop; rest = pieces.rest }

-- where a text has none of the stops, a cut leaves it whole; at the first of them it cuts
pub cut_whole : (stops text : List ℕ) → lacks stops text ≡ true → pieces_at stops text ≡ record { front = text; stop = None; rest = [] }
cut_whole stops [] h = refl
cut_whole stops (b ∷ bs) h = go (is_among stops b) refl h (cut_whole stops bs)
  where
    go : (c : Bool) → is_among stops b ≡ c → (not c && lacks stops bs) ≡ true →
        (lacks stops bs ≡ true → pieces_at stops bs ≡ record { front = bs; stop = None; rest = [] }) →
        pieces_at stops (b ∷ bs) ≡ record { front = b ∷ bs; stop = None; rest = [] }
    go true e h rest = absurd (true≢false (sym h))
    go false e h rest = rw (e, rest h) refl

pub cut_at : (stops front : List ℕ) (stop : ℕ) (rest : List ℕ) → lacks stops front ≡ true → is_among stops stop ≡ true →
    pieces_at stops (front ++ stop ∷ rest) ≡ record { front = front; stop = Some stop; rest = rest }
cut_at stops [] stop rest h among = rw among refl
cut_at stops (b ∷ bs) stop rest h among = go (is_among stops b) refl h (cut_at stops bs stop rest)
  where
    go : (c : Bool) → is_among stops b ≡ c → (not c && lacks stops bs) ≡ true →
        (lacks stops bs ≡ true → is_among stops stop ≡ true → pieces_at stops (bs ++ stop ∷ rest) ≡ record { front = bs; stop = Some stop; rest = rest }) →
        pieces_at stops (b ∷ bs ++ stop ∷ rest) ≡ record { front = b ∷ bs; stop = Some stop; rest = rest }
    go true e h later = absurd (true≢false (sym h))
    go false e h later = rw (e, later h among) refl

-- a stop of ASCII is ASCII
pub among_ascii : (stops : List ℕ) (b : ℕ) → list_all (λ s. nat_lt s 128) stops ≡ true → is_among stops b ≡ true → b < 128
among_ascii [] b h among = absurd (true≢false (sym among))
among_ascii (s ∷ ss) b h among = go (s == b) refl (nat_lt s 128) refl h among (among_ascii ss b)
  where
    go : (c : Bool) → (s == b) ≡ c → (low : Bool) → nat_lt s 128 ≡ low → (low && list_all (λ s. nat_lt s 128) ss) ≡ true → (c || is_among ss b) ≡ true →
        (list_all (λ s. nat_lt s 128) ss ≡ true → is_among ss b ≡ true → b < 128) → b < 128
    go c e false l h among later = absurd (true≢false (sym h))
    go true e true l h among later = let lt : s < 128 = ltb-true s 128 l in let same : s ≡ b = eqb-true s b e in omega arith
    go false e true l h among later = later h among

-- a loop that looks for the place of the cut: one byte more, and the place
pub cut_step : (stops text : List ℕ) (i : ℕ) → i < length text → is_among stops (get_or text i 0) ≡ false →
    pieces_at stops text ≡ behind_front (take i text) (pieces_at stops (drop i text)) → pieces_at stops text ≡ behind_front (take (i + 1) text) (pieces_at stops (drop (i + 1) text))
cut_step stops text i lt other so = so ∙ rw (drop-cons text i 0 lt, other, add-one i, take-suc text i 0 lt) (simp (append_assoc) refl)

pub cut_found : (stops text : List ℕ) (i : ℕ) → i < length text → is_among stops (get_or text i 0) ≡ true →
    pieces_at stops text ≡ behind_front (take i text) (pieces_at stops (drop i text)) →
    pieces_at stops text ≡ record { front = take i text; stop = Some (get_or text i 0); rest = drop (i + 1) text }
cut_found stops text i lt stop so = so ∙ rw (drop-cons text i 0 lt, stop, add-one i, append-nil (take i text)) refl

-- a text may be cut in front of a stop and behind it
pub before_stop : (stops text bytes : List ℕ) (i : ℕ) → bytes ≡ text → list_all (λ s. nat_lt s 128) stops ≡ true →
    is_among stops (get_or bytes i 0) ≡ true → i < length bytes → IsCharBoundary text i
before_stop stops text bytes i same ascii among lt =
    let small : get_or bytes i 0 < 128 = among_ascii stops (get_or bytes i 0) ascii among in
    subst (λ (t : List ℕ). IsCharBoundary t i) same (IsCharBoundary-before_ascii bytes i lt small)

pub behind_stop : (stops text bytes : List ℕ) (i : ℕ) → bytes ≡ text → list_all (λ s. nat_lt s 128) stops ≡ true →
    is_among stops (get_or bytes i 0) ≡ true → i < length bytes → IsUtf8 text → IsCharBoundary text (i + 1)
behind_stop stops text bytes i same ascii among lt utf8 =
    let small : get_or bytes i 0 < 128 = among_ascii stops (get_or bytes i 0) ascii among in
    subst (λ (t : List ℕ). IsUtf8 t → IsCharBoundary t (i + 1)) same (λ u. IsCharBoundary-after_ascii bytes i u lt small) utf8

-- what stands behind the front of a cut
abbrev pub cut_off : Option ℕ → List ℕ → List ℕ
cut_off None rest = []
cut_off (Some stop) rest = stop ∷ rest

-- the pieces of a cut make up the text
pub cut_joined : (stops text : List ℕ) → text ≡ (pieces_at stops text).front ++ cut_off (pieces_at stops text).stop (pieces_at stops text).rest
cut_joined stops [] = refl
cut_joined stops (b ∷ bs) = go (is_among stops b) refl (cut_joined stops bs)
  where
    go : (c : Bool) → is_among stops b ≡ c → bs ≡ (pieces_at stops bs).front ++ cut_off (pieces_at stops bs).stop (pieces_at stops bs).rest →
        b ∷ bs ≡ (pieces_at stops (b ∷ bs)).front ++ cut_off (pieces_at stops (b ∷ bs)).stop (pieces_at stops (b ∷ bs)).rest
    go true e later = rw e refl
    go false e later = rw e (ap (λ (t : List ℕ). b ∷ t) later)

-- its front has none of the stops, and what it is cut at is one of them
pub cut_front : (stops text : List ℕ) → lacks stops (pieces_at stops text).front ≡ true
cut_front stops [] = refl
cut_front stops (b ∷ bs) = go (is_among stops b) refl (cut_front stops bs)
  where
    go : (c : Bool) → is_among stops b ≡ c → lacks stops (pieces_at stops bs).front ≡ true → lacks stops (pieces_at stops (b ∷ bs)).front ≡ true
    go true e later = rw e refl
    go false e later = rw (e, e) later

pub cut_stop : (stops text : List ℕ) → IfSome (pieces_at stops text).stop (λ stop. is_among stops stop ≡ true)
cut_stop stops [] = tt
cut_stop stops (b ∷ bs) = go (is_among stops b) refl (cut_stop stops bs)
  where
    go : (c : Bool) → is_among stops b ≡ c → IfSome (pieces_at stops bs).stop (λ stop. is_among stops stop ≡ true) →
        IfSome (pieces_at stops (b ∷ bs)).stop (λ stop. is_among stops stop ≡ true)
    go true e later = rw e e
    go false e later = rw e later
