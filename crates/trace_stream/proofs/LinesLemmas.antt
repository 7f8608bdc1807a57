-- Where lines end.
use Rattle.std.proofs.Common.{◌≡◌, ℕ, List, [], ◌∷◌, ◌++◌, refl, sym, ap, ◌∙◌, append_assoc, take, drop, length, get_or, ◌+◌, ◌-◌, ◌<◌, ◌==◌, arith, Bool, true, false, inl, inr}
use Rattle.trace_stream.proofs.Common.{cases_Bool, take_more, drop_more, take_rest, with_byte_first, lines_of, NoFeed, ended_line, has_feed, whole_part, whole_lines}
use Rattle.std.proofs.lemmas.List.{take-append-drop}

-- ---- the first line

-- the first line feed ends the first line
pub split_at_feed : (bytes : List ℕ) (at : ℕ) → at < length bytes → get_or bytes at 0 ≡ 10 → bytes ≡ take at bytes ++ 10 ∷ take (length bytes - (at + 1)) (drop (at + 1) bytes)
split_at_feed bytes at within feed =
    rw (take_rest bytes (at + 1)) (sym (take-append-drop at bytes) ∙ ap (λ (r : List ℕ). take at bytes ++ r) (drop_more bytes at 0 within ∙ ap (λ (b : ℕ). b ∷ drop (at + 1) bytes) feed))

onto_front : (b : ℕ) (front more : List (List ℕ)) → 0 < length front → with_byte_first b (front ++ more) ≡ with_byte_first b front ++ more
onto_front b [] more some = absurd (omega (arith, some))
onto_front b (line ∷ lines) more some = refl

onto_some : (b : ℕ) (lines : List (List ℕ)) → 0 < length (with_byte_first b lines)
onto_some b [] = omega arith
onto_some b (line ∷ lines) = omega arith

line_some : (b : ℕ) (bs : List ℕ) → 0 < length (lines_of (b ∷ bs))
line_some b bs = elim (cases_Bool (b == 10)) [
  | inl is ↦ rw is (omega arith)
  | inr is ↦ rw is (onto_some b (lines_of bs))
]

-- ---- the whole lines

pub no_feed : (bs : List ℕ) → NoFeed bs → has_feed bs ≡ false
no_feed [] none = refl
no_feed (b ∷ bs) none = rw none.0 (no_feed bs none.1)

-- bytes without a line feed have no whole line
pub part_none : (bs : List ℕ) → NoFeed bs → whole_part bs ≡ []
part_none [] none = refl
part_none (b ∷ bs) none = rw (no_feed (b ∷ bs) none) refl

fed : (bs rest : List ℕ) → has_feed (bs ++ 10 ∷ rest) ≡ true
fed [] rest = refl
fed (b ∷ bs) rest = elim (cases_Bool (b == 10)) [
  | inl is ↦ rw is refl
  | inr is ↦ rw is (fed bs rest)
]

part_fed : (bs rest : List ℕ) → NoFeed rest → whole_part (bs ++ 10 ∷ rest) ≡ bs ++ 10 ∷ []
part_fed [] rest none = ap (λ (r : List ℕ). 10 ∷ r) (part_none rest none)
part_fed (b ∷ bs) rest none = rw (fed (b ∷ bs) rest) (ap (λ (r : List ℕ). b ∷ r) (part_fed bs rest none))

-- the last line feed ends the whole lines
pub part_at : (bytes : List ℕ) (at : ℕ) → at < length bytes → get_or bytes at 0 ≡ 10 → NoFeed (drop (at + 1) bytes) → take (at + 1) bytes ≡ whole_part bytes
part_at bytes at within feed none =
    let parts : take at bytes ++ 10 ∷ drop (at + 1) bytes ≡ bytes =
    sym (ap (λ (r : List ℕ). take at bytes ++ r) (drop_more bytes at 0 within ∙ ap (λ (b : ℕ). b ∷ drop (at + 1) bytes) feed)) ∙ take-append-drop at bytes in
    take_more bytes at 0 within ∙ ap (λ (b : ℕ). take at bytes ++ b ∷ []) feed
    ∙ sym (part_fed (take at bytes) (drop (at + 1) bytes) none) ∙ ap whole_part parts

-- and the other way
pub feedless : (bs : List ℕ) → has_feed bs ≡ false → NoFeed bs
feedless [] none = tt
feedless (b ∷ bs) none = elim (cases_Bool (b == 10)) [
  | inl is ↦ (let some : has_feed (b ∷ bs) ≡ true = rw is refl in absurd (cc (sym some ∙ none)))
  | inr is ↦ (is, feedless bs (rw is at none))
]

has_feed_append : (a b : List ℕ) → has_feed b ≡ false → has_feed (a ++ b) ≡ has_feed a
has_feed_append [] b none = none
has_feed_append (c ∷ cs) b none = elim (cases_Bool (c == 10)) [
  | inl is ↦ rw is refl
  | inr is ↦ rw is (has_feed_append cs b none)
]

-- bytes without a line feed bring no line to its end
pub part_still : (fed piece : List ℕ) → has_feed piece ≡ false → whole_part (fed ++ piece) ≡ whole_part fed
part_still [] piece none = part_none piece (feedless piece none)
part_still (b ∷ bs) piece none =
    let same : has_feed (b ∷ (bs ++ piece)) ≡ has_feed (b ∷ bs) = has_feed_append (b ∷ bs) piece none in
    rw (same, part_still bs piece none) refl

-- what was kept of the next line, with some bytes more that have no line feed
pub kept_still : (fed kept piece : List ℕ) → fed ≡ whole_part fed ++ kept → has_feed piece ≡ false → fed ++ piece ≡ whole_part (fed ++ piece) ++ (kept ++ piece)
kept_still fed kept piece parts none =
    ap (λ (f : List ℕ). f ++ piece) parts ∙ append_assoc (whole_part fed) kept piece
    ∙ ap (λ (w : List ℕ). w ++ (kept ++ piece)) (sym (part_still fed piece none))

pub rest_still : (kept piece : List ℕ) → has_feed kept ≡ false → has_feed piece ≡ false → has_feed (kept ++ piece) ≡ false
rest_still kept piece first second = has_feed_append kept piece second ∙ first

part_some : (bs : List ℕ) → has_feed bs ≡ true → 0 < length (lines_of (whole_part bs))
part_some [] is = cc
part_some (b ∷ bs) is = rw is (line_some b (whole_part bs))

-- what follows the whole lines begins a line
part_on : (bs tail : List ℕ) → lines_of (whole_part bs ++ tail) ≡ whole_lines bs ++ lines_of tail
part_on [] tail = refl
part_on (b ∷ bs) tail = elim (cases_Bool (has_feed (b ∷ bs))) [
  | inr is ↦ rw is refl
  | inl is ↦ rw is (line_on b bs tail is (part_on bs tail))
] where
  line_on : (b : ℕ) (bs tail : List ℕ) → has_feed (b ∷ bs) ≡ true → lines_of (whole_part bs ++ tail) ≡ whole_lines bs ++ lines_of tail
      → lines_of (b ∷ (whole_part bs ++ tail)) ≡ lines_of (b ∷ whole_part bs) ++ lines_of tail
  line_on b bs tail some on = elim (cases_Bool (b == 10)) [
    | inl is ↦ rw is (ap (λ (ls : List (List ℕ)). [] ∷ ls) on)
    | inr is ↦ rw is (ap (with_byte_first b) on ∙ onto_front b (whole_lines bs) (lines_of tail) (part_some bs (rw is at some)))
  ]

-- a line feed ends the line of which some bytes were kept
pub part_ended : (front line : List ℕ) → whole_part (front ++ line ++ 10 ∷ []) ≡ front ++ line ++ 10 ∷ []
part_ended front line = part_fed (front ++ line) [] tt

pub lines_ended : (front kept line : List ℕ) → front ≡ whole_part front ++ kept → has_feed kept ≡ false → has_feed line ≡ false
    → whole_lines (front ++ line ++ 10 ∷ []) ≡ whole_lines front ++ (kept ++ line) ∷ []
lines_ended front kept line parts first second =
    ap lines_of (part_ended front line ∙ ap (λ (f : List ℕ). f ++ line ++ 10 ∷ []) parts
    ∙ append_assoc (whole_part front ++ kept) line (10 ∷ []) ∙ append_assoc (whole_part front) kept (line ++ 10 ∷ []))
    ∙ part_on front (kept ++ (line ++ 10 ∷ []))
    ∙ ap (λ (b : List ℕ). whole_lines front ++ lines_of b) (sym (append_assoc kept line (10 ∷ [])))
    ∙ ap (λ (ls : List (List ℕ)). whole_lines front ++ ls) (ended_line (kept ++ line) [] (feedless (kept ++ line) (rest_still kept line first second)))

-- the lines where no byte follows
pub lines_last : (fed kept : List ℕ) → fed ≡ whole_part fed ++ kept → lines_of fed ≡ whole_lines fed ++ lines_of kept
lines_last fed kept parts = ap lines_of parts ∙ part_on fed kept

part_rest : (bs : List ℕ) → (rest : List ℕ) × (bs ≡ whole_part bs ++ rest)
part_rest [] = ([], refl)
part_rest (b ∷ bs) = elim (cases_Bool (has_feed (b ∷ bs))) [
  | inl is ↦ rw is ((part_rest bs).0, ap (λ (r : List ℕ). b ∷ r) (part_rest bs).1)
  | inr is ↦ rw is (b ∷ bs, refl)
]

-- the lines of bytes that go on begin with the whole lines
pub lines_on : (bs tail : List ℕ) → (more : List (List ℕ)) × (lines_of (bs ++ tail) ≡ whole_lines bs ++ more)
lines_on bs tail =
    let rest = part_rest bs in
    (lines_of (rest.0 ++ tail), ap (λ (r : List ℕ). lines_of (r ++ tail)) rest.1 ∙ ap lines_of (append_assoc (whole_part bs) rest.0 tail) ∙ part_on bs (rest.0 ++ tail))
