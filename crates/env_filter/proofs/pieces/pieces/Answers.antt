-- One piece more.
use Rattle.std.specs.Borrow.{Bor}
use Rattle.std.proofs.Common.{lit<, sym, ◌∙◌, ap, append_assoc, append-nil, ◌∷◌, [], ◌++◌, List, ℕ}
use Rattle.std.proofs.lemmas.Iterator.Splits.{YieldsList-from_str_split}
use Rattle.env_filter.proofs.Common.{map-append, comma_pieces, first_piece, no_piece, texts_of}
use Rattle.env_filter.proofs.pieces.pieces.Goals as goal

pub loop-piece-init : goal.loop-piece-init
loop-piece-init c =
    let pieces = (YieldsList-from_str_split 44 c.args.text.now (lit< tt) c.split-piece-items.ensures.text c.split-piece-items.ensures.has_more c.split-piece-items.ensures.pattern).runs in (
      comma_pieces c.args.text.now,
      rw c.into_iter-piece-iterator.ensures.into_iter_gives pieces,
      ap (λ (ps : List (Bor (List ℕ))). texts_of ps ++ comma_pieces c.args.text.now) (sym c.new-pieces.ensures.items),
    )

pub loop-piece-preserved : goal.loop-piece-preserved
loop-piece-preserved c =
    let left = first_piece _ _ c.in-Some.piece _ c.loop-piece.invariant.1 c.in-Some.ensures.steps in (
      left.0,
      left.2,
      c.loop-piece.invariant.2 ∙ ap (λ (ts : List (List ℕ)). texts_of c.loop-piece.pieces.items ++ ts) left.1
          ∙ sym (append_assoc (texts_of c.loop-piece.pieces.items) (c.in-Some.piece.now ∷ []) left.0)
          ∙ ap (λ (ts : List (List ℕ)). ts ++ left.0) (sym (map-append (λ (p : Bor (List ℕ)). p.now) c.loop-piece.pieces.items (c.in-Some.piece ∷ [])) ∙ ap (λ (ps : List (Bor (List ℕ))). texts_of ps) (sym c.in_ok-push.ensures.items)),
    )

pub returns : goal.returns
returns c =
    sym (c.loop-piece.invariant.2 ∙ ap (λ (ts : List (List ℕ)). texts_of c.loop-piece.pieces.items ++ ts) (no_piece _ _ _ c.loop-piece.invariant.1 c.in-None.ensures.steps) ∙ append-nil (texts_of c.loop-piece.pieces.items))
