use Rattle.std.proofs.Common.{lit<, sym, ◌∙◌, ap, ◌≡◌, ◌∷◌}
use Rattle.env_directives.proofs.Common.{YieldsList-from_str_split, comma_pieces, targets_of}
use Rattle.env_directives.proofs.cuts.PiecesLemmas.{first_piece, no_piece}
use Rattle.env_directives.proofs.forms.StaticTextsLemmas.{read_on, read_added, read_fault, handed_on}
use Rattle.env_directives.proofs.targets.Targets.from_str.Goals as goal

pub loop-piece-init : goal.loop-piece-init
loop-piece-init c =
    let pieces = (YieldsList-from_str_split 44 c.args.text.now (lit< tt) c.split-piece-items.ensures.text c.split-piece-items.ensures.has_more c.split-piece-items.ensures.pattern).runs in (
      comma_pieces c.args.text.now,
      rw c.into_iter-piece-iterator.ensures.into_iter_gives pieces,
      ap (read_on (comma_pieces c.args.text.now)) (sym c.new-set.ensures),
    )

pub returns-in_err-add_read : goal.returns-in_err-add_read
returns-in_err-add_read c =
    let left = first_piece _ c.next.new.self c.in-Some.piece _ c.loop-piece.invariant.1 c.in-Some.ensures.steps in
    let whole : targets_of c.args.text.now ≡ read_on (c.in-Some.piece.now ∷ left.0) c.loop-piece.set = c.loop-piece.invariant.2 ∙ ap (λ ts. read_on ts c.loop-piece.set) left.1 in
    let faulty = read_fault c.in_err-add_read.field-0.0 c.in-Some.piece.now left.0 c.loop-piece.set c.in_err-add_read.ensures.err in
    rw whole (handed_on c.in_err-add_read.field-0.0 _ _ c.from_residual.ensures.1 faulty)

pub loop-piece-preserved : goal.loop-piece-preserved
loop-piece-preserved c =
    let left = first_piece _ _ c.in-Some.piece _ c.loop-piece.invariant.1 c.in-Some.ensures.steps in (
      left.0,
      left.2,
      c.loop-piece.invariant.2 ∙ ap (λ ts. read_on ts c.loop-piece.set) left.1
          ∙ read_added c.in-Some.piece.now left.0 c.loop-piece.set _ c.in_ok-add_read.ensures.ok,
    )

pub returns : goal.returns
returns c =
    c.loop-piece.invariant.2 ∙ ap (λ ts. read_on ts c.loop-piece.set) (no_piece _ _ _ c.loop-piece.invariant.1 c.in-None.ensures.steps)
