-- One piece more is read.
use Rattle.std.proofs.Common.{List, ap, ◌∙◌, ℕ}
use Rattle.std.specs.Borrow.{Bor}
use Rattle.env_filter.proofs.Common.{texts_of}
use Rattle.env_filter.proofs.printed.PiecesLemmas.{reads_first, reads_more, reads_last}
use Rattle.env_filter.proofs.pieces.read.Goals as goal

pub loop-at-init : goal.loop-at-init
loop-at-init c =
    reads_first c.args.patterns c.args.text.now c.deref-piece-items.result.now c.new-directives.result.items c.new-ignored.result.items c.new-directives.ensures.items c.new-ignored.ensures.items
    (ap (λ (ps : List (Bor (List ℕ))). texts_of ps) c.deref-piece-items.ensures.value ∙ c.in_ok-pieces.ensures)

pub loop-at-preserved : goal.loop-at-preserved
loop-at-preserved c =
    reads_more c.args.patterns c.args.text.now c.deref-piece-items.result.now c.loop-at.at _ c.loop-at.directives.items c.read_piece.new.directives.items c.loop-at.ignored.items c.read_piece.new.ignored.items
    c.loop-at-test.true c.in_ok-read_piece.ensures c.loop-at.invariant

pub returns : goal.returns
returns c =
    reads_last c.args.patterns c.args.text.now c.deref-piece-items.result.now c.loop-at.at c.loop-at.directives.items c.loop-at.ignored.items c.loop-at-test.false c.loop-at.invariant
