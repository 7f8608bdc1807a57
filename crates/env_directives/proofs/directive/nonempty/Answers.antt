use Rattle.std.proofs.Common.{lit<, sym, ◌∙◌, ap, append_assoc, append-nil, ◌≡◌, ◌∷◌, [], ◌++◌, Ok}
use Rattle.env_directives.proofs.Common.{YieldsList-from_str_split, nonempty, comma_pieces}
use Rattle.env_directives.proofs.cuts.PiecesLemmas.{first_piece, no_piece, kept_piece, left_out_piece}
use Rattle.env_directives.proofs.directive.nonempty.Goals as goal

pub loop-name-init : goal.loop-name-init
loop-name-init c =
    let pieces = (YieldsList-from_str_split 44 c.args.list.now (lit< tt) c.split-name-items.ensures.text c.split-name-items.ensures.has_more c.split-name-items.ensures.pattern).runs in (
      comma_pieces c.args.list.now,
      rw c.into_iter-name-iterator.ensures.into_iter_gives pieces,
      ap (λ names. names ++ nonempty (comma_pieces c.args.list.now)) (sym c.new-names.ensures),
    )

pub loop-name-preserved-in_ok-push : goal.loop-name-preserved-in_ok-push
loop-name-preserved-in_ok-push c =
    let left = first_piece _ _ c.in-Some.name _ c.loop-name.invariant.1 c.in-Some.ensures.steps in
    let same : c.in-Some.name.now ≡ c.in_ok-copy_of.field-0 = cc c.in_ok-copy_of.ensures in (
      left.0,
      left.2,
      c.loop-name.invariant.2 ∙ ap (λ ts. c.loop-name.names ++ nonempty ts) left.1 ∙ ap (λ ts. c.loop-name.names ++ ts) (kept_piece c.in-Some.name.now left.0 (sym c.is_empty.ensures ∙ c.if-not-is_empty.true))
          ∙ sym (append_assoc c.loop-name.names (c.in-Some.name.now ∷ []) (nonempty left.0)) ∙ ap (λ ts. ts ++ nonempty left.0) (ap (λ t. c.loop-name.names ++ t ∷ []) same ∙ sym c.in_ok-push.ensures.ok),
    )

pub loop-name-preserved : goal.loop-name-preserved
loop-name-preserved c =
    let left = first_piece _ _ c.in-Some.name _ c.loop-name.invariant.1 c.in-Some.ensures.steps in
    (left.0, left.2, c.loop-name.invariant.2 ∙ ap (λ ts. c.loop-name.names ++ nonempty ts) left.1 ∙ ap (λ ts. c.loop-name.names ++ ts) (left_out_piece c.in-Some.name.now left.0 (sym c.is_empty.ensures ∙ c.if-not-is_empty.false)))

pub returns : goal.returns
returns c =
    ap Ok (c.loop-name.invariant.2 ∙ ap (λ ts. c.loop-name.names ++ nonempty ts) (no_piece _ _ _ c.loop-name.invariant.1 c.in-None.ensures.steps) ∙ append-nil c.loop-name.names)
