-- The first value is in place, and each reader has it.
use Rattle.std.proofs.Common.{All, ap, sym, subst, ◌∙◌}
use Rattle.value_reader.specs.declared.numbered.Numbered.{Numbered}
use Rattle.value_reader.specs.Knowing.{IsNewReader}
use Rattle.shared_value.proofs.Firsts.{first_is_last}
use Rattle.shared_value.proofs.making.share.Goals as goal

pub returns-clause-first : goal.returns-clause-first
returns-clause-first g c =
    let first = c.of-2.ensures ∙ ap (λ (n : Numbered g.row.T.Denot). n.value) c.deref.ensures ∙ c.in_ok-last.ensures.1 in
    cc (first, c.in_ok-writer.ensures.1)

pub returns-clause-count : goal.returns-clause-count
returns-clause-count g c = c.readers_of-made.ensures.count

pub returns-clause-readers : goal.returns-clause-readers
returns-clause-readers g c =
    let first = c.of-2.ensures ∙ ap (λ (n : Numbered g.row.T.Denot). n.value) c.deref.ensures ∙ c.in_ok-last.ensures.1 in
    subst (λ f. All (IsNewReader c.of.result.value.board.value.shared.table_id f) c.readers_of-made.result.items) first c.readers_of-made.ensures.readers

pub invariant_of-writer : goal.invariant_of-writer
invariant_of-writer g c =
    let last = c.in_ok-writer.ensures.0 in
    let value = sym (c.of-2.ensures ∙ ap (λ (n : Numbered g.row.T.Denot). n.value) c.deref.ensures) in
    first_is_last _ _ _ _ last c.in_ok-last.ensures.0 value c.in_ok-writer.ensures.1
