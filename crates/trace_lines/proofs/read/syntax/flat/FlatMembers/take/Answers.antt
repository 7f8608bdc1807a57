use Rattle.trace_lines.proofs.Common.{List, Some, ap, get_member, get_or, members_of, plain_data, sym, ◌∙◌}
use Rattle.trace_lines.proofs.readings.CompactLemmas.{Entry}
use Rattle.trace_lines.proofs.read.syntax.flat.FlatMembers.take.Goals as goal

pub returns-in-Some-clause-found : goal.returns-in-Some-clause-found
returns-in-Some-clause-found c =
    let at = c.in-Some.at in
    let e : Entry = (c.args.name, c.take_at.result) in
    ap (λ p. Some (plain_data p)) (c.take_at.ensures.plain e)
    ∙ ap (λ (es : List Entry). Some (plain_data (get_or es at e).1)) (sym c.as_slice.ensures)
    ∙ sym (c.in-Some.ensures.1 e)
    ∙ ap (λ (es : List Entry). get_member c.args.name.now (members_of es)) c.as_slice.ensures
