use Rattle.trace_lines.proofs.Common.{Some, ap, get_member, members_left, sym, ◌∙◌}
use Rattle.trace_lines.proofs.readings.MembersLemmas.{found}
use Rattle.trace_lines.proofs.read.syntax.object.Object.optional.Goals as goal

pub returns-in-Some-remove-clause-found : goal.returns-in-Some-remove-clause-found
returns-in-Some-remove-clause-found c =
    found c.args.name.now c.in-Tree.members.entries (Some c.in-Some-remove.tree) c.in-Some-remove.ensures.value
    ∙ ap (λ object. get_member c.args.name.now (members_left object)) (sym c.in-Tree.is)
