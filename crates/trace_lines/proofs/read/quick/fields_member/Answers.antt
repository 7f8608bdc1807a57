use Rattle.trace_lines.proofs.read.quick.fields_member.Goals as goal

pub returns : goal.returns
returns c =
    let b = c.in_ok-fields.ensures.fields in
    (b.0, b.2, (c.in_ok-array.array.now, c.in_ok-array.ensures, (λ _. c.in_ok-fields.ensures.utf8), b.1))
