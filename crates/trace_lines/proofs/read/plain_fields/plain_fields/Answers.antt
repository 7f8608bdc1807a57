use Rattle.std.specs.Str.{IsUtf8}
use Rattle.trace_lines.proofs.Common.{ap, arith, fields_of, option_and_then, refl, rules, ◌∙◌}
use Rattle.trace_lines.proofs.readings.CompactLemmas.{whole_text_read}
use Rattle.trace_lines.proofs.read.plain_fields.plain_fields.Goals as goal

pub returns : goal.returns
returns c =
    let b = c.in_ok-fields.ensures in
    let utf8 : IsUtf8 c.args.array.now = search rules in
    ap (option_and_then fields_of) (whole_text_read 18 c.args.array.now _ c.in_ok-fields.end.now b.0 utf8 (omega arith) refl c.in_ok-expect_end.ensures b.1) ∙ b.2
