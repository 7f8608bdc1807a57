use Rattle.std.proofs.Common.{◌++◌, codes, refl, ap, ◌∙◌}
use Rattle.trace_lines.specs.text.QuickLines.{kind_value}
use Rattle.trace_lines.proofs.readings.QuickLinesLemmas.{kind_behind}
use Rattle.trace_lines.proofs.read.quick.kind_member.Goals as goal

pub returns : goal.returns
returns c =
    let k = c.in_ok-kind.kind in
    let rest = c.in_ok-rest.rest.now in
    (kind_value k, refl, kind_behind c.args.text.now (codes "\"do\":") c.in_ok-value.value.now rest k c.in_ok-value.ensures (c.in_ok-rest.ensures ∙ ap (λ l. l ++ rest) c.word_of.ensures))
