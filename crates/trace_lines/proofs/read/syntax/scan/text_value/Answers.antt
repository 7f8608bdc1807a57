use Rattle.trace_lines.proofs.Common.{ap, quoted, rules, sym, ◌++◌, ◌∙◌, ◌≡◌}
use Rattle.trace_lines.proofs.readings.CompactLemmas.{text_begins}
use Rattle.trace_lines.proofs.read.syntax.scan.text_value.Goals as goal

pub returns : goal.returns
returns c =
    let same : c.in_ok-words-2.words.now ≡ c.in_ok-words.words.now = search rules in
    text_begins c.args.bytes.now c.in_ok-words.rest.now c.in_ok-words-2.words.now (c.in_ok-words.ensures ∙ ap (λ s. quoted s ++ c.in_ok-words.rest.now) (sym same))
