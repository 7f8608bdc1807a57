use Rattle.serde_json.specs.Data.{string}
use Rattle.trace_lines.proofs.Common.{List, MAX_DEPTH, ap, ℕ, ◌++◌, ◌∙◌}
use Rattle.trace_lines.proofs.readings.CompactLemmas.{leaf_begins, quoted_text, text_begins}
use Rattle.trace_lines.proofs.read.syntax.cut.value_in.Goals as goal

pub between-requires : goal.between-requires
between-requires c = (c.requires.0, c.requires.1 ∙ ap (λ (l : List ℕ). c.requires.0 ++ l) c.in-Some.ensures.text)

pub returns-in-Some : goal.returns-in-Some
returns-in-Some c =
    rw (c.between.ensures) (leaf_begins MAX_DEPTH c.args.bytes.now c.in-Some.rest.now (string c.in-Some.words.now)
    (text_begins c.args.bytes.now c.in-Some.rest.now c.in-Some.words.now (quoted_text c.args.bytes.now c.in-Some.words.now c.in-Some.rest.now c.in-Some.ensures.text c.in-Some.ensures.plain)))
