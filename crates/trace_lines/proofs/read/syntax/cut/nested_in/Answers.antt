-- What is cut out is the nested value's text.
use Rattle.std.specs.Str.{IsUtf8}
use Rattle.trace_lines.proofs.Common.{List, ap, arith, compact_text, refl, rules, sym, ℕ, ◌++◌, ◌∙◌, ◌≡◌}
use Rattle.trace_lines.proofs.texts.CutsLemmas.{part_between}
use Rattle.trace_lines.proofs.readings.CompactLemmas.{nested_begins}
use Rattle.trace_lines.proofs.read.syntax.cut.nested_in.Goals as goal

pub returns : goal.returns
returns c =
    let b = c.in_ok-rest.ensures in
    let bytes = c.args.bytes.now in
    let rest = c.in_ok-rest.rest.now in
    let front = c.in_ok-words.ensures.cases.0 ∙ part_between c.args.whole.now c.requires.0 bytes (compact_text b.2.0) rest _ _ c.requires.1 b.2.1 refl refl in
    let utf8 : IsUtf8 c.in_ok-words.words.now = search rules in
    nested_begins 16 bytes c.in_ok-words.words.now rest utf8 (ap (λ (l : List ℕ). l ++ rest) front ∙ sym b.2.1) (omega arith) b.0 b.1 b.2.0 front b.2.2
