-- The front that is cut off is the nested value's text.
use Rattle.std.specs.Str.{IsUtf8}
use Rattle.trace_lines.proofs.Common.{ap, arith, compact_text, length, rules, sym, take, ◌++◌, ◌-◌, ◌∙◌, ◌≡◌}
use Rattle.trace_lines.proofs.readings.CompactLemmas.{nested_begins, cut_front}
use Rattle.trace_lines.proofs.read.syntax.scan.nested_value.Goals as goal

pub returns : goal.returns
returns c =
    let b = c.in_ok-rest.ensures in
    let bytes = c.args.bytes.now in
    let rest = c.in_ok-rest.rest.now in
    let words : c.in_ok-words.words.now ≡ take (length bytes - length rest) bytes = search rules in
    let front = words ∙ cut_front bytes (compact_text b.2.0) rest b.2.1 in
    let utf8 : IsUtf8 c.in_ok-words.words.now = search rules in
    nested_begins 16 bytes c.in_ok-words.words.now rest utf8 (ap (λ l. l ++ rest) front ∙ sym b.2.1) (omega arith) b.0 b.1 b.2.0 front b.2.2
