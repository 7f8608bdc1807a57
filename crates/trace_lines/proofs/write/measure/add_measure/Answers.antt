use Rattle.trace_lines.proofs.Common.{AddsText, List, ap, codes, escape_byte, number_text, of_integer, refl, rules, signed_decimal, sym, ℕ, ◌++◌}
use Rattle.trace_lines.proofs.texts.AddsLemmas.{then, retold}
use Rattle.trace_lines.proofs.texts.IntegersLemmas.{integer_text}
use Rattle.trace_lines.proofs.write.measure.add_measure.Goals as goal

pub returns : goal.returns
unfolding escape_byte
returns c =
    let told : AddsText c.add_text-2.new.out.items c.add_long_integer.new.out.items (codes ",\"value\":" ++ signed_decimal c.args.measure.now.value) = search rules in
    let value = retold _ _ _ (codes ",\"value\":" ++ number_text (of_integer c.args.measure.now.value)) told
    (ap (λ (text : List ℕ). codes ",\"value\":" ++ text) (sym (integer_text c.args.measure.now.value))) in
    retold _ _ _ _ (then _ _ _ _ _ c.in_ok-add_array.ensures (then _ _ _ _ _ c.in_ok-add_text.ensures (then _ _ _ _ _ c.in_ok-add_number.ensures
    (then _ _ _ _ _ c.in_ok-add_text-2.ensures (then _ _ _ _ _ value c.in_ok-add.ensures)))))
    (rw (c.as_slice.ensures, c.name_of.ensures, c.as_str.ensures) refl)
