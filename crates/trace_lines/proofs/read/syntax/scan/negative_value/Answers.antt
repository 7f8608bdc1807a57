use Rattle.std.proofs.Math.Facts.{to_z-of_z}
use Rattle.trace_lines.proofs.Common.{BeginsWithValue, FitsSigned, arith, negative, number, subst, suc, sym, w64, ◌-◌, ◌∙◌, ◌≡◌}
use Rattle.trace_lines.proofs.readings.CompactLemmas.{below_begins}
use Rattle.trace_lines.proofs.read.syntax.scan.negative_value.Goals as goal

pub returns : goal.returns
returns c =
    let whole = c.in_ok-whole.whole in
    let fits = c.in_ok-number.ensures.fits in
    let one : whole ≡ suc (whole - 1) = omega (arith, fits.0) in
    let is = sym c.in_ok-number.ensures.number in
    let kept : FitsSigned w64 c.in_ok-number.number = subst (λ z. FitsSigned w64 z) is (omega (arith, fits.0, fits.1)) in
    subst (λ z. BeginsWithValue 0 c.args.bytes.now (number (negative z)) c.in_ok-whole.rest.now) (is ∙ sym (to_z-of_z {w = w64} kept))
    (below_begins c.args.bytes.now c.in_ok-digits.digits.now c.in_ok-whole.rest.now whole (whole - 1) c.in_ok-digits.ensures c.in_ok-whole.ensures.text one (omega (arith, fits.0, fits.1)))
