use Rattle.std.proofs.Common.{false, List, ℕ, sym, subst}
use Rattle.env_directives.proofs.Common.{trim, IsDirective, directive_text, HasNoMinusZero, Directive}
use Rattle.std.specs.Str.{IsUtf8}
use Rattle.env_directives.proofs.printed.DirectivesLemmas.{printed_again}
use Rattle.env_directives.proofs.printed.TrimLemmas.{trim_utf8, printed_trimmed}
use Rattle.env_directives.proofs.laws.printing.Goals as goal

anew : (text : List ℕ) (d : Directive) → IsUtf8 text → IsUtf8 (directive_text d) → IsDirective false (trim text) d → HasNoMinusZero d.fields → IsDirective false (trim (directive_text d)) d
anew text d utf8 printed_utf8 read no_zero =
    let printed = printed_again (trim text) d (trim_utf8 text utf8) read no_zero in
    subst (λ (t : List ℕ). IsDirective false t d) (sym (printed_trimmed d printed_utf8 printed.start)) printed

pub returns : goal.returns
returns c = record { again = anew }
