use Rattle.std.proofs.Common.{◌≡◌, Ok, Err, false, sym, ◌∙◌}
use Rattle.env_directives.proofs.Common.{Level, Field}
use Rattle.env_directives.proofs.forms.GrammarLemmas.{directive_reads, level_told, field_told}
use Rattle.env_directives.proofs.forms.KeptPatternsLemmas.{form_of}
use Rattle.env_directives.proofs.laws.readings.Goals as goal

pub returns-clause-directive : goal.returns-clause-directive
returns-clause-directive c patterns text d e first second =
    let same : Ok d ≡ Ok e = sym (directive_reads patterns text d (form_of patterns text d first)) ∙ directive_reads patterns text e (form_of patterns text e second) in cc

pub returns-clause-level : goal.returns-clause-level
returns-clause-level c patterns text d read unread =
    let no_both : Ok d ≡ Err Level = sym (directive_reads patterns text d (form_of patterns text d read)) ∙ level_told patterns text unread in cc

pub returns-clause-field : goal.returns-clause-field
returns-clause-field c patterns text d read empty =
    let no_both : Ok d ≡ Err Field = sym (directive_reads patterns text d (form_of patterns text d read)) ∙ field_told patterns text empty in cc

pub returns-clause-fault : goal.returns-clause-fault
returns-clause-fault c text unread empty =
    let no_both : Err Level ≡ Err Field = sym (level_told false text unread) ∙ field_told false text empty in cc
