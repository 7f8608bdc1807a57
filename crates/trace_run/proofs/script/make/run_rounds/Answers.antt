use Rattle.std.proofs.Common.{◌≡◌, ◌+◌, ℕ, [], Ok, refl, ap, subst, ◌∙◌}
use Rattle.span_script.specs.declared.settings.Settings.{Settings}
use Rattle.span_script.specs.Admission.{opening_read}
use Rattle.trace_run.proofs.Common.{StandsFor, setup_by, tables}
use Rattle.trace_run.proofs.MakingLemmas.{opened, summed}
use Rattle.trace_run.proofs.script.make.run_rounds.Goals as goal

pub returns : goal.returns
returns c =
    let settings = c.in_ok-settings.ensures in
    let pipeline = c.in-Ok.pipeline in
    let stands = subst (λ (s : Settings). StandsFor pipeline (tables (setup_by s) [])) settings c.in-Ok.ensures.stands in
    let read = subst (λ (s : Settings). opening_read s.filter s.counting ≡ Ok tt) settings c.in-Ok.ensures.read in
    let served = c.in_ok-served.ensures (opened pipeline (c.in-Ok.ensures.setup ∙ ap setup_by settings) stands c.in-Ok.ensures.records) in
    let lines = rw c.in_ok-lines.ensures.ok_part at c.checked_add.ensures in
    let all = rw c.in_ok-ok_or.ensures.ok_part at c.checked_add-2.ensures in
    summed c.args.rounds _ c.serve_rounds-served.new.totals _ c.open_spans-open_spans.result c.in_ok-ok_or.field-0 served
    (λ h runs. c.validity.ensures c.args.rounds h c.requires read runs) c.open_spans-open_spans.ensures (all.1 ∙ ap (λ (n : ℕ). n + 1) lines.1) refl
