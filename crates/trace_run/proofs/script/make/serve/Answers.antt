use Rattle.std.proofs.Common.{ℕ, sym, ap, subst, ◌∙◌}
use Rattle.trace_run.proofs.Common.{StandsFor, Setup, tables, with_records}
use Rattle.trace_run.proofs.MakingLemmas.{served}
use Rattle.trace_run.proofs.script.make.serve.Goals as goal

pub returns : goal.returns
returns c h counts =
    let stands = subst (λ (s : Setup). StandsFor c.args.pipeline.now (tables s h)) (sym counts.setup) counts.stands in
    let sum = rw c.in_ok-totals.ensures.ok_part at c.checked_add.ensures in
    served h c.args.pipeline.now c.step.new.self c.take_records.new.pipeline c.args.totals.now c.take_records.new.totals c.args.request c.in-Ok.field-0 counts
    (c.in-Ok.ensures.ok h stands)
    (c.in_ok-take_records.ensures.totals ∙ ap (λ (n : ℕ). with_records (record c.args.totals.now { requests = n }) c.step.new.self.recording.finished) sum.1)
    c.in_ok-take_records.ensures.taken c.take_records.ensures.state
