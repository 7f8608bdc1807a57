-- Nothing is written yet.
use Rattle.std.proofs.Common.{[], sym, subst}
use Rattle.span_script.specs.Fits.{StandsFor}
use Rattle.span_script.specs.Setups.{Setup}
use Rattle.span_script.specs.Tables.{tables}
use Rattle.task_runs.specs.Writing.{WrittenSoFar}
use Rattle.task_runs.proofs.WritingLemmas.{written_first}
use Rattle.task_runs.proofs.runner.Runner.open.Goals as goal

pub returns : goal.returns
returns c = λ requests. (
    let opened = c.in-Ok.ensures in
    let stands = subst (λ (s : Setup). StandsFor c.in-Ok.pipeline (tables s [])) (sym opened.setup) opened.stands in
    subst (λ (s : Setup). WrittenSoFar s requests requests c.in-Ok.pipeline c.new-lines.result) opened.setup
    (written_first requests c.in-Ok.pipeline c.new-lines.result stands opened.records c.new-lines.ensures.text c.new-lines.ensures.count))
