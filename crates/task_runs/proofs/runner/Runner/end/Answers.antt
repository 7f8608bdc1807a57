-- The lines of all records, and the end line.
use Rattle.std.proofs.Common.{[], refl}
use Rattle.task_runs.proofs.WritingLemmas.{on_ok, all_written, tells_all}
use Rattle.task_runs.proofs.runner.Runner.end.Goals as goal

pub returns : goal.returns
returns c = λ setup requests so_far. (
    let written = all_written setup requests [] c.args.self.pipeline c.args.self.lines refl so_far in
    on_ok c.end.result _ _ (λ text is. tells_all setup requests c.args.self.pipeline c.args.self.lines text.items c.open_spans-left_open.result written c.open_spans-left_open.ensures is) c.end.ensures)
