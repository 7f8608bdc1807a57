-- What the lines come to is written.
use Rattle.std.proofs.Common.{subst, None}
use Rattle.trace_run.proofs.Common.{lines_of, accepts, accepts_same, TellsTreeOf}
use Rattle.trace_run.proofs.ScriptsLemmas.{TreeEnds, distinct_finished, tells_tree, tree_accepted, refused_text, refused_flag}
use Rattle.trace_run.proofs.script.tree.TreeAllLinesCommand.answer.Goals as goal

pub tree_text-requires : goal.tree_text-requires
tree_text-requires c =
    let lines = lines_of c.args.bytes.now in
    let ends = subst (TreeEnds lines) c.in-Ok.is (c.in_ok-finished.ensures None lines c.in_ok-follow_lines.ensures) in
    rw c.as_slice.ensures.value (distinct_finished c.ids.ensures.no_two_alike lines c.in-Ok.finished ends)

pub returns-in_ok-text-in-Ok-clause-text : goal.returns-in_ok-text-in-Ok-clause-text
returns-in_ok-text-in-Ok-clause-text c =
    let lines = lines_of c.args.bytes.now in
    let ends = subst (TreeEnds lines) c.in-Ok.is (c.in_ok-finished.ensures None lines c.in_ok-follow_lines.ensures) in
    tells_tree lines c.in-Ok.finished c.in_ok-text-in-Ok.text.items ends (rw c.as_slice.ensures.value at c.in_ok-text-in-Ok.ensures)

pub returns-in_ok-text-in-Ok-clause-refused : goal.returns-in_ok-text-in-Ok-clause-refused
returns-in_ok-text-in-Ok-clause-refused c =
    let lines = lines_of c.args.bytes.now in
    tree_accepted lines c.in-Ok.finished (subst (TreeEnds lines) c.in-Ok.is (c.in_ok-finished.ensures None lines c.in_ok-follow_lines.ensures))

pub refused_answer-requires : goal.refused_answer-requires
refused_answer-requires c =
    let lines = lines_of c.args.bytes.now in
    (subst (TreeEnds lines) c.in-Err.is (c.in_ok-finished.ensures None lines c.in_ok-follow_lines.ensures)).1

pub returns-in-Err-clause-text : goal.returns-in-Err-clause-text
returns-in-Err-clause-text c =
    let lines = lines_of c.args.bytes.now in
    let ends = subst (TreeEnds lines) c.in-Err.is (c.in_ok-finished.ensures None lines c.in_ok-follow_lines.ensures) in
    refused_text None TellsTreeOf lines c.in-Err.line c.refused_answer.result ends.0 c.refused_answer.ensures.text

pub returns-in-Err-clause-refused : goal.returns-in-Err-clause-refused
returns-in-Err-clause-refused c =
    let lines = lines_of c.args.bytes.now in
    let ends = subst (TreeEnds lines) c.in-Err.is (c.in_ok-finished.ensures None lines c.in_ok-follow_lines.ensures) in
    refused_flag None (accepts lines) lines c.in-Err.line c.refused_answer.result (accepts_same lines) ends.0 c.refused_answer.ensures.refused
