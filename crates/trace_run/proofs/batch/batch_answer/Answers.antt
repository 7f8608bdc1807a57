-- What the lines come to is written.
use Rattle.std.proofs.Common.{refl, subst, Some}
use Rattle.trace_run.proofs.Common.{MAX_LANES, lines_of, TellsBatchesOf, accepts_batch}
use Rattle.trace_run.proofs.ScriptsLemmas.{BatchEnds, as_many, each_within, few, tells_batches, batch_accepted, refused_text, refused_flag}
use Rattle.trace_run.proofs.batch.batch_answer.Goals as goal

pub batches_text-requires-clause-lanes : goal.batches_text-requires-clause-lanes
batches_text-requires-clause-lanes g c κs within =
    let lines = lines_of c.args.bytes.now in
    let ends = subst (BatchEnds lines) c.in-Ok.is (c.in_ok-finished.ensures (Some MAX_LANES) lines c.in_ok-follow_lines.ensures) in
    rw c.as_slice.ensures.value (as_many lines c.in-Ok.finished ends)

pub batches_text-requires-clause-each : goal.batches_text-requires-clause-each
batches_text-requires-clause-each g c κs within =
    let lines = lines_of c.args.bytes.now in
    let ends = subst (BatchEnds lines) c.in-Ok.is (c.in_ok-finished.ensures (Some MAX_LANES) lines c.in_ok-follow_lines.ensures) in
    rw c.as_slice.ensures.value (each_within lines c.in-Ok.finished ends)

pub batches_text-requires-clause-few : goal.batches_text-requires-clause-few
batches_text-requires-clause-few g c κs within =
    let lines = lines_of c.args.bytes.now in
    few lines c.in-Ok.finished (subst (BatchEnds lines) c.in-Ok.is (c.in_ok-finished.ensures (Some MAX_LANES) lines c.in_ok-follow_lines.ensures))

pub returns-in_ok-text-in-Ok-clause-text : goal.returns-in_ok-text-in-Ok-clause-text
returns-in_ok-text-in-Ok-clause-text g c =
    let lines = lines_of c.args.bytes.now in
    let ends = subst (BatchEnds lines) c.in-Ok.is (c.in_ok-finished.ensures (Some MAX_LANES) lines c.in_ok-follow_lines.ensures) in
    tells_batches c.args.size lines c.in-Ok.finished c.in_ok-text-in-Ok.text.items ends (rw c.as_slice.ensures.value at c.in_ok-text-in-Ok.ensures)

pub returns-in_ok-text-in-Ok-clause-refused : goal.returns-in_ok-text-in-Ok-clause-refused
returns-in_ok-text-in-Ok-clause-refused g c =
    let lines = lines_of c.args.bytes.now in
    batch_accepted lines c.in-Ok.finished (subst (BatchEnds lines) c.in-Ok.is (c.in_ok-finished.ensures (Some MAX_LANES) lines c.in_ok-follow_lines.ensures))

pub refused_answer-requires : goal.refused_answer-requires
refused_answer-requires g c =
    let lines = lines_of c.args.bytes.now in
    (subst (BatchEnds lines) c.in-Err.is (c.in_ok-finished.ensures (Some MAX_LANES) lines c.in_ok-follow_lines.ensures)).1

pub returns-in-Err-clause-text : goal.returns-in-Err-clause-text
returns-in-Err-clause-text g c =
    let lines = lines_of c.args.bytes.now in
    let ends = subst (BatchEnds lines) c.in-Err.is (c.in_ok-finished.ensures (Some MAX_LANES) lines c.in_ok-follow_lines.ensures) in
    refused_text (Some MAX_LANES) (TellsBatchesOf c.args.size) lines c.in-Err.line c.refused_answer.result ends.0 c.refused_answer.ensures.text

pub returns-in-Err-clause-refused : goal.returns-in-Err-clause-refused
returns-in-Err-clause-refused g c =
    let lines = lines_of c.args.bytes.now in
    let ends = subst (BatchEnds lines) c.in-Err.is (c.in_ok-finished.ensures (Some MAX_LANES) lines c.in_ok-follow_lines.ensures) in
    refused_flag (Some MAX_LANES) (accepts_batch lines) lines c.in-Err.line c.refused_answer.result refl ends.0 c.refused_answer.ensures.refused
