-- The settings line opens the run, and a request that is answered is one effect more.
use Rattle.std.proofs.Common.{◌≡◌, ◌++◌, List, [], ◌∷◌, refl, sym, ap, subst, map, ◌∙◌}
use Rattle.trace_records.proofs.Common.{Record, PipelineState, FinishedSpans, AnswersRequest, OpensLine, AnswersLine, IsRunning}
use Rattle.trace_records.proofs.FollowingLemmas.{opened_on, answered_on, on_ok}
use Rattle.trace_records.proofs.script.ScriptRun.follow_line.Goals as goal

pub returns-in-Ok : goal.returns-in-Ok
returns-in-Ok g c lines follows =
    let sum = rw c.in_ok-number.ensures.ok_part at c.checked_add.ensures in
    let now : FinishedSpans g.row.K.Denot = record { spans = c.args.self.now.finished.spans; lanes = c.args.self.now.finished.lanes; lane_count = c.in-Ok.field-0.lane_count; open_spans = c.args.self.now.finished.open_spans } in
    let same : c.in-Ok.field-0.pipeline ≡ c.in-Ok.pipeline = (let whole = c.in-Ok.field-0-is in let part = c.in-Ok.pipeline-is in cc) in
    rw (c.set_stage.ensures, c.in-Ok.pipeline-is)
    (subst (λ (k : PipelineState). IsRunning g.K.FromRecord.of_record c.args.most_lanes (lines ++ c.args.line.now ∷ []) c.in_ok-number.number k now) same
    (opened_on g.K.FromRecord.of_record c.args.most_lanes lines c.args.self.now.line_count c.in_ok-number.number c.args.self.now.finished now c.args.line.now c.in-Ok.field-0
    (rw c.in-Opening.is at follows) sum.1 (sym c.is_blank.ensures ∙ c.if-is_blank.false)
    (subst (OpensLine c.args.most_lanes c.args.line.now) c.in-Ok.is c.in_ok-pipeline-in-Opening.ensures) refl refl refl))

pub returns-in-Ok-2 : goal.returns-in-Ok-2
returns-in-Ok-2 g c lines follows =
    let sum = rw c.in_ok-number.ensures.ok_part at c.checked_add.ensures in
    let r : IsRunning g.K.FromRecord.of_record c.args.most_lanes lines c.args.self.now.line_count c.in-Running.pipeline c.args.self.now.finished = rw c.in-Running.is at follows in
    let a : AnswersRequest c.args.line.now r.history c.in-Running.pipeline c.answer_line.new.pipeline c.in-Ok-2.answered =
    subst (AnswersLine c.args.line.now r.history c.in-Running.pipeline c.answer_line.new.pipeline) c.in-Ok-2.is (c.in_ok-answered-in-Running.ensures.answers r.history r.stands) in
    let left = c.drop_measures.ensures.records in
    on_ok c.take_records.result _ _ _ _
    (λ spans lanes taken.
    answered_on g.K.FromRecord.of_record c.args.most_lanes lines c.args.self.now.line_count c.in_ok-number.number c.in-Running.pipeline c.answer_line.new.pipeline c.take_records.new.pipeline
    c.args.self.now.finished c.take_records.new.self c.args.line.now c.in-Ok-2.answered r sum.1 (sym c.is_blank.ensures ∙ c.if-is_blank.false) a
    (c.take_records.ensures.state ∙ c.drop_measures.ensures.state) taken
    (spans ∙ ap (λ (f : List Record). c.args.self.now.finished.spans.items ++ map g.K.FromRecord.of_record f) left)
    (lanes ∙ ap (λ (f : List Record). c.args.self.now.finished.lanes.items ++ map (λ (x : Record). c.in-Ok-2.answered.lane_place) f) left)
    c.take_records.ensures.count)
    c.take_records.ensures.spans c.take_records.ensures.lanes c.take_records.ensures.taken
