use Rattle.std.proofs.Common.{rules, ap, sym, subst, length, ◌∙◌}
use Rattle.trace_records.proofs.Common.{opening_read, IsOpenError, allows_lanes}
use Rattle.trace_records.proofs.LinesLemmas.{not_settings, not_read, too_many, opens}
use Rattle.trace_records.proofs.line.open_pipeline.Goals as goal

pub returns-in-Err-BadLine : goal.returns-in-Err-BadLine
returns-in-Err-BadLine c = (not_settings c.args.most_lanes c.args.line.now _ (search rules), λ is. cc)

pub returns-then-allows_lanes : goal.returns-then-allows_lanes
returns-then-allows_lanes c =
    opens c.args.most_lanes c.args.line.now c.in-Ok.settings _
    c.in-Ok.ensures.ok c.in-Ok-open.ensures.read (sym c.allows_lanes.ensures ∙ c.if-allows_lanes.true) (ap length c.as_slice.ensures)
    c.in-Ok-open.ensures.setup c.in-Ok-open.ensures.stands c.in-Ok-open.ensures.records c.in-Ok-open.ensures.measures

pub returns-else-allows_lanes : goal.returns-else-allows_lanes
returns-else-allows_lanes c = (
  too_many c.args.most_lanes c.args.line.now c.in-Ok.settings c.in-Ok.ensures.ok c.in-Ok-open.ensures.read
      (ap (allows_lanes c.args.most_lanes) (sym (ap length c.as_slice.ensures)) ∙ sym c.allows_lanes.ensures ∙ c.if-allows_lanes.false),
  λ is. cc,
)

pub returns-in-Err-Directive : goal.returns-in-Err-Directive
returns-in-Err-Directive c = (
  (let found = not_read c.args.most_lanes c.args.line.now c.in-Ok.settings c.in-Err-Directive.counting c.in-Err-Directive.piece c.in-Ok.ensures.ok
      (subst (IsOpenError (opening_read c.in-Ok.settings.filter c.in-Ok.settings.counting)) c.in-Err-Directive.field-0-is c.in-Err-Directive.ensures.refused) in
      let counting = c.in-Err-Directive.counting-is in
      let piece = c.in-Err-Directive.piece-is in
      cc),
  λ is. cc,
)
