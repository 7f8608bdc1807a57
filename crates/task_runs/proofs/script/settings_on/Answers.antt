-- A settings line that spells none, one whose texts of directives are read, and one of which a text isn't.
use Rattle.std.proofs.Common.{subst}
use Rattle.span_script.specs.Admission.{opening_read, IsOpenError}
use Rattle.task_runs.proofs.OneLineLemmas.{settings_read, settings_unread, no_settings}
use Rattle.task_runs.proofs.script.settings_on.Goals as goal

pub returns-in-Err-BadLine : goal.returns-in-Err-BadLine
returns-in-Err-BadLine c = (no_settings c.args.line.now _ (c.in-Err-BadLine.ensures.bad_line (cc)), λ is. cc)

pub returns-in-Ok-read_filters : goal.returns-in-Ok-read_filters
returns-in-Ok-read_filters c =
    (settings_read c.args.line.now c.in-Ok.settings c.in-Ok.ensures.ok c.in-Ok-read_filters.ensures.read, record { ids = c.in-Ok.ensures.lanes; read = c.in-Ok-read_filters.ensures.read })

pub returns-in-Err-Directive : goal.returns-in-Err-Directive
returns-in-Err-Directive c = (
  (let found = settings_unread c.args.line.now c.in-Ok.settings c.in-Err-Directive.counting c.in-Err-Directive.piece c.in-Ok.ensures.ok
      (subst (IsOpenError (opening_read c.in-Ok.settings.filter c.in-Ok.settings.counting)) c.in-Err-Directive.field-0-is c.in-Err-Directive.ensures.refused) in
      let counting = c.in-Err-Directive.counting-is in
      let piece = c.in-Err-Directive.piece-is in
      cc),
  λ is. cc,
)
