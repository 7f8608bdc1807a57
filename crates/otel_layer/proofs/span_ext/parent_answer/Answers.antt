-- The handle is enabled.
use Rattle.std.proofs.Common.{sym, ◌∙◌}
use Rattle.otel_layer.proofs.ParentSetLemmas.{set_by_handle}
use Rattle.otel_layer.proofs.span_ext.parent_answer.Goals as goal

pub returns-in-Some : goal.returns-in-Some
returns-in-Some c = set_by_handle c.args.span.now.held c.in-Some.field-0 _ c.args.answer (sym c.held_by.ensures ∙ c.in-Some.is) c.held_parent_answer.ensures
