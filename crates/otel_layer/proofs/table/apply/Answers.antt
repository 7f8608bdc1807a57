-- The span is found, or isn't known.
use Rattle.std.proofs.Common.{sym, refl, ◌∙◌}
use Rattle.otel_layer.proofs.Common.{after_op}
use Rattle.otel_layer.proofs.TableLemmas.{applies_found, applies_none, no_gap, found_read, found_update, found_same, found_ids, not_read, on_ok, on_err}
use Rattle.otel_layer.proofs.table.apply.Goals as goal

pub returns-in-Some-state-clause-did : goal.returns-in-Some-state-clause-did
returns-in-Some-state-clause-did c =
    let s = c.in-Some-state.state in
    applies_found _ _ _ _ c.args.id c.args.at c.args.op c.apply.result (found_read (λ s. s.span_data) c.args.id c.args.entries.now c.in-Some.place c.index-entries-place.result s (sym c.find.ensures ∙ c.in-Some.is) c.in-Some-state.is)
    (on_ok c.apply.result _ _ (λ h. found_update c.args.id (λ t. after_op t c.args.at c.args.op) c.args.entries.now c.in-Some.place c.index-entries-place.result _ s c.apply.new.self (sym c.find.ensures ∙ c.in-Some.is) c.in-Some-state.is refl refl h) c.apply.ensures.did) c.apply.ensures.reply
    (on_err c.apply.result _ _ (λ h. found_same (λ s. s.span_data) c.args.id c.args.entries.now c.in-Some.place c.index-entries-place.result _ s c.apply.new.self (sym c.find.ensures ∙ c.in-Some.is) c.in-Some-state.is refl refl h) c.apply.ensures.memory_leaves) c.apply.ensures.memory

pub returns-in-Some-state-clause-ids : goal.returns-in-Some-state-clause-ids
returns-in-Some-state-clause-ids c = found_ids c.args.id c.args.entries.now c.in-Some.place c.index-entries-place.result _ (sym c.find.ensures ∙ c.in-Some.is) refl

pub unreachable-requires : goal.unreachable-requires
unreachable-requires c = no_gap c.args.id c.args.entries.now c.in-Some.place c.index-entries-place.result (sym c.find.ensures ∙ c.in-Some.is) c.in-None-state.is

pub returns-in-None-clause-did : goal.returns-in-None-clause-did
returns-in-None-clause-did c = applies_none _ _ c.args.id c.args.at c.args.op (not_read (λ s. s.span_data) c.args.id c.args.entries.now (sym c.find.ensures ∙ c.in-None.is))
