-- The span is found, or isn't known.
use Rattle.std.proofs.Common.{sym, refl, ◌∙◌}
use Rattle.otel_layer.proofs.Common.{after_counted}
use Rattle.otel_layer.proofs.TableLemmas.{no_gap, found_read, found_update, found_ids, not_updated}
use Rattle.otel_layer.proofs.table.count_event_of_id.Goals as goal

pub count_event-requires : goal.count_event-requires
count_event-requires c = c.requires.room _ (found_read (λ s. s.room) c.args.id c.args.entries.now c.in-Some.place c.index-entries-place.result c.in-Some-state.state (sym c.find.ensures ∙ c.in-Some.is) c.in-Some-state.is)

pub returns-in-Some-state-clause-span_data : goal.returns-in-Some-state-clause-span_data
returns-in-Some-state-clause-span_data c =
    found_update c.args.id (after_counted c.args.is_taken c.args.at c.args.op) c.args.entries.now c.in-Some.place c.index-entries-place.result _ c.in-Some-state.state c.count_event.new.state (sym c.find.ensures ∙ c.in-Some.is) c.in-Some-state.is refl refl c.count_event.ensures

pub returns-in-Some-state-clause-ids : goal.returns-in-Some-state-clause-ids
returns-in-Some-state-clause-ids c = found_ids c.args.id c.args.entries.now c.in-Some.place c.index-entries-place.result _ (sym c.find.ensures ∙ c.in-Some.is) refl

pub unreachable-requires : goal.unreachable-requires
unreachable-requires c = no_gap c.args.id c.args.entries.now c.in-Some.place c.index-entries-place.result (sym c.find.ensures ∙ c.in-Some.is) c.in-None-state.is

pub returns-in-None-clause-span_data : goal.returns-in-None-clause-span_data
returns-in-None-clause-span_data c = sym (not_updated c.args.id (after_counted c.args.is_taken c.args.at c.args.op) c.args.entries.now (sym c.find.ensures ∙ c.in-None.is))
