-- The span is found, or isn't known.
use Rattle.std.proofs.Common.{sym, refl, ◌∙◌, ap, is_some}
use Rattle.otel_layer.proofs.Common.{after_op}
use Rattle.otel_layer.proofs.TableLemmas.{no_gap, found_read, found_update, found_same, found_ids, found_known, not_updated}
use Rattle.otel_layer.proofs.table.put.Goals as goal

pub put-requires : goal.put-requires
put-requires c = record { room = c.requires.room _ (found_read (λ s. s.room) c.args.id c.args.entries.now c.in-Some.place c.index-entries-place.result c.in-Some-state.state (sym c.find.ensures ∙ c.in-Some.is) c.in-Some-state.is) }

pub returns-in-Some-state-clause-known : goal.returns-in-Some-state-clause-known
returns-in-Some-state-clause-known c = sym (ap (λ o. is_some o) c.in-Some.is) ∙ found_known c.args.id c.args.entries.now c.find.result c.find.ensures

pub returns-in-Some-state-clause-span_data : goal.returns-in-Some-state-clause-span_data
returns-in-Some-state-clause-span_data c =
    found_update c.args.id (λ t. after_op t c.args.at c.args.op) c.args.entries.now c.in-Some.place c.index-entries-place.result _ c.in-Some-state.state c.put.new.self (sym c.find.ensures ∙ c.in-Some.is) c.in-Some-state.is refl refl c.put.ensures.span_data

pub returns-in-Some-state-clause-rooms : goal.returns-in-Some-state-clause-rooms
returns-in-Some-state-clause-rooms c =
    λ light. found_same (λ s. s.room) c.args.id c.args.entries.now c.in-Some.place c.index-entries-place.result _ c.in-Some-state.state c.put.new.self (sym c.find.ensures ∙ c.in-Some.is) c.in-Some-state.is refl refl (c.put.ensures.room light)

pub returns-in-Some-state-clause-ids : goal.returns-in-Some-state-clause-ids
returns-in-Some-state-clause-ids c = found_ids c.args.id c.args.entries.now c.in-Some.place c.index-entries-place.result _ (sym c.find.ensures ∙ c.in-Some.is) refl

pub unreachable-requires : goal.unreachable-requires
unreachable-requires c = no_gap c.args.id c.args.entries.now c.in-Some.place c.index-entries-place.result (sym c.find.ensures ∙ c.in-Some.is) c.in-None-state.is

pub returns-in-None-clause-span_data : goal.returns-in-None-clause-span_data
returns-in-None-clause-span_data c = sym (not_updated c.args.id (λ t. after_op t c.args.at c.args.op) c.args.entries.now (sym c.find.ensures ∙ c.in-None.is))

pub returns-in-None-clause-known : goal.returns-in-None-clause-known
returns-in-None-clause-known c = sym (ap (λ o. is_some o) c.in-None.is) ∙ found_known c.args.id c.args.entries.now c.find.result c.find.ensures
