-- The span is found, or isn't known.
use Rattle.std.proofs.Common.{sym, subst, refl, ◌∙◌}
use Rattle.otel_layer.proofs.Common.{Room, HasRoom}
use Rattle.otel_layer.proofs.TableLemmas.{no_gap, found_same, found_ids, read_set, nothing_read, on_ok}
use Rattle.otel_layer.proofs.table.reserve_op.Goals as goal

pub returns-in-Some-state-clause-span_data : goal.returns-in-Some-state-clause-span_data
returns-in-Some-state-clause-span_data c =
    found_same (λ s. s.span_data) c.args.id c.args.entries.now c.in-Some.place c.index-entries-place.result _ c.in-Some-state.state c.reserve.new.self (sym c.find.ensures ∙ c.in-Some.is) c.in-Some-state.is refl refl c.reserve.ensures.leaves

pub returns-in-Some-state-clause-room : goal.returns-in-Some-state-clause-room
returns-in-Some-state-clause-room c =
    on_ok c.reserve.result _ _ (λ h room is. subst (λ (r : Room). HasRoom r c.args.op.now) (read_set (λ s. s.room) c.args.id c.args.entries.now c.in-Some.place c.index-entries-place.result _ c.reserve.new.self (sym c.find.ensures ∙ c.in-Some.is) refl refl room is) h) c.reserve.ensures.room

pub returns-in-Some-state-clause-ids : goal.returns-in-Some-state-clause-ids
returns-in-Some-state-clause-ids c = found_ids c.args.id c.args.entries.now c.in-Some.place c.index-entries-place.result _ (sym c.find.ensures ∙ c.in-Some.is) refl

pub returns-in-None-state-clause-room : goal.returns-in-None-state-clause-room
returns-in-None-state-clause-room c = absurd (no_gap c.args.id c.args.entries.now c.in-Some.place c.index-entries-place.result (sym c.find.ensures ∙ c.in-Some.is) c.in-None-state.is)

pub returns-in-None-clause-room : goal.returns-in-None-clause-room
returns-in-None-clause-room c = λ room is. absurd (nothing_read (λ s. s.room) c.args.id c.args.entries.now (sym c.find.ensures ∙ c.in-None.is) room is)
