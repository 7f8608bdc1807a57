-- The span is found, or isn't known.
use Rattle.std.proofs.Common.{Some, sym, refl, ◌∙◌, ap}
use Rattle.otel_layer.proofs.Common.{own_context_if_known}
use Rattle.otel_layer.proofs.TableLemmas.{no_gap, found_read, found_update, found_same, found_ids, not_read}
use Rattle.otel_layer.proofs.StartsLemmas.{started_in, shown_in, unstarted}
use Rattle.otel_layer.proofs.table.start.Goals as goal

pub returns-in-Some-state-clause-starts : goal.returns-in-Some-state-clause-starts
returns-in-Some-state-clause-starts g c =
    let span_data = c.start_state.new.state.span_data in
    started_in g.T.Tracer.does c.args.id c.args.at _ _ _ _ c.in-Some-state.state.span_data span_data (found_read (λ s. s.span_data) c.args.id c.args.entries.now c.in-Some.place c.index-entries-place.result c.in-Some-state.state (sym c.find.ensures ∙ c.in-Some.is) c.in-Some-state.is)
    (found_update c.args.id (λ _. span_data) c.args.entries.now c.in-Some.place c.index-entries-place.result _ c.in-Some-state.state c.start_state.new.state (sym c.find.ensures ∙ c.in-Some.is) c.in-Some-state.is refl refl refl) c.start_state.ensures.starts

pub returns-in-Some-state-clause-context : goal.returns-in-Some-state-clause-context
returns-in-Some-state-clause-context g c =
    let span_data = c.start_state.new.state.span_data in
    ap (λ x. Some x) c.start_state.ensures.context
    ∙ shown_in g.T.Tracer.does c.args.id c.args.at _ c.args.tracer.now c.args.tracer.now _ c.in-Some-state.state.span_data span_data (found_read (λ s. s.span_data) c.args.id c.args.entries.now c.in-Some.place c.index-entries-place.result c.in-Some-state.state (sym c.find.ensures ∙ c.in-Some.is) c.in-Some-state.is)
    (found_update c.args.id (λ _. span_data) c.args.entries.now c.in-Some.place c.index-entries-place.result _ c.in-Some-state.state c.start_state.new.state (sym c.find.ensures ∙ c.in-Some.is) c.in-Some-state.is refl refl refl)

pub returns-in-Some-state-clause-rooms : goal.returns-in-Some-state-clause-rooms
returns-in-Some-state-clause-rooms g c =
    found_same (λ s. s.room) c.args.id c.args.entries.now c.in-Some.place c.index-entries-place.result _ c.in-Some-state.state c.start_state.new.state (sym c.find.ensures ∙ c.in-Some.is) c.in-Some-state.is refl refl c.start_state.ensures.room

pub returns-in-Some-state-clause-ids : goal.returns-in-Some-state-clause-ids
returns-in-Some-state-clause-ids g c = found_ids c.args.id c.args.entries.now c.in-Some.place c.index-entries-place.result _ (sym c.find.ensures ∙ c.in-Some.is) refl

pub unreachable-requires : goal.unreachable-requires
unreachable-requires g c = no_gap c.args.id c.args.entries.now c.in-Some.place c.index-entries-place.result (sym c.find.ensures ∙ c.in-Some.is) c.in-None-state.is

pub returns-in-None-clause-starts : goal.returns-in-None-clause-starts
returns-in-None-clause-starts g c = unstarted g.T.Tracer.does c.args.id c.args.at _ _ c.args.tracer.now (not_read (λ s. s.span_data) c.args.id c.args.entries.now (sym c.find.ensures ∙ c.in-None.is))

pub returns-in-None-clause-context : goal.returns-in-None-clause-context
returns-in-None-clause-context g c = sym (ap own_context_if_known (not_read (λ s. s.span_data) c.args.id c.args.entries.now (sym c.find.ensures ∙ c.in-None.is)))
