-- The span is found, or isn't known.
use Rattle.std.proofs.Common.{sym, refl, ◌∙◌}
use Rattle.otel_layer.proofs.TableLemmas.{no_gap, found_read, found_update, found_ids, not_read}
use Rattle.otel_layer.proofs.StartsLemmas.{entered_in}
use Rattle.otel_layer.proofs.table.enter.Goals as goal

pub returns-in-Some-state-clause-enters : goal.returns-in-Some-state-clause-enters
returns-in-Some-state-clause-enters g c =
    let span_data = c.enter_state.new.state.span_data in
    let e = c.enter_state.ensures in
    entered_in g.T.Tracer.does c.args.id c.args.at _ _ _ _ c.in-Some-state.state.span_data e.0 span_data c.enter_state.result (found_read (λ s. s.span_data) c.args.id c.args.entries.now c.in-Some.place c.index-entries-place.result c.in-Some-state.state (sym c.find.ensures ∙ c.in-Some.is) c.in-Some-state.is)
    (found_update c.args.id (λ _. span_data) c.args.entries.now c.in-Some.place c.index-entries-place.result _ c.in-Some-state.state c.enter_state.new.state (sym c.find.ensures ∙ c.in-Some.is) c.in-Some-state.is refl refl refl) e.1 e.2 e.3

pub returns-in-Some-state-clause-ids : goal.returns-in-Some-state-clause-ids
returns-in-Some-state-clause-ids g c = found_ids c.args.id c.args.entries.now c.in-Some.place c.index-entries-place.result _ (sym c.find.ensures ∙ c.in-Some.is) refl

pub unreachable-requires : goal.unreachable-requires
unreachable-requires g c = no_gap c.args.id c.args.entries.now c.in-Some.place c.index-entries-place.result (sym c.find.ensures ∙ c.in-Some.is) c.in-None-state.is

pub returns-in-None-clause-enters : goal.returns-in-None-clause-enters
returns-in-None-clause-enters g c = (not_read (λ s. s.span_data) c.args.id c.args.entries.now (sym c.find.ensures ∙ c.in-None.is), refl, refl)
