-- The entry that was found is left as a gap.
use Rattle.std.proofs.Common.{sym, refl, ◌∙◌}
use Rattle.otel_layer.proofs.TableLemmas.{no_gap, found_read, found_removed, found_ids}
use Rattle.otel_layer.proofs.table.take.Goals as goal

pub unreachable-requires : goal.unreachable-requires
unreachable-requires c = no_gap c.args.id c.args.entries.now c.args.place c.index-entries-place.result c.requires (sym c.take.ensures.value ∙ c.in-None.is)

pub returns-clause-span_data : goal.returns-clause-span_data
returns-clause-span_data c = found_read (λ s. s.span_data) c.args.id c.args.entries.now c.args.place c.index-entries-place.result c.in-Some.state c.requires (sym c.take.ensures.value ∙ c.in-Some.is)

pub returns-clause-rest : goal.returns-clause-rest
returns-clause-rest c = found_removed (λ s. s.span_data) c.args.id c.args.entries.now c.args.place c.index-entries-place.result _ c.in-Some.state c.requires (sym c.take.ensures.value ∙ c.in-Some.is) c.take.ensures.after

pub returns-clause-ids : goal.returns-clause-ids
returns-clause-ids c = found_ids c.args.id c.args.entries.now c.args.place c.index-entries-place.result _ c.requires refl
