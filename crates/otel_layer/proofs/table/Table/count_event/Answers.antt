-- An event leaves the ids, and as many states.
use Rattle.std.proofs.Common.{rules, ◌≡◌, List, length, ap, ◌∙◌, ℕ}
use Rattle.otel_layer.proofs.Common.{SpanData, Entry, entry_ids, all_data, after_counted, update}
use Rattle.otel_layer.proofs.Gaps.{updated_count}
use Rattle.otel_layer.proofs.RisingIdsLemmas.{kept_whole}
use Rattle.otel_layer.proofs.table.Table.count_event.Goals as goal

pub invariant_of-self : goal.invariant_of-self
invariant_of-self c =
    let old : List Entry = c.self.inside.entries.items in
    let now = c.count_event_of_id.new.entries in
    let as_many : length now ≡ c.self.inside.entries.len = search rules in
    let span_data = c.count_event_of_id.ensures.span_data ∙ ap (λ (xs : List Entry). update c.args.id (after_counted c.args.is_taken c.args.at c.args.op) (all_data xs)) c.as_mut_slice.ensures.value in
    let same = c.count_event_of_id.ensures.ids ∙ ap (λ (xs : List Entry). entry_ids xs) c.as_mut_slice.ensures.value in
    kept_whole c.self.inside.rising c.self.inside.known c.self.inside.entries.len old now as_many same (ap (λ (es : List (ℕ × SpanData)). length es) span_data ∙ updated_count c.args.id (after_counted c.args.is_taken c.args.at c.args.op) (all_data old)) c.self.invariant
