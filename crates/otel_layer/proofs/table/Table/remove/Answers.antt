-- One state fewer, and the ids rise where they rose.
use Rattle.std.proofs.Common.{rules, ◌≡◌, List, length, sym, ap, ◌∙◌, option_map}
use Rattle.otel_layer.proofs.Common.{remove_entry, Entry, entry_ids, all_data, data_at, is_id}
use Rattle.otel_layer.proofs.RisingIdsLemmas.{removed_kept}
use Rattle.otel_layer.proofs.StartsLemmas.{known, unknown, removed_unknown}
use Rattle.otel_layer.proofs.TableLemmas.{none_at}
use Rattle.otel_layer.proofs.table.Table.remove.Goals as goal

pub invariant_of-self : goal.invariant_of-self
invariant_of-self c =
    let old : List Entry = c.self.inside.entries.items in
    let now = c.take-state.new.entries in
    let as_many : length now ≡ c.self.inside.entries.len = search rules in
    let same = c.take-state.ensures.ids ∙ ap (λ (xs : List Entry). entry_ids xs) c.as_mut_slice.ensures.value in
    let rest = c.take-state.ensures.rest ∙ ap (λ (xs : List Entry). remove_entry (is_id c.args.id) (all_data xs)) c.as_mut_slice.ensures.value in
    let is = sym (ap (λ (xs : List Entry). data_at c.args.id (all_data xs)) c.as_mut_slice.ensures.value) ∙ c.take-state.ensures.span_data in
    removed_kept c.self.inside.rising c.self.inside.known c.args.id c.self.inside.entries.len old now _ as_many same rest (known c.args.id (all_data old) c.take-state.result.span_data is) c.close_gaps.ensures.span_data c.close_gaps.ensures.rises c.self.invariant

pub returns-in_err-place-clause-span_data : goal.returns-in_err-place-clause-span_data
returns-in_err-place-clause-span_data c =
    ap (λ o. option_map (λ s. s.span_data) o) c.from_residual.ensures ∙ sym (none_at (λ s. s.span_data) c.args.id c.self.inside.entries.items _ c.as_slice.ensures.value (sym c.find.ensures ∙ c.in_err-place.was))
    ∙ ap (λ s. data_at c.args.id s.spans) c.self.view_is

pub returns-in_err-place-clause-spans : goal.returns-in_err-place-clause-spans
returns-in_err-place-clause-spans c =
    let none = none_at (λ s. s.span_data) c.args.id c.self.inside.entries.items _ c.as_slice.ensures.value (sym c.find.ensures ∙ c.in_err-place.was) in
    sym (removed_unknown c.args.id c.args.self.now.spans (unknown c.args.id c.args.self.now.spans (sym (ap (λ s. data_at c.args.id s.spans) c.self.view_is) ∙ none)))
