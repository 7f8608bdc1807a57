-- Names of other modules that proofs of the crate import, passed on from one place. Declares nothing.
pub use Rattle.span_handles.specs.Handles.{HasOn, HeldSpan, as_parent}
pub use Rattle.env_filter.specs.Filtering.{plain_filter}
pub use Rattle.span_stack.specs.Reading.{StackWorld, stack_interest}
pub use Rattle.span_script.proofs.entries.EntriesLemmas.{by_view_opens, by_view_opens_refused, entered_is, entered_ok, entered_refused, keeps_entered, keeps_exited, serves_entered, serves_exited}
pub use Rattle.span_script.proofs.fields.FieldsLemmas.{all_given, keeps_asked, keeps_recorded, needs_site, not_given, refuses_event, refuses_new, serves_asked, serves_recorded}
pub use Rattle.span_script.proofs.filter.CounterLemmas.{stack_same}
pub use Rattle.span_script.proofs.filter.FilterLemmas.{stack_shows}
pub use Rattle.span_script.proofs.filter.GateLemmas.{is_current}
pub use Rattle.span_script.proofs.filter.ReloadsLemmas.{keeps_enabled, keeps_reloaded, serves_enabled, serves_reloaded}
pub use Rattle.span_script.proofs.lane_contexts.ContextsLemmas.{keeps_context, keeps_remote, serves_context, serves_remote}
pub use Rattle.span_script.proofs.links.ExtensionLemmas.{keeps_link, keeps_op, keeps_parent, keeps_status, left_kept, left_link_kept, left_link_state, left_state, refuses_context, serves_event, serves_link, serves_op, serves_parent, serves_status}
pub use Rattle.span_script.proofs.runs.RefusalsLemmas.{effect_is, refuses_unknown, steps_ok, steps_refused}
pub use Rattle.span_script.proofs.runs.RunLemmas.{Reached, opened_outcome, opened_replies, outcome_is, reached_next}
pub use Rattle.span_script.proofs.runs.TakeLemmas.{kept_taken, oldest_by, state_taken}
pub use Rattle.span_script.proofs.spans.CurrentsLemmas.{keeps_current, keeps_exchanged, refuses_in_use, serves_current, serves_exchanged}
pub use Rattle.span_script.proofs.spans.MakingsLemmas.{keeps_new, made_alike, make_may, make_may_named, serves_new, tell_live}
pub use Rattle.span_script.proofs.spans.OpenCountLemmas.{counts_held, counts_none, open_counted}
pub use Rattle.span_script.proofs.steps.BalanceLemmas.{set_none}
pub use Rattle.span_script.proofs.steps.LanesLemmas.{has_own, on_err, own_serves, own_lane, own_there, refused_kept, refused_state, same_kept, same_state, within_view}
pub use Rattle.span_script.proofs.steps.RequiresLemmas.{exit_may, exit_still, guard_entry, guard_named, needs_few, needs_known, needs_there, needs_whole}
pub use Rattle.span_script.proofs.steps.ServesLemmas.{by_view, by_view_error, by_view_refused, serves_refusal}
pub use Rattle.span_script.specs.Fields.{Fields, all_values, declared_value}
pub use Rattle.span_script.specs.Fits.{StandsFor, PipelineState, held_by, held_of, stack_views, without_oldest_record, without_oldest_measure}
pub use Rattle.span_script.specs.Setups.{event_site, id_at, setup_by, span_site}
pub use Rattle.span_script.specs.Slots.{values_or_refusal, names_handle, parent_for}
pub use Rattle.span_script.specs.Tables.{Scope, Tables, slot_at, tables}
pub use Rattle.trace_pipeline.specs.Parts.{parts_of}
