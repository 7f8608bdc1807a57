use Rattle.trace_lines.proofs.Common.{Call, None, Some, attach_form, clone_form, context_form, detach_form, drop_form, enabled_form, enter_form, entered_form, event_form, exit_form, has_field_form, new_form, object_of, or_current_form, record_form, refl, reload_form, remote_form, request_form, ℕ, ◌≡◌}
use Rattle.span_script.specs.declared.request.Call.TheVariants as call
use Rattle.span_script.specs.declared.request.RequestParent.TheVariants as request_parent
use Rattle.trace_lines.specs.forms.ExtensionForm.{follows_form, set_parent_form, add_link_form, set_attribute_form, set_status_form, add_event_form}
use Rattle.trace_lines.specs.values.RequestData.{IsInRange, request_of, request_data}
use Rattle.trace_lines.proofs.readings.AttributesLemmas.{otel_read, attributes_read, status_read, time_read}
use Rattle.trace_lines.proofs.readings.FieldsLemmas.{fields_read}
use Rattle.trace_lines.proofs.readings.IdsLemmas.{id_read, long_id_read}
use Rattle.trace_lines.proofs.read.laws.every_request.Goals as goal

is_read : (at lane : ℕ) (call : Call) → IsInRange call → object_of request_form (request_data (request_of at lane call)) ≡ Some (request_of at lane call)
unfolding request_form new_form clone_form or_current_form drop_form enter_form entered_form exit_form record_form has_field_form event_form remote_form context_form attach_form detach_form follows_form set_parent_form add_link_form set_attribute_form set_status_form add_event_form enabled_form reload_form
is_read at lane (call.New site request_parent.Contextual fields) range = rw (fields_read fields range) refl
is_read at lane (call.New site request_parent.Root fields) range = rw (fields_read fields range) refl
is_read at lane (call.New site (request_parent.Under handle) fields) range = rw (fields_read fields range) refl
is_read at lane call.Current range = refl
is_read at lane (call.Clone handle) range = refl
is_read at lane (call.OrCurrent handle) range = refl
is_read at lane (call.Drop handle) range = refl
is_read at lane (call.Enter handle) range = refl
is_read at lane (call.Entered handle) range = refl
is_read at lane (call.Exit guard) range = refl
is_read at lane (call.Record handle fields) range = rw (fields_read fields range) refl
is_read at lane (call.HasField handle name) range = refl
is_read at lane (call.Event site request_parent.Contextual fields) range = rw (fields_read fields range) refl
is_read at lane (call.Event site request_parent.Root fields) range = rw (fields_read fields range) refl
is_read at lane (call.Event site (request_parent.Under handle) fields) range = rw (fields_read fields range) refl
is_read at lane (call.Remote ids) range = rw (long_id_read ids.trace range.0, id_read ids.span range.1) refl
is_read at lane (call.Context handle) range = refl
is_read at lane (call.Attach context) range = refl
is_read at lane (call.Detach guard) range = refl
is_read at lane (call.Follows handle from) range = refl
is_read at lane (call.SetParent handle context) range = refl
is_read at lane (call.AddLink handle context attributes) range = rw (attributes_read attributes range) refl
is_read at lane (call.SetAttribute handle key value) range = rw (otel_read value range) refl
is_read at lane (call.SetStatus handle status) range = rw (status_read status) refl
is_read at lane (call.AddEvent handle name attributes None) range = rw (attributes_read attributes range.0) refl
is_read at lane (call.AddEvent handle name attributes (Some time)) range = rw (attributes_read attributes range.0, time_read time range.1) refl
is_read at lane (call.Enabled site) range = refl
is_read at lane (call.Reload text) range = refl

pub returns : goal.returns
returns c = is_read
