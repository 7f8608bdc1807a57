-- Names of other modules that proofs of the crate import, passed on from one place. Declares nothing.
pub use Rattle.std.proofs.Common.{Bool, Bor, Equal, Err, FitsSigned, Global, Greater, IfSome, IsOk, Less, List, MatchOption, MatchResult, None, Ok, OnOk, Option, Ordering, Result, Some, String, [], ap, append-nil, append_assoc, ap₂, arith, bytes_eq, codes, cond, decimal, drop, drop_of_length-le, false, get_or, if◌then◌else◌, is_eq, is_some, length, length-append, map, nat_cmp, nat_eq, nat_le, nat_lt, neg_ℤ, negsuc, not, ok_or, option_and_then, option_map, pos, refl, remove, replicate, rules, slice_get, slice_set, string_bytes, subst, suc, sym, take, true, true≢false, unwrap_or, w64, zero, ℕ, ℤ, ◌%◌, ◌&&◌, ◌*◌, ◌++◌, ◌+◌, ◌-◌, ◌/◌, ◌<◌, ◌==◌, ◌^◌, ◌||◌, ◌∙◌, ◌∷◌, ◌≡◌, ◌≢◌, ◌≤◌}
pub use Rattle.json.proofs.Printed.Decimals.{IsNumber-decimal, IsNumber-signed_decimal}
pub use Rattle.json.proofs.Printed.Utf8.{IsUtf8-are_ascii, IsUtf8-quoted, are_ascii}
pub use Rattle.json.specs.Print.{escape, quoted}
unfoldable pub use Rattle.json.specs.Print.{escape_byte}
pub use Rattle.json.specs.Tree.{HasNumbers, ItemsHaveNumbers, MembersHaveNumbers, depth, items_depth, json_tokens, members_depth}
pub use Rattle.serde_json.proofs.Numbers.{number_of-decimal, number_of-negative}
unfoldable pub use Rattle.serde_json.proofs.OnLiterals.{serde_json_on_literals}
pub use Rattle.serde_json.proofs.Views.{Entry, view-Array, view-lookup}
pub use Rattle.serde_json.specs.Data.{Data, Items, Members, Num, array, boolean, float, item, member, negative, no_items, no_members, null, number, object, put, string, unsigned}
pub use Rattle.serde_json.specs.Find.{as_array, as_bool, as_object, as_str, get_member, of_integer}
pub use Rattle.serde_json.specs.Read.{max_depth, of_items, of_json, of_members, read}
pub use Rattle.serde_json.specs.View.{items_of, items_view, members_view, view}
pub use Rattle.serde_json.specs.Written.{comma_if, compact_text, items_outline, items_text, members_outline, members_text, number_text, outline}
pub use Rattle.std.proofs.Math.Nat.{pow-le-pow_right, pow-succ'}
pub use Rattle.std.proofs.lemmas.Bool.{and_parts, both_ways, eqb-false, false_from_ne_true, not-true, or_parts}
pub use Rattle.std.proofs.lemmas.Bool.Decides.{Decides-eqb, nat_tests}
pub use Rattle.std.proofs.lemmas.Cmp.{nat_list_cmp_total, tied_itself}
pub use Rattle.std.proofs.lemmas.Fmt.{IsAscii-decimal, decimal_by_steps, decimal_digit, decimal_is_IsNumeral_wide, decimal_step, length-decimal-le, parse-decimal_wide}
pub use Rattle.std.proofs.lemmas.List.{drop-set, drop_more, set-append_right, take_rest}
pub use Rattle.std.proofs.lemmas.List.Folds.{list_all-append, list_any-append}
pub use Rattle.std.proofs.lemmas.Slice.Eq.{bytes_eq-Decides, strip_prefix_is}
pub use Rattle.std.proofs.lemmas.Str.{IsUtf8-append, IsUtf8-from_ascii, IsUtf8-from_is_utf8, IsUtf8-nil, is_utf8-from_IsUtf8}
pub use Rattle.std.specs.BTreeMap.{is_at}
pub use Rattle.std.specs.BTreeSet.{contains}
pub use Rattle.std.specs.Cmp.Lexicographic.{pointwise, slice_cmp}
pub use Rattle.std.specs.Fmt.{digit_glyph, digits_onto, signed_decimal}
unfoldable pub use Rattle.std.specs.Fmt.{digits}
pub use Rattle.std.specs.List.{list_all, list_any}
pub use Rattle.std.specs.Ordering.{match_ordering, ordering_reverse, ordering_then}
unfoldable pub use Rattle.std.specs.Str.{is_utf8}
pub use Rattle.std.specs.Str.Parse.{AllDigits, IsNumeral, ParsesUnsigned, digits_value, starts_with_minus}
pub use Rattle.std.specs.Vec.Iter.{into_iter_items}
pub use Rattle.otel_base.specs.declared.record.Record.{Record}
pub use Rattle.trace_base.specs.declared.field.Value.{Value}
pub use Rattle.span_script.specs.Admission.{OpeningRead, opening_read}
pub use Rattle.span_script.specs.Effects.{effect_of, effect_of_call, is_bad_moment}
pub use Rattle.span_script.specs.Setups.{HaveDistinctIds, Setup, id_at, setup_by}
pub use Rattle.span_script.specs.Tables.{Attached, Effect, EntryOf, History, Scope, ScopeGuard, Tables, after_effect, is_attached_by, records_of, scope_of, slot_at, tables, with_attached, with_detached}
pub use Rattle.span_script.specs.calls.Here.{Resolved, here_at}
pub use Rattle.span_script.specs.declared.request.Call.{Call}
pub use Rattle.span_script.specs.declared.request.Request.{Request}
pub use Rattle.span_script.specs.declared.request.TheConstants.{LAST_MOMENT}
pub use Rattle.trace_lines.specs.Generated.{generated_lines, generated_requests, generated_script, generated_settings, generated_setup, generated_site, request_line, request_members, root_fields, requests_of_round, requests_of_rounds, row_fields, generated_settings_line}
pub use Rattle.trace_lines.specs.Lines.{is_blank, lines_of}
pub use Rattle.trace_lines.specs.Replay.{history_after, history_unless_refused}
unfoldable pub use Rattle.trace_lines.specs.Replay.{summary_text}
pub use Rattle.trace_lines.specs.Report.{IsValid, Report, accepts, answer_count, answer_text, effect_of_request, report_from, report_on, report_on_effect, report_on_opening, report_on_settings, step_or_refusal, with_text_before}
unfoldable pub use Rattle.trace_lines.specs.Report.{effect_of_line}
pub use Rattle.trace_lines.specs.declared.read.syntax.scan.TheConstants.{MAX_DEPTH}
pub use Rattle.trace_lines.specs.declared.told.Told.TheVariants.{BadLine}
pub use Rattle.trace_lines.specs.forms.AttributeForm.{attribute_spelled, key_value, text_list_of, otel_value_of, status_spelled}
unfoldable pub use Rattle.trace_lines.specs.forms.AttributeForm.{error_status_form}
pub use Rattle.trace_lines.specs.forms.FieldForm.{field_data, field_of, fields_of, value_spelled}
unfoldable pub use Rattle.trace_lines.specs.forms.FieldForm.{error_form, typed_form}
pub use Rattle.trace_lines.specs.forms.Forms.{all_of, as_whole, if_at_most, each, no_more, object_of, pair_with, unit_if, without_member}
unfoldable pub use Rattle.trace_lines.specs.forms.RequestForm.{attach_form, clone_form, context_form, detach_form, drop_form, enabled_form, enter_form, entered_form, event_form, exit_form, has_field_form, new_form, or_current_form, record_form, reload_form, remote_form, request_form}
pub use Rattle.trace_lines.specs.forms.SettingsForm.{GivenLane, all_differ, lane_ids}
unfoldable pub use Rattle.trace_lines.specs.forms.SettingsForm.{callsite_form, error_flags, lane_form, layer_form, settings_form, span_flags}
pub use Rattle.trace_lines.specs.reading.Left.{members_left, value_data}
pub use Rattle.trace_lines.specs.reading.Object.{array_of, by_name, items}
unfoldable pub use Rattle.trace_lines.specs.reading.Object.{line_of}
pub use Rattle.trace_lines.specs.reading.Placed.{Before, FindsMember, FitsIn}
pub use Rattle.trace_lines.specs.reading.Spelled.{line_members, line_value}
unfoldable pub use Rattle.trace_lines.specs.reading.Spelled.{request_spelled, settings_spelled}
pub use Rattle.trace_lines.specs.text.Compact.{BeginsItems, BeginsMembers, BeginsNested, BeginsWithValue, ReadsValue, members_of, nested_value, with_members_first, plain_data}
pub use Rattle.trace_lines.specs.text.Decimals.{negative_of, nonnegative_of, i128_of_word, if_decimal}
unfoldable pub use Rattle.trace_lines.specs.text.Decimals.{u128_of_word}
pub use Rattle.trace_lines.specs.text.Hex.{digit_value, with_more_digits, hex32}
unfoldable pub use Rattle.trace_lines.specs.text.Hex.{hex16, number_of_hex}
unfoldable pub use Rattle.trace_lines.specs.text.Texts.{end_text, measure_text, measures_end_text, record_text, refusal_text, reply_text}
pub use Rattle.trace_lines.specs.text.Writes.{AddsText}
pub use Rattle.trace_lines.specs.values.Building.{with_lane}
pub use Rattle.trace_lines.specs.values.FieldData.{AreAttributesInRange, AreValuesInRange, HasBits, IsOtelValueInRange, IsValueInRange, written_field, written_value}
pub use Rattle.trace_lines.specs.values.RecordData.{attribute_data, attribute_value, attributes_data, event_data, kind_name, lane_members, lane_text, link_data, status_data}
unfoldable pub use Rattle.trace_lines.specs.values.RecordData.{record_object}
