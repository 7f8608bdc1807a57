-- Names of other modules that proofs of the crate import, passed on from one place. Declares nothing.
pub use Rattle.std.proofs.Math.Utf8.{scalar, scalars}
unfoldable pub use Rattle.std.proofs.Math.Utf8.{encode}
pub use Rattle.std.proofs.lemmas.Bool.{and_from, and_parts, cases_Bool, cases_eq, cases_lt, cond-false, cond-true}
pub use Rattle.std.proofs.lemmas.Bool.Decides.{nat_tests}
pub use Rattle.std.proofs.lemmas.List.{length_push, map-append, reverse-append, take_more}
pub use Rattle.std.proofs.lemmas.List.Folds.{find-append, list_any-append, list_any_at}
pub use Rattle.std.proofs.lemmas.Str.{IsCharBoundary-after_ascii, IsCharBoundary-before_ascii, IsUtf8-append, IsUtf8-drop, IsUtf8-from_ascii, IsUtf8-nil, IsUtf8-take, encodes-chars, scalars-chars}
pub use Rattle.std.specs.Fmt.{HasWritten, IsPlainFormatter}
pub use Rattle.std.specs.List.{AllByRecursion, join_by, list_all, list_any, onto_first}
pub use Rattle.std.specs.Option.{option_cmp, option_or}
pub use Rattle.std.specs.Ordering.{match_ordering, ordering_then}
pub use Rattle.std.specs.Str.{drop_trailing_whitespace, skip_leading_whitespace, trim}
unfoldable pub use Rattle.std.specs.Str.{trim_end, trim_start}
pub use Rattle.trace_base.proofs.InterestLemmas.{fresh_admits}
pub use Rattle.trace_base.specs.Gate.{AdmitsFresh, WorldValue, dispatch_on, gate}
pub use Rattle.trace_base.specs.Spans.{Span, Spans, current_of, entries_on, with_hold_of_child, is_in, span_without_hold, parent_on, span_at, times_in, with_hold, without_hold, without_last}
pub use Rattle.trace_base.specs.declared.callsite.Callsite.{Callsite}
pub use Rattle.trace_base.specs.declared.field.Value.{Value}
pub use Rattle.trace_base.specs.declared.level.Level.{Level}
pub use Rattle.trace_base.specs.declared.level.LevelFilter.{LevelFilter}
pub use Rattle.trace_base.specs.declared.level.LevelFilter.TheVariants.{OFF}
pub use Rattle.trace_base.specs.lanes.Contexts.{AreAttached, CallKeepsLanes}
pub use Rattle.trace_base.specs.layers.Hooks.{Hook, OnClose, OnEnter, OnEvent, OnExit, OnFollows, OnNewSpan, OnRecord}
pub use Rattle.trace_base.specs.layers.Unseeing.{LeavesLanes, no_known_spans}
pub use Rattle.trace_base.specs.words.Level.{level_filter_text, greatest_verbosity, is_within}
pub use Rattle.span_registry.specs.Both.{DoesBoth, hint_both, joint_interest}
pub use Rattle.env_directives.proofs.cuts.PiecesLemmas.{Gives, first_piece, no_piece}
pub use Rattle.env_directives.proofs.printed.TrimLemmas.{printed_trimmed, trim_utf8}
pub use Rattle.env_directives.specs.Meeting.{meets}
pub use Rattle.env_directives.specs.declared.directive.StaticDirective.{StaticDirective}
pub use Rattle.env_directives.specs.declared.env.directive.Directive.{Directive}
pub use Rattle.env_directives.specs.declared.env.field.Match.{Match}
pub use Rattle.env_directives.specs.orders.DirectiveOrder.{directive_cmp}
pub use Rattle.env_directives.specs.orders.StaticOrder.{most_specific_first, target_length}
pub use Rattle.env_directives.specs.orders.Table.{IsTableOf, DirectiveTable, empty_table, greatest_of, more_verbose, with_added, with_all_added, with_item_in_order}
pub use Rattle.env_directives.specs.printed.Printed.{HasNoMinusZero, bracket_text, directive_text, equals_text, fields_text, has_bracket, match_text, text_if_any, value_text}
pub use Rattle.env_directives.specs.printed.StaticPrinted.{comma_joined, static_text}
pub use Rattle.env_directives.specs.reading.Cuts.{is_among, lacks, pieces_at}
pub use Rattle.env_directives.specs.reading.Forms.{DirectiveForm, Front, IsDirective, IsDirectiveFront, IsFieldText, IsForm, alone, bare, begins_as_directive, directive_at, directive_of_form, fields_with_commas, fielded, form_text, front_text, head_alone, head_comma, level_behind, level_or_target, leveled, leveled_comma, spanned, directive_of_target, unless_empty}
pub use Rattle.env_directives.specs.reading.Separators.{comma_pieces}
pub use Rattle.env_filter.specs.Filtering.{IsWholeFilter, DoesFilter, Each, FilterState, FilterWithRoom, IsAtMostLevel, IsNewFilter, after_hook, asks_value, enables_in, fresh_filter, hint_in, interest_in, levels_admit, plain_filter, span_level}
pub use Rattle.env_filter.specs.Gating.{first_below, gate_is_admitted, second_below}
pub use Rattle.env_filter.specs.Reloading.{BothOrNeither, HoldsInPlace, layer_or, never_enabled, none_kept, sometimes}
pub use Rattle.env_filter.specs.Tables.{with_all_static, dynamics_of, filter_of, fixed_directive, fixed_field, has_no_directives, is_dynamic, is_static, or_default, with_in_table, static_of, statics_of, with_directive, with_tables}
pub use Rattle.env_filter.specs.Worlds.{AdmitsBy, EachSubscriber, GateFollows, IsWholeInPlace, filter_rule, in_place_rule}
pub use Rattle.env_filter.specs.declared.pieces.Ignored.{Ignored}
pub use Rattle.env_filter.specs.declared.watch.Ask.{Ask}
pub use Rattle.env_filter.specs.declared.watch.Care.{Care}
pub use Rattle.env_filter.specs.spans.Histories.{AreInOrder, HasNoCalls, MayComeNext, NeverFalls, all_values_given, is_close_of, is_ended, is_met, level_by, level_by_calls, level_if, levels_after_call, levels_by_calls, levels_from, callsite_by_calls, callsite_if_made, greatest_from, values_given_by}
pub use Rattle.env_filter.specs.spans.Levels.{LaneLevels, OpenLevel, is_of_span, open_levels}
pub use Rattle.env_filter.specs.spans.Watching.{MatchState, all_asks, asks_of, cares_of, found_in, is_given, level_from, level_of_match, match_state_by, more_met, new_match_state, with_met_at, with_values}
pub use Rattle.env_filter.specs.texts.Building.{HasFilterFault, HasFilterFaultAt, IsFilterOf}
pub use Rattle.env_filter.specs.texts.Pieces.{AddsPiece, IsFirstFault, IsIgnored, ReadsAll, ReadsFirst, ReadsPiece, ReadsText, is_memory, texts_of}
pub use Rattle.env_filter.specs.texts.Printing.{HasOwnGreatest, HaveNoMinusZero, IsReadBack, as_directive, bare_field, behind_commas, dynamics_text, fixed_builder, printed_directives, printed_of, text_of}
