-- Names of other modules that proofs of the crate import, passed on from one place. Declares nothing.
pub use Rattle.regex.specs.Patterns.{Config, Re, default_config}
unfoldable pub use Rattle.regex.specs.Patterns.{Reads, find_str}
pub use Rattle.regex.specs.Strings.{IsReadFromSource, regex_config, regex_pattern, regex_source}
pub use Rattle.regex.specs.declared.string.regex.Regex.{Regex}
pub use Rattle.std.proofs.Math.Seq.{drop-append_seam, get_or-append_seam, take-append_seam}
pub use Rattle.std.proofs.Math.Utf8.{scalar, scalars}
pub use Rattle.std.proofs.lemmas.Bool.{cases_lt}
pub use Rattle.std.proofs.lemmas.Bool.Decides.{nat_tests}
pub use Rattle.std.proofs.lemmas.Grind.{common_steps, flat_map-append}
pub use Rattle.std.proofs.lemmas.Iterator.Splits.{YieldsList-from_str_split}
pub use Rattle.std.proofs.lemmas.List.{map-append, nil_from_length, reverse-append, take-append-le}
pub use Rattle.std.proofs.lemmas.Map.Keys.{Less-from_sorted, sorted_head, sorted_tail}
pub use Rattle.std.proofs.lemmas.Str.{IsCharBoundary-after_ascii, IsCharBoundary-before_ascii, IsUtf8-take, chars-append, chars-encodes, encode_ascii, encodes-chars, inside_one, scalars-chars}
pub use Rattle.std.proofs.lemmas.Str.Pattern.{ends_text, starts_text}
pub use Rattle.std.specs.Char.{is_ascii_digit, is_whitespace}
pub use Rattle.std.specs.Cmp.{Equal-is, IsTotalOrder, alike_right, first_so, second_so, tied_back, tied_itself}
pub use Rattle.std.specs.Cmp.Lexicographic.{bytes_decides, pointwise, slice_cmp}
pub use Rattle.std.specs.Fmt.{HasWritten, IsPlainFormatter}
pub use Rattle.std.specs.List.{AllByRecursion, AllWithin, ends_with, list_all, refill, starts_with}
pub use Rattle.std.specs.List.Sorted.{IsNonDecreasingBy}
unfoldable pub use Rattle.std.specs.List.Sorted.{IsStrictlySortedBy}
pub use Rattle.std.specs.Option.{option_cmp, option_map_or, option_or}
pub use Rattle.std.specs.Ordering.{bool_cmp, match_ordering, ordering_index, ordering_reverse, ordering_then}
pub use Rattle.std.specs.Str.{all_ascii_digits, drop_trailing_whitespace, skip_leading_whitespace, trim}
unfoldable pub use Rattle.std.specs.Str.{trim_end, trim_start}
pub use Rattle.std.specs.Str.Parse.{IsNumeral, digits_value, signed_digits_value, starts_with_minus, without_leading_plus, without_leading_sign}
pub use Rattle.std.specs.Str.Pattern.{CutsSuffixes, FindsChar, FindsText, FindsTextSuffix, HasMatch, IsTrimEndMatches, LacksTextAt}
pub use Rattle.std.specs.Vec.Iter.{into_iter_items}
unfoldable pub use Rattle.ucd_derived.proofs.Computing.{ucd_derived}
pub use Rattle.trace_base.proofs.LevelNumbers.{digits_pass, number_of_numeral, numeral_number}
pub use Rattle.trace_base.specs.declared.level.LevelFilter.{LevelFilter}
pub use Rattle.trace_base.specs.declared.level.LevelFilter.TheVariants.{TRACE}
pub use Rattle.trace_base.specs.words.Level.{level_filter_text, greatest_verbosity}
pub use Rattle.trace_base.specs.words.LevelWords.{decimal_value, level_filter_of}
unfoldable pub use Rattle.trace_base.specs.words.LevelWords.{digits_number, filter_of_word, named_level_filter}
pub use Rattle.env_directives.specs.Cares.{cares, cares_about_target, covers, declares_all}
pub use Rattle.env_directives.specs.Patterns.{IsCompiled, whole_pattern}
unfoldable pub use Rattle.env_directives.specs.Patterns.{is_matched}
pub use Rattle.env_directives.specs.Targets.{with_statics, pair_directive, pairs, same_directive, statics_of, targets_of, with_static}
pub use Rattle.env_directives.specs.declared.directive.ParseError.{ParseError}
pub use Rattle.env_directives.specs.declared.directive.ParseError.TheVariants.{Equals, Field, Fields, Level, Memory, Pattern, Shape}
pub use Rattle.env_directives.specs.declared.directive.StaticDirective.{StaticDirective}
pub use Rattle.env_directives.specs.declared.env.directive.Directive.{Directive}
pub use Rattle.env_directives.specs.declared.env.field.Match.{Match}
pub use Rattle.env_directives.specs.declared.env.field.ValueMatch.{ValueMatch}
pub use Rattle.env_directives.specs.declared.env.field.ValueMatch.TheVariants.{Debug, I64, Pat, U64}
pub use Rattle.env_directives.specs.orders.Choice.{admits_target, is_longer, lets_through, with_longer_target, longest_from, longest_covering}
pub use Rattle.env_directives.specs.orders.FieldOrder.{field_cmp, text_cmp, value_cmp}
pub use Rattle.env_directives.specs.orders.StaticOrder.{most_specific_first, target_length}
pub use Rattle.env_directives.specs.orders.Table.{AddsSome, IsTableOf, DirectiveTable, empty_table, greatest_of, more_verbose, with_added, with_all_added, with_item_in_order}
pub use Rattle.env_directives.specs.printed.Printed.{HasNoMinusZero, bracket_text, directive_text, equals_text, fields_text, match_text, text_if_any, value_text}
pub use Rattle.env_directives.specs.reading.Cuts.{Pieces, is_among, lacks, pieces_at}
pub use Rattle.env_directives.specs.reading.Faults.{HasEmptyField, HasFault, HasBadLevel, HasRefusedPattern, IsEnd}
pub use Rattle.env_directives.specs.reading.Forms.{DirectiveForm, Front, HasForm, IsDirective, IsDirectiveFront, IsFieldText, IsForm, IsHead, IsLevelText, IsOpened, IsSpanName, alone, bare, begins_as_directive, directive_alone, directive_at, directive_of_form, fields_with_commas, fielded, form_text, front_text, head_alone, head_comma, level_behind, level_or_target, leveled, leveled_comma, may_begin, spanned, directive_of_target, text_up_to_fields, unless_empty}
pub use Rattle.env_directives.specs.reading.Reading.{AnswersRead, FieldsRead, LeadsToRefusedPattern, DirectiveRead, SpanLeadsToRefusedPattern, at_level, field_ends, more_fields, read_behind, read_fielded, read_head, read_leveled, read_span}
unfoldable pub use Rattle.env_directives.specs.reading.Reading.{read_bracket, read_close, read_level_if_any, read_fields, read_nothing_more, read_level, read_directive}
pub use Rattle.env_directives.specs.reading.Separators.{comma_pieces, cut_once, is_closers, nonempty, without_closers}
pub use Rattle.env_directives.specs.reading.Values.{HavePatterns, IsNoPatternField, IsPatternIfAny, MayFail, fits_i64, truth_of, value_of}
unfoldable pub use Rattle.env_directives.specs.reading.Values.{field_of, i64_of, plain_value, u64_of}
