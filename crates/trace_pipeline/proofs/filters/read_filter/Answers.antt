-- The filter of a text.
use Rattle.trace_pipeline.proofs.Common.{plain_filter}
use Rattle.span_script.proofs.filter.TextsLemmas.{read_filter_is, unread_is}
use Rattle.trace_pipeline.proofs.filters.read_filter.Goals as goal

pub returns-in-Ok-clause-filter : goal.returns-in-Ok-clause-filter
returns-in-Ok-clause-filter c = read_filter_is c.default.result c.with_regex-builder.result c.args.text.now (plain_filter c.in-Ok.filter) c.default.ensures c.with_regex-builder.ensures c.in-Ok.ensures.ok

pub returns-clause-refused : goal.returns-clause-refused
returns-clause-refused c = unread_is c.args.counting c.default.result c.with_regex-builder.result c.args.text.now c.in-Err.piece c.in-Err.fault c.open_error_by.result c.with_regex-builder.ensures c.open_error_by.ensures c.in-Err.ensures.refused
