-- The values of all fields.
use Rattle.std.proofs.Common.{rules}
use Rattle.trace_pipeline.proofs.Common.{all_given, not_given}
use Rattle.trace_pipeline.proofs.fields.all_values.Goals as goal

pub returns-then-as_slice-given : goal.returns-then-as_slice-given
returns-then-as_slice-given c = not_given c.args.callsite.now c.args.fields c.in_ok-values.values (search rules) (search rules)

pub returns : goal.returns
returns c = all_given c.args.callsite.now c.args.fields c.in_ok-values.values (search rules) (search rules)
