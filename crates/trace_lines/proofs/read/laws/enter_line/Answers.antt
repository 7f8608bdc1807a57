use Rattle.trace_lines.proofs.Common.{enter_form, is_utf8, refl, request_form, request_spelled, serde_json_on_literals}
use Rattle.std.specs.Str.{chars}
use Rattle.trace_lines.proofs.read.laws.enter_line.Goals as goal

pub returns-clause-read : goal.returns-clause-read
unfolding serde_json_on_literals request_spelled request_form enter_form is_utf8 chars
returns-clause-read c = refl

pub returns-clause-refused : goal.returns-clause-refused
unfolding serde_json_on_literals request_spelled request_form enter_form is_utf8 chars
returns-clause-refused c = refl
