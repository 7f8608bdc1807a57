use Rattle.trace_lines.proofs.Common.{callsite_form, error_flags, is_utf8, lane_form, layer_form, refl, serde_json_on_literals, settings_form, settings_spelled, span_flags}
use Rattle.std.specs.Str.{chars}
use Rattle.trace_lines.proofs.read.laws.settings_line.Goals as goal

pub returns : goal.returns
unfolding serde_json_on_literals settings_spelled settings_form callsite_form lane_form error_flags span_flags layer_form is_utf8 chars
returns c = refl
