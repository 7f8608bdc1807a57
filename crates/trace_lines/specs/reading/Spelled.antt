-- What lines spell: settings and requests, or that they are bad lines.
use Rattle.std.specs.Prelude.{ℕ, List, Option, None, ok_or, option_and_then, Result, if◌then◌else◌}
use Rattle.std.specs.Str.{is_utf8}
use Rattle.serde_json.specs.Data.{Data, Members}
use Rattle.serde_json.specs.Read.{read}
use Rattle.serde_json.specs.Find.{as_object}
use Rattle.span_script.specs.declared.settings.Settings.{Settings}
use Rattle.span_script.specs.declared.request.Request.{Request}
use Rattle.trace_lines.specs.declared.told.Told.{Told}
use Rattle.trace_lines.specs.declared.told.Told.TheVariants.{BadLine}
use Rattle.trace_lines.specs.forms.Forms.{all_of}
use Rattle.trace_lines.specs.forms.SettingsForm.{settings_form}
use Rattle.trace_lines.specs.forms.RequestForm.{request_form}

-- the value that a line is in JSON
abbrev pub line_value : List ℕ → Option Data
line_value line = if is_utf8 line then read line else None

-- the members of the object that a line is
abbrev pub line_members : List ℕ → Option Members
line_members line = option_and_then as_object (line_value line)

-- what a line spells by a form
abbrev pub value_on_line : {A : Type 0} → (Members → Option A) → List ℕ → Option A
value_on_line form line = option_and_then form (line_members line)

-- the settings that a line spells
unfoldable pub settings_spelled : List ℕ → Result Settings Told
settings_spelled line = ok_or (value_on_line (all_of settings_form) line) BadLine

-- the request that a line spells
unfoldable pub request_spelled : List ℕ → Result Request Told
request_spelled line = ok_or (value_on_line (all_of request_form) line) BadLine
