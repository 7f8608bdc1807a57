-- The form of the settings.
use Rattle.std.specs.Prelude.{ℕ, ◌-◌, ◌^◌, List, [], ◌∷◌, map, Bool, true, not, ◌&&◌, ◌==◌, Option, codes}
use Rattle.std.specs.List.{list_any}
use Rattle.otel_state.specs.Settings.{default_settings}
use Rattle.otel_state.specs.declared.settings.LayerSettings.{LayerSettings}
use Rattle.trace_base.specs.declared.callsite.Callsite.{Callsite}
use Rattle.trace_base.specs.declared.callsite.Kind.{Kind}
use Rattle.trace_base.specs.declared.level.Level.{Level}
use Rattle.span_script.specs.declared.settings.Settings.{Settings}
use Rattle.trace_lines.specs.forms.Forms.{Form, ◌>>=◌, give, when, unit_if, whole_to, text, flag_or, optional, if_absent, optional_text, optional_u32, array, texts, each, object_of}
use Rattle.trace_lines.specs.text.Words.{level_of_word, kind_of_word}

-- a lane's id and name
abbrev pub GivenLane : Type 0
GivenLane = ℕ × Option (List ℕ)

-- an id up to 2 ^ 63 - 1, and a name or none
unfoldable pub lane_form : Form GivenLane
lane_form = do
  id ← whole_to (2 ^ 63 - 1) (codes "id")
  name ← optional_text (codes "name")
  give (id, name)

-- a level, by its word
abbrev pub level_form : Form Level
level_form = do
  name ← text (codes "level")
  when (level_of_word name)

-- what a callsite makes, by its word
abbrev pub kind_form : Form Kind
kind_form = do
  name ← text (codes "kind")
  when (kind_of_word name)

-- a file and a module, each of which may be absent
abbrev pub source_form : Form (Option (List ℕ) × Option (List ℕ))
source_form = do
  file ← optional_text (codes "file")
  module_path ← optional_text (codes "module")
  give (file, module_path)

-- a callsite, of which the file, the module and the line may be absent
unfoldable pub callsite_form : Form Callsite
callsite_form = do
  name ← text (codes "name")
  target ← text (codes "target")
  level ← level_form
  kind ← kind_form
  fields ← texts (codes "fields")
  source ← source_form
  line ← optional_u32 (codes "line")
  give (record {
    name = name;
    target = target;
    level = level;
    kind = kind;
    file = source.0;
    module_path = source.1;
    line = line;
    fields = fields;
  })

-- what is told of errors, and what is usual where nothing is said
unfoldable pub error_flags : LayerSettings → Form LayerSettings
error_flags usual = do
  error_events_to_exceptions ← flag_or usual.error_events_to_exceptions (codes "error_events_to_exceptions")
  error_events_to_status ← flag_or usual.error_events_to_status (codes "error_events_to_status")
  error_fields_to_exceptions ← flag_or usual.error_fields_to_exceptions (codes "error_fields_to_exceptions")
  error_records_to_exceptions ← flag_or usual.error_records_to_exceptions (codes "error_records_to_exceptions")
  give (record usual {
    error_events_to_exceptions = error_events_to_exceptions;
    error_events_to_status = error_events_to_status;
    error_fields_to_exceptions = error_fields_to_exceptions;
    error_records_to_exceptions = error_records_to_exceptions;
  })

-- what is told of a span beside its fields
unfoldable pub span_flags : LayerSettings → Form LayerSettings
span_flags usual = do
  level ← flag_or usual.level (codes "level")
  location ← flag_or usual.location (codes "location")
  target ← flag_or usual.target (codes "target")
  threads ← flag_or usual.threads (codes "threads")
  give (record usual {
    level = level;
    location = location;
    target = target;
    threads = threads;
  })

-- what the layer tells
unfoldable pub layer_form : Form LayerSettings
layer_form = do
  activation ← flag_or default_settings.activation (codes "activation")
  eager ← flag_or default_settings.eager (codes "eager")
  inactivity ← flag_or default_settings.inactivity (codes "inactivity")
  errors ← error_flags default_settings
  all ← span_flags errors
  give (record all { activation = activation; eager = eager; inactivity = inactivity })

-- no two are equal
abbrev pub all_differ : List ℕ → Bool
all_differ [] = true
all_differ (n ∷ ns) = not (list_any (λ m. n == m) ns) && all_differ ns

-- the ids of lanes
abbrev pub lane_ids : List GivenLane → List ℕ
lane_ids lanes = map (λ lane. lane.0) lanes

-- the callsites
abbrev pub callsites_form : Form (List Callsite)
callsites_form = do
  sites ← array (codes "callsites")
  when (each (object_of callsite_form) sites)

-- the lanes, whose ids differ
abbrev pub lanes_form : Form (List GivenLane)
lanes_form = do
  lane_items ← array (codes "lanes")
  lanes ← when (each (object_of lane_form) lane_items)
  differ ← when (unit_if (all_differ (lane_ids lanes)))
  give lanes

-- what the layer tells, which is what is usual where nothing is said
abbrev pub given_layer : Form LayerSettings
given_layer = do
  there ← optional (codes "layer")
  when (if_absent default_settings (object_of layer_form) there)

-- The filter is any text, and so is that for counting, where there is one.
unfoldable pub settings_form : Form Settings
settings_form = do
  callsites ← callsites_form
  counting ← optional_text (codes "counting")
  filter ← text (codes "filter")
  lanes ← lanes_form
  layer ← given_layer
  give (record { filter = filter; counting = counting; lanes = lanes; callsites = callsites; layer = layer })
