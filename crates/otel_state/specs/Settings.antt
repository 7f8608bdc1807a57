-- What a layer tells unless it is set otherwise: all but the level.
use Rattle.std.specs.Prelude.{true, false}
use Rattle.otel_state.specs.declared.settings.LayerSettings.{LayerSettings}

abbrev pub default_settings : LayerSettings
default_settings = record {
  activation = true;
  eager = false;
  error_events_to_exceptions = true;
  error_events_to_status = true;
  error_fields_to_exceptions = true;
  error_records_to_exceptions = true;
  inactivity = true;
  level = false;
  location = true;
  target = true;
  threads = true;
}
