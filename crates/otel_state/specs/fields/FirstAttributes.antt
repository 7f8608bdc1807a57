-- The attributes that a span has from its making.
use Rattle.std.specs.Prelude.{pos, List, ◌∷◌, ◌++◌, codes, min}
use Rattle.otel_base.specs.declared.value.KeyValue.{KeyValue}
use Rattle.trace_base.specs.declared.callsite.Callsite.{Callsite}
use Rattle.trace_base.specs.declared.lane.Lane.{Lane}
use Rattle.otel_state.specs.declared.times.TheConstants.{GREATEST}
use Rattle.otel_state.specs.declared.settings.LayerSettings.{LayerSettings}
use Rattle.otel_state.specs.fields.Fields.{integer_attribute, if_wanted, text_attribute_if_known, location_attributes, level_attributes, target_attributes}

-- a lane's id, which stands still at the greatest number of 63 bits, and its name if it has one
abbrev pub lane_attributes : Lane → List KeyValue
lane_attributes lane = integer_attribute (codes "thread.id") (pos (min lane.id GREATEST)) ∷ text_attribute_if_known (codes "thread.name") lane.name

abbrev pub first_attributes : Callsite → Lane → LayerSettings → List KeyValue
first_attributes c lane settings =
    if_wanted settings.location (location_attributes c)
    ++ if_wanted settings.threads (lane_attributes lane)
    ++ if_wanted settings.level (level_attributes c)
    ++ if_wanted settings.target (target_attributes c)
