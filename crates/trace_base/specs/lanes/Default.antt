-- The default of a lane.
use Rattle.std.specs.Prelude.{ℕ, Option}
use Rattle.trace_base.specs.declared.lane.Lane.{Lane}

-- the lane with another default
abbrev pub with_lane_default : Lane → Option ℕ → Lane
with_lane_default lane own = record lane { default = own }
