-- Whether callsites declare the fields that tasks give.
use Rattle.std.specs.Prelude.{ℕ, List, Bool, false, slice_get}
use Rattle.std.specs.List.{list_all}
use Rattle.std.specs.Option.{option_map_or}
use Rattle.trace_base.specs.declared.callsite.Callsite.{Callsite}
use Rattle.span_script.specs.Fields.{Fields, declares}

-- a callsite declares all of some fields
abbrev pub declares_all : Callsite → Fields → Bool
declares_all callsite fields = list_all (λ field. declares callsite field.0) fields

-- the callsite at a place is there and does
abbrev pub declares_by : List Callsite → ℕ → Fields → Bool
declares_by sites site fields = option_map_or (λ c. declares_all c fields) (slice_get sites site) false
