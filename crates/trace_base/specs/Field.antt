-- The fields of callsites: the places of names, and which callsite has which field.
use Rattle.std.specs.Prelude.{◌==◌, ◌&&◌, if◌then◌else◌, ℕ, List, Bool, Option, None, Some, length, nat_lt, position, bytes_eq}
use Rattle.std.specs.Option.{option_map}
use Rattle.trace_base.specs.declared.callsite.Callsite.{Callsite}
use Rattle.trace_base.specs.declared.field.Field.{Field}

-- the first place of a name among the fields of a callsite
abbrev pub place_of : List ℕ → Callsite → Option ℕ
place_of name callsite = position (λ field. bytes_eq field name) callsite.fields

-- whether the callsite of a site has a field: it is of that site, at a place below the number of the callsite's fields
abbrev pub has_field : ℕ → Callsite → Field → Bool
has_field site callsite field = field.site == site && nat_lt field.place (length callsite.fields)

-- the field itself, where the callsite has it
abbrev pub field_itself : Field → ℕ → Callsite → Option Field
field_itself field site callsite = if has_field site callsite field then Some field else None

-- the first field of a name, where the callsite has one
abbrev pub named_field : List ℕ → ℕ → Callsite → Option Field
named_field name site callsite = option_map (λ place. record { site = site; place = place }) (place_of name callsite)
