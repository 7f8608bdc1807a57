-- An object that is being made.
use Rattle.std.specs.Prelude.{◌≡◌, ℕ, List, Option, Some, None, codes}
use Rattle.serde_json.specs.Data.{Data, Members, put}
use Rattle.serde_json.specs.View.{members_view}
use Rattle.trace_lines.specs.reading.Object.{whole_number}
use Rattle.trace_lines.specs.declared.write.value.ObjectBuilder.{ObjectBuilder}

-- its members so far
abbrev pub members_of : ObjectBuilder → Members
members_of o = members_view o.members.entries

-- it has one more
abbrev pub AddsMember : ObjectBuilder → List ℕ → Data → ObjectBuilder → Type 0
AddsMember old name value new = members_of new ≡ put name value (members_of old)

-- members with the lane, if that is told
abbrev pub with_lane : Option ℕ → Members → Members
with_lane None ms = ms
with_lane (Some lane) ms = put (codes "lane") (whole_number lane) ms
