-- The members that an object has left.
use Rattle.serde_json.specs.Data.{Members}
use Rattle.serde_json.specs.View.{members_view}
use Rattle.line_members.specs.declared.members.Members.{Members as Taken}

abbrev pub members_left : Taken → Members
members_left taken = members_view taken.rest.entries
