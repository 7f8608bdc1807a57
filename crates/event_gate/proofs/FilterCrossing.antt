-- A filter may go to other threads, and be shared by them.
use denote.Param.Send.{IsSend, IsSync, plain_send, plain_sync, enum_send, enum_sync, struct_send, struct_sync, view_send, view_sync, recorded_send, recorded_sync, sendable}
use denote.Enum.Declared as enums
use denote.Struct.Declared as structs
use Rattle.std.proofs.alloc.Global.TheSendSync as global
use Rattle.std.below.std_heap.proofs.GlobalAllocator.TheSendSync as frees
use Rattle.std.proofs.option.Option.TheSendSync as option
use Rattle.std.proofs.vec.Vec.TheSendSync as vec
use Rattle.std.proofs.sync.Arc.TheSendSync as arc
use Rattle.std.proofs.collections.HashMap.TheSendSync as hash_map
use Rattle.core.proofs.hash.build.BuildHasherDefault.TheSendSync as build
use Rattle.core.proofs.hash.fold.FoldHasher.TheSendSync as fold
use Rattle.smallvec.proofs.small_vec.SmallVec.TheSendSync as small_vec
use Rattle.otel_base.proofs.text.Text.TheSendSync as text
use Rattle.otel_base.specs.contracts.text.Text as text_row
use Rattle.otel_base.proofs.list.Items.TheSendSync as items
use Rattle.trace_base.proofs.level.LevelFilter.TheSendSync as level
use Rattle.trace_base.proofs.span.Id.TheSendSync as id
use Rattle.env_directives.proofs.env.field.MatchDebug.TheSendSync as debug
use Rattle.env_directives.proofs.directive.StaticDirective.TheSendSync as static_directive
use Rattle.env_directives.specs.contracts.directive.set.DirectiveSet as set
use Rattle.env_directives.specs.contracts.directive.set.DirectiveSet.TheInside as set_inside
use Rattle.env_directives.specs.contracts.directive.StaticDirective as static_row
use Rattle.env_directives.specs.contracts.directive.StaticDirectiveOrd.TheImpl as static_ord
use Rattle.env_directives.specs.contracts.directive.StaticDirectivePartialEq.TheImpl as static_eq
use Rattle.env_directives.specs.contracts.directive.StaticDirectivePartialOrd.TheImpl as static_partial
use Rattle.env_directives.specs.contracts.env.directive.DirectiveOrd.TheImpl as directive_ord
use Rattle.env_directives.specs.contracts.env.directive.DirectivePartialEq.TheImpl as directive_eq
use Rattle.env_directives.specs.contracts.env.directive.DirectivePartialOrd.TheImpl as directive_partial
use Rattle.env_directives.specs.contracts.env.pattern.MatchPattern as pattern
use Rattle.env_directives.specs.contracts.env.pattern.MatchPattern.TheInside as pattern_inside
use Rattle.env_directives.specs.contracts.env.field.ValueMatch as value
use Rattle.env_directives.specs.contracts.env.field.Match as field
use Rattle.env_directives.specs.contracts.env.directive.Directive as directive
use Rattle.env_filter.specs.contracts.watch.Ask as ask
use Rattle.env_filter.specs.contracts.watch.Care as care
use Rattle.env_filter.specs.contracts.watch.Matches as matches
use Rattle.env_filter.specs.contracts.watch.Matches.TheInside as matches_inside
use Rattle.env_filter.specs.contracts.levels.Levels as levels
use Rattle.env_filter.specs.contracts.levels.Levels.TheInside as levels_inside
use Rattle.env_filter.specs.contracts.filter.EnvFilter as filter
use Rattle.env_filter.specs.contracts.filter.EnvFilter.TheInside as filter_inside
use Rattle.event_gate.specs.contracts.filter.TextFilter as text_filter
use Rattle.event_gate.specs.contracts.filter.TextFilter.TheInside as text_inside
use Rattle.event_gate.proofs.PatternCrossing.{regex_send, regex_sync}

pattern_send : IsSend pattern.the_row
pattern_send = view_send pattern_inside.the_row _ _ _ _ (recorded_send pattern_inside.the_field.row _ _ pattern_inside.the_type.to_one (struct_send (structs.shape pattern_inside.the_type) (text.the_send, (search (sendable, arc.the_send, regex_send, regex_sync, global.the_send, global.the_sync, frees.the_frees), tt))))

value_field_send : IsSend value.the_field.row
value_field_send = enum_send (enums.shape value.the_type) ((plain_send _ _ _ _ _, tt), ((plain_send _ _ _ _ _, tt), ((plain_send _ _ _ _ _, tt), ((pattern_send, tt), ((debug.the_send, tt), tt)))))

value_send : IsSend value.the_row
value_send = recorded_send value.the_field.row _ _ value.the_type.to_one value_field_send

field_field_send : IsSend field.the_field.row
field_field_send = struct_send (structs.shape field.the_type) (text.the_send, (option.the_field_send value.the_row value_send, tt))

field_send : IsSend field.the_row
field_send = recorded_send field.the_field.row _ _ field.the_type.to_one field_field_send

directive_field_send : IsSend directive.the_field.row
directive_field_send = struct_send (structs.shape directive.the_type) (
  option.the_field_send text_row.the_row text.the_send,
  (
    items.the_send field.the_row field_send,
    (option.the_field_send text_row.the_row text.the_send, (level.the_field_send, tt)),
  ),
)

directive_send : IsSend directive.the_row
directive_send = recorded_send directive.the_field.row _ _ directive.the_type.to_one directive_field_send

ask_field_send : IsSend ask.the_field.row
ask_field_send = struct_send (structs.shape ask.the_type) (plain_send _ _ _ _ _, (value_field_send, tt))

ask_send : IsSend ask.the_row
ask_send = recorded_send ask.the_field.row _ _ ask.the_type.to_one ask_field_send

care_field_send : IsSend care.the_field.row
care_field_send = struct_send (structs.shape care.the_type) (level.the_field_send, (items.the_send ask.the_row ask_send, tt))

care_send : IsSend care.the_row
care_send = recorded_send care.the_field.row _ _ care.the_type.to_one care_field_send

matches_send : IsSend matches.the_row
matches_send = view_send matches_inside.the_row _ _ _ _ (recorded_send matches_inside.the_field.row _ _ matches_inside.the_type.to_one (struct_send (structs.shape matches_inside.the_type) (items.the_send care.the_row care_send, (search (sendable, vec.the_send, global.the_send, frees.the_frees), tt))))

levels_send : IsSend levels.the_row
levels_send = view_send levels_inside.the_row _ _ _ _ (recorded_send levels_inside.the_field.row _ _ levels_inside.the_type.to_one (struct_send (structs.shape levels_inside.the_type) (search (sendable, vec.the_send, id.the_send, global.the_send, frees.the_frees), (search (sendable, vec.the_send, level.the_send, global.the_send, frees.the_frees), tt))))

static_set_send : IsSend (set.the_row static_row.the_row static_ord.ghosts static_eq.ghosts static_partial.ghosts)
static_set_send = let t = set_inside.the_type static_row.the_row static_ord.ghosts static_eq.ghosts static_partial.ghosts in view_send (set_inside.the_row static_row.the_row static_ord.ghosts static_eq.ghosts static_partial.ghosts) _ _ _ _
    (recorded_send (set_inside.the_field static_row.the_row static_ord.ghosts static_eq.ghosts static_partial.ghosts).row _ _ t.to_one (struct_send (structs.shape t) (search (sendable, small_vec.the_send, static_directive.the_send, global.the_send, frees.the_frees), (level.the_field_send, tt))))

directive_set_send : IsSend (set.the_row directive.the_row directive_ord.ghosts directive_eq.ghosts directive_partial.ghosts)
directive_set_send = let t = set_inside.the_type directive.the_row directive_ord.ghosts directive_eq.ghosts directive_partial.ghosts in view_send (set_inside.the_row directive.the_row directive_ord.ghosts directive_eq.ghosts directive_partial.ghosts) _ _ _ _
    (recorded_send (set_inside.the_field directive.the_row directive_ord.ghosts directive_eq.ghosts directive_partial.ghosts).row _ _ t.to_one (struct_send (structs.shape t) (search (sendable, small_vec.the_send, directive_send, global.the_send, frees.the_frees), (level.the_field_send, tt))))

pub filter_send : IsSend filter.the_row
filter_send = view_send filter_inside.the_row _ _ _ _ (recorded_send filter_inside.the_field.row _ _ filter_inside.the_type.to_one (struct_send (structs.shape filter_inside.the_type) (
  global.the_field_send,
  (
    plain_send _ _ _ _ _,
    (
      static_set_send,
      (
        directive_set_send,
        (
          search (sendable, hash_map.the_send, matches_send, build.the_send, fold.the_send, global.the_send, frees.the_frees) depth 8,
          (search (sendable, hash_map.the_send, levels_send, build.the_send, fold.the_send, global.the_send, frees.the_frees) depth 8, tt),
        ),
      ),
    ),
  ),
)))

pub text_filter_send : IsSend text_filter.the_row
text_filter_send = view_send text_inside.the_row _ _ _ _ (recorded_send text_inside.the_field.row _ _ text_inside.the_type.to_one (struct_send (structs.shape text_inside.the_type) (text.the_send, (filter_send, tt))))

pattern_sync : IsSync pattern.the_row
pattern_sync = view_sync pattern_inside.the_row _ _ _ _ (recorded_sync pattern_inside.the_field.row _ _ pattern_inside.the_type.to_one (struct_sync (structs.shape pattern_inside.the_type) (text.the_sync, (search (sendable, arc.the_sync, regex_send, regex_sync, global.the_send, global.the_sync, frees.the_frees), tt))))

value_field_sync : IsSync value.the_field.row
value_field_sync = enum_sync (enums.shape value.the_type) ((plain_sync _ _ _ _ _, tt), ((plain_sync _ _ _ _ _, tt), ((plain_sync _ _ _ _ _, tt), ((pattern_sync, tt), ((debug.the_sync, tt), tt)))))

value_sync : IsSync value.the_row
value_sync = recorded_sync value.the_field.row _ _ value.the_type.to_one value_field_sync

field_field_sync : IsSync field.the_field.row
field_field_sync = struct_sync (structs.shape field.the_type) (text.the_sync, (option.the_field_sync value.the_row value_sync, tt))

field_sync : IsSync field.the_row
field_sync = recorded_sync field.the_field.row _ _ field.the_type.to_one field_field_sync

directive_field_sync : IsSync directive.the_field.row
directive_field_sync = struct_sync (structs.shape directive.the_type) (
  option.the_field_sync text_row.the_row text.the_sync,
  (
    items.the_sync field.the_row field_sync,
    (option.the_field_sync text_row.the_row text.the_sync, (level.the_field_sync, tt)),
  ),
)

directive_sync : IsSync directive.the_row
directive_sync = recorded_sync directive.the_field.row _ _ directive.the_type.to_one directive_field_sync

ask_field_sync : IsSync ask.the_field.row
ask_field_sync = struct_sync (structs.shape ask.the_type) (plain_sync _ _ _ _ _, (value_field_sync, tt))

ask_sync : IsSync ask.the_row
ask_sync = recorded_sync ask.the_field.row _ _ ask.the_type.to_one ask_field_sync

care_field_sync : IsSync care.the_field.row
care_field_sync = struct_sync (structs.shape care.the_type) (level.the_field_sync, (items.the_sync ask.the_row ask_sync, tt))

care_sync : IsSync care.the_row
care_sync = recorded_sync care.the_field.row _ _ care.the_type.to_one care_field_sync

matches_sync : IsSync matches.the_row
matches_sync = view_sync matches_inside.the_row _ _ _ _ (recorded_sync matches_inside.the_field.row _ _ matches_inside.the_type.to_one (struct_sync (structs.shape matches_inside.the_type) (items.the_sync care.the_row care_sync, (search (sendable, vec.the_sync, global.the_sync), tt))))

levels_sync : IsSync levels.the_row
levels_sync = view_sync levels_inside.the_row _ _ _ _ (recorded_sync levels_inside.the_field.row _ _ levels_inside.the_type.to_one (struct_sync (structs.shape levels_inside.the_type) (search (sendable, vec.the_sync, id.the_sync, global.the_sync), (search (sendable, vec.the_sync, level.the_sync, global.the_sync), tt))))

static_set_sync : IsSync (set.the_row static_row.the_row static_ord.ghosts static_eq.ghosts static_partial.ghosts)
static_set_sync = let t = set_inside.the_type static_row.the_row static_ord.ghosts static_eq.ghosts static_partial.ghosts in view_sync (set_inside.the_row static_row.the_row static_ord.ghosts static_eq.ghosts static_partial.ghosts) _ _ _ _
    (recorded_sync (set_inside.the_field static_row.the_row static_ord.ghosts static_eq.ghosts static_partial.ghosts).row _ _ t.to_one (struct_sync (structs.shape t) (search (sendable, small_vec.the_sync, static_directive.the_sync, global.the_sync), (level.the_field_sync, tt))))

directive_set_sync : IsSync (set.the_row directive.the_row directive_ord.ghosts directive_eq.ghosts directive_partial.ghosts)
directive_set_sync = let t = set_inside.the_type directive.the_row directive_ord.ghosts directive_eq.ghosts directive_partial.ghosts in view_sync (set_inside.the_row directive.the_row directive_ord.ghosts directive_eq.ghosts directive_partial.ghosts) _ _ _ _
    (recorded_sync (set_inside.the_field directive.the_row directive_ord.ghosts directive_eq.ghosts directive_partial.ghosts).row _ _ t.to_one (struct_sync (structs.shape t) (search (sendable, small_vec.the_sync, directive_sync, global.the_sync), (level.the_field_sync, tt))))

pub filter_sync : IsSync filter.the_row
filter_sync = view_sync filter_inside.the_row _ _ _ _ (recorded_sync filter_inside.the_field.row _ _ filter_inside.the_type.to_one (struct_sync (structs.shape filter_inside.the_type) (
  global.the_field_sync,
  (
    plain_sync _ _ _ _ _,
    (
      static_set_sync,
      (
        directive_set_sync,
        (
          search (sendable, hash_map.the_sync, matches_sync, build.the_sync, fold.the_sync, global.the_sync) depth 8,
          (search (sendable, hash_map.the_sync, levels_sync, build.the_sync, fold.the_sync, global.the_sync) depth 8, tt),
        ),
      ),
    ),
  ),
)))

pub text_filter_sync : IsSync text_filter.the_row
text_filter_sync = view_sync text_inside.the_row _ _ _ _ (recorded_sync text_inside.the_field.row _ _ text_inside.the_type.to_one (struct_sync (structs.shape text_inside.the_type) (text.the_sync, (filter_sync, tt))))
