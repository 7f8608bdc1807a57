-- A compiled pattern may go to other threads, and be shared by them. The check finds it for no type that reaches itself.
use denote.Hole.FixSend.{Sends, Syncs, fix_send, fix_sync}
use denote.Param.Send.{IsSend, IsSync, plain_send, plain_sync, enum_send, enum_sync, struct_send, struct_sync, recorded_send, recorded_sync, sendable}
use denote.RattleType.{RattleType}
use denote.Enum.Declared as enums
use denote.Struct.Declared as structs
use Rattle.std.proofs.alloc.Global.TheSendSync as global
use Rattle.std.below.std_heap.proofs.GlobalAllocator.TheSendSync as frees
use Rattle.std.specs.contracts.alloc.Global as heap
use Rattle.std.specs.contracts.impls.GlobalAllocator.TheImpl as allocator
use Rattle.std.proofs.vec.Vec.TheSendSync as vec
use Rattle.std.specs.contracts.vec.Vec as vec_row
use Rattle.std.proofs.boxed.Box.TheSendSync as box
use Rattle.std.specs.contracts.boxed.Box as box_row
use Rattle.std.proofs.option.Option.TheSendSync as option
use denote.Builtin as builtin
use Rattle.regex_class.proofs.Class.TheSendSync as class
use Rattle.regex_hir.proofs.look.Look.TheSendSync as look
use Rattle.regex_hir.specs.declared.hir.Hir.TheBlock as block
use Rattle.regex_hir.specs.contracts.hir.Hir.TheKnot as knot
use Rattle.regex_hir.specs.contracts.hir.Hir as tree
use Rattle.std.specs.contracts.option.Option as option_row
use Rattle.std.proofs.string.String.TheSendSync as string
use Rattle.std.specs.contracts.string.String as string_row
use Rattle.regex_literal.proofs.caseless.Caseless.TheSendSync as caseless
use Rattle.regex_literal.proofs.prefilter.Prefilter.TheSendSync as prefilter
use Rattle.regex_literal.proofs.ladder.Ladder.TheSendSync as ladder
use Rattle.regex_literal.proofs.byte_set.ByteSet.TheSendSync as byte_set
use Rattle.regex_literal.specs.contracts.byte_set.ByteSet as byte_set_row
use Rattle.regex_extract.proofs.frames.Frame.TheSendSync as frame
use Rattle.regex_extract.specs.contracts.frames.Frame as frame_row
use Rattle.regex_dfa.proofs.dfa.Dfa.TheSendSync as dfa
use Rattle.regex_syntax.proofs.Config.TheSendSync as config
use Rattle.regex_meta.proofs.plan.Role.TheSendSync as role
use Rattle.regex_meta.specs.contracts.signs.Signs as signs
use Rattle.regex_meta.specs.contracts.plan.Plan as plan
use Rattle.regex_meta.specs.contracts.plan.Plans as plans
use Rattle.regex_meta.specs.contracts.program.Program as program
use Rattle.regex.specs.contracts.pattern.Pattern as pattern
use Rattle.regex.specs.contracts.string.regex.Regex as regex

-- a box and a list of what may go, and of what may be shared
box_send : (R : RattleType) → IsSend R → IsSend (box_row.the_row R heap.the_row allocator.ghosts)
box_send R r = box.the_send R heap.the_row allocator.ghosts r global.the_send frees.the_frees

box_sync : (R : RattleType) → IsSync R → IsSync (box_row.the_row R heap.the_row allocator.ghosts)
box_sync R r = box.the_sync R heap.the_row allocator.ghosts r global.the_sync

vec_send : (R : RattleType) → IsSend R → IsSend (vec_row.the_row R heap.the_row allocator.ghosts)
vec_send R r = vec.the_send R heap.the_row allocator.ghosts r global.the_send frees.the_frees

vec_sync : (R : RattleType) → IsSync R → IsSync (vec_row.the_row R heap.the_row allocator.ghosts)
vec_sync R r = vec.the_sync R heap.the_row allocator.ghosts r global.the_sync

-- the tree of a pattern, one layer at a time
layer_send : (h : RattleType) → IsSend h → IsSend (knot.layer-Hir h h h h)
layer_send h hs = let t = enums.declared (knot.type-Hir h h h h) in recorded_send (enums.field t).row _ _ t.to_one (enum_send (enums.shape t) (
  tt,
  (
    (vec_send builtin.u8 (plain_send _ _ _ _ _), tt),
    (
      (class.the_send, tt),
      (
        (class.the_send, tt),
        (
          (look.the_send, tt),
          (
            (plain_send _ _ _ _ _, (option.the_send builtin.u32 (plain_send _ _ _ _ _), (plain_send _ _ _ _ _, (box_send h hs, tt)))),
            (
              (plain_send _ _ _ _ _, (box_send h hs, tt)),
              (
                (vec_send h hs, tt),
                ((vec_send h hs, tt), tt),
              ),
            ),
          ),
        ),
      ),
    ),
  ),
))

layer_sync : (h : RattleType) → IsSync h → IsSync (knot.layer-Hir h h h h)
layer_sync h hs = let t = enums.declared (knot.type-Hir h h h h) in recorded_sync (enums.field t).row _ _ t.to_one (enum_sync (enums.shape t) (
  tt,
  (
    (vec_sync builtin.u8 (plain_sync _ _ _ _ _), tt),
    (
      (class.the_sync, tt),
      (
        (class.the_sync, tt),
        (
          (look.the_sync, tt),
          (
            (plain_sync _ _ _ _ _, (option.the_sync builtin.u32 (plain_sync _ _ _ _ _), (plain_sync _ _ _ _ _, (box_sync h hs, tt)))),
            (
              (plain_sync _ _ _ _ _, (box_sync h hs, tt)),
              (
                (vec_sync h hs, tt),
                ((vec_sync h hs, tt), tt),
              ),
            ),
          ),
        ),
      ),
    ),
  ),
))

each_sends : (i : block.the_members) → Sends knot.ring i
each_sends block.member-Hir = record { send = λ h hs. layer_send (h block.member-Hir) (hs block.member-Hir) }

each_syncs : (i : block.the_members) → Syncs knot.ring i
each_syncs block.member-Hir = record { sync = λ h hs. layer_sync (h block.member-Hir) (hs block.member-Hir) }

hole_send : IsSend knot.hole-Hir
hole_send = fix_send knot.ring each_sends block.member-Hir

hole_sync : IsSync knot.hole-Hir
hole_sync = fix_sync knot.ring each_syncs block.member-Hir

tree_field_send : IsSend tree.the_field.row
tree_field_send = enum_send (enums.shape tree.the_type) (
  tt,
  (
    (vec_send builtin.u8 (plain_send _ _ _ _ _), tt),
    (
      (class.the_field_send, tt),
      (
        (class.the_field_send, tt),
        (
          (look.the_field_send, tt),
          (
            (plain_send _ _ _ _ _, (option.the_field_send builtin.u32 (plain_send _ _ _ _ _), (plain_send _ _ _ _ _, (box_send knot.hole-Hir hole_send, tt)))),
            (
              (plain_send _ _ _ _ _, (box_send knot.hole-Hir hole_send, tt)),
              (
                (vec_send knot.hole-Hir hole_send, tt),
                ((vec_send knot.hole-Hir hole_send, tt), tt),
              ),
            ),
          ),
        ),
      ),
    ),
  ),
)

tree_send : IsSend tree.the_row
tree_send = recorded_send tree.the_field.row _ _ tree.the_type.to_one tree_field_send

tree_field_sync : IsSync tree.the_field.row
tree_field_sync = enum_sync (enums.shape tree.the_type) (
  tt,
  (
    (vec_sync builtin.u8 (plain_sync _ _ _ _ _), tt),
    (
      (class.the_field_sync, tt),
      (
        (class.the_field_sync, tt),
        (
          (look.the_field_sync, tt),
          (
            (plain_sync _ _ _ _ _, (option.the_field_sync builtin.u32 (plain_sync _ _ _ _ _), (plain_sync _ _ _ _ _, (box_sync knot.hole-Hir hole_sync, tt)))),
            (
              (plain_sync _ _ _ _ _, (box_sync knot.hole-Hir hole_sync, tt)),
              (
                (vec_sync knot.hole-Hir hole_sync, tt),
                ((vec_sync knot.hole-Hir hole_sync, tt), tt),
              ),
            ),
          ),
        ),
      ),
    ),
  ),
)

tree_sync : IsSync tree.the_row
tree_sync = recorded_sync tree.the_field.row _ _ tree.the_type.to_one tree_field_sync

-- what is found out about a tree, and what is made of it: it may go to other threads
signs_field_send : IsSend signs.the_field.row
signs_field_send = struct_send (structs.shape signs.the_type) (
  caseless.the_send,
  (
    vec_send builtin.u32 (plain_send _ _ _ _ _),
    (
      vec_send tree.the_row tree_send,
      (
        vec_send tree.the_row tree_send,
        (vec_send (vec_row.the_row builtin.u32 heap.the_row allocator.ghosts) (vec_send builtin.u32 (plain_send _ _ _ _ _)), tt),
      ),
    ),
  ),
)

signs_send : IsSend signs.the_row
signs_send = recorded_send signs.the_field.row _ _ signs.the_type.to_one signs_field_send

plan_field_send : IsSend plan.the_field.row
plan_field_send = enum_send (enums.shape plan.the_type) (
  (role.the_field_send, (prefilter.the_send, (option.the_field_send frame_row.the_row frame.the_send, (option.the_field_send tree.the_row tree_send, tt)))),
  ((ladder.the_field_send, tt), (tt, (tt, (tt, tt)))),
)

plan_send : IsSend plan.the_row
plan_send = recorded_send plan.the_field.row _ _ plan.the_type.to_one plan_field_send

plans_field_send : IsSend plans.the_field.row
plans_field_send = struct_send (structs.shape plans.the_type) (vec_send plan.the_row plan_send, tt)

program_field_send : IsSend program.the_field.row
program_field_send = struct_send (structs.shape program.the_type) (
  tree_field_send,
  (
    dfa.the_field_send,
    (
      plans_field_send,
      (
        option.the_field_send (box_row.the_row signs.the_row heap.the_row allocator.ghosts) (box_send signs.the_row signs_send),
        (option.the_field_send byte_set_row.the_row byte_set.the_send, (plain_send _ _ _ _ _, (plain_send _ _ _ _ _, (option.the_field_send builtin.usize (plain_send _ _ _ _ _), tt)))),
      ),
    ),
  ),
)

string_send : IsSend (string_row.the_row heap.the_row allocator.ghosts)
string_send = search (sendable, string.the_send, global.the_send, frees.the_frees)

pattern_field_send : IsSend pattern.the_field.row
pattern_field_send = struct_send (structs.shape pattern.the_type) (
  search (sendable, string.the_field_send, global.the_send, frees.the_frees),
  (
    config.the_field_send,
    (vec_send (option_row.the_row (string_row.the_row heap.the_row allocator.ghosts)) (option.the_send (string_row.the_row heap.the_row allocator.ghosts) string_send), (program_field_send, tt)),
  ),
)

regex_field_send : IsSend regex.the_field.row
regex_field_send = struct_send (structs.shape regex.the_type) (pattern_field_send, tt)

pub regex_send : IsSend regex.the_row
regex_send = recorded_send regex.the_field.row _ _ regex.the_type.to_one regex_field_send

-- what is found out about a tree, and what is made of it: it may be shared
signs_field_sync : IsSync signs.the_field.row
signs_field_sync = struct_sync (structs.shape signs.the_type) (
  caseless.the_sync,
  (
    vec_sync builtin.u32 (plain_sync _ _ _ _ _),
    (
      vec_sync tree.the_row tree_sync,
      (
        vec_sync tree.the_row tree_sync,
        (vec_sync (vec_row.the_row builtin.u32 heap.the_row allocator.ghosts) (vec_sync builtin.u32 (plain_sync _ _ _ _ _)), tt),
      ),
    ),
  ),
)

signs_sync : IsSync signs.the_row
signs_sync = recorded_sync signs.the_field.row _ _ signs.the_type.to_one signs_field_sync

plan_field_sync : IsSync plan.the_field.row
plan_field_sync = enum_sync (enums.shape plan.the_type) (
  (role.the_field_sync, (prefilter.the_sync, (option.the_field_sync frame_row.the_row frame.the_sync, (option.the_field_sync tree.the_row tree_sync, tt)))),
  ((ladder.the_field_sync, tt), (tt, (tt, (tt, tt)))),
)

plan_sync : IsSync plan.the_row
plan_sync = recorded_sync plan.the_field.row _ _ plan.the_type.to_one plan_field_sync

plans_field_sync : IsSync plans.the_field.row
plans_field_sync = struct_sync (structs.shape plans.the_type) (vec_sync plan.the_row plan_sync, tt)

program_field_sync : IsSync program.the_field.row
program_field_sync = struct_sync (structs.shape program.the_type) (
  tree_field_sync,
  (
    dfa.the_field_sync,
    (
      plans_field_sync,
      (
        option.the_field_sync (box_row.the_row signs.the_row heap.the_row allocator.ghosts) (box_sync signs.the_row signs_sync),
        (option.the_field_sync byte_set_row.the_row byte_set.the_sync, (plain_sync _ _ _ _ _, (plain_sync _ _ _ _ _, (option.the_field_sync builtin.usize (plain_sync _ _ _ _ _), tt)))),
      ),
    ),
  ),
)

string_sync : IsSync (string_row.the_row heap.the_row allocator.ghosts)
string_sync = search (sendable, string.the_sync, global.the_sync)

pattern_field_sync : IsSync pattern.the_field.row
pattern_field_sync = struct_sync (structs.shape pattern.the_type) (
  search (sendable, string.the_field_sync, global.the_sync),
  (
    config.the_field_sync,
    (vec_sync (option_row.the_row (string_row.the_row heap.the_row allocator.ghosts)) (option.the_sync (string_row.the_row heap.the_row allocator.ghosts) string_sync), (program_field_sync, tt)),
  ),
)

regex_field_sync : IsSync regex.the_field.row
regex_field_sync = struct_sync (structs.shape regex.the_type) (pattern_field_sync, tt)

pub regex_sync : IsSync regex.the_row
regex_sync = recorded_sync regex.the_field.row _ _ regex.the_type.to_one regex_field_sync
