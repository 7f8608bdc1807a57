-- A reader and a note may go to another thread where the values may, and may be shared.
use mir.Syntax.{given}
use denote.RattleType.{RattleType}
use denote.Param.Send.{IsSend, IsSync, sendable, view_send, recorded_send, struct_send}
use denote.Struct.Declared.{shape}
use Rattle.std.proofs.alloc.Global.TheSendSync as global
use Rattle.std.below.std_heap.proofs.GlobalAllocator.TheSendSync as frees
use Rattle.std.specs.contracts.alloc.Global as heap
use Rattle.std.specs.contracts.impls.GlobalAllocator.TheImpl as allocator
use Rattle.std.proofs.option.Option.TheSendSync as option
use Rattle.std.proofs.sync.Arc.TheSendSync as arc
use Rattle.std.specs.contracts.sync.Arc as arc_row
use Rattle.left_right.proofs.reader.Reader.TheSendSync as inner_reader
use Rattle.left_right.specs.contracts.reader.Reader as inner_reader_row
use Rattle.crossbeam_utils.specs.declared.rule.Protocol.{Ghosts}
use Rattle.value_reader.proofs.numbered.Numbered.TheSendSync as numbered
use Rattle.value_reader.specs.contracts.numbered.Numbered as numbered_row
use Rattle.value_reader.proofs.numbered.InPlace.TheSendSync as shown
use Rattle.value_reader.specs.contracts.numbered.InPlace as shown_row
use Rattle.value_reader.specs.contracts.order.View as view_row
use Rattle.value_reader.specs.contracts.order.InOrder as in_order_row
use Rattle.value_reader.specs.contracts.order.InOrderProtocolInPlaceView.TheImpl as rule
use Rattle.value_reader.specs.contracts.reader.ValueReader as reader
use Rattle.value_reader.specs.contracts.reader.ValueReader.TheInside as reader_inside
use Rattle.value_reader.specs.contracts.note.ValueNote as note
use Rattle.value_reader.specs.contracts.note.ValueNote.TheInside as note_inside

abbrev pub last_row : RattleType → RattleType
last_row F = arc_row.the_row (numbered_row.the_row F) heap.the_row allocator.ghosts

pub last_send : (F : RattleType) → IsSend F → IsSync F → IsSend (last_row F)
last_send F s y = arc.the_send (numbered_row.the_row F) heap.the_row allocator.ghosts (numbered.the_send F s) global.the_send (numbered.the_sync F y) global.the_sync frees.the_frees

pub shown_sync : (F : RattleType) → IsSend F → IsSync F → IsSync (shown_row.the_row F)
shown_sync F s y = search (shown.the_sync, s, y) depth 8

pub shown_send : (F : RattleType) → IsSend F → IsSync F → IsSend (shown_row.the_row F)
shown_send F s y = search (shown.the_send, s, y) depth 8

-- the rule is the same whichever way values are let go
abbrev pub rules : (F : RattleType) → Ghosts (in_order_row.the_row).Denot (shown_row.the_row F).Denot (view_row.the_row F).Denot
rules F = rule.ghosts F (given 0)

abbrev values_row : RattleType → RattleType
values_row F = inner_reader_row.the_row (shown_row.the_row F) (view_row.the_row F) in_order_row.the_row heap.the_row (rules F) allocator.ghosts

values_send : (F : RattleType) → IsSend F → IsSync F → IsSend (values_row F)
values_send F s y = inner_reader.the_send (shown_row.the_row F) (view_row.the_row F) in_order_row.the_row heap.the_row (rules F) allocator.ghosts global.the_send (shown_sync F s y) global.the_sync frees.the_frees

pub reader_send : (F : RattleType) → IsSend F → IsSync F → IsSend (reader.the_row F)
reader_send F s y = view_send (reader_inside.the_row F) _ _ _ _ (recorded_send (reader_inside.the_field F).row _ _ (reader_inside.the_type F).to_one (struct_send (shape (reader_inside.the_type F))
    (search sendable, (option.the_field_send (values_row F) (values_send F s y), (last_send F s y, tt)))))

pub note_send : (F : RattleType) → IsSend F → IsSync F → IsSend (note.the_row F)
note_send F s y = view_send (note_inside.the_row F) _ _ _ _ (recorded_send (note_inside.the_field F).row _ _ (note_inside.the_type F).to_one (struct_send (shape (note_inside.the_type F)) (
  search sendable,
  (
    inner_reader.the_field_send (shown_row.the_row F) (view_row.the_row F) in_order_row.the_row heap.the_row (rules F) allocator.ghosts global.the_send (shown_sync F s y) global.the_sync frees.the_frees,
    (last_send F s y, tt),
  ),
)))
