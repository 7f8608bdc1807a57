-- A writer may go to another thread where the values may, and may be shared.
use denote.RattleType.{RattleType}
use denote.Param.Send.{IsSend, IsSync, sendable, view_send, recorded_send, struct_send}
use denote.Struct.Declared.{shape}
use Rattle.std.proofs.alloc.Global.TheSendSync as global
use Rattle.std.below.std_heap.proofs.GlobalAllocator.TheSendSync as frees
use Rattle.std.specs.contracts.alloc.Global as heap
use Rattle.std.specs.contracts.impls.GlobalAllocator.TheImpl as allocator
use Rattle.left_right.proofs.writer.Writer.TheSendSync as inner_writer
use Rattle.left_right.specs.declared.Absorb as Absorb
use Rattle.std.specs.declared.alloc.Global.{Global}
use Rattle.std.specs.declared.sync.Arc.{Arc}
use Rattle.value_reader.specs.declared.numbered.Numbered.{Numbered}
use Rattle.value_reader.specs.declared.numbered.InPlace.{InPlace}
use Rattle.value_reader.specs.contracts.numbered.Numbered as numbered_row
use Rattle.value_reader.specs.contracts.numbered.InPlace as shown_row
use Rattle.value_reader.specs.contracts.order.View as view_row
use Rattle.value_reader.specs.contracts.order.InOrder as in_order_row
use Rattle.value_reader.specs.contracts.reader.Origin as origin
use Rattle.value_reader.proofs.Crossing.{last_row, last_send, shown_send, shown_sync, rules}
use Rattle.shared_value.specs.contracts.writer.ValueWriter as writer
use Rattle.shared_value.specs.contracts.writer.ValueWriter.TheInside as writer_inside

pub writer_send : (F : RattleType) (g : Absorb.Ghosts (InPlace F.Denot) (Arc (Numbered F.Denot) Global) (Numbered F.Denot)) → IsSend F → IsSync F → IsSend (writer.the_row F g)
writer_send F g s y = view_send (writer_inside.the_row F g) _ _ _ _ (recorded_send (writer_inside.the_field F g).row _ _ (writer_inside.the_type F g).to_one (struct_send (shape (writer_inside.the_type F g)) (
  global.the_field_send,
  (
    struct_send (shape (origin.the_type F)) (search sendable, (search sendable, tt)),
    (inner_writer.the_field_send (shown_row.the_row F) (last_row F) (view_row.the_row F) in_order_row.the_row heap.the_row (numbered_row.the_row F) g (rules F) allocator.ghosts (shown_send F s y) (last_send F s y) global.the_send (shown_sync F s y) global.the_sync frees.the_frees, tt),
  ),
)))
