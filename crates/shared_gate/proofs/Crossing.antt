-- A gate, its writer and a note may go to another thread, and so may a closure that borrows three things that may.
use mathlib.Core.List.{List, [], ◌∷◌}
use Prim.Native.Nat.{ℕ}
use denote.RattleType.{RattleType}
use denote.Param.Send.{IsSend, view_send, recorded_send, struct_send}
use denote.Struct.Declared.{shape}
use denote.Struct.Struct.{Struct}
use denote.Struct.Tuple.{TupleAt, type_at}
use Rattle.std.proofs.alloc.Global.TheSendSync as global
use Rattle.event_gate.specs.contracts.filter.TextFilter as filter
use Rattle.value_reader.proofs.Crossing as values
use Rattle.shared_value.proofs.Crossing.{writer_send as value_writer_send}
use Rattle.shared_gate.specs.contracts.gate.SharedGate as gate
use Rattle.shared_gate.specs.contracts.gate.SharedGate.TheInside as gate_inside
use Rattle.shared_gate.specs.contracts.note.GateNote as note
use Rattle.shared_gate.specs.contracts.note.GateNote.TheInside as note_inside
use Rattle.shared_gate.specs.contracts.writer.GateWriter as writer
use Rattle.shared_gate.specs.contracts.writer.GateWriter.TheInside as writer_inside
use Rattle.event_gate.proofs.FilterCrossing.{text_filter_send, text_filter_sync}

pub gate_send : IsSend gate.the_row
gate_send = view_send gate_inside.the_row _ _ _ _ (recorded_send gate_inside.the_field.row _ _ gate_inside.the_type.to_one (struct_send (shape gate_inside.the_type)
    (values.reader_send filter.the_row text_filter_send text_filter_sync, tt)))

pub note_send : IsSend note.the_row
note_send = view_send note_inside.the_row _ _ _ _ (recorded_send note_inside.the_field.row _ _ note_inside.the_type.to_one (struct_send (shape note_inside.the_type)
    (values.note_send filter.the_row text_filter_send text_filter_sync, tt)))

pub writer_send : IsSend writer.the_row
writer_send = view_send writer_inside.the_row _ _ _ _ (recorded_send writer_inside.the_field.row _ _ writer_inside.the_type.to_one (struct_send (shape writer_inside.the_type)
    (global.the_field_send, (value_writer_send filter.the_row _ text_filter_send text_filter_sync, tt))))

-- A closure may go to another thread with the three things that it borrows.
pub closure_send : (ν : List ℕ) (A B C : RattleType) → IsSend A → IsSend B → IsSend C → IsSend (TupleAt ν (A ∷ B ∷ C ∷ []))
closure_send ν A B C a b c = let t = type_at ν (A ∷ B ∷ C ∷ []) in recorded_send (Struct (shape t)) t.D t.to t.to_one (struct_send (shape t) (a, (b, (c, tt))))
