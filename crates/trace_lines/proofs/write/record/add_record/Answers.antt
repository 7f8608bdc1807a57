-- The pieces, one after another, are the record's text.
use Rattle.trace_lines.proofs.Common.{AddsText, List, None, Option, Record, Some, array_of, attributes_data, codes, compact_text, decimal, escape_byte, event_data, hex16, hex32, kind_name, lane_text, link_data, quoted, record_object, refl, status_data, ℕ, ◌++◌, ◌≡◌}
use Rattle.trace_lines.proofs.texts.AddsLemmas.{then, retold}
use Rattle.trace_lines.proofs.write.record.add_record.Goals as goal

-- the pieces of a record, whose parts are told by their texts
abbrev pieces : Option ℕ → ℕ → Record → List ℕ
pieces lane number finished =
    (codes "{\"attributes\":" ++ compact_text (attributes_data finished.attributes))
    ++ ((codes ",\"end\":" ++ decimal finished.end)
    ++ ((codes ",\"events\":" ++ compact_text (array_of event_data finished.events))
    ++ ((codes ",\"kind\":" ++ quoted (kind_name finished.kind))
    ++ (lane_text lane
    ++ ((codes ",\"links\":" ++ compact_text (array_of link_data finished.links))
    ++ ((codes ",\"name\":" ++ quoted finished.name)
    ++ ((codes ",\"parent\":" ++ quoted (hex16 finished.parent))
    ++ ((codes ",\"record\":" ++ decimal number)
    ++ ((codes ",\"span\":" ++ quoted (hex16 finished.context.span))
    ++ ((codes ",\"start\":" ++ decimal finished.start)
    ++ ((codes ",\"status\":" ++ compact_text (status_data finished.status))
    ++ ((codes ",\"trace\":" ++ quoted (hex32 finished.context.trace))
    ++ codes "}"))))))))))))

whole : (lane : Option ℕ) (number : ℕ) (finished : Record) → pieces lane number finished ≡ compact_text (record_object lane number finished)
unfolding escape_byte record_object
whole None number finished = refl
whole (Some lane) number finished = refl

pub returns : goal.returns
returns c =
    let finished = c.args.finished.now in
    let new = c.add.new.out.items in
    let s1 : List ℕ = codes "{\"attributes\":" ++ compact_text (attributes_data c.as_slice.result.now) in
    let s2 : List ℕ = codes ",\"end\":" ++ decimal finished.end in
    let s3 : List ℕ = codes ",\"events\":" ++ compact_text (array_of event_data c.as_slice-2.result.now) in
    let s4 : List ℕ = codes ",\"kind\":" ++ quoted (kind_name finished.kind) in
    let s : List ℕ = lane_text c.args.lane in
    let s5 : List ℕ = codes ",\"links\":" ++ compact_text (array_of link_data c.as_slice-3.result.now) in
    let s6 : List ℕ = codes ",\"name\":" ++ quoted c.as_str.result.now in
    let s7 : List ℕ = codes ",\"parent\":" ++ quoted (hex16 finished.parent) in
    let s8 : List ℕ = codes ",\"record\":" ++ decimal c.args.number in
    let s9 : List ℕ = codes ",\"span\":" ++ quoted (hex16 finished.context.span) in
    let s10 : List ℕ = codes ",\"start\":" ++ decimal finished.start in
    let s11 : List ℕ = codes ",\"status\":" ++ compact_text (status_data finished.status) in
    let s12 : List ℕ = codes ",\"trace\":" ++ quoted (hex32 finished.context.trace) in
    let s13 : List ℕ = codes "}" in
    let x13 : AddsText c.add_long_id.new.out.items new s13 = c.in_ok-add.ensures in
    let t12 : List ℕ = s12 ++ s13 in
    let x12 : AddsText c.add_status.new.out.items new t12 = then c.add_status.new.out.items c.add_long_id.new.out.items new s12 s13 c.in_ok-add_long_id.ensures x13 in
    let t11 : List ℕ = s11 ++ t12 in
    let x11 : AddsText c.add_number-3.new.out.items new t11 = then c.add_number-3.new.out.items c.add_status.new.out.items new s11 t12 c.in_ok-add_status.ensures x12 in
    let t10 : List ℕ = s10 ++ t11 in
    let x10 : AddsText c.add_id-2.new.out.items new t10 = then c.add_id-2.new.out.items c.add_number-3.new.out.items new s10 t11 c.in_ok-add_number-3.ensures x11 in
    let t9 : List ℕ = s9 ++ t10 in
    let x9 : AddsText c.add_number-2.new.out.items new t9 = then c.add_number-2.new.out.items c.add_id-2.new.out.items new s9 t10 c.in_ok-add_id-2.ensures x10 in
    let t8 : List ℕ = s8 ++ t9 in
    let x8 : AddsText c.add_id.new.out.items new t8 = then c.add_id.new.out.items c.add_number-2.new.out.items new s8 t9 c.in_ok-add_number-2.ensures x9 in
    let t7 : List ℕ = s7 ++ t8 in
    let x7 : AddsText c.add_text.new.out.items new t7 = then c.add_text.new.out.items c.add_id.new.out.items new s7 t8 c.in_ok-add_id.ensures x8 in
    let t6 : List ℕ = s6 ++ t7 in
    let x6 : AddsText c.add_array-3.new.out.items new t6 = then c.add_array-3.new.out.items c.add_text.new.out.items new s6 t7 c.in_ok-add_text.ensures x7 in
    let t5 : List ℕ = s5 ++ t6 in
    let x5 : AddsText c.add_lane.new.out.items new t5 = then c.add_lane.new.out.items c.add_array-3.new.out.items new s5 t6 c.in_ok-add_array-3.ensures x6 in
    let t : List ℕ = s ++ t5 in
    let x : AddsText c.add_kind.new.out.items new t = then c.add_kind.new.out.items c.add_lane.new.out.items new s t5 c.in_ok-add_lane.ensures x5 in
    let t4 : List ℕ = s4 ++ t in
    let x4 : AddsText c.add_array-2.new.out.items new t4 = then c.add_array-2.new.out.items c.add_kind.new.out.items new s4 t c.in_ok-add_kind.ensures x in
    let t3 : List ℕ = s3 ++ t4 in
    let x3 : AddsText c.add_number.new.out.items new t3 = then c.add_number.new.out.items c.add_array-2.new.out.items new s3 t4 c.in_ok-add_array-2.ensures x4 in
    let t2 : List ℕ = s2 ++ t3 in
    let x2 : AddsText c.add_array.new.out.items new t2 = then c.add_array.new.out.items c.add_number.new.out.items new s2 t3 c.in_ok-add_number.ensures x3 in
    let t1 : List ℕ = s1 ++ t2 in
    let x1 : AddsText c.args.out.now.items new t1 = then c.args.out.now.items c.add_array.new.out.items new s1 t2 c.in_ok-add_array.ensures x2 in
    retold c.args.out.now.items new t1 (compact_text (record_object c.args.lane c.args.number finished)) x1
    (rw (c.as_slice.ensures, c.as_slice-2.ensures, c.as_slice-3.ensures, c.as_str.ensures) (whole c.args.lane c.args.number finished))
