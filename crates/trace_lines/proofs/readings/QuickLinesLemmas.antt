-- What common request lines spell.
use Rattle.std.specs.Prelude.{⊤, unwrap_or}
use Rattle.std.specs.Str.{IsUtf8}
use Rattle.trace_lines.proofs.Common.{BadLine, Before, BeginsWithValue, Bor, Data, Equal, Greater, IfSome, IsAscii-decimal, IsNumber-decimal, IsUtf8-append, IsUtf8-are_ascii, IsUtf8-from_ascii, Less, List, Members, None, Ok, Option, Request, Some, Value, [], all_of, ap, append_assoc, are_ascii, arith, codes, compact_text, decimal, drop_form, enter_form, escape, escape_byte, event_form, exit_form, fields_of, length, match_ordering, member, nat_cmp, nat_list_cmp_total, new_form, no_members, number, number_of-decimal, ok_or, option_and_then, option_map, ordering_reverse, put, quoted, refl, request_form, request_spelled, slice_cmp, string, subst, suc, sym, tied_itself, true, unsigned, zero, ℕ, ◌++◌, ◌<◌, ◌^◌, ◌∙◌, ◌∷◌, ◌≡◌, ◌≤◌}
use Rattle.span_script.specs.declared.request.Call.TheVariants as call
use Rattle.span_script.specs.declared.request.RequestParent.{RequestParent}
use Rattle.span_script.specs.declared.request.RequestParent.TheVariants.{Contextual, Root, Under}
use Rattle.trace_lines.specs.declared.read.quick.CallKind.{CallKind}
use Rattle.trace_lines.specs.declared.read.quick.CallKind.TheVariants as kind
use Rattle.trace_lines.specs.declared.read.quick.RequestMembers.{RequestMembers}
use Rattle.trace_lines.specs.reading.Object.{whole_number}
use Rattle.trace_lines.specs.text.QuickLines.{with_member_if, present_members, member_values, kind_value, parent_value, AreSpelled, HasValue, ReadsMember, HasMembers, AreMembersOf}
use Rattle.trace_lines.proofs.readings.CompactLemmas.{leaf_begins, text_begins, whole_begins}

-- ---- members in the order of their names

abbrev Slot : Type 0
Slot = List ℕ × Option Data

-- the name comes before the first
abbrev IsBelow : List ℕ → List Slot → Type 0
IsBelow k [] = ⊤
IsBelow k (e ∷ es) = slice_cmp nat_cmp k e.0 ≡ Less

abbrev AreInOrder : List Slot → Type 0
AreInOrder [] = ⊤
AreInOrder (e ∷ es) = IsBelow e.0 es × AreInOrder es

abbrev name_at : ℕ → List Slot → List ℕ
name_at i [] = []
name_at zero (e ∷ es) = e.0
name_at (suc i) (e ∷ es) = name_at i es

abbrev with_value : ℕ → Data → List Slot → List Slot
with_value i d [] = []
with_value zero d (e ∷ es) = (e.0, Some d) ∷ es
with_value (suc i) d (e ∷ es) = e ∷ with_value i d es

below_more : (k l : List ℕ) (es : List Slot) → slice_cmp nat_cmp k l ≡ Less → IsBelow l es → IsBelow k es
below_more k l [] is next = tt
below_more k l (e ∷ es) is next = nat_list_cmp_total.trans k l e.0 is next

below_name : (k : List ℕ) (i : ℕ) (es : List Slot) → i < length es → IsBelow k es → AreInOrder es → slice_cmp nat_cmp k (name_at i es) ≡ Less
below_name k i [] within next order = absurd (omega (arith, within))
below_name k zero (e ∷ es) within next order = next
below_name k (suc i) (e ∷ es) within next order = nat_list_cmp_total.trans k e.0 (name_at i es) next (below_name e.0 i es (omega (arith, within)) order.0 order.1)

before_there : (k l : List ℕ) (o : Option Data) (ms : Members) → slice_cmp nat_cmp k l ≡ Less → Before k ms → Before k (with_member_if l o ms)
before_there k l None ms is before = before
before_there k l (Some d) ms is before = is

before_all : (k : List ℕ) (es : List Slot) → IsBelow k es → AreInOrder es → Before k (present_members es)
before_all k [] next order = tt
before_all k (e ∷ es) next order = before_there k e.0 e.1 (present_members es) next (before_all k es (below_more k e.0 es next order.0) order.1)

put_first : (k : List ℕ) (d : Data) (ms : Members) → Before k ms → put k d ms ≡ member k d ms
put_first k d no_members before = refl
put_first k d (member l e ms) before = rw before refl

put_here : (k : List ℕ) (o : Option Data) (d : Data) (ms : Members) → Before k ms → put k d (with_member_if k o ms) ≡ member k d ms
put_here k None d ms before = put_first k d ms before
put_here k (Some e) d ms before = rw (tied_itself nat_list_cmp_total k) refl

put_behind : (k l : List ℕ) (o : Option Data) (d : Data) (ms : Members) → slice_cmp nat_cmp k l ≡ Greater → put k d (with_member_if l o ms) ≡ with_member_if l o (put k d ms)
put_behind k l None d ms is = refl
put_behind k l (Some e) d ms is = rw is refl

put_value : (i : ℕ) (d : Data) (es : List Slot) → i < length es → AreInOrder es → present_members (with_value i d es) ≡ put (name_at i es) d (present_members es)
put_value i d [] within order = absurd (omega (arith, within))
put_value zero d (e ∷ es) within order = sym (put_here e.0 e.1 d (present_members es) (before_all e.0 es order.0 order.1))
put_value (suc i) d (e ∷ es) within order =
    let less : i < length es = omega (arith, within) in
    let above = nat_list_cmp_total.antisymm (name_at i es) e.0 ∙ ap ordering_reverse (below_name e.0 i es less order.0 order.1) in
    ap (with_member_if e.0 e.1) (put_value i d es less order.1) ∙ sym (put_behind (name_at i es) e.0 e.1 d (present_members es) above)

-- ---- values behind their names

pub number_behind : (text front digits rest : List ℕ) (n : ℕ) → text ≡ front ++ digits → digits ≡ decimal n ++ rest → n < 2 ^ 64 → HasValue text front (whole_number n) rest
number_behind text front digits rest n is begins fits = (
  digits,
  is,
  λ utf8. subst IsUtf8 (sym begins) (IsUtf8-append (decimal n) rest (IsUtf8-from_ascii (decimal n) (IsAscii-decimal n fits)) utf8),
  leaf_begins 18 digits rest (whole_number n) (whole_begins digits rest n begins fits),
)

pub word_behind : (text front value words rest : List ℕ) → text ≡ front ++ value → value ≡ quoted words ++ rest → are_ascii (quoted words) ≡ true → HasValue text front (string words) rest
word_behind text front value words rest is begins ascii = (
  value,
  is,
  λ utf8. subst IsUtf8 (sym begins) (IsUtf8-append (quoted words) rest (IsUtf8-are_ascii (quoted words) ascii) utf8),
  leaf_begins 18 value rest (string words) (text_begins value rest words begins),
)

pub kind_behind : (text front value rest : List ℕ) (k : CallKind) → text ≡ front ++ value → value ≡ compact_text (kind_value k) ++ rest → HasValue text front (kind_value k) rest
unfolding escape_byte
kind_behind text front value rest kind.New is begins = word_behind text front value (codes "new") rest is begins refl
kind_behind text front value rest kind.Event is begins = word_behind text front value (codes "event") rest is begins refl
kind_behind text front value rest kind.Enter is begins = word_behind text front value (codes "enter") rest is begins refl
kind_behind text front value rest kind.Exit is begins = word_behind text front value (codes "exit") rest is begins refl
kind_behind text front value rest kind.Drop is begins = word_behind text front value (codes "drop") rest is begins refl

-- the member of the name at a place
pub member_read : (i : ℕ) (old new : RequestMembers) (text rest name : List ℕ) (d : Data) → i < 8 → are_ascii (quoted name ++ 58 ∷ []) ≡ true
    → ((before : Option Data) → name_at i (member_values old before) ≡ name) → HasValue text (quoted name ++ 58 ∷ []) d rest
    → ((before : Option Data) → AreSpelled old.fields before → (after : Option Data) × AreSpelled new.fields after × (member_values new after ≡ with_value i d (member_values old before)))
    → ReadsMember old new text rest
member_read i old new text rest name d within ascii named has values = (
  name,
  d,
  has,
  λ utf8. subst IsUtf8 (sym has.1) (IsUtf8-append (quoted name ++ 58 ∷ []) has.0 (IsUtf8-are_ascii (quoted name ++ 58 ∷ []) ascii) (has.2 utf8)),
  λ before spelled.
      let v = values before spelled in (
        v.0,
        v.1,
        ap present_members v.2 ∙ put_value i d (member_values old before) within (refl, (refl, (refl, (refl, (refl, (refl, (refl, (tt, tt))))))))
            ∙ ap (λ k. put k d (present_members (member_values old before))) (named before),
      ),
)

-- the same, where there may be none
pub slot_read : (i : ℕ) (old new : RequestMembers) (text name : List ℕ) (P : Data → Type 0) (r : Option (Bor (List ℕ))) → i < 8 → are_ascii (quoted name ++ 58 ∷ []) ≡ true
    → ((before : Option Data) → name_at i (member_values old before) ≡ name)
    → ((d : Data) → P d → (before : Option Data) → AreSpelled old.fields before → (after : Option Data) × AreSpelled new.fields after × (member_values new after ≡ with_value i d (member_values old before)))
    → IfSome r (λ rest. (d : Data) × P d × HasValue text (quoted name ++ 58 ∷ []) d rest.now) → IfSome r (λ rest. ReadsMember old new text rest.now)
slot_read i old new text name P None within ascii named values has = tt
slot_read i old new text name P (Some rest) within ascii named values has = member_read i old new text rest.now name has.0 within ascii named has.2 (values has.0 has.1)

-- ---- requests of their members

pub new_read : (at lane site : ℕ) (parent : RequestParent) (fields : Option (List (List ℕ × Value)))
    → AreMembersOf (record { at = Some at; kind = Some kind.New; fields = fields; guard = None; handle = None; lane = Some lane; parent = parent; site = Some site })
    (record { at = at; lane_place = lane; call = call.New site parent (unwrap_or fields []) })
unfolding request_form new_form
new_read at lane site parent None (Some d) spelled = absurd spelled
new_read at lane site parent (Some fields) None spelled = absurd spelled
new_read at lane site Contextual None None spelled = refl
new_read at lane site Root None None spelled = refl
new_read at lane site (Under handle) None None spelled = refl
new_read at lane site Contextual (Some fields) (Some d) spelled = rw spelled refl
new_read at lane site Root (Some fields) (Some d) spelled = rw spelled refl
new_read at lane site (Under handle) (Some fields) (Some d) spelled = rw spelled refl

pub event_read : (at lane site : ℕ) (parent : RequestParent) (fields : Option (List (List ℕ × Value)))
    → AreMembersOf (record { at = Some at; kind = Some kind.Event; fields = fields; guard = None; handle = None; lane = Some lane; parent = parent; site = Some site })
    (record { at = at; lane_place = lane; call = call.Event site parent (unwrap_or fields []) })
unfolding request_form event_form
event_read at lane site parent None (Some d) spelled = absurd spelled
event_read at lane site parent (Some fields) None spelled = absurd spelled
event_read at lane site Contextual None None spelled = refl
event_read at lane site Root None None spelled = refl
event_read at lane site (Under handle) None None spelled = refl
event_read at lane site Contextual (Some fields) (Some d) spelled = rw spelled refl
event_read at lane site Root (Some fields) (Some d) spelled = rw spelled refl
event_read at lane site (Under handle) (Some fields) (Some d) spelled = rw spelled refl

pub enter_read : (at lane handle : ℕ) → AreMembersOf (record { at = Some at; kind = Some kind.Enter; fields = None; guard = None; handle = Some handle; lane = Some lane; parent = Contextual; site = None })
    (record { at = at; lane_place = lane; call = call.Enter handle })
unfolding request_form enter_form
enter_read at lane handle None spelled = refl
enter_read at lane handle (Some d) spelled = absurd spelled

pub exit_read : (at lane guard : ℕ) → AreMembersOf (record { at = Some at; kind = Some kind.Exit; fields = None; guard = Some guard; handle = None; lane = Some lane; parent = Contextual; site = None })
    (record { at = at; lane_place = lane; call = call.Exit guard })
unfolding request_form exit_form
exit_read at lane guard None spelled = refl
exit_read at lane guard (Some d) spelled = absurd spelled

pub drop_read : (at lane handle : ℕ) → AreMembersOf (record { at = Some at; kind = Some kind.Drop; fields = None; guard = None; handle = Some handle; lane = Some lane; parent = Contextual; site = None })
    (record { at = at; lane_place = lane; call = call.Drop handle })
unfolding request_form drop_form
drop_read at lane handle None spelled = refl
drop_read at lane handle (Some d) spelled = absurd spelled

pub members_spell : (line : List ℕ) (m : RequestMembers) (r : Option Request) → HasMembers line m → IfSome r (λ request. AreMembersOf m request) → IfSome r (λ request. request_spelled line ≡ Ok request)
unfolding request_spelled
members_spell line m None has of = tt
members_spell line m (Some request) has of = ap (λ ms. ok_or (option_and_then (all_of request_form) ms) BadLine) has.2 ∙ ap (λ v. ok_or v BadLine) (of has.0 has.1)
