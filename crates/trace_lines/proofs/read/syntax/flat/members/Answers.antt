use Rattle.std.specs.Str.{IsUtf8}
use Rattle.trace_lines.proofs.Common.{List, MAX_DEPTH, Some, [], ap, append_assoc, arith, compact_text, members_of, no_members, plain_data, put, quoted, refl, rules, sym, ℕ, ◌++◌, ◌∙◌, ◌∷◌, ◌≡◌}
use Rattle.trace_lines.proofs.readings.CompactLemmas.{Named, AllNamed-push, held_push, member_is, members_first, members_on, members_text_end, object_read}
use Rattle.trace_lines.proofs.read.syntax.flat.members.Goals as goal

pub behind_ascii-rest-requires : goal.behind_ascii-rest-requires
behind_ascii-rest-requires c = ([], 123, omega arith, sym c.as_bytes.ensures.value ∙ c.in_ok-first.ensures)

pub loop-init : goal.loop-init
loop-init c =
    let none : c.in_ok-members.members.items ≡ [] = search rules in
    let utf8 : IsUtf8 c.behind_ascii-rest.result.now = search rules in
    ([], tt, members_first c.behind_ascii-rest.result.now, ap members_of none, utf8)

pub member-requires-text-left : goal.member-requires-text-left
member-requires-text-left c = λ _. c.loop.invariant.4

pub returns-in-None : goal.returns-in-None
returns-in-None c =
    let ns = c.loop.invariant.0 in
    let m = c.in_ok-named.ensures in
    let b = m.2 in
    let n : Named = (c.in_ok-named.named.0.now, (b.0, plain_data c.in_ok-named.named.1)) in
    let placed = c.in_ok-insert_member.ensures ∙ ap (put n.0 n.1.1) c.loop.invariant.3 ∙ sym (held_push ns n no_members) in
    let first = c.behind_ascii-rest.result.now in
    let text = members_text_end first c.loop.rest.now (58 ∷ m.0) m.0 c.in_ok-named.after.now [] ns n c.loop.invariant.2 m.1 refl b.1 c.in_ok-expect_bracket-in-None.ensures in
    let utf8 : IsUtf8 c.args.line.now = search rules in
    let opens = sym c.as_bytes.ensures.value ∙ c.in_ok-first.ensures ∙ ap (λ (l : List ℕ). 123 ∷ l) (sym c.behind_ascii-rest.ensures) in
    object_read MAX_DEPTH c.args.line.now first (ns ++ n ∷ []) utf8 (omega arith) (AllNamed-push MAX_DEPTH ns n c.loop.invariant.1 b.2) opens text
    ∙ ap (λ ms. Some ms) (sym placed)

pub behind_ascii-rest-requires-in-Some : goal.behind_ascii-rest-requires-in-Some
behind_ascii-rest-requires-in-Some c =
    let m = c.in_ok-named.ensures in
    let b = m.2 in
    let name = quoted c.in_ok-named.named.0.now in
    let n : Named = (c.in_ok-named.named.0.now, (b.0, plain_data c.in_ok-named.named.1)) in (
      name ++ 58 ∷ compact_text b.0,
      44,
      omega arith,
      member_is c.loop.rest.now (58 ∷ m.0) m.0 c.in_ok-named.after.now (44 ∷ c.in-Some.more.now) n m.1 refl b.1 c.in-Some.ensures
          ∙ sym (append_assoc name (58 ∷ compact_text b.0) (44 ∷ c.in-Some.more.now)),
    )

pub loop-preserved : goal.loop-preserved
loop-preserved c =
    let ns = c.loop.invariant.0 in
    let m = c.in_ok-named.ensures in
    let b = m.2 in
    let n : Named = (c.in_ok-named.named.0.now, (b.0, plain_data c.in_ok-named.named.1)) in
    let more = c.in-Some.ensures ∙ ap (λ (l : List ℕ). 44 ∷ l) (sym c.behind_ascii-rest-in-Some.ensures) in
    let utf8 : IsUtf8 c.behind_ascii-rest-in-Some.result.now = search rules in (
      ns ++ n ∷ [],
      AllNamed-push MAX_DEPTH ns n c.loop.invariant.1 b.2,
      members_on c.behind_ascii-rest.result.now c.loop.rest.now (58 ∷ m.0) m.0 c.in_ok-named.after.now c.behind_ascii-rest-in-Some.result.now ns n c.loop.invariant.2 m.1 refl b.1 more,
      c.in_ok-insert_member.ensures ∙ ap (put n.0 n.1.1) c.loop.invariant.3 ∙ sym (held_push ns n no_members),
      utf8,
    )
