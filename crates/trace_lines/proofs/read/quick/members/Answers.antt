use Rattle.std.specs.Str.{IsUtf8}
use Rattle.trace_lines.proofs.Common.{IsUtf8-append, IsUtf8-are_ascii, None, Some, [], ap, append_assoc, arith, no_members, put, quoted, refl, subst, sym, ◌++◌, ◌∙◌, ◌∷◌, ◌≡◌}
use Rattle.trace_lines.specs.text.QuickLines.{AreSpelled}
use Rattle.trace_lines.proofs.readings.CompactLemmas.{Named, AllNamed-push, held_push, members_first, members_on, members_text_end, object_read}
use Rattle.trace_lines.proofs.read.quick.members.Goals as goal

pub loop-init : goal.loop-init
loop-init c = ([], None, tt, members_first c.in_ok-rest.rest.now, subst (λ fields. AreSpelled fields None) (sym c.none-members.ensures.fields) tt, c.none-members.ensures.all, λ utf8. utf8)

pub returns-in-None : goal.returns-in-None
returns-in-None c =
    let inv = c.loop.invariant in
    let r = c.in_ok-after.ensures in
    let n : Named = (r.0, (r.2.3.0, r.1)) in
    let ns = inv.0 ++ n ∷ [] in
    let first = c.in_ok-rest.rest.now in
    let more = r.4 inv.1 inv.4 in
    let closed = c.in_ok-expect_bracket-in-None.ensures in
    let text = members_text_end first c.loop.rest.now (58 ∷ r.2.0) r.2.0 c.in_ok-after.after.now [] inv.0 n inv.3 (r.2.1 ∙ append_assoc (quoted r.0) (58 ∷ []) r.2.0) refl r.2.3.1 closed in
    let utf8 = inv.6 (r.3 (subst IsUtf8 (sym closed) (IsUtf8-are_ascii (125 ∷ []) refl))) in
    let whole = subst IsUtf8 (sym c.in_ok-rest.ensures) (IsUtf8-append (123 ∷ []) first (IsUtf8-are_ascii (123 ∷ []) refl) utf8) in (
      more.0,
      more.1,
      object_read 18 c.args.line.now first ns whole (omega arith) (AllNamed-push 18 inv.0 n inv.2 r.2.3.2) c.in_ok-rest.ensures text
          ∙ ap (λ ms. Some ms) (held_push inv.0 n no_members ∙ ap (put n.0 n.1.1) (sym inv.5) ∙ sym more.2),
    )

pub loop-preserved : goal.loop-preserved
loop-preserved c =
    let inv = c.loop.invariant in
    let r = c.in_ok-after.ensures in
    let n : Named = (r.0, (r.2.3.0, r.1)) in
    let more = r.4 inv.1 inv.4 in
    let rest = c.in-Some.more.now in (
      inv.0 ++ n ∷ [],
      more.0,
      AllNamed-push 18 inv.0 n inv.2 r.2.3.2,
      members_on c.in_ok-rest.rest.now c.loop.rest.now (58 ∷ r.2.0) r.2.0 c.in_ok-after.after.now rest inv.0 n inv.3 (r.2.1 ∙ append_assoc (quoted r.0) (58 ∷ []) r.2.0) refl r.2.3.1 c.in-Some.ensures,
      more.1,
      more.2 ∙ ap (put n.0 n.1.1) inv.5 ∙ sym (held_push inv.0 n no_members),
      λ utf8. inv.6 (r.3 (subst IsUtf8 (sym c.in-Some.ensures) (IsUtf8-append (44 ∷ []) rest (IsUtf8-are_ascii (44 ∷ []) refl) utf8))),
    )
