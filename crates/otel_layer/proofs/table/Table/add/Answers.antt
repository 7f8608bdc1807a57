-- One entry more, which isn't a gap.
use Rattle.std.proofs.Common.{◌<◌, ◌^◌, List, true, arith, refl, sym, ap, subst, ◌∙◌}
use Rattle.std.proofs.lemmas.Bool.{true≢false}
use Rattle.otel_layer.proofs.Common.{Entry, all_data, with_span_data, IdsRiseIf, RisesTo}
use Rattle.otel_layer.proofs.Gaps.{within, read_added}
use Rattle.otel_layer.proofs.RisingIdsLemmas.{added_kept}
use Rattle.otel_layer.proofs.table.Table.add.Goals as goal
use Rattle.otel_layer.proofs.table.Table.add.Goals.{then-self, else-self}

pub overflow_add-self : goal.overflow_add-self
overflow_add-self c =
    let most = within (λ s. s.span_data) c.self.inside.entries.items in
    let counts = c.self.invariant.counts in
    let long = c.self.inside.entries.ok.0 in
    let fits = c.self.inside.entries.ok.1 in
    let small = c.self.inside.entries.small in
    let few : c.self.inside.known < 2 ^ 63 = omega (arith, most, counts, long, fits, small) in
    omega (arith, few)

pub invariant_of-self : goal.invariant_of-self
invariant_of-self c =
    let old : List Entry = c.self.inside.entries.items in
    added_kept c.self.inside.rising c.if-self.self c.self.inside.known old _ _ c.args.state c.in-Ok.ensures.items refl
    (λ is. elim c.if-self.branch [
      | then-self w ↦ subst (λ (xs : List Entry). RisesTo c.args.id xs) w.as_slice.ensures.value (w.is_youngest-self-inside.ensures (sym w.self-is ∙ is)
          (subst (λ (xs : List Entry). IdsRiseIf true xs) (sym w.as_slice.ensures.value) (λ _. c.self.invariant.rises w.if-self.true)))
      | else-self w ↦ absurd (true≢false (sym is ∙ w.self-is ∙ w.if-self.false))
    ])
    c.self.invariant

pub returns : goal.returns
returns c =
    ap (λ (xs : List Entry). all_data xs) c.in-Ok.ensures.items ∙ read_added (λ s. s.span_data) c.self.inside.entries.items _
    ∙ ap (λ s. with_span_data c.args.id c.args.state.span_data s.spans) c.self.view_is
