use Rattle.std.proofs.Common.{◌+◌, ap, sym, subst, ◌∙◌}
use Rattle.std.specs.Arc.{arc_value}
use Rattle.left_right.specs.Sides.{view}
use Rattle.value_reader.specs.Order.{in_place}
use Rattle.shared_value.specs.Puts.{KnowsAll, IsPut, PutsOrLeaves}
use Rattle.shared_value.proofs.Steps.{puts_next}
use Rattle.shared_value.proofs.Puts.{next_is, put_behind, on_both}
use Rattle.shared_value.proofs.writer.put_next.Goals as goal
use Rattle.shared_value.proofs.writer.put_next.Goals.{in-Ok, in-Err}

pub publish_as-requires : goal.publish_as-requires
publish_as-requires g c next is =
    puts_next _ _ c.append.new.self.desk.shown.value next _ (next_is arc_value _ _ _ _ _ c.in-Ok.ensures.pending is)
    (c.requires.next ∙ ap (λ d. (in_place d.shown.value).number + 1) (sym c.append.ensures.desk))

-- what is put is put behind what there was before it was appended, and what is left is that
pub returns : goal.returns
returns g c =
    let value = (arc_value c.args.next).value in
    let same = c.append.ensures.desk in
    let number = c.requires.next ∙ ap (λ d. (in_place d.shown.value).number + 1) (sym same) in
    let writer = subst (λ d. KnowsAll (view d.place) d.shown.value) (sym same) c.requires.writer in
    elim c.match-append.branch [
      | in-Ok w ↦ subst (λ r. PutsOrLeaves (view c.args.writer.desk.place) c.args.writer.desk.shown.value value r.1 (view r.0.desk.place) r.0.desk.shown.value) (sym w.result-is)
          (on_both _ _ _ _ _ _ w.publish_as.result.1 w.publish_as.ensures.values w.publish_as.ensures.rule
          (λ x values put. subst (λ d. IsPut (view d.place) value (view w.publish_as.result.0.desk.place) w.publish_as.result.0.desk.shown.value) same
          (put_behind _ _ _ _ (arc_value c.args.next) writer number (next_is arc_value _ _ _ _ _ w.in-Ok.ensures.pending values.0) put))
          (λ e values rule. (rule ∙ ap (λ d. view d.place) same, values.0 ∙ ap (λ d. d.shown.value) same)))
      | in-Err w ↦ subst (λ r. PutsOrLeaves (view c.args.writer.desk.place) c.args.writer.desk.shown.value value r.1 (view r.0.desk.place) r.0.desk.shown.value) (sym w.result-is)
          (ap (λ d. view d.place) same, ap (λ d. d.shown.value) same)
    ]
