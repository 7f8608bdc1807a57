-- The members, from the last to the first.
use Rattle.trace_lines.proofs.Common.{ap, codes, object, put, record_object, string, with_lane, ◌∙◌}
use Rattle.trace_lines.specs.values.Building.{members_of}
use Rattle.trace_lines.proofs.readings.ObjectsLemmas.{lane_first}
use Rattle.trace_lines.proofs.write.value.object_of.Goals as goal

pub returns : goal.returns
unfolding record_object
returns c =
    let contents =
    c.in_ok-with-4.ensures ∙ ap (put _ _) (c.in_ok-with-3.ensures ∙ ap (put _ _) (c.in_ok-with-2.ensures ∙ ap (put _ _) (c.in_ok-with.ensures ∙ ap (put _ _) c.new.ensures))) in
    let times = c.in_ok-with_number-2.ensures ∙ ap (put _ _) (c.in_ok-with_number.ensures ∙ ap (put _ _) contents) in
    let ids = c.in_ok-with_long_id.ensures ∙ ap (put _ _) (c.in_ok-with_id-2.ensures ∙ ap (put _ _) (c.in_ok-with_id.ensures ∙ ap (put _ _) times)) in
    let kind = c.in_ok-with_text.ensures ∙ ap (λ name. put (codes "kind") (string name) (members_of c.in_ok-with_long_id.field-0)) c.name_of.ensures ∙ ap (put _ _) ids in
    let numbered = c.in_ok-with_number-3.ensures ∙ ap (put _ _) (c.in_ok-with-5.ensures ∙ ap (put _ _) kind) in
    c.into_value.ensures ∙ ap object (c.in_ok-object.ensures ∙ ap (with_lane c.args.lane) numbered ∙ lane_first c.args.lane _)
