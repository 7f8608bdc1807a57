use Rattle.std.proofs.Common.{◌≡◌, ◌+◌, ◌++◌, [], ◌∷◌, Some, ap, sym, ◌∙◌, rules}
use Rattle.serde_json.specs.Data.{no_items}
use Rattle.trace_lines.specs.declared.read.syntax.scan.TheConstants.{MAX_DEPTH}
use Rattle.trace_lines.proofs.readings.CompactLemmas.{Pair, AllRead-push, items_first, items_on, items_text_end, array_front, read_items}
use Rattle.task_lines.proofs.StepsLemmas.{step_more}
use Rattle.task_lines.proofs.quick.leading_steps.Goals as goal

pub returns-in-Some : goal.returns-in-Some
returns-in-Some c = (
  no_items,
  array_front (MAX_DEPTH + 3) c.args.bytes.now c.in_ok-rest.rest.now c.in-Some.end.now [] tt c.in_ok-rest.ensures c.in-Some.ensures,
  ap (λ ss. Some ss) (sym c.new.ensures),
)

pub loop-init : goal.loop-init
loop-init c = let none : c.in_ok-steps.steps.items ≡ [] = search rules in ([], tt, items_first c.in_ok-rest.rest.now, ap (λ ss. Some ss) (sym none))

pub returns-in-None : goal.returns-in-None
returns-in-None c =
    let ps = c.loop.invariant.0 in
    let b = c.in_ok-next.ensures in
    let p : Pair = (b.1.0, b.0) in
    let kept = step_more ps p c.loop.steps.items c.push_step.new.steps.items c.in_ok-next.next c.loop.invariant.3 b.2 c.in_ok-push_step.ensures in
    let end = c.in_ok-end-in-None.end.now in
    let text = items_text_end c.in_ok-rest.rest.now c.loop.rest.now c.in_ok-next.after.now end ps p c.loop.invariant.2 b.1.1 c.in_ok-end-in-None.ensures in (
      read_items (ps ++ p ∷ []),
      array_front (MAX_DEPTH + 3) c.args.bytes.now c.in_ok-rest.rest.now end (ps ++ p ∷ []) (AllRead-push (MAX_DEPTH + 3) ps p c.loop.invariant.1 b.1.2) c.in_ok-rest.ensures text,
      kept ∙ ap (λ ss. Some ss) (sym c.in_ok-listed-in-None.ensures),
    )

pub loop-preserved : goal.loop-preserved
loop-preserved c =
    let ps = c.loop.invariant.0 in
    let b = c.in_ok-next.ensures in
    let p : Pair = (b.1.0, b.0) in (
      ps ++ p ∷ [],
      AllRead-push (MAX_DEPTH + 3) ps p c.loop.invariant.1 b.1.2,
      items_on c.in_ok-rest.rest.now c.loop.rest.now c.in_ok-next.after.now c.in-Some-behind_word.more.now ps p c.loop.invariant.2 b.1.1 c.in-Some-behind_word.ensures,
      step_more ps p c.loop.steps.items c.push_step.new.steps.items c.in_ok-next.next c.loop.invariant.3 b.2 c.in_ok-push_step.ensures,
    )
