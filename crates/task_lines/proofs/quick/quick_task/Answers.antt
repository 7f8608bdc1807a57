use Rattle.std.proofs.Common.{rules}
use Rattle.std.specs.Str.{IsUtf8}
use Rattle.task_lines.proofs.StepsLemmas.{task_read, fielded_read}
use Rattle.task_lines.proofs.quick.quick_task.Goals as goal

pub returns-in_ok-site-in-Some : goal.returns-in_ok-site-in-Some
returns-in_ok-site-in-Some c =
    let utf8 : IsUtf8 c.args.line.now = search rules in
    let f = c.in_ok-fields-in-Some.ensures in
    let e = c.in_ok-site-in-Some.ensures in
    fielded_read c.args.line.now c.in-Some.list.now c.in_ok-fields-in-Some.tail.now c.in_ok-site-in-Some.site f.0 c.in_ok-fields-in-Some.fields c.in_ok-site-in-Some.steps utf8 c.in-Some.ensures f.1 f.2 e.fits e.text

pub returns-in_ok-site-in-None : goal.returns-in_ok-site-in-None
returns-in_ok-site-in-None c =
    let utf8 : IsUtf8 c.args.line.now = search rules in
    let e = c.in_ok-site-in-None.ensures in
    task_read c.args.line.now c.in_ok-site-in-None.site _ c.in_ok-site-in-None.steps utf8 e.fits e.text (search rules)
