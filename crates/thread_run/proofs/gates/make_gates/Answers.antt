use Rattle.thread_run.proofs.FilterLemmas.{never_refused}
use Rattle.thread_run.proofs.gates.make_gates.Goals as goal

pub unreachable-requires : goal.unreachable-requires
unreachable-requires c =
    never_refused c.args.text.now c.in-Err-Directive.field-0-0 c.in-Err-Directive.field-0 c.make.result c.requires.filter c.make.ensures.refused c.in-Err-Directive.is c.in-Err-Directive.field-0-is
