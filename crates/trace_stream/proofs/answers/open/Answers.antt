use Rattle.std.proofs.Common.{◌++◌, subst, None}
use Rattle.trace_stream.proofs.Common.{OpensLine}
use Rattle.trace_stream.proofs.AnswersLemmas.{opened, unopened, put_behind}
use Rattle.trace_stream.proofs.answers.open.Goals as goal

pub refuse-requires : goal.refuse-requires
refuse-requires c = (subst (OpensLine None c.args.line.now) c.in-Err.is c.in_ok-opened.ensures).1

pub returns-in-Ok : goal.returns-in-Ok
returns-in-Ok c put before count opens next other =
    opened c.args.signal before count c.args.lines (put ++ c.args.written.now.text.items) c.args.written.now.count c.args.line.now c.in-Ok.opened opens next other
    (subst (OpensLine None c.args.line.now) c.in-Ok.is c.in_ok-opened.ensures)

pub returns-in_ok-refuse-in-Err : goal.returns-in_ok-refuse-in-Err
returns-in_ok-refuse-in-Err c put before count opens next other =
    unopened c.args.signal before count c.args.lines (put ++ c.args.written.now.text.items) c.args.written.now.count c.args.line.now _ c.in-Err.told opens next other
    (subst (OpensLine None c.args.line.now) c.in-Err.is c.in_ok-opened.ensures).0 (put_behind put _ _ _ c.in_ok-refuse-in-Err.ensures.text)
