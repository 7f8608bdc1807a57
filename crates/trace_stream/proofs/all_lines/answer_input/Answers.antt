use Rattle.std.proofs.Common.{◌∙◌}
use Rattle.trace_stream.proofs.AllLinesLemmas.{tells_cut}
use Rattle.trace_stream.proofs.all_lines.answer_input.Goals as goal

pub returns-in-Fault : goal.returns-in-Fault
returns-in-Fault g c =
    tells_cut (g.C.AllLinesCommand.accepts c.args.command.now) (g.C.AllLinesCommand.writes c.args.command.now) c.args.input.now.end
    _ _ c.args.input.now.bytes.items _ _ c.answer_cut.result
    c.whole_part.ensures c.deref.ensures.value c.min-size.ensures (c.len.ensures ∙ c.args.input.now.bytes.ok.0) c.in-Fault.is c.answer_cut.ensures
