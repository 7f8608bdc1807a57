use Rattle.std.proofs.Common.{◌∙◌}
use Rattle.trace_lines.proofs.texts.AddsLemmas.{alone, alone_utf8}
use Rattle.trace_lines.proofs.write.reply_line.Goals as goal

pub text_of-requires : goal.text_of-requires
text_of-requires c = alone_utf8 _ _ _ c.new-out.ensures c.in_ok-add_reply_line.ensures

pub returns : goal.returns
returns c = c.text_of.ensures ∙ alone _ _ _ c.new-out.ensures c.in_ok-add_reply_line.ensures
