use Rattle.std.proofs.Common.{sym, ◌∙◌}
use Rattle.trace_base.proofs.LevelNumbers.{byte_read, no_byte_read}
use Rattle.trace_base.proofs.level.filter_of_decimal.Goals as goal

pub returns-in-Ok : goal.returns-in-Ok
returns-in-Ok c = c.filter_with_verbosity.ensures ∙ sym (byte_read c.args.text.now c.in-Ok.verbosity c.in-Ok.ensures.value.0)

pub returns-in-Err : goal.returns-in-Err
returns-in-Err c = sym (no_byte_read c.args.text.now c.in-Err.ensures.value.0)
