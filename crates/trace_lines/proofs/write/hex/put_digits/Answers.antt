-- Each turn puts down one digit, and the last leaves none, or zeros alone.
use Rattle.std.proofs.Common.{◌∙◌, sym, arith}
use Rattle.std.proofs.Math.ListN.{length-set}
use Rattle.trace_lines.proofs.texts.HexLemmas.{digit_put, zeros_put, front_put, zeros_left, all_put, last_digits-onto}
use Rattle.trace_lines.proofs.write.hex.put_digits.Goals as goal

pub loop-at-preserved : goal.loop-at-preserved
loop-at-preserved c = record {
  from_start = omega arith;
  to_end = omega arith;
  len = length-set _ _ _ ∙ c.loop-at.invariant.len;
  front = front_put c.args.start c.loop-at.at c.digit_of.result c.loop-at.digits (omega arith) ∙ c.loop-at.invariant.front;
  zeros = zeros_put c.args.start c.loop-at.at c.digit_of.result c.loop-at.digits (omega arith) (omega arith) c.loop-at.invariant.zeros;
  all = digit_put c.args.start c.loop-at.at c.loop-at.rest c.digit_of.result c.loop-at.digits (omega arith) (omega arith) c.digit_of.ensures ∙ c.loop-at.invariant.all;
}

pub returns-after-loop-at-clause-from_start : goal.returns-after-loop-at-clause-from_start
returns-after-loop-at-clause-from_start c =
    sym (all_put c.args.start c.loop-at.at c.loop-at.rest c.loop-at.digits (omega arith)) ∙ c.loop-at.invariant.all ∙ last_digits-onto c.args.id _ (omega arith)

pub returns-else-rest-gt0-clause-from_start : goal.returns-else-rest-gt0-clause-from_start
returns-else-rest-gt0-clause-from_start c =
    sym (zeros_left c.args.start c.loop-at.at c.loop-at.rest c.loop-at.digits (omega arith) c.loop-at.invariant.zeros) ∙ c.loop-at.invariant.all ∙ last_digits-onto c.args.id _ (omega arith)
