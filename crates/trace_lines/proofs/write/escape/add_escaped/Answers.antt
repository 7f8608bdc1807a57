use Rattle.trace_lines.proofs.Common.{arith, escape, escape_byte, get_or, rules, take, take_rest, ◌++◌, ◌≡◌}
use Rattle.trace_lines.proofs.texts.EscapesLemmas.{run_added, all_added}
use Rattle.trace_lines.proofs.write.escape.add_escaped.Goals as goal

pub loop-run-preserved : goal.loop-run-preserved
loop-run-preserved c =
    let rest = c.loop-run.rest.now in
    let run = c.loop-run.run in
    let mid : c.extend_from_slice.new.self.items ≡ c.loop-run.out.items ++ take run rest = search rules in
    let new : c.add_byte.new.out.items ≡ c.extend_from_slice.new.self.items ++ escape_byte (get_or rest run 0) = search rules in
    (c.plain_run-run-in-loop-run.ensures.within, c.plain_run-run-in-loop-run.ensures.plain, run_added c.loop-run.out.items c.extend_from_slice.new.self.items c.add_byte.new.out.items rest _ (c.args.out.now.items ++ escape c.args.bytes.now) run (search (rules, take_rest)) (omega arith) c.loop-run.invariant.1 mid new c.loop-run.invariant.2)

pub returns : goal.returns
returns c =
    let new : c.extend_from_slice-2.new.self.items ≡ c.loop-run.out.items ++ c.loop-run.rest.now = search rules in
    all_added c.loop-run.out.items c.extend_from_slice-2.new.self.items c.loop-run.rest.now (c.args.out.now.items ++ escape c.args.bytes.now) c.loop-run.run (omega arith) c.loop-run.invariant.1 new c.loop-run.invariant.2
