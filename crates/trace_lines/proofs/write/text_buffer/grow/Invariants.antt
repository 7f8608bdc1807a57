use Rattle.std.proofs.Common.{◌≡◌, ◌+◌, ◌≤◌, ◌-◌, length, take}
use Rattle.trace_lines.proofs.write.text_buffer.grow.Given as goal

abbrev pub invariant-loop-bytes : goal.invariant-loop-bytes
invariant-loop-bytes l = (l.len ≤ length l.bytes.items) × (take l.len l.bytes.items ≡ take l.len l.fn.bytes.items)

abbrev pub decreases-loop-bytes : goal.decreases-loop-bytes
decreases-loop-bytes l = l.len + l.count - length l.bytes.items
