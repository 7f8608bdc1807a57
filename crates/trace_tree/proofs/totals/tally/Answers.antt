-- Sums fit: no more records than a u64 counts, and each busy time is a u64.
use Rattle.std.proofs.Common.{rules, ◌≡◌, ℕ, ◌+◌, ◌*◌, ◌<◌, ◌≤◌, cond, Option, Some, List, length, take, get_or, sum_by, ap, ◌∙◌, arith}
use Rattle.std.specs.Option.{unwrap_or}
use Rattle.std.specs.Ordering.{nat_cmp}
use Rattle.std.specs.BTreeMap.{get, is_at}
use Rattle.trace_tree.specs.declared.span.TreeSpan.{TreeSpan}
use Rattle.trace_tree.specs.Totals.{busy_time, of_trace}
use Rattle.trace_tree.proofs.Tallies.{sums_or, tallies_more}
use Rattle.trace_tree.proofs.totals.tally.Goals as goal

pub overflow_add-more : goal.overflow_add-more
overflow_add-more c =
    let ys : List TreeSpan = of_trace c.span-item.result.trace (take c.loop-span.span-index c.args.finished.now) in
    let t : c.sums_at-spans.result ≡ (length ys, sum_by busy_time ys) =
    c.sums_at-spans.ensures ∙ ap (λ (o : Option (ℕ × ℕ)). unwrap_or o (0, 0)) (c.loop-span.invariant.tally c.span-item.result.trace) ∙ sums_or ys in
    let s : c.sums_at-spans.result.1 ≡ sum_by busy_time ys = ap (λ (p : ℕ × ℕ). p.1) t in
    let l = c.loop-span.invariant.low c.span-item.result.trace in
    let f : c.from.result < 18446744073709551616 = (let e = c.from.ensures in omega arith) in
    let m : c.sums_at-spans.result.1 ≤ c.loop-span.span-index * 18446744073709551616 = omega arith in
    search rules

pub overflow_add-spans : goal.overflow_add-spans
overflow_add-spans c =
    let ys : List TreeSpan = of_trace c.span-item.result.trace (take c.loop-span.span-index c.args.finished.now) in
    let t : c.sums_at-spans.result ≡ (length ys, sum_by busy_time ys) =
    c.sums_at-spans.ensures ∙ ap (λ (o : Option (ℕ × ℕ)). unwrap_or o (0, 0)) (c.loop-span.invariant.tally c.span-item.result.trace) ∙ sums_or ys in
    let s : c.sums_at-spans.result.0 ≡ length ys = ap (λ (p : ℕ × ℕ). p.0) t in
    let l = c.loop-span.invariant.few c.span-item.result.trace in
    let m : c.sums_at-spans.result.0 ≤ c.loop-span.span-index = omega arith in
    search rules

pub loop-span-preserved : goal.loop-span-preserved
loop-span-preserved c =
    let r : TreeSpan = c.span-item.result in
    let xs : List TreeSpan = take c.loop-span.span-index c.args.finished.now in
    let ys : List TreeSpan = of_trace r.trace xs in
    let t : c.sums_at-spans.result ≡ (length ys, sum_by busy_time ys) =
    c.sums_at-spans.ensures ∙ ap (λ (o : Option (ℕ × ℕ)). unwrap_or o (0, 0)) (c.loop-span.invariant.tally r.trace) ∙ sums_or ys in
    let b : c.from.result ≡ r.busy = c.from.ensures in
    let small : busy_time (get_or c.args.finished.now c.loop-span.span-index r) ≤ 18446744073709551616 =
    (let e = ap busy_time c.span-item.is in let k = c.from.ensures in let l : c.from.result < 18446744073709551616 = search rules in omega arith) in
    let value : (c.sums_at-spans.result.0 + 1, c.sums_at-spans.result.1 + c.from.result) ≡ (length ys + 1, sum_by busy_time ys + r.busy) = (λ i. ((t i).0 + 1, (t i).1 + b i)) in
    tallies_more c.args.finished.now c.loop-span.span-index r c.loop-span.sums c.insert.new.self c.loop-span-test.true c.loop-span.invariant small
    (λ q.
    c.in_ok-insert.ensures.updates.0 q
    ∙ ap (λ (v : ℕ × ℕ). cond (is_at (nat_cmp r.trace) q) (Some v) (get nat_cmp c.loop-span.sums q)) value
    ∙ ap (λ (x : TreeSpan). cond (is_at (nat_cmp x.trace) q) (Some (length (of_trace x.trace xs) + 1, sum_by busy_time (of_trace x.trace xs) + busy_time x)) (get nat_cmp c.loop-span.sums q)) c.span-item.is)
