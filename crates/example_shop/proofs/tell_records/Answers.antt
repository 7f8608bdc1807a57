-- What is taken is the first of the records that are left.
use Rattle.std.proofs.Common.{arith, ap, length}
use Rattle.otel_layer.specs.Recording.{Recording}
use Rattle.example_shop.proofs.tell_records.Goals as goal

pub loop-record-smaller : goal.loop-record-smaller
loop-record-smaller c =
    let taken = c.takes_record.ensures.recording _ _ _ c.take_record.ensures.rest in
    omega (arith, ap (λ (r : Recording). length r.finished) taken, ap length c.in-Some.ensures.oldest)
