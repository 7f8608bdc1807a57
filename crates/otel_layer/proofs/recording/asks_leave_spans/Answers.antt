-- By the trait's law.
use Rattle.otel_layer.proofs.Common.{alike}
use Rattle.otel_layer.proofs.recording.asks_leave_spans.Goals as goal

pub returns : goal.returns
returns g c = λ old new dispatch call r.
    let stays = g.met.S.OtelSubscriber.stays in
    alike g.S.Subscriber.spans g.S.Subscriber.attaches g.S.Subscriber.kept g.S.Subscriber.is_whole (λ s t. g.S.OtelPart.touches s call t)
    (λ s t d. (stays s call t d).spans_same) (λ s t d. (stays s call t d).attaches_same) (λ s t d. (stays s call t d).kept_same) (λ s t d. (stays s call t d).whole) old new dispatch r
