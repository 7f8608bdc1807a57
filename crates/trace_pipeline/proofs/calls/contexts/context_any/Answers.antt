-- A whole subscriber can start spans.
use Rattle.std.proofs.Common.{Some, None}
use Rattle.trace_base.specs.Gate.{WorldValue}
use Rattle.trace_pipeline.proofs.Common.{HeldSpan, HasOn}
use Rattle.trace_pipeline.proofs.calls.contexts.context_any.Goals as goal

has_on_both : {S : Type 0} (P Q : S → Type 0) → ((s : S) → P s → Q s) → (world : WorldValue S) (held : HeldSpan) → HasOn (λ s id. P s) world held → HasOn (λ s id. Q s) world held
has_on_both P Q all world None has = has
has_on_both P Q all world (Some held) has = λ s there. all s (has s there)

pub context-requires-clause-can_start : goal.context-requires-clause-can_start
context-requires-clause-can_start g c = has_on_both _ _ g.met.S.OtelSubscriber.starts c.args.world.now c.args.span.now.held c.requires.whole
