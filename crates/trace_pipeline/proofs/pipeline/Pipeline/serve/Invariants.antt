-- The requests that were passed are served.
use Rattle.std.proofs.Common.{◌≡◌, []}
use Rattle.trace_pipeline.proofs.Common.{tables, StandsFor, Reached}
use Rattle.trace_pipeline.proofs.pipeline.Pipeline.serve.Given as goal

abbrev pub invariant-loop-request : goal.invariant-loop-request
invariant-loop-request l = StandsFor l.fn.self (tables l.fn.self.setup []) → l.fn.self.recording.finished ≡ [] → l.fn.replies.items ≡ []
    → Reached l.fn.self.setup l.fn.requests.items l.request-iterator.rest.items l.self l.replies.items
