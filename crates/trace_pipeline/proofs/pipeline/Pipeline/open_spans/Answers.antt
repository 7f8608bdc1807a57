-- How many spans are open.
use Rattle.std.proofs.Common.{rules, refl, ◌∙◌}
use Rattle.trace_pipeline.proofs.Common.{open_counted}
use Rattle.trace_pipeline.proofs.pipeline.Pipeline.open_spans.Goals as goal

pub returns : goal.returns
returns c = λ t stands. c.count_open.ensures ∙ open_counted _ _ c.self.view_is c.self.inside.handles.items refl c.registry.result.now.spans.made (search rules) c.len.result (search rules) t stands
