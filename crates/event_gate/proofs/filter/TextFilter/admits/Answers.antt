-- The filter is the new one of the text.
use Rattle.std.proofs.Common.{ℕ, List, ap, ◌∙◌}
use mathlib.Core.Logic.{∥∥₁_elim}
use base.Stored.{Coded-set}
use Rattle.std.specs.Coded.{coded_bool}
use Rattle.env_filter.specs.Filtering.{FilterState, plain_filter}
use Rattle.event_gate.specs.Rules.{fixed_text_filter, gate_rule}
use Rattle.event_gate.proofs.Filters.{ruled}
use Rattle.event_gate.proofs.filter.TextFilter.admits.Goals as goal

pub returns : goal.returns
returns c = c.lets_through.ensures ∙ ∥∥₁_elim c.self.invariant (Coded-set coded_bool _ _)
    (λ r. ruled (plain_filter c.self.inside.filter) c.args.levels.now c.args.c.now r.new ∙ ap (λ (f : FilterState). gate_rule f c.args.levels.now c.args.c.now) r.is)
    ∙ ap (λ (t : List ℕ). gate_rule (fixed_text_filter t) c.args.levels.now c.args.c.now) c.self.view_is
