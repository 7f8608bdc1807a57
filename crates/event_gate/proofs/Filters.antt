-- The rule of the gate for a new filter.
use Rattle.std.proofs.Common.{◌≡◌, List, Bool, true, false, Some, refl, ap, ◌∙◌}
use Rattle.std.specs.Prelude.{◌||◌, ◌&&◌}
use Rattle.trace_base.specs.declared.callsite.Callsite.{Callsite}
use Rattle.trace_base.specs.declared.level.LevelFilter.{LevelFilter}
use Rattle.trace_base.specs.words.Level.{is_within}
use Rattle.trace_base.specs.Gate.{gate}
use Rattle.env_directives.specs.orders.Choice.{admits}
use Rattle.env_filter.specs.Filtering.{FilterState, IsNewFilter, interest_in, hint_in, enables_in, is_cared, levels_admit}
use Rattle.env_filter.specs.Gating.{gate_is_admitted}
use Rattle.event_gate.specs.Rules.{gate_rule, is_within_some}

moved : (a b o : Bool) → (o || (a || (b || false))) ≡ (a || (b || o))
moved true b true = refl
moved true b false = refl
moved false true true = refl
moved false true false = refl
moved false false true = refl
moved false false false = refl

pub ruled : (f : FilterState) (levels : List LevelFilter) (c : Callsite) → IsNewFilter f
    → (is_within_some c.level levels || gate (interest_in f c) (Some (hint_in f)) (enables_in f 0 c) c.level) ≡ gate_rule f levels c
ruled f levels c new =
    let o : Bool = is_within_some c.level levels in
    ap (λ (b : Bool). o || b)
    (gate_is_admitted f 0 c new.whole ∙ ap (λ (g : FilterState). admits f.statics.directives c || ((is_cared f c && is_within c.level (hint_in f)) || levels_admit c.level (g.lanes 0))) new.alone)
    ∙ moved (admits f.statics.directives c) (is_cared f c && is_within c.level (hint_in f)) o
