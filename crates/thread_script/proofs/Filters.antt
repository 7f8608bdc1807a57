-- A gate that is asked without levels.
use Rattle.std.proofs.Common.{◌≡◌, ℕ, List, [], ap}
use Rattle.std.specs.Prelude.{◌==◌, if◌then◌else◌}
use Rattle.event_gate.specs.declared.levels.Levels.{Levels}
use Rattle.event_gate.specs.Rules.{gate_rule, fixed_text_filter, levels_of_reload}
use Rattle.trace_base.specs.declared.callsite.Callsite.{Callsite}
use Rattle.trace_base.specs.declared.level.LevelFilter.{LevelFilter}
use Rattle.thread_script.specs.Plans.{AreNoLevels, text_admits}

under_none : (levels : Levels) → AreNoLevels levels → levels_of_reload 0 levels ≡ []
under_none levels n = (λ i. if (n.0 i == 0) then (n.1 i) else [])

-- a gate that is at its opening text answers by that text, and so does the text
pub by_gate : (text : List ℕ) (levels : Levels) (c : Callsite) → AreNoLevels levels → gate_rule (fixed_text_filter text) (levels_of_reload 0 levels) c ≡ text_admits text c
by_gate text levels c n = ap (λ (l : List LevelFilter). gate_rule (fixed_text_filter text) l c) (under_none levels n)

pub by_text : (text : List ℕ) (levels : Levels) (c : Callsite) → AreNoLevels levels → gate_rule (fixed_text_filter text) levels.list c ≡ text_admits text c
by_text text levels c n = ap (λ (l : List LevelFilter). gate_rule (fixed_text_filter text) l c) n.1
