-- The levels are those of the entries.
use Rattle.std.proofs.Common.{◌≡◌, ◌∙◌, ap, refl, List, [], ◌∷◌, map, Bool, ◌||◌}
use Rattle.env_filter.proofs.Common.{list_any, Level, LevelFilter, is_within, OpenLevel, levels_admit}
use Rattle.env_filter.proofs.filter.EnvFilter.lane_admits.Goals as goal

open_mapped : (level : Level) (es : List OpenLevel) → list_any (λ (f : LevelFilter). is_within level f) (map (λ (e : OpenLevel). e.level) es) ≡ levels_admit level es
open_mapped level [] = refl
open_mapped level (e ∷ es) = ap (λ (b : Bool). is_within level e.level || b) (open_mapped level es)

pub returns : goal.returns
returns c = c.levels_admit.ensures ∙ ap (λ (fs : List LevelFilter). list_any (λ (f : LevelFilter). is_within c.args.level f) fs) c.levels.ensures.value ∙ open_mapped c.args.level _
