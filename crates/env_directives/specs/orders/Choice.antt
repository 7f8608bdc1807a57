-- Which static directive decides.
use Rattle.std.specs.Prelude.{ℕ, List, [], ◌∷◌, Bool, false, Option, None, Some, if◌then◌else◌}
use Rattle.std.specs.List.{find, filter}
use Rattle.std.specs.Ordering.{is_gt, nat_cmp}
use Rattle.std.specs.Option.{option_map_or, option_cmp}
use Rattle.trace_base.specs.declared.callsite.Callsite.{Callsite}
use Rattle.trace_base.specs.declared.level.Level.{Level}
use Rattle.trace_base.specs.words.Level.{is_within}
use Rattle.env_directives.specs.declared.directive.StaticDirective.{StaticDirective}
use Rattle.env_directives.specs.Cares.{cares, cares_about_target}
use Rattle.env_directives.specs.orders.StaticOrder.{target_length}

-- the level is within that of the directive that decides, and there is one
abbrev pub lets_through : Level → Option StaticDirective → Bool
lets_through level decider = option_map_or (λ d. is_within level d.level) decider false

-- the first directive that cares about a callsite decides
abbrev pub admits : List StaticDirective → Callsite → Bool
admits ds c = lets_through c.level (find (λ d. cares d c) ds)

-- the first directive without field names that covers a target decides
abbrev pub admits_target : List StaticDirective → List ℕ → Level → Bool
admits_target ds target level = lets_through level (find (λ d. cares_about_target d target) ds)

-- the first target is longer than the second, no target being shorter than any
abbrev pub is_longer : StaticDirective → StaticDirective → Bool
is_longer d e = is_gt (option_cmp nat_cmp (target_length d) (target_length e))

-- the directive with the longer target, the second where they are as long
abbrev pub with_longer_target : Option StaticDirective → StaticDirective → Option StaticDirective
with_longer_target None d = Some d
with_longer_target (Some e) d = if is_longer e d then Some e else Some d

-- of directives that were added in turn, the one with the longest target, the last added where several are as long
abbrev pub longest_from : Option StaticDirective → List StaticDirective → Option StaticDirective
longest_from best [] = best
longest_from best (d ∷ ds) = longest_from (with_longer_target best d) ds

-- of the directives that were added, that with the longest target among those without field names that cover a target
abbrev pub longest_covering : List StaticDirective → List ℕ → Option StaticDirective
longest_covering ds target = longest_from None (filter (λ d. cares_about_target d target) ds)
