-- What the calls so far say of a span's level and of a lane's levels.
use Rattle.std.specs.Prelude.{◌≡◌, ℕ, ◌≤◌, ◌==◌, if◌then◌else◌, Bool, false, List, [], ◌∷◌, ◌++◌, Option, Some, None, is_some, flat_map, fold}
use Rattle.std.specs.List.{list_any, list_all, filter}
use Rattle.trace_base.specs.declared.callsite.Callsite.{Callsite}
use Rattle.trace_base.specs.declared.field.Value.{Value}
use Rattle.trace_base.specs.declared.level.LevelFilter.{LevelFilter}
use Rattle.trace_base.specs.declared.level.LevelFilter.TheVariants.{OFF}
use Rattle.trace_base.specs.words.Level.{greatest_verbosity}
use Rattle.trace_base.specs.layers.Hooks.{Hook, OnNewSpan, OnRecord, OnFollows, OnEvent, OnEnter, OnExit, OnClose}
use Rattle.env_directives.specs.declared.env.directive.Directive.{Directive}
use Rattle.env_directives.specs.orders.Table.{more_verbose}
use Rattle.env_filter.specs.declared.watch.Care.{Care}
use Rattle.env_filter.specs.spans.Levels.{OpenLevel, levels_of}
use Rattle.env_filter.specs.Filtering.{FilterState, fresh_filter, after_hook}
use Rattle.env_filter.specs.spans.Kept.{with_open_level, without_open_level}
use Rattle.env_filter.specs.spans.Watching.{is_given, cares_of}

-- the callsite of a span, if the call makes it
abbrev pub callsite_if_made : ℕ → Hook → Option Callsite
callsite_if_made q (OnNewSpan id lane at parent current callsite values) = if id == q then Some callsite else None
callsite_if_made q (OnRecord id at callsite values) = None
callsite_if_made q (OnFollows id from at) = None
callsite_if_made q (OnEvent reached lane at callsite values) = None
callsite_if_made q (OnEnter id at before later) = None
callsite_if_made q (OnExit id at before later) = None
callsite_if_made q (OnClose id at) = None

-- the values that a call gives a span, at its making or by a record
abbrev pub values_given_by : ℕ → Hook → List (ℕ × Value)
values_given_by q (OnNewSpan id lane at parent current callsite values) = if id == q then values.pairs else []
values_given_by q (OnRecord id at callsite values) = if id == q then values.pairs else []
values_given_by q (OnFollows id from at) = []
values_given_by q (OnEvent reached lane at callsite values) = []
values_given_by q (OnEnter id at before later) = []
values_given_by q (OnExit id at before later) = []
values_given_by q (OnClose id at) = []

-- whether a call closes a span
abbrev pub is_close_of : ℕ → Hook → Bool
is_close_of q (OnClose id at) = id == q
is_close_of q (OnNewSpan id lane at parent current callsite values) = false
is_close_of q (OnRecord id at callsite values) = false
is_close_of q (OnFollows id from at) = false
is_close_of q (OnEvent reached lane at callsite values) = false
is_close_of q (OnEnter id at before later) = false
is_close_of q (OnExit id at before later) = false

-- the callsite by which a span was made under the filter, if it was
abbrev pub callsite_by_calls : ℕ → List Hook → Option Callsite
callsite_by_calls q [] = None
callsite_by_calls q (call ∷ calls) = if is_some (callsite_if_made q call) then callsite_if_made q call else callsite_by_calls q calls

-- all values given to a span so far
abbrev pub all_values_given : ℕ → List Hook → List (ℕ × Value)
all_values_given q calls = flat_map (values_given_by q) calls

abbrev pub is_ended : ℕ → List Hook → Bool
is_ended q calls = list_any (is_close_of q) calls

-- the greatest level of some directives, no less than one
abbrev pub greatest_from : LevelFilter → List Care → LevelFilter
greatest_from now [] = now
greatest_from now (care ∷ cares) = greatest_from (more_verbose now care.level) cares

-- a directive is met once each value that it asks for was given
abbrev pub is_met : List (ℕ × Value) → Care → Bool
is_met values care = list_all (is_given values) care.asks

-- the greatest level of those met, else OFF; no level where no directive cares
abbrev pub level_by : List (ℕ × Value) → List Care → Option LevelFilter
level_by values [] = None
level_by values (care ∷ cares) = Some (greatest_from OFF (filter (is_met values) (care ∷ cares)))

-- the level by the callsite of a making, and none where there was none
abbrev pub level_if : List Directive → Option Callsite → List (ℕ × Value) → Option LevelFilter
level_if ds None values = None
level_if ds (Some c) values = level_by values (cares_of c ds)

-- a span's level after some calls
abbrev pub level_by_calls : List Directive → ℕ → List Hook → Option LevelFilter
level_by_calls ds q calls = if is_ended q calls then None else level_if ds (callsite_by_calls q calls) (all_values_given q calls)

-- what a call makes of a lane's levels: an entry of a span that has a level appends its level of that moment, an exit
-- takes off the newest that an entry of that span appended
abbrev pub levels_after_call : List Directive → ℕ → List Hook → Hook → List OpenLevel → List OpenLevel
levels_after_call ds lane past (OnEnter id at before later) now = if lane == before.id then with_open_level (level_by_calls ds id past) id now else now
levels_after_call ds lane past (OnExit id at before later) now = if lane == before.id then without_open_level (is_some (level_by_calls ds id past)) id now else now
levels_after_call ds lane past (OnNewSpan id l at parent current callsite values) now = now
levels_after_call ds lane past (OnRecord id at callsite values) now = now
levels_after_call ds lane past (OnFollows id from at) now = now
levels_after_call ds lane past (OnEvent reached l at callsite values) now = now
levels_after_call ds lane past (OnClose id at) now = now

abbrev pub levels_from : List Directive → ℕ → List Hook → List Hook → List OpenLevel → List OpenLevel
levels_from ds lane past [] now = now
levels_from ds lane past (call ∷ calls) now = levels_from ds lane (past ++ call ∷ []) calls (levels_after_call ds lane past call now)

-- a lane's levels after some calls
abbrev pub levels_by_calls : List Directive → ℕ → List Hook → List OpenLevel
levels_by_calls ds lane calls = levels_from ds lane [] calls []

-- no call so far was of the span
pub record HasNoCalls (q : ℕ) (past : List Hook) : Type 0 where
  pub unmade : callsite_by_calls q past ≡ None
  pub nothing : all_values_given q past ≡ []
  pub not_ended : is_ended q past ≡ false

abbrev pub MayComeNext : List Hook → Hook → Type 0
MayComeNext past (OnNewSpan id lane at parent current callsite values) = HasNoCalls id past
MayComeNext past (OnRecord id at callsite values) = Unit {0}
MayComeNext past (OnFollows id from at) = Unit {0}
MayComeNext past (OnEvent reached lane at callsite values) = Unit {0}
MayComeNext past (OnEnter id at before later) = Unit {0}
MayComeNext past (OnExit id at before later) = Unit {0}
MayComeNext past (OnClose id at) = Unit {0}

-- each span is made once, before any other call of it
abbrev pub AreInOrder : List Hook → List Hook → Type 0
AreInOrder past [] = Unit {0}
AreInOrder past (call ∷ calls) = MayComeNext past call × AreInOrder (past ++ call ∷ []) calls

-- the calls since a filter had no span
pub record AreHooksSince (f : FilterState) (calls : List Hook) : Type 0 where
  pub order : AreInOrder [] calls
  pub now : f ≡ fold after_hook (fresh_filter f) calls

-- a span's level, and a lane's levels, are what those calls tell
abbrev pub IsLevelByCalls : FilterState → ℕ → Option LevelFilter → Type 0
IsLevelByCalls f id level = (calls : List Hook) → AreHooksSince f calls → level ≡ level_by_calls f.dynamics.directives id calls

abbrev pub AreLevelsByCalls : FilterState → ℕ → List LevelFilter → Type 0
AreLevelsByCalls f lane levels =
    (calls : List Hook) → AreHooksSince f calls → levels ≡ levels_of (levels_by_calls f.dynamics.directives lane calls)

-- where a level is there before and later, it isn't lower later
abbrev pub NeverFalls : Option LevelFilter → Option LevelFilter → Type 0
NeverFalls before later =
    (l m : LevelFilter) → before ≡ Some l → later ≡ Some m → greatest_verbosity l ≤ greatest_verbosity m
