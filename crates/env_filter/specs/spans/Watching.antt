-- Which directives cared for a span, and which of the values that they ask for were met.
use Rattle.std.specs.Prelude.{ℕ, ◌==◌, ◌&&◌, ◌||◌, if◌then◌else◌, Bool, true, false, List, [], ◌∷◌, ◌++◌, length, take, drop, map, Option, Some, None, is_some, bytes_eq, nat_lt, slice_set}
use Rattle.std.specs.List.{list_any, list_all, filter}
use Rattle.trace_base.specs.declared.callsite.Callsite.{Callsite}
use Rattle.trace_base.specs.declared.field.Value.{Value}
use Rattle.trace_base.specs.declared.level.LevelFilter.{LevelFilter}
use Rattle.trace_base.specs.declared.level.LevelFilter.TheVariants.{OFF}
use Rattle.trace_base.specs.Field.{place_of}
use Rattle.env_directives.specs.declared.env.directive.Directive.{Directive}
use Rattle.env_directives.specs.declared.env.field.Match.{Match}
use Rattle.env_directives.specs.declared.env.field.ValueMatch.{ValueMatch}
use Rattle.env_directives.specs.Cares.{cares_for_span}
use Rattle.env_directives.specs.Meeting.{meets}
use Rattle.env_directives.specs.orders.Table.{more_verbose}
use Rattle.env_filter.specs.declared.watch.Ask.{Ask}
use Rattle.env_filter.specs.declared.watch.Care.{Care}

-- the directives that cared for a span, and of each value that they ask for, in order, whether it was met
pub record MatchState : Type 0 where
  pub cares : List Care
  pub met : List Bool

-- some of the given values stands at the place and meets what is asked
abbrev pub is_given : List (ℕ × Value) → Ask → Bool
is_given given ask = list_any (λ pair. pair.0 == ask.place && meets ask.value pair.1) given

-- a later field of the name asks for a value
abbrev pub is_asked_later : List ℕ → List Match → Bool
is_asked_later name fields = list_any (λ field. is_some field.value && bytes_eq field.name name) fields

-- what a field asks of a callsite, if it asks for a value, no later one of its name does, and the callsite has it
abbrev pub ask_if : Bool → Option ValueMatch → Option ℕ → Option Ask
ask_if true value place = None
ask_if false None place = None
ask_if false (Some value) None = None
ask_if false (Some value) (Some place) = Some (record { place = place; value = value })

abbrev pub ask_of : Callsite → Match → List Match → Option Ask
ask_of c field later = ask_if (is_asked_later field.name later) field.value (place_of field.name c)

abbrev pub and_ask : Option Ask → List Ask → List Ask
and_ask None asks = asks
and_ask (Some ask) asks = ask ∷ asks

-- what the valued fields of a directive ask of a callsite's fields; of two of one name the later counts
abbrev pub asks_of : Callsite → List Match → List Ask
asks_of c [] = []
asks_of c (field ∷ fields) = and_ask (ask_of c field fields) (asks_of c fields)

abbrev pub care_of : Callsite → Directive → Care
care_of c d = record { level = d.level; asks = asks_of c d.fields }

-- the directives that care for a callsite, with what they ask
abbrev pub cares_of : Callsite → List Directive → List Care
cares_of c ds = map (care_of c) (filter (λ d. cares_for_span d c) ds)

abbrev pub all_asks : List Care → List Ask
all_asks [] = []
all_asks (care ∷ cares) = care.asks ++ all_asks cares

abbrev pub found_in : List (ℕ × Value) → List Care → List Bool
found_in given cares = map (is_given given) (all_asks cares)

-- a span's matches at its making, if a directive cares
abbrev pub match_state_by : List Care → List (ℕ × Value) → Option MatchState
match_state_by [] given = None
match_state_by (care ∷ cares) given = Some (record { cares = care ∷ cares; met = found_in given (care ∷ cares) })

abbrev pub new_match_state : List Directive → Callsite → List (ℕ × Value) → Option MatchState
new_match_state ds c given = match_state_by (cares_of c ds) given

-- what was met stays met
abbrev pub more_met : List Bool → List Bool → List Bool
more_met [] found = []
more_met (m ∷ met) [] = m ∷ met
more_met (m ∷ met) (f ∷ found) = (m || f) ∷ more_met met found

abbrev pub with_met_at : List Bool → ℕ → Bool → List Bool
with_met_at met at found = if found && nat_lt at (length met) then slice_set met at true else met

abbrev pub with_values : List (ℕ × Value) → MatchState → MatchState
with_values given w = record w { met = more_met w.met (found_in given w.cares) }

-- the greatest level of those directives all of whose values were met, no less than one
abbrev pub level_from : LevelFilter → List Care → List Bool → LevelFilter
level_from now [] met = now
level_from now (care ∷ cares) met =
    level_from (if list_all (λ m. m) (take (length care.asks) met) then more_verbose now care.level else now) cares (drop (length care.asks) met)

abbrev pub level_of_match : MatchState → LevelFilter
level_of_match w = level_from OFF w.cares w.met
