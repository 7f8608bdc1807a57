-- A filter: its tables, the matches of spans, the levels of lanes, and what each hook makes of them.
use Rattle.std.specs.Prelude.{◌≡◌, ℕ, ◌<◌, ◌≤◌, ◌==◌, ◌&&◌, ◌||◌, if◌then◌else◌, Bool, true, false, not, List, [], ◌∷◌, length, Option, Some, None, is_some, count_by, IfSome}
use Rattle.std.specs.List.{list_any}
use Rattle.std.specs.Option.{option_map}
use Rattle.trace_base.specs.declared.callsite.Callsite.{Callsite}
use Rattle.trace_base.specs.declared.level.Level.{Level}
use Rattle.trace_base.specs.declared.level.LevelFilter.{LevelFilter}
use Rattle.trace_base.specs.declared.level.LevelFilter.TheVariants.{TRACE, OFF}
use Rattle.trace_base.specs.declared.subscriber.Interest.{Interest}
use Rattle.trace_base.specs.declared.subscriber.Interest.TheVariants as interests
use Rattle.trace_base.specs.words.Level.{is_within, greatest_verbosity}
use Rattle.trace_base.specs.layers.Hooks.{Hook, OnNewSpan, OnRecord, OnFollows, OnEvent, OnEnter, OnExit, OnClose, Preparation, ForNewSpan, ForRecord, ForFollows, ForEvent, ForEnter, KnownSpans}
use Rattle.span_registry.specs.Both.{KnowsNone}
use Rattle.env_filter.specs.spans.Keyed.{put}
use Rattle.env_filter.specs.spans.Levels.{OpenLevel, LaneLevels, is_of_span}
use Rattle.env_filter.specs.spans.Kept.{match_state_in, levels_in, room_in, with_open_level, without_open_level}
use Rattle.env_directives.specs.declared.directive.StaticDirective.{StaticDirective}
use Rattle.env_directives.specs.declared.env.directive.Directive.{Directive}
use Rattle.env_directives.specs.declared.env.field.Match.{Match}
use Rattle.env_directives.specs.Cares.{cares_for_span, is_span}
use Rattle.env_directives.specs.orders.Choice.{admits}
use Rattle.env_directives.specs.orders.Table.{DirectiveTable, more_verbose}
use Rattle.env_filter.specs.spans.Watching.{MatchState, new_match_state, with_values, level_of_match, found_in}
use Rattle.env_filter.specs.declared.watch.Care.{Care}
use Rattle.env_filter.specs.declared.filter.hooks.Ready.{Ready}

-- Whether patterns are taken, the tables in force, the matches of the live spans that were made under them and cared for,
-- and each lane's levels.
pub record FilterState : Type 0 where
  pub patterns : Bool
  pub statics : DirectiveTable StaticDirective
  pub dynamics : DirectiveTable Directive
  pub spans : ℕ → Option MatchState
  pub lanes : ℕ → List OpenLevel

-- what a filter has: the same, with what it keeps of spans and of lanes in lists, and room
pub record FilterWithRoom : Type 0 where
  pub patterns : Bool
  pub statics : DirectiveTable StaticDirective
  pub dynamics : DirectiveTable Directive
  pub match_states : List (ℕ × MatchState)
  pub lanes : List (ℕ × LaneLevels)
  pub span_room : ℕ

-- the same without room
abbrev pub plain_filter : FilterWithRoom → FilterState
plain_filter s = record { patterns = s.patterns; statics = s.statics; dynamics = s.dynamics; spans = match_state_in s.match_states; lanes = levels_in s.lanes }

-- the same tables, with no span and no level
abbrev pub fresh_filter : FilterState → FilterState
fresh_filter f = record f { spans = λ id. None; lanes = λ lane. [] }

abbrev pub span_level : FilterState → ℕ → Option LevelFilter
span_level f id = option_map level_of_match (f.spans id)

-- what a hook makes of a filter
abbrev pub after_hook : FilterState → Hook → FilterState
after_hook f (OnNewSpan id lane at parent current callsite values) = record f { spans = put f.spans id (new_match_state f.dynamics.directives callsite values.pairs) }
after_hook f (OnRecord id at callsite values) = record f { spans = put f.spans id (option_map (with_values values.pairs) (f.spans id)) }
after_hook f (OnFollows id from at) = f
after_hook f (OnEvent reached lane at callsite values) = f
after_hook f (OnEnter id at before later) = record f { lanes = put f.lanes before.id (with_open_level (span_level f id) id (f.lanes before.id)) }
after_hook f (OnExit id at before later) = record f { lanes = put f.lanes before.id (without_open_level (is_some (f.spans id)) id (f.lanes before.id)) }
after_hook f (OnClose id at) = record f { spans = put f.spans id None }

abbrev pub knows_in : FilterState → ℕ → Bool
knows_in f id = is_some (f.spans id)

abbrev pub entries_in : FilterState → ℕ → ℕ → ℕ
entries_in f lane id = count_by (is_of_span id) (f.lanes lane)

abbrev pub seen_in : FilterState → KnownSpans
seen_in f = record { knows = knows_in f; entries = entries_in f }

-- what a hook was allowed to take for granted, and that lanes stay as they are
abbrev pub AllowsHook : FilterState → Hook → Type 0
AllowsHook f (OnNewSpan id lane at parent current callsite values) = knows_in f id ≡ false
AllowsHook f (OnRecord id at callsite values) = Unit {0}
AllowsHook f (OnFollows id from at) = Unit {0}
AllowsHook f (OnEvent reached lane at callsite values) = Unit {0}
AllowsHook f (OnEnter id at before later) = later ≡ before
AllowsHook f (OnExit id at before later) = (later ≡ before) × (knows_in f id ≡ true → 0 < entries_in f before.id id)
AllowsHook f (OnClose id at) = Unit {0}

pub record DoesFilter (s : FilterWithRoom) (hook : Hook) (t : FilterWithRoom) : Type 0 where
  pub given : AllowsHook (plain_filter s) hook
  pub now : (plain_filter t) ≡ after_hook (plain_filter s) hook

abbrev pub IsReadyFilter : FilterWithRoom → Preparation → Ready → Type 0
IsReadyFilter s (ForNewSpan lane callsite values) r = (r.matches ≡ new_match_state (plain_filter s).dynamics.directives callsite values.pairs) × (0 < s.span_room)
IsReadyFilter s (ForRecord id callsite values) r = (w : MatchState) → (plain_filter s).spans id ≡ Some w → r.found ≡ found_in values.pairs w.cares
IsReadyFilter s (ForFollows id from) r = Unit {0}
IsReadyFilter s (ForEvent reached callsite values) r = Unit {0}
IsReadyFilter s (ForEnter id lane) r = knows_in (plain_filter s) id ≡ true → 0 < room_in s.lanes lane

-- The gate.
abbrev pub is_cared : FilterState → Callsite → Bool
is_cared f c = is_span c.kind && list_any (λ d. cares_for_span d c) f.dynamics.directives

abbrev pub has_dynamics : FilterState → Bool
has_dynamics f = not (length f.dynamics.directives == 0)

abbrev pub interest_in : FilterState → Callsite → Interest
interest_in f c = if is_cared f c || admits f.statics.directives c then interests.Always else if has_dynamics f then interests.Sometimes else interests.Never

-- whether some dynamic directive asks for a value
abbrev pub asks_value : Match → Bool
asks_value field = is_some field.value

abbrev pub asks_values : List Directive → Bool
asks_values ds = list_any (λ d. list_any asks_value d.fields) ds

abbrev pub hint_in : FilterState → LevelFilter
hint_in f = if asks_values f.dynamics.directives then TRACE else more_verbose f.statics.greatest f.dynamics.greatest

-- the level is within some level on the lane's list
abbrev pub levels_admit : Level → List OpenLevel → Bool
levels_admit level levels = list_any (λ e. is_within level e.level) levels

abbrev pub enables_in : FilterState → ℕ → Callsite → Bool
enables_in f lane c =
    (has_dynamics f && (is_within c.level f.dynamics.greatest && (is_cared f c || levels_admit c.level (f.lanes lane))))
    || (is_within c.level f.statics.greatest && admits f.statics.directives c)

-- what is admitted on a lane
abbrev pub is_admitted : FilterState → ℕ → Callsite → Bool
is_admitted f lane c = admits f.statics.directives c || ((is_cared f c && is_within c.level (hint_in f)) || levels_admit c.level (f.lanes lane))

-- each item of a list
abbrev pub Each : {X : Type 0} → (X → Type 0) → List X → Type 0
Each P [] = Unit {0}
Each P (x ∷ xs) = P x × Each P xs

-- What the gate stands on: no level of a directive, of a care or on a lane is above the greatest of its table, and
-- without dynamic directives that is OFF.
abbrev pub IsAtMostLevel : LevelFilter → LevelFilter → Type 0
IsAtMostLevel most level = greatest_verbosity level ≤ greatest_verbosity most

pub record IsWholeFilter (f : FilterState) : Type 0 where
  pub statics : Each (λ (d : StaticDirective). IsAtMostLevel f.statics.greatest d.level) f.statics.directives
  pub dynamics : Each (λ (d : Directive). IsAtMostLevel f.dynamics.greatest d.level) f.dynamics.directives
  pub spans : (id : ℕ) → IfSome (f.spans id) (λ w. Each (λ (care : Care). IsAtMostLevel f.dynamics.greatest care.level) w.cares)
  pub lanes : (lane : ℕ) → Each (λ (e : OpenLevel). IsAtMostLevel f.dynamics.greatest e.level) (f.lanes lane)
  pub none : length f.dynamics.directives ≡ 0 → f.dynamics.greatest ≡ OFF

-- A filter that was just made: with its tables alone.
pub record IsNewFilter (f : FilterState) : Type 0 where
  pub whole : IsWholeFilter f
  pub none : KnowsNone (seen_in f)
  pub alone : f ≡ fresh_filter f
