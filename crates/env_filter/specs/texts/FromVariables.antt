-- Filters from variables: what is read, and why there is no filter.
use Rattle.std.specs.Prelude.{◌≡◌, ◌≢◌, ℕ, Bool, List, [], Option, None, Some, Result, Ok, Err, codes}
use Rattle.std.specs.Option.{unwrap_or}
use Rattle.env_directives.specs.declared.directive.ParseError.{ParseError}
use Rattle.env_directives.specs.declared.directive.ParseError.TheVariants as cause
use Rattle.env_filter.specs.declared.builder.env.FromEnvError.{FromEnvError}
use Rattle.env_filter.specs.declared.builder.env.FromEnvError.TheVariants.{Parse, Env, Memory}
use Rattle.env_filter.specs.declared.pieces.Ignored.{Ignored}
use Rattle.env_filter.specs.texts.Building.{BuilderValue, IsFilterOf, HasFilterFault}
use Rattle.env_filter.specs.Filtering.{FilterState}
use Rattle.env_filter.specs.texts.Reading.{KnownVariables, IsReadUnder}

-- a filter is that of what the builder's variable gave, the empty text where that was nothing
pub record IsFilterOfVariable (told : KnownVariables) (b : BuilderValue) (ignored : List Ignored) (f : FilterState) : Type 0 where
  pub read : Option (List ℕ)
  pub there : IsReadUnder told b.variable read
  pub is : IsFilterOf b (unwrap_or read []) ignored f

-- whichever pieces are left out
pub record IsSomeFilterOfVariable (told : KnownVariables) (b : BuilderValue) (f : FilterState) : Type 0 where
  pub ignored : List Ignored
  pub is : IsFilterOfVariable told b ignored f

-- a filter is that of what a variable gave, which was something
abbrev pub IsOfVariable : BuilderValue → Option (List ℕ) → FilterState → Type 0
IsOfVariable b None f = ⊥
IsOfVariable b (Some text) f = IsFilterOf b text [] f

pub record IsFilterOfSetVariable (told : KnownVariables) (b : BuilderValue) (f : FilterState) : Type 0 where
  pub read : Option (List ℕ)
  pub there : IsReadUnder told b.variable read
  pub is : IsOfVariable b read f

-- what was read gives no filter
abbrev pub IsRefusedIn : Bool → Option (List ℕ) → FromEnvError → Type 0
IsRefusedIn patterns None (Parse fault) = ⊥
IsRefusedIn patterns (Some text) (Parse fault) = (fault ≢ cause.Memory) × HasFilterFault patterns text fault
IsRefusedIn patterns None Env = Unit {0}
IsRefusedIn patterns (Some text) Env = ⊥
IsRefusedIn patterns None Memory = ⊥
IsRefusedIn patterns (Some text) Memory = Unit {0}

-- what the builder's variable gave is refused; an absent one counts as empty
abbrev pub IsRefusedFrom : KnownVariables → BuilderValue → FromEnvError → Type 0
IsRefusedFrom told b (Parse fault) = (read : Option (List ℕ)) × IsReadUnder told b.variable read × (fault ≢ cause.Memory) × HasFilterFault b.patterns (unwrap_or read []) fault
IsRefusedFrom told b Env = ⊥
IsRefusedFrom told b Memory = Unit {0}

-- the same where it has to be there
abbrev pub IsFaultOfSetVariable : KnownVariables → BuilderValue → FromEnvError → Type 0
IsFaultOfSetVariable told b (Parse fault) = (text : List ℕ) × IsReadUnder told b.variable (Some text) × (fault ≢ cause.Memory) × HasFilterFault b.patterns text fault
IsFaultOfSetVariable told b Env = IsReadUnder told b.variable None
IsFaultOfSetVariable told b Memory = Unit {0}

-- a text's fault as one of its variable
abbrev pub env_fault : ParseError → FromEnvError
env_fault cause.Memory = Memory
env_fault cause.Shape = Parse cause.Shape
env_fault cause.Level = Parse cause.Level
env_fault cause.Field = Parse cause.Field
env_fault cause.Pattern = Parse cause.Pattern
env_fault cause.Equals = Parse cause.Equals
env_fault (cause.Fields many) = Parse (cause.Fields many)

-- what a text gave, with its fault as one of its variable
abbrev pub IsParsed : {F : Type 0} → Result F ParseError → Result F FromEnvError → Type 0
IsParsed (Ok f) parsed = parsed ≡ Ok f
IsParsed (Err fault) parsed = parsed ≡ Err (env_fault fault)

-- what a fault prints: that of a piece what a directive's fault prints
abbrev pub env_fault_text : (ParseError → Option (List ℕ)) → FromEnvError → Option (List ℕ)
env_fault_text text (Parse fault) = text fault
env_fault_text text Env = Some (codes "environment variable not found")
env_fault_text text Memory = Some (codes "out of memory")
