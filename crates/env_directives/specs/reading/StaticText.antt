-- Which static directive a text spells.
use Rattle.std.specs.Prelude.{◌≡◌, ℕ, List, [], eqb, if◌then◌else◌, None, Some, Result, Ok, Err, codes, is_some, true, false}
use Rattle.std.specs.List.{ends_with}
use Rattle.std.specs.Option.{option_map_or}
use Rattle.trace_base.specs.declared.level.LevelFilter.{LevelFilter}
use Rattle.trace_base.specs.declared.level.LevelFilter.TheVariants.{TRACE}
use Rattle.trace_base.specs.words.LevelWords.{level_filter_of}
use Rattle.env_directives.specs.declared.directive.ParseError.{ParseError}
use Rattle.env_directives.specs.declared.directive.ParseError.TheVariants.{Level, Equals, Fields, Memory}
use Rattle.env_directives.specs.declared.directive.StaticDirective.{StaticDirective}
use Rattle.env_directives.specs.reading.Separators.{cut_once, comma_pieces, nonempty, without_closers}

-- an answer to a text that reads as that value or has that fault; want of memory may come in place of either
abbrev pub Fails : {X : Type 0} → ParseError → Result X ParseError → Type 0
Fails Memory read = Unit {0}
Fails e read = read ≡ Err e

abbrev pub ReadsOrFails : {X : Type 0} → Result X ParseError → Result X ParseError → Type 0
ReadsOrFails (Ok x) read = read ≡ Ok x
ReadsOrFails (Err e) read = Fails e read

-- a fault, or what follows from a value
abbrev pub and_then : {X Y : Type 0} → Result X ParseError → (X → Result Y ParseError) → Result Y ParseError
and_then (Ok x) f = f x
and_then (Err e) f = Err e

-- without an `=`: a level by itself, or else a target
abbrev pub bare_of : List ℕ → StaticDirective
bare_of text = option_map_or
    (λ level. record { target = None; field_names = []; level = level })
    (level_filter_of text)
    (record { target = Some text; field_names = []; level = TRACE })

-- the names of the fields behind the first `[{`
abbrev pub names_of : List ℕ → Result (List (List ℕ)) ParseError
names_of fields =
    if is_some (cut_once (codes "[{") fields) then Err (Fields true) else
    if ends_with eqb fields (codes "}]") then Ok (nonempty (comma_pieces (without_closers fields))) else
    Err (Fields false)

abbrev pub front_with_names : List ℕ → List ℕ → Result (List ℕ × List (List ℕ)) ParseError
front_with_names target fields = and_then (names_of fields) (λ names. Ok (target, names))

-- before the `=`: the target, which may be empty, and the names of fields
abbrev pub front_of : List ℕ → Result (List ℕ × List (List ℕ)) ParseError
front_of front = option_map_or
    (λ parts. front_with_names parts.0 parts.1)
    (cut_once (codes "[{") front)
    (Ok (front, []))

-- behind the `=`
abbrev pub level_behind_equals : List ℕ → Result LevelFilter ParseError
level_behind_equals text = option_map_or (λ level. Ok level) (level_filter_of text) (Err Level)

abbrev pub static_with_equals : List ℕ → List ℕ → Result StaticDirective ParseError
static_with_equals front level =
    and_then (front_of front) (λ parts. and_then (level_behind_equals level) (λ level.
    Ok (record { target = Some parts.0; field_names = parts.1; level = level })))

-- the directive that a text spells, or the fault of a text that spells none
abbrev pub static_of : List ℕ → Result StaticDirective ParseError
static_of text = option_map_or
    (λ parts. if is_some (cut_once (codes "=") parts.1) then Err Equals else static_with_equals parts.0 parts.1)
    (cut_once (codes "=") text)
    (Ok (bare_of text))
