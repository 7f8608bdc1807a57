-- The order in which the spans of a history started, which gives them their ids.
use Rattle.std.specs.Prelude.{ℕ, ◌+◌, ◌==◌, List, [], ◌∷◌, ◌++◌, fold, flat_map, if◌then◌else◌, Option, Some, None, Bool}
use Rattle.std.specs.Option.{option_to_list}
use Rattle.trace_base.specs.Spans.{is_in}
use Rattle.otel_layer.specs.Recording.{id_if_on}
use Rattle.span_script.specs.Tables.{MadeSpan, Effect, History}

-- a span more that started, unless it had
abbrev pub with_started : List ℕ → ℕ → List ℕ
with_started order s = if is_in s order then order else order ++ s ∷ []

-- the span that starts as it is made, by its number, where spans start early
abbrev pub span_starting_at_making : Bool → ℕ → Option MadeSpan → Option ℕ
span_starting_at_making eager n None = None
span_starting_at_making eager n (Some m) = id_if_on eager n

-- the spans that an effect starts, unless they have started: those that it says, the one that it starts at its making, and those that it closes
abbrev pub starts_of : Effect → List ℕ
starts_of e = e.starts ++ option_to_list e.new_span_start ++ e.closes

-- the spans in the order in which they started
abbrev pub starting_order : History → List ℕ
starting_order h = fold with_started [] (flat_map starts_of h)

-- the place of a span in an order, counted from a number on; 0 where it isn't there
abbrev pub place_from : ℕ → List ℕ → ℕ → ℕ
place_from n [] s = 0
place_from n (x ∷ order) s = if x == s then n else place_from (n + 1) order s

-- the place of a span, from 1 on
abbrev pub place_in : List ℕ → ℕ → ℕ
place_in order s = place_from 1 order s
