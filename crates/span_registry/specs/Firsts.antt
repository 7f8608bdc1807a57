-- The spans that a lane is in.
use Rattle.std.specs.Prelude.{ℕ, if◌then◌else◌, List, [], ◌∷◌, ◌++◌}
use Rattle.trace_base.specs.Spans.{is_in}

-- the spans of some entries that come after others, each where it doesn't repeat
abbrev pub firsts_from : List ℕ → List ℕ → List ℕ
firsts_from before [] = []
firsts_from before (s ∷ ids) = if is_in s before then firsts_from (before ++ s ∷ []) ids else s ∷ firsts_from (before ++ s ∷ []) ids

-- the spans of some entries, in the order of their first entries
abbrev pub firsts_of : List ℕ → List ℕ
firsts_of ids = firsts_from [] ids
