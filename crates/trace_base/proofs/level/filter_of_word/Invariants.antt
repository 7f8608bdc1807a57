use Rattle.std.proofs.Common.{◌≡◌, find}
use Rattle.std.specs.Array.Iter.{array_into_iter_items}
use Rattle.std.specs.Str.{str_eq_ignore_ascii_case}
use Rattle.trace_base.specs.words.Level.{level_filter_text}
use Rattle.trace_base.specs.words.LevelWords.{filter_of_word}
use Rattle.trace_base.proofs.level.filter_of_word.Given as goal

abbrev pub invariant-loop-filter : goal.invariant-loop-filter
invariant-loop-filter l =
    find (λ f. str_eq_ignore_ascii_case (level_filter_text f) l.text) (array_into_iter_items l.filter-iterator) ≡ filter_of_word l.text
