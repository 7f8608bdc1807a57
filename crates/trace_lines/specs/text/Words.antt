-- The words of levels and of kinds of callsites.
use Rattle.std.specs.Prelude.{ℕ, List, Option, Some, None, if◌then◌else◌, codes, bytes_eq}
use Rattle.trace_base.specs.declared.level.Level.{Level}
use Rattle.trace_base.specs.declared.level.Level.TheVariants as level
use Rattle.trace_base.specs.declared.callsite.Kind.{Kind}
use Rattle.trace_base.specs.declared.callsite.Kind.TheVariants as kind

-- the level that one of the five level words in lower case stands for
abbrev pub level_of_word : List ℕ → Option Level
level_of_word word =
    if bytes_eq word (codes "error") then Some level.ERROR else
    (if bytes_eq word (codes "warn") then Some level.WARN else
    (if bytes_eq word (codes "info") then Some level.INFO else
    (if bytes_eq word (codes "debug") then Some level.DEBUG else
    (if bytes_eq word (codes "trace") then Some level.TRACE else None))))

-- what a callsite makes, by its word
abbrev pub kind_of_word : List ℕ → Option Kind
kind_of_word word =
    if bytes_eq word (codes "span") then Some kind.Span else
    (if bytes_eq word (codes "event") then Some kind.Event else None)
