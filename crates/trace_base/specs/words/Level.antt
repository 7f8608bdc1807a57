-- Levels as numbers: how verbose a level is, and how verbose a filter lets it be.
use Rattle.std.specs.Prelude.{ℕ, List, Bool, Option, None, Some, nat_le, codes}
use Rattle.trace_base.specs.declared.level.Level.{Level}
use Rattle.trace_base.specs.declared.level.Level.TheVariants as level
use Rattle.trace_base.specs.declared.level.LevelFilter.{LevelFilter}
use Rattle.trace_base.specs.declared.level.LevelFilter.TheVariants as filter

-- 1 for the most urgent level, 5 for the most verbose
abbrev pub verbosity : Level → ℕ
verbosity level.ERROR = 1
verbosity level.WARN = 2
verbosity level.INFO = 3
verbosity level.DEBUG = 4
verbosity level.TRACE = 5

-- the verbosity of the most verbose level that a filter lets through, 0 where it lets none through
abbrev pub greatest_verbosity : LevelFilter → ℕ
greatest_verbosity filter.OFF = 0
greatest_verbosity filter.ERROR = 1
greatest_verbosity filter.WARN = 2
greatest_verbosity filter.INFO = 3
greatest_verbosity filter.DEBUG = 4
greatest_verbosity filter.TRACE = 5

-- a level is within a filter if it is no more verbose than the filter allows
abbrev pub is_within : Level → LevelFilter → Bool
is_within level filter = nat_le (verbosity level) (greatest_verbosity filter)

-- a level's text, in upper case
abbrev pub level_text : Level → List ℕ
level_text level.ERROR = codes "ERROR"
level_text level.WARN = codes "WARN"
level_text level.INFO = codes "INFO"
level_text level.DEBUG = codes "DEBUG"
level_text level.TRACE = codes "TRACE"

-- a filter's text, in lower case
abbrev pub level_filter_text : LevelFilter → List ℕ
level_filter_text filter.OFF = codes "off"
level_filter_text filter.ERROR = codes "error"
level_filter_text filter.WARN = codes "warn"
level_filter_text filter.INFO = codes "info"
level_filter_text filter.DEBUG = codes "debug"
level_filter_text filter.TRACE = codes "trace"

-- the filter that lets a level through, and none that is more verbose
abbrev pub filter_of_level : Level → LevelFilter
filter_of_level level.ERROR = filter.ERROR
filter_of_level level.WARN = filter.WARN
filter_of_level level.INFO = filter.INFO
filter_of_level level.DEBUG = filter.DEBUG
filter_of_level level.TRACE = filter.TRACE

-- the most verbose level that a filter lets through
abbrev pub level_of_filter : LevelFilter → Option Level
level_of_filter filter.OFF = None
level_of_filter filter.ERROR = Some level.ERROR
level_of_filter filter.WARN = Some level.WARN
level_of_filter filter.INFO = Some level.INFO
level_of_filter filter.DEBUG = Some level.DEBUG
level_of_filter filter.TRACE = Some level.TRACE
