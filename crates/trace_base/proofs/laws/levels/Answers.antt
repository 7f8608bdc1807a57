use Rattle.std.proofs.Common.{refl}
use Rattle.trace_base.specs.declared.level.Level.TheVariants as level
use Rattle.trace_base.specs.declared.level.LevelFilter.TheVariants as filter
use Rattle.trace_base.specs.words.LevelWords.{filter_of_word, named_level_filter}
use Rattle.trace_base.proofs.laws.levels.Goals as goal

pub returns-clause-level : goal.returns-clause-level
unfolding named_level_filter filter_of_word
returns-clause-level c level.ERROR = refl
returns-clause-level c level.WARN = refl
returns-clause-level c level.INFO = refl
returns-clause-level c level.DEBUG = refl
returns-clause-level c level.TRACE = refl

pub returns-clause-filter : goal.returns-clause-filter
unfolding named_level_filter filter_of_word
returns-clause-filter c filter.OFF = refl
returns-clause-filter c filter.ERROR = refl
returns-clause-filter c filter.WARN = refl
returns-clause-filter c filter.INFO = refl
returns-clause-filter c filter.DEBUG = refl
returns-clause-filter c filter.TRACE = refl
