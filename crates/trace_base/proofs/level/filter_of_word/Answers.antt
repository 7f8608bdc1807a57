use Rattle.std.proofs.Common.{rules}
use Rattle.trace_base.specs.words.LevelWords.{filter_of_word}
use Rattle.trace_base.proofs.level.filter_of_word.Goals as goal

pub loop-filter-init : goal.loop-filter-init
unfolding filter_of_word
loop-filter-init c = search rules
