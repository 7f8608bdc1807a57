-- The calls tell what the filter keeps.
use Rattle.std.proofs.Common.{◌∙◌, ap}
use Rattle.env_filter.proofs.Common.{FilterWithRoom, plain_filter, span_level}
use Rattle.env_filter.proofs.kept.ToldLevelsLemmas.{level_is_by_calls}
use Rattle.env_filter.proofs.filter.EnvFilter.level.Goals as goal

pub returns-clause-told : goal.returns-clause-told
returns-clause-told c = λ calls heard.
    c.level_of.ensures ∙ ap (λ (s : FilterWithRoom). span_level (plain_filter s) c.args.id) c.self.view_is ∙ level_is_by_calls (plain_filter c.args.self.now) calls c.args.id heard.order heard.now
