-- The calls tell what the filter keeps.
use Rattle.std.proofs.Common.{◌∙◌, ap, List, map}
use Rattle.env_filter.proofs.Common.{OpenLevel, FilterWithRoom, plain_filter}
use Rattle.env_filter.proofs.kept.ToldLevelsLemmas.{levels_are_told}
use Rattle.env_filter.proofs.filter.EnvFilter.levels.Goals as goal

pub returns-clause-told : goal.returns-clause-told
returns-clause-told c = λ calls heard.
    c.levels_on.ensures ∙ ap (λ (s : FilterWithRoom). map (λ (e : OpenLevel). e.level) ((plain_filter s).lanes c.args.lane)) c.self.view_is
    ∙ ap (λ (es : List OpenLevel). map (λ (e : OpenLevel). e.level) es) (levels_are_told (plain_filter c.args.self.now) calls c.args.lane heard.order heard.now)
