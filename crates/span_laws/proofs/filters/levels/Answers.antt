use Rattle.span_laws.proofs.levels.LevelsLemmas.{span_is, lane_is}
use Rattle.span_laws.proofs.filters.levels.Goals as goal

pub returns-clause-span : goal.returns-clause-span
returns-clause-span c = span_is

pub returns-clause-lane : goal.returns-clause-lane
returns-clause-lane c = lane_is
