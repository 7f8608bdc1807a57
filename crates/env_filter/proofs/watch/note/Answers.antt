-- One more is noted.
use Rattle.std.proofs.Common.{sym, ◌∙◌, ap, List, Bool, false, get_or}
use Rattle.env_filter.proofs.Common.{with_met_at}
use Rattle.env_filter.proofs.kept.WatchesLemmas.{more_none, noted_more}
use Rattle.env_filter.proofs.watch.note.Goals as goal

pub loop-at-init : goal.loop-at-init
loop-at-init c = sym (more_none _)

pub loop-at-preserved : goal.loop-at-preserved
loop-at-preserved c = c.note_at.ensures ∙ ap (λ (ms : List Bool). with_met_at ms c.loop-at.at (get_or c.args.found.now c.loop-at.at false)) c.loop-at.invariant ∙ noted_more c.args.met.now.items c.args.found.now c.loop-at.at c.loop-at-test.true
