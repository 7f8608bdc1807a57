-- One directive more.
use Rattle.std.proofs.Common.{sym, ◌∙◌, ap, List, Bool, ◌++◌, map, take}
use Rattle.env_filter.proofs.Common.{Ask, Care, is_given, found_in}
use Rattle.env_filter.proofs.kept.WatchesLemmas.{found_more}
use Rattle.env_filter.proofs.watch.asks_met.Goals as goal

pub loop-care-preserved : goal.loop-care-preserved
loop-care-preserved c =
    let asks = c.as_slice.ensures ∙ ap (λ (care : Care). care.asks) c.care-item.is in
    c.in_ok-add_found.ensures
    ∙ ap (λ (fs : List Bool). fs ++ map (is_given c.args.values.now) c.as_slice.result.now) c.loop-care.invariant
    ∙ ap (λ (qs : List Ask). found_in c.args.values.now (take c.loop-care.care-index c.args.cares.now) ++ map (is_given c.args.values.now) qs) asks
    ∙ sym (found_more c.args.values.now c.args.cares.now c.loop-care.care-index c.care-item.result c.loop-care-test.true)
