-- What is left is what isn't a gap.
use Rattle.std.proofs.Common.{rules, List, sym, ap, subst, ◌∙◌, true}
use Rattle.std.proofs.lemmas.Fn.{filter_same}
use Rattle.otel_layer.proofs.Common.{Entry, all_data, IdsRiseIf}
use Rattle.otel_layer.proofs.Gaps.{is_kept, closed_read}
use Rattle.otel_layer.proofs.RisingIdsLemmas.{filtered_rise}
use Rattle.otel_layer.proofs.table.close_gaps.Goals as goal

pub returns-then-known-len-clause-span_data : goal.returns-then-known-len-clause-span_data
returns-then-known-len-clause-span_data c =
    let left = filter_same _ is_kept _ (λ x b f' k. search rules) c.args.entries.now.items _ c.retain.ensures.filtered in
    ap (λ (xs : List Entry). all_data xs) left ∙ closed_read (λ s. s.span_data) c.args.entries.now.items

pub returns-then-known-len-clause-rises : goal.returns-then-known-len-clause-rises
returns-then-known-len-clause-rises c =
    let left = filter_same _ is_kept _ (λ x b f' k. search rules) c.args.entries.now.items _ c.retain.ensures.filtered in
    λ rise. subst (λ (xs : List Entry). IdsRiseIf true xs) (sym left) (filtered_rise is_kept c.args.entries.now.items rise)
