-- What was sent is cut, and the batches are written.
use Rattle.std.proofs.Common.{◌++◌, ℕ, List, Vec, Global, map, ap, sym, ◌∙◌}
use Rattle.std.proofs.lemmas.List.{length-map}
use Rattle.trace_batch.specs.declared.item.Sent.{Sent}
use Rattle.batch_lines.specs.Texts.{batch_lines, batches_end_text}
use Rattle.batch_lines.proofs.text.batches_text.Goals as goal

abbrev items : List (Vec Sent Global) → List (List Sent)
items bs = map (λ (b : Vec Sent Global). b.items) bs

pub returns : goal.returns
returns g c =
    let cut : List (Vec Sent Global) = c.in_ok-cut.cut.items in
    record {
      sent = c.in_ok-sent.sent.items;
      merge = c.in_ok-sent.ensures;
      batches = items cut;
      cut = c.in_ok-cut.ensures;
      text_is = c.in_ok-text.ensures
          ∙ ap (λ (p : ℕ × ℕ). batch_lines 0 (items cut) ++ batches_end_text p.0 c.args.open_spans p.1)
          (λ i. (sym (length-map cut (λ (b : Vec Sent Global). b.items)) i, (c.len-count.ensures ∙ c.args.records.ok.0) i));
    }
