-- The pass of the last lane's sender is taken in, and what it didn't put in is served.
use Rattle.std.proofs.Common.{◌≡◌, ◌<◌, map, take, drop, get_or, length, List, [], ◌∷◌, ◌++◌, Bool, true, false, ◌||◌, refl, ap, ◌∙◌}
use Rattle.std.proofs.lemmas.List.{get_or_default}
use Rattle.trace_batch.specs.declared.item.Item.{Item}
use Rattle.trace_batch.specs.declared.writer.Writer.{Writer}
use Rattle.trace_batch.specs.Merges.{sent_of}
use Rattle.trace_batch.specs.Rule.{one_fewer}
use Rattle.trace_batch.proofs.SettledLemmas.{served_settled}
use Rattle.trace_batch.proofs.Steps.{merges}
use Rattle.trace_batch.proofs.writer.settle.Goals as goal

left_false : (a b : Bool) → (a || b) ≡ false → a ≡ false
left_false true b e = e
left_false false b e = refl

pub absorb-requires-clause-rule : goal.absorb-requires-clause-rule
absorb-requires-clause-rule g c =
    let s = c.requires.serving in
    merges _ _ _ _ c.args.lane s.known s.got (map (sent_of g.F.Finished.text) (take c.args.ended.sent_count (get_or c.args.lists.now c.args.lane []))) s.knows c.requires.sends.1

pub returns-clause-serving : goal.returns-clause-serving
returns-clause-serving g c =
    let s = c.requires.serving in
    let lists : List (List (Item g.row.F.Denot)) = c.args.lists.now in
    let lane = c.args.lane in
    let sent = c.args.ended.sent_count in
    let list : List (Item g.row.F.Denot) = get_or lists lane [] in
    let w : Writer = c.args.writer.now in
    let v : Writer = record { pass = c.absorb.new.pass; taken = w.taken; late = c.serve_rest.new.late; lacks_memory = c.serve_rest.new.lacks_memory } in
    let less : lane < length lists = c.requires.lane in
    let same : c.as_slice.result.now ≡ list = c.as_slice.ensures ∙ c.index-lists-lane.is ∙ get_or_default lists lane c.index-lists-lane.result [] less in
    let rest : c.items_from-rest.result.now ≡ drop sent list = c.items_from-rest.ensures ∙ ap (drop sent) same in
    record {
      known = map (sent_of g.F.Finished.text) (take sent list) ∷ s.known;
      got = s.got;
      knows = c.absorb.ensures.rule ∙ (λ i. one_fewer (s.knows i) (c.requires.sends.1 i));
      kept = λ e.
          let r = c.serve_rest.ensures e in
          served_settled g.F.Finished.text lists lane sent list s.known s.got w v refl c.requires.own (s.kept (left_false w.lacks_memory c.args.ended.lacks_memory r.0)) refl
          (r.1 ∙ ap (λ (xs : List (Item g.row.F.Denot)). w.late ++ map (sent_of g.F.Finished.text) xs) rest);
    }
