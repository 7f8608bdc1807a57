use Rattle.trace_lines.proofs.Common.{[], escape, rules, ◌++◌, ◌∷◌, ◌≡◌}
use Rattle.trace_lines.proofs.texts.AddsLemmas.{quoted_added}
use Rattle.trace_lines.proofs.write.pieces.add_with_escapes.Goals as goal

pub returns : goal.returns
returns c =
    let text = c.args.text.now in
    let begin : c.push.new.self.items ≡ c.add.new.out.items ++ 34 ∷ [] = search rules in
    let body : c.add_escaped.new.out.items ≡ c.push.new.self.items ++ escape text = search rules in
    let close : c.push-2.new.self.items ≡ c.add_escaped.new.out.items ++ 34 ∷ [] = search rules in
    quoted_added _ _ _ _ _ c.args.front.now text c.in_ok-add.ensures begin body close c.utf8.text
