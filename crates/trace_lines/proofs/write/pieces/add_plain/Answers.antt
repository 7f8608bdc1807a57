use Rattle.trace_lines.proofs.Common.{IsUtf8-append, IsUtf8-quoted, [], ap, quoted, rules, sym, ◌++◌, ◌∙◌, ◌∷◌, ◌≡◌}
use Rattle.trace_lines.proofs.write.pieces.add_plain.Goals as goal

pub returns : goal.returns
returns c =
    let front = c.args.front.now in
    let text = c.args.text.now in
    let added : c.add_quoted.new.self.items ≡ c.args.out.now.items ++ (front ++ 34 ∷ (text ++ 34 ∷ [])) = search rules in
    (added ∙ ap (λ l. c.args.out.now.items ++ (front ++ 34 ∷ (l ++ 34 ∷ []))) (sym c.requires.plain), IsUtf8-append front (quoted text) c.utf8.front (IsUtf8-quoted text c.requires.utf8))
