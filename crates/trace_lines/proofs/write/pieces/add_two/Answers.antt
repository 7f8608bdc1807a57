use Rattle.trace_lines.proofs.Common.{IsUtf8-append, rules, ◌++◌, ◌≡◌}
use Rattle.trace_lines.proofs.write.pieces.add_two.Goals as goal

pub returns : goal.returns
returns c =
    let front = c.args.front.now in
    let text = c.args.text.now in
    let added : c.extend_from_two.new.self.items ≡ c.args.out.now.items ++ (front ++ text) = search rules in
    (added, IsUtf8-append front text c.utf8.front c.utf8.text)
