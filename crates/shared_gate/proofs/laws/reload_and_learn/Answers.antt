-- What is learnt ends with the text that was put in force.
use Rattle.std.proofs.Common.{◌∙◌}
use Rattle.shared_gate.proofs.Reloads.{from_note}
use Rattle.shared_gate.proofs.laws.reload_and_learn.Goals as goal

pub returns-in-Ok-learn : goal.returns-in-Ok-learn
returns-in-Ok-learn g c =
    let put = c.in_ok-number.ensures.put in
    let later = c.learn.ensures.later in
    from_note c.args.writer.now.texts _ c.args.text.now _ c.args.gate.now c.learn.new.self put.0 (c.in-Ok.ensures.told.1 ∙ put.1) later.0 later.1 c.learn.ensures.begins
