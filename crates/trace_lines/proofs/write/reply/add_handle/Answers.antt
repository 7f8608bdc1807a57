use Rattle.trace_lines.proofs.Common.{Bool, boolean, codes, compact_text, decimal, escape_byte, false, refl, true, ℕ, ◌++◌, ◌≡◌}
use Rattle.trace_lines.proofs.texts.AddsLemmas.{then, retold}
use Rattle.trace_lines.specs.text.Texts.{reply_data}
use Rattle.span_script.specs.declared.reply.Reply.TheVariants as reply
use Rattle.trace_lines.proofs.write.reply.add_handle.Goals as goal

whole : (enabled : Bool) (handle line : ℕ) → ((codes "{\"enabled\":" ++ (compact_text (boolean enabled) ++ codes ",\"handle\":")) ++ decimal handle) ++ ((codes ",\"reply\":" ++ decimal line) ++ codes "}")
    ≡ compact_text (reply_data line (reply.Made enabled handle))
unfolding escape_byte
whole true handle line = refl
whole false handle line = refl

pub returns : goal.returns
returns c =
    retold _ _ _ _ (then _ _ _ _ _ c.in_ok-add_number.ensures (then _ _ _ _ _ c.in_ok-add_number-2.ensures c.in_ok-add.ensures))
    (rw c.handle_front.ensures (whole c.args.enabled c.args.handle c.args.line))
