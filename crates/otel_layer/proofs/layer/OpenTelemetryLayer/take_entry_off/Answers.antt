-- What is detached was attached by the entry.
use Rattle.std.proofs.Common.{sym, ap, ◌∙◌}
use Rattle.otel_layer.proofs.Common.{last_passing, is_token}
use Rattle.otel_layer.proofs.HookStepsLemmas.{leaves_still}
use Rattle.otel_layer.proofs.layer.OpenTelemetryLayer.take_entry_off.Goals as goal

pub detach_if_active-requires : goal.detach_if_active-requires
detach_if_active-requires g c = λ is. leaves_still c.args.self.now.core.settings.activation c.args.self.now.core.tokens _ c.args.id c.args.lane.now c.requires.still
    (sym (ap (λ s. last_passing (is_token c.args.lane.now.id c.args.id) s.core.tokens) c.self.view_is) ∙ c.take_last-attached.ensures.last)
    (sym (ap (λ s. s.core.settings.activation) c.self.view_is) ∙ is)
