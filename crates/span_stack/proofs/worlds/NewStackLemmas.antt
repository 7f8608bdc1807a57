-- A stack that was just made keeps nothing attached.
use Rattle.std.proofs.Common.{◌≡◌, ℕ, ◌+◌, List, [], Bool, true, false, Option, Some, None, refl, ap, ◌∙◌, arith}
use Rattle.span_stack.proofs.Common.{RecorderValue, Core, kept_by, kept_in, FilterWithRoom, layer_or, none_kept}
use Rattle.otel_layer.specs.declared.layer.tokens.Token.{Token}

no_tokens : (activation : Bool) (lane number : ℕ) → kept_by activation [] lane number ≡ 0
no_tokens true lane number = refl
no_tokens false lane number = refl

by_filter : (o : Option FilterWithRoom) (lane number : ℕ) → layer_or none_kept (λ _ lane number. 0) o lane number ≡ 0
by_filter None lane number = refl
by_filter (Some f) lane number = refl

pub nothing_kept : (o : Option FilterWithRoom) (core : Core RecorderValue) (lane number : ℕ) → core.tokens ≡ [] → layer_or none_kept (λ _ lane number. 0) o lane number + (0 + (kept_in core lane number + 0)) ≡ 0
nothing_kept o core lane number none =
    let a = by_filter o lane number in
    let b : kept_in core lane number ≡ 0 = ap (λ (ts : List Token). kept_by core.settings.activation ts lane number) none ∙ no_tokens core.settings.activation lane number in
    omega (arith, a, b)
