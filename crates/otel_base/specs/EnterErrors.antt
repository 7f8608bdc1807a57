-- The texts of the answers of an attach that isn't made.
use Rattle.std.specs.Prelude.{ℕ, List, codes}
use Rattle.otel_base.specs.declared.enter_error.EnterError.{EnterError}
use Rattle.otel_base.specs.declared.enter_error.EnterError.TheVariants as errors

-- the text of an error
abbrev pub enter_error_text : EnterError → List ℕ
enter_error_text errors.Full = codes "as many contexts are live as may be"
enter_error_text errors.Memory = codes "out of memory"
