-- What an entry on a lane and a reload are refused by, and which calls want no memory.
use Rattle.std.specs.Prelude.{ℕ, Bool, true, false}
use Rattle.otel_base.specs.declared.enter_error.EnterError.{EnterError}
use Rattle.otel_base.specs.declared.enter_error.EnterError.TheVariants as errors
use Rattle.span_script.specs.declared.open_error.OpenError.{OpenError}
use Rattle.span_script.specs.declared.open_error.OpenError.TheVariants as opening
use Rattle.span_script.specs.declared.reply.Refusal.{Refusal}
use Rattle.span_script.specs.declared.reply.Refusal.TheVariants as refusals
use Rattle.span_script.specs.declared.request.Call.{Call}
use Rattle.span_script.specs.declared.request.Call.TheVariants as call

-- what an entry is refused by, on the lane at a place
abbrev pub entry_refusal : ℕ → EnterError → Refusal
entry_refusal place errors.Full = refusals.Full place
entry_refusal place errors.Memory = refusals.Memory

-- what a reload is refused by
abbrev pub reload_refusal : OpenError → Refusal
reload_refusal (opening.Directive counting piece) = refusals.Directive piece
reload_refusal opening.Memory = refusals.Memory

-- What was opened or made is given back without memory; a parent and a status are set, and the gate and a callsite's fields
-- are asked, without memory too.
abbrev pub takes_no_memory : Call → Bool
takes_no_memory (call.Drop handle) = true
takes_no_memory (call.Exit guard) = true
takes_no_memory (call.HasField handle name) = true
takes_no_memory (call.Detach guard) = true
takes_no_memory (call.SetParent handle context) = true
takes_no_memory (call.SetStatus handle status) = true
takes_no_memory (call.Enabled site) = true
takes_no_memory other = false
