-- A value that is told as a text.
use Rattle.std.proofs.Common.{◌≡◌, ℕ, ℤ, List, Bool, OnOk, refl, subst, ◌∙◌}
use Rattle.trace_base.specs.declared.field.Value.{Value}
use Rattle.trace_base.specs.declared.field.Value.TheVariants as given
use Rattle.otel_state.specs.declared.fields.event.Event.{Event}
use Rattle.otel_state.specs.declared.settings.LayerSettings.{LayerSettings}
use Rattle.otel_state.specs.fields.Fields.{plain_text, debug_text}
use Rattle.otel_state.specs.fields.EventFields.{with_texts, with_field}
use Rattle.otel_state.proofs.fields.event.tell_value.Goals as goal

told_as_texts : (settings : LayerSettings) (e : Event) (name : List ℕ) (value : Value) → ((b : Bool) → value ≡ given.Bool b → ⊥) → ((n : ℤ) → value ≡ given.I64 n → ⊥) → ((message : List ℕ) (chain : List (List ℕ)) → value ≡ given.Error message chain → ⊥)
    → with_texts settings e name (plain_text value) (debug_text value) ≡ with_field settings e name value
told_as_texts settings e name (given.Bool b) no_bool no_number no_error = absurd (no_bool b refl)
told_as_texts settings e name (given.I64 n) no_bool no_number no_error = absurd (no_number n refl)
told_as_texts settings e name (given.Error message chain) no_bool no_number no_error = absurd (no_error message chain refl)
told_as_texts settings e name (given.Str text) no_bool no_number no_error = refl
told_as_texts settings e name (given.Debug text) no_bool no_number no_error = refl
told_as_texts settings e name (given.U64 n) no_bool no_number no_error = refl
told_as_texts settings e name (given.I128 n) no_bool no_number no_error = refl
told_as_texts settings e name (given.U128 n) no_bool no_number no_error = refl

pub returns-in_ok-debug-in_default : goal.returns-in_ok-debug-in_default
returns-in_ok-debug-in_default c =
    let settings = c.args.settings.now in
    let e = c.args.event.now in
    let name = c.args.name.now in
    subst (λ (f : Event). OnOk c.tell_texts.result (c.tell_texts.new.event ≡ f))
    ((λ i. with_texts settings e name (c.in_ok-text-in_default.ensures i) (c.in_ok-debug-in_default.ensures i))
    ∙ told_as_texts settings e name c.args.value.now c.in_default.not-Bool c.in_default.not-I64 c.in_default.not-Error)
    c.tell_texts.ensures
