-- Handles that open guards name, and handles that aren't there.
use Rattle.std.proofs.Common.{◌≡◌, ℕ, suc, List, [], ◌∷◌, Bool, true, false, Option, Some, None, map, refl, sym, ap, subst, ◌∙◌, inl, inr, Result, IfOk, IfErr, ◌||◌}
use Rattle.std.proofs.lemmas.Bool.{cases_eq, ne_eqb}
use Rattle.trace_base.specs.Spans.{Spans}
use Rattle.span_handles.specs.Handles.{Handle}
use Rattle.trace_pipeline.proofs.Common.{slot_at, entered_ok, entered_refused, guard_named, refuses_unknown, Tables, StandsFor, PipelineState, held_by}
use Rattle.span_script.specs.Slots.{is_named_by_guard}
use Rattle.span_script.specs.Effects.{effect_of_call}
use Rattle.span_script.specs.Fits.{PipelineInvariant, IsRefusal, Parts, IsServed, Views}
use Rattle.span_script.specs.calls.Here.{here_at, Resolved}
use Rattle.span_script.specs.calls.Entries.{entry_call}
use Rattle.span_script.specs.declared.reply.Reply.{Reply}
use Rattle.span_script.specs.declared.reply.Refusal.{Refusal}
use Rattle.span_script.specs.declared.request.Call.TheVariants as call
use Rattle.span_script.specs.declared.slots.Guard.{Guard}

-- one of the guards that name a handle
named_by_one : (gs : List (Option Guard)) (handle : ℕ) → is_named_by_guard gs handle ≡ true → (n : ℕ) × (g : Guard) × (slot_at gs n ≡ Some g) × (g.handle ≡ handle)
named_by_one [] handle used = absurd (cc used)
named_by_one (None ∷ gs) handle used = (let rest = named_by_one gs handle used in (suc rest.0, rest.1, rest.2, rest.3))
named_by_one (Some g ∷ gs) handle used = elim (cases_eq g.handle handle) [
  | inl e ↦ (0, g, refl, e)
  | inr other ↦ (let rest = named_by_one gs handle (sym (ap (λ (b : Bool). b || is_named_by_guard gs handle) (ne_eqb g.handle handle other)) ∙ used) in (suc rest.0, rest.1, rest.2, rest.3))
]

-- a handle with an open guard is there
pub named_there : {S : Type 0} (spans : S → Spans) (views : Views S) (kept : S → ℕ → ℕ → ℕ) (is_whole : S → Type 0) (parts : Parts S) → PipelineInvariant spans views kept is_whole parts → (handle : ℕ) → is_named_by_guard parts.guards handle ≡ true
    → (h : Handle) × (slot_at parts.handles handle ≡ Some h)
named_there spans views kept is_whole parts inv handle used =
    let one = named_by_one parts.guards handle used in
    by_slot (slot_at parts.handles handle) refl (λ none. guard_named spans views kept is_whole parts inv one.0 one.1 one.2 (ap (λ (n : ℕ). slot_at parts.handles n) one.3 ∙ none))
  where
    by_slot : (o : Option Handle) → slot_at parts.handles handle ≡ o → (slot_at parts.handles handle ≡ None → ⊥) → (h : Handle) × (slot_at parts.handles handle ≡ Some h)
    by_slot None e never = absurd (never e)
    by_slot (Some h) e never = (h, e)

-- where no guard names a handle, to enter by one that owns it is to enter by it, whether it is there or not
module _ (view k : PipelineState) (same : view ≡ k) (hs : List (Option Handle)) (are : view.handles ≡ map held_by hs) (handle : ℕ) (free : is_named_by_guard view.guards handle ≡ false) (at place : ℕ) (result : Result Reply Refusal) where
  unknown_is : slot_at hs handle ≡ None → (t : Tables) → StandsFor k t → effect_of_call k.setup t at place (call.Entered handle) ≡ entry_call (here_at k.setup t at place) handle true
  unknown_is none t stands = refuses_unknown view k same hs are handle none t stands.fits _ ∙ sym (refuses_unknown view k same hs are handle none t stands.fits _)

  pub enters_ok : (next : PipelineState) → ((t : Tables) → StandsFor k t → IfOk result (IsServed (entry_call (here_at k.setup t at place) handle true) t k next))
      → (t : Tables) → StandsFor k t → IfOk result (IsServed (effect_of_call k.setup t at place (call.Entered handle)) t k next)
  enters_ok next did t stands = by_slot (slot_at hs handle) refl
    where
      by_slot : (o : Option Handle) → slot_at hs handle ≡ o → IfOk result (IsServed (effect_of_call k.setup t at place (call.Entered handle)) t k next)
      by_slot None e = subst (λ (r : Resolved). IfOk result (IsServed r t k next)) (sym (unknown_is e t stands)) (did t stands)
      by_slot (Some h) e = entered_ok view k same hs are handle h e free at place result next did t stands

  pub enters_refused : ((t : Tables) → StandsFor k t → IfErr result (IsRefusal (entry_call (here_at k.setup t at place) handle true)))
      → (t : Tables) → StandsFor k t → IfErr result (IsRefusal (effect_of_call k.setup t at place (call.Entered handle)))
  enters_refused did t stands = by_slot (slot_at hs handle) refl
    where
      by_slot : (o : Option Handle) → slot_at hs handle ≡ o → IfErr result (IsRefusal (effect_of_call k.setup t at place (call.Entered handle)))
      by_slot None e = subst (λ (r : Resolved). IfErr result (IsRefusal r)) (sym (unknown_is e t stands)) (did t stands)
      by_slot (Some h) e = entered_refused view k same hs are handle h e free at place result did t stands
