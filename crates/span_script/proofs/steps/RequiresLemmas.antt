-- What a call on the subscriber of a handle requires is what every pipeline keeps.
use Rattle.std.proofs.Common.{◌≡◌, ℕ, ◌<◌, ◌^◌, List, ◌∷◌, length, get_or, Option, Some, None, option_map, map, sym, ap, subst, ◌∙◌, arith}
use Rattle.span_script.proofs.Common.{length-map, get_or-map, Lane, Spans, HasUnboundHold, HasFewHolds, MayExit, AreAttached, Has, spans_in, kept_in, no_spans, Handle, HeldSpan, HasOn, IsKnown, IsThere, Guard, id_at, Scope, slot_at, span_of_scope, span_of_handle, open_guard_on, open_guard_by, Views, state_of, held_by, PipelineInvariant, held_of, guard_of, Parts}
use Rattle.span_script.proofs.steps.SlotsLemmas.{Found, find, held_slot}
use Rattle.span_script.proofs.entries.EntriesFitLemmas.{fits_own, fits_may_exit}
use Rattle.span_script.proofs.steps.BalanceLemmas.{named_slot, opened_slot}
use Rattle.span_script.proofs.steps.CallsLemmas.{has_by, there_on, has_on, known_on}
use Rattle.span_script.proofs.steps.LanesLemmas.{are_attached, id_seen}

the_held : (a b : HeldSpan) → ◌≡◌ {A = Option HeldSpan} (Some a) (Some b) → a ≡ b
the_held a b e = cc e

module _ {S : Type 0} (spans : S → Spans) (views : Views S) (kept : S → ℕ → ℕ → ℕ) (is_whole : S → Type 0) (parts : Parts S)
    (inv : PipelineInvariant spans views kept is_whole parts) where
  abbrev ids : List ℕ
  ids = (state_of spans views parts).setup.ids

  abbrev sp : Spans
  sp = spans_in spans parts.world parts.dispatch

  -- a handle that was found
  module _ (handle : ℕ) (h : Handle) (found : slot_at parts.handles handle ≡ Some h) where
    scope_is : Found (held_of parts.dispatch) inv.tables.handles handle h.held
    scope_is = find (held_of parts.dispatch) (map held_by parts.handles) inv.tables.handles handle h.held inv.stands.fits.handle_slots (held_slot parts.handles handle h found)

    slot_is : (s : ℕ) (up : Scope) → scope_is.at ≡ s ∷ up → slot_at (map span_of_handle inv.tables.handles) handle ≡ Some s
    slot_is s up e = named_slot inv.tables.handles handle scope_is.at scope_is.there ∙ ap span_of_scope e

    pub needs_there : IsThere parts.world h.held
    needs_there = there_on parts.world parts.dispatch scope_is.at h.held scope_is.is inv.there

    pub needs_whole : HasOn (λ s id. is_whole s) parts.world h.held
    needs_whole = has_on (λ s id. is_whole s) parts.world parts.dispatch scope_is.at h.held scope_is.is (λ s up e. inv.whole)

    pub needs_known : IsKnown spans parts.world h.held
    needs_known = known_on spans parts.world parts.dispatch scope_is.at h.held scope_is.is inv.there
        (λ s up e. has_by spans no_spans parts.world parts.dispatch (λ (x : Spans). HasUnboundHold x s) (fits_own sp (map span_of_handle inv.tables.handles) (map (open_guard_by ids) inv.tables.guards) inv.tables.entries inv.stands.fits.balanced handle s (slot_is s up e)))

    pub needs_few : length parts.handles < 2 ^ 62 → length parts.guards < 2 ^ 62 → HasOn (λ s id. HasFewHolds (spans s).made id) parts.world h.held
    needs_few few_handles few_guards = has_on (λ s id. HasFewHolds (spans s).made id) parts.world parts.dispatch scope_is.at h.held scope_is.is
        (λ s up e. has_by spans no_spans parts.world parts.dispatch (λ (x : Spans). HasFewHolds x.made s) (
        let few = inv.stands.fits.few_holds s in
        let a = sym (length-map parts.handles held_by) ∙ ap length inv.stands.fits.handle_slots ∙ length-map inv.tables.handles (option_map (held_of parts.dispatch)) in
        let b = ap length inv.stands.fits.guard_slots ∙ length-map inv.tables.guards (option_map (guard_of parts.dispatch)) in
        omega (arith, few, a, b, few_handles, few_guards)))

  -- a guard that was found
  module _ (guard : ℕ) (g : Guard) (found : slot_at parts.guards guard ≡ Some g) where
    open_is : Found (guard_of parts.dispatch) inv.tables.guards guard g
    open_is = find (guard_of parts.dispatch) parts.guards inv.tables.guards guard g inv.stands.fits.guard_slots found

    entry_is : g.entry ≡ held_of parts.dispatch open_is.at.scope
    entry_is = ap (λ (x : Guard). x.entry) open_is.is

    -- its handle isn't spent, and stands for what was entered
    pub guard_handle : slot_at (map held_by parts.handles) g.handle ≡ Some g.entry
    guard_handle =
        ap (λ xs. slot_at xs g.handle) inv.stands.fits.handle_slots ∙ get_or-map (option_map (held_of parts.dispatch)) inv.tables.handles g.handle None
        ∙ ap (λ (n : ℕ). option_map (held_of parts.dispatch) (slot_at inv.tables.handles n)) (ap (λ (x : Guard). x.handle) open_is.is)
        ∙ ap (option_map (held_of parts.dispatch)) (inv.stands.fits.still guard open_is.at open_is.there) ∙ ap Some (sym entry_is)

    -- so the handle that was found is the one that was entered
    pub guard_entry : (h : Handle) → slot_at parts.handles g.handle ≡ Some h → g.entry ≡ h.held
    guard_entry h there = the_held g.entry h.held (sym guard_handle ∙ held_slot parts.handles g.handle h there)

    pub guard_named : slot_at parts.handles g.handle ≡ None → ⊥
    guard_named none = (let no : Some g.entry ≡ None = sym guard_handle ∙ get_or-map held_by parts.handles g.handle None ∙ ap held_by none in cc no)

    pub exit_may : (h : Handle) → slot_at parts.handles g.handle ≡ Some h → (n : ℕ) (before : Lane) → n < length parts.lanes → before ≡ get_or parts.lanes n before → g.place ≡ n → HasOn (λ s id. MayExit (spans s) id before.id) parts.world h.held
    exit_may h there n before within seen on = has_on (λ s id. MayExit (spans s) id before.id) parts.world parts.dispatch open_is.at.scope h.held (sym (guard_entry h there) ∙ entry_is)
        (λ s up e. has_by spans no_spans parts.world parts.dispatch (λ (x : Spans). MayExit x s before.id) (
        let lane_is : id_at ids open_is.at.place ≡ before.id = ap (id_at ids) (ap (λ (x : Guard). x.place) (sym open_is.is) ∙ on) ∙ sym (id_seen parts.lanes n before within seen) in
        subst (λ (l : ℕ). MayExit sp s l) lane_is
        (fits_may_exit sp (map span_of_handle inv.tables.handles) (map (open_guard_by ids) inv.tables.guards) inv.tables.entries inv.stands.fits.balanced guard (record { handle = open_is.at.handle; span = s; lane = id_at ids open_is.at.place })
        (opened_slot ids inv.tables.guards guard open_is.at open_is.there ∙ ap (open_guard_on open_is.at.handle (id_at ids open_is.at.place)) e))))

    pub exit_still : (h : Handle) → slot_at parts.handles g.handle ≡ Some h → (n : ℕ) (before : Lane) → n < length parts.lanes → before ≡ get_or parts.lanes n before → HasOn (λ s id. AreAttached (kept s) before) parts.world h.held
    exit_still h there n before within seen = has_on (λ s id. AreAttached (kept s) before) parts.world parts.dispatch open_is.at.scope h.held (sym (guard_entry h there) ∙ entry_is)
        (λ s up e. has_by kept (λ lane number. 0) parts.world parts.dispatch (λ (f : ℕ → ℕ → ℕ). AreAttached f before) (are_attached parts.dispatch (kept_in kept parts.world parts.dispatch) parts.lanes n before within seen inv.lanes))
