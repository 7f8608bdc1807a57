-- The callsites of handles are those of their spans.
use Rattle.std.proofs.Common.{◌≡◌, ℕ, ◌<◌, zero, suc, List, [], ◌∷◌, length, Option, Some, None, option_map, map, sym, ap, ◌∙◌, arith, slice_get, refl}
use Rattle.span_script.proofs.Common.{get_or-map, WorldValue, SubscriberCall, Handle, Copies, Scope, MadeSpan, Tables, slot_at, span_of_scope, site_of, made_span_at, PipelineState, site_by, Callsite}
use Rattle.span_script.specs.Fits.{Fits}

pub site_slot : (hs : List (Option Handle)) (n : ℕ) (handle : Handle) → slot_at hs n ≡ Some handle → slot_at (map site_by hs) n ≡ Some handle.site
site_slot hs n handle there = get_or-map site_by hs n None ∙ ap site_by there

the_site : (a b : Option ℕ) → ◌≡◌ {A = Option (Option ℕ)} (Some a) (Some b) → a ≡ b
the_site a b e = cc e

-- a handle that was found
pub site_found : (k : PipelineState) (t : Tables) → Fits k t → (hs : List (Option Handle)) → k.handle_sites ≡ map site_by hs → (n : ℕ) (h : Handle) → slot_at hs n ≡ Some h → (line : Scope) → slot_at t.handles n ≡ Some line → h.site ≡ site_of t.spans line
site_found k t fits hs are n h found line there =
    the_site h.site (site_of t.spans line) (sym (site_slot hs n h found) ∙ ap (λ (xs : List (Option (Option ℕ))). slot_at xs n) (sym are ∙ fits.site_slots) ∙ get_or-map (option_map (site_of t.spans)) t.handles n None ∙ ap (option_map (site_of t.spans)) there)

-- a copy of a handle of a scope's own span
pub copied_site : {S : Type 0} (does : S → SubscriberCall → S → Type 0) (old new : WorldValue S) (dispatch : ℕ) (site : ℕ → ℕ) (made : List MadeSpan) (line : Scope) (h : Handle) → Copies does old new dispatch (option_map (λ id. (id, site id)) (span_of_scope line)) h
    → ((s : ℕ) (up : Scope) → line ≡ s ∷ up → site s ≡ (made_span_at made s).site) → h.site ≡ site_of made line
copied_site does old new dispatch site made [] h did same = ap (λ (x : Handle). x.site) did.0
copied_site does old new dispatch site made (s ∷ up) h did same = ap (λ (x : Handle). x.site) did.0 ∙ ap Some (same s up refl)

-- a callsite that is there
pub got_within : {A : Type 0} (xs : List A) (n : ℕ) (x : A) → slice_get xs n ≡ Some x → n < length xs
got_within [] n x there = absurd (cc there)
got_within (y ∷ ys) zero x there = omega arith
got_within (y ∷ ys) (suc n) x there = (let within = got_within ys n x there in omega (arith, within))

-- one callsite where two are given
pub the_callsite : (a b : Callsite) → ◌≡◌ {A = Option Callsite} (Some a) (Some b) → a ≡ b
the_callsite a b e = cc e
