-- What one step of a stack keeps of a scene.
use Rattle.std.proofs.Common.{◌≡◌, ℕ, ◌≤◌, length, Some, None, refl, sym, ap, subst, arith}
use Rattle.trace_base.specs.declared.lane.Lane.{Lane}
use Rattle.trace_base.specs.Gate.{WorldValue}
use Rattle.trace_base.specs.Spans.{Spans}
use Rattle.span_handles.specs.Worlds.{Replaced}
use Rattle.span_handles.specs.Handles.{HeldSpan, ReplacedOn}
use Rattle.span_handles.proofs.ChangedSubscriberLemmas.{as_many}
use Rattle.span_futures.proofs.KeptLemmas.{keeps_all, same_kept, own_after}
use Rattle.explain_stack.specs.Order.{Stands}

module _ {S : Type 0} (spans : S → Spans) (kept : S → ℕ → ℕ → ℕ) (is_whole : S → Type 0) where
  -- a step that leaves lanes, keeps stacks whole and makes no span
  pub record IsQuiet (R : S → S → Type 0) : Type 0 where
    pub stays_whole : (s t : S) → R s t → is_whole s → is_whole t
    pub as_many_made : (s t : S) → R s t → length (spans t).made ≡ length (spans s).made
    pub as_kept : (s t : S) → R s t → kept t ≡ kept s

  pub quiet_stands : (R : S → S → Type 0) (q : IsQuiet R) (old new : WorldValue S) (d dispatch span_count site_count : ℕ) (lane other : Lane) → Replaced R old new d → Stands spans kept is_whole dispatch span_count site_count old lane other → Stands spans kept is_whole dispatch span_count site_count new lane other
  quiet_stands R q old new d dispatch span_count site_count lane other r stands = record {
    there = (let n = as_many R old new d r in omega (arith, n, stands.there));
    whole = keeps_all R old new d r is_whole q.stays_whole stands.whole;
    few = keeps_all R old new d r (λ s. length (spans s).made ≤ span_count) (λ s t did few. (let e = q.as_many_made s t did in omega (arith, e, few))) stands.few;
    declared = (let e = ap (λ (w : WorldValue S). length w.sites) r.others in omega (arith, e, stands.declared));
    attached = λ number. (
        let k = same_kept R old new d r kept (q.as_kept r.before r.later r.did) lane.id number in
        let a = stands.attached number in
        omega (arith, k, a));
    in_world = own_after R old new d r lane lane refl stands.in_world;
    attached_other = λ number. (
        let k = same_kept R old new d r kept (q.as_kept r.before r.later r.did) other.id number in
        let a = stands.attached_other number in
        omega (arith, k, a));
    other_in_world = own_after R old new d r other other refl stands.other_in_world;
    apart = stands.apart;
  }

  pub quiet_on : (R : ℕ → S → S → Type 0) (q : (id : ℕ) → IsQuiet (R id)) (old new : WorldValue S) (held : HeldSpan) (dispatch span_count site_count : ℕ) (lane other : Lane) → ReplacedOn R old new held → Stands spans kept is_whole dispatch span_count site_count old lane other → Stands spans kept is_whole dispatch span_count site_count new lane other
  quiet_on R q old new None dispatch span_count site_count lane other r stands = subst (λ (w : WorldValue S). Stands spans kept is_whole dispatch span_count site_count w lane other) (sym r) stands
  quiet_on R q old new (Some h) dispatch span_count site_count lane other r stands = quiet_stands (R h.1) (q h.1) old new h.0 dispatch span_count site_count lane other r stands
