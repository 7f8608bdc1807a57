-- What a chain keeps while it goes on.
use Rattle.std.proofs.Common.{◌≡◌, ◌<◌, ℕ, Option, Some, None, subst, sym, IfSome}
use Rattle.span_handles.proofs.Common.{Spans, parent_to_release, SubscriberCall, TryClose, HasUnboundHold, Chain, ended, closes}

pub record Releases {S : Type 0} (spans : S → Spans) (does : S → SubscriberCall → S → Type 0) (is_whole : S → Type 0) (at first : ℕ) (before now : S) (next : Option ℕ) : Type 0 where
  pub whole : is_whole now
  pub own : (p : ℕ) → next ≡ Some p → HasUnboundHold (spans now) p
  pub rest : (t : S) → Chain spans does at next now t → Chain spans does at (Some first) before t

if_so : (o : Option ℕ) (P : ℕ → Type 0) → IfSome o P → (p : ℕ) → o ≡ Some p → P p
if_so None P h p e = absurd (cc e)
if_so (Some q) P h p e = subst P (cc e) h

module _ {S : Type 0} (spans : S → Spans) (does : S → SubscriberCall → S → Type 0) (is_whole : S → Type 0) (at : ℕ) where
  pub releases_first : (id : ℕ) (s m : S) (next : Option ℕ) → does s (TryClose id at) m → next ≡ parent_to_release (spans s).made id → IfSome next (λ p. (p < id) × HasUnboundHold (spans m) p) → is_whole m → Releases spans does is_whole at id s m next
  releases_first id s m next did is held whole = record {
    whole = whole;
    own = λ p e. (if_so next (λ p. (p < id) × HasUnboundHold (spans m) p) held p e).1;
    rest = λ t chain. closes id s m t did (subst (λ (o : Option ℕ). Chain spans does at o m t) is chain);
  }

  pub releases_more : (first id : ℕ) (before s m : S) (now next : Option ℕ) → Releases spans does is_whole at first before s now → now ≡ Some id → does s (TryClose id at) m → next ≡ parent_to_release (spans s).made id
      → IfSome next (λ p. (p < id) × HasUnboundHold (spans m) p) → is_whole m → Releases spans does is_whole at first before m next
  releases_more first id before s m now next old here did is held whole = record {
    whole = whole;
    own = λ p e. (if_so next (λ p. (p < id) × HasUnboundHold (spans m) p) held p e).1;
    rest = λ t chain. old.rest t (subst (λ (o : Option ℕ). Chain spans does at o s t) (sym here) (closes id s m t did (subst (λ (o : Option ℕ). Chain spans does at o m t) is chain)));
  }

  pub released_all : (first : ℕ) (before s : S) (now : Option ℕ) → Releases spans does is_whole at first before s now → now ≡ None → Chain spans does at (Some first) before s
  released_all first before s now old none = old.rest s (subst (λ (o : Option ℕ). Chain spans does at o s s) (sym none) (ended s))
