-- Through a layer that leaves lanes as they are.
use Rattle.std.proofs.Common.{◌≡◌, ℕ, Bool, true, false, Option, Some, None, sym, subst, refl}
use Rattle.std.proofs.lemmas.Bool.{true≢false}
use Rattle.span_stack.proofs.Common.{Lane, Spans, parent_to_release, SubscriberCall, NewSpan, Records, Follows, Event, Enter, Exit, CloneSpan, TryClose, Hook, OnEnter, OnExit, HookKeepsLanes, Layered, DoesBoth, Chain, ended, closes, PartCall, TouchesFirst, FilterWithRoom, layer_or}

pub both_below : {S L : Type 0} (spans : S → Spans) (inner : S → SubscriberCall → S → Type 0) (outer : L → Hook → L → Type 0) (same : L → L → Type 0) (attaches : L → Bool) (kept : L → ℕ → ℕ → ℕ)
    → ((l : L) (hook : Hook) (m : L) → outer l hook m → HookKeepsLanes (attaches l) (kept l) hook (kept m)) → ((l : L) → attaches l ≡ false)
    → (s : S) (l : L) (call : SubscriberCall) (t : S) (m : L) → DoesBoth spans inner outer same attaches s l call t m → inner s call t
both_below spans inner outer same attaches kept lanes never s l (NewSpan lane at parent site callsite values) t m d = d.0
both_below spans inner outer same attaches kept lanes never s l (Records id at callsite values) t m d = d.0
both_below spans inner outer same attaches kept lanes never s l (Follows id from at) t m d = d.0
both_below spans inner outer same attaches kept lanes never s l (Event lane at parent site callsite values) t m d = d.0
both_below spans inner outer same attaches kept lanes never s l (Enter id at before later) t m d =
    let earlier : d.prepared ≡ before = d.room.keeps.as_it_is (never l) in
    let after : later ≡ d.between = (lanes l (OnEnter id at d.between later) m d.second).0.as_it_is (never l) in
    subst (λ (b : Lane). inner s (Enter id at b later) t) earlier (subst (λ (b : Lane). inner s (Enter id at d.prepared b) t) (sym after) d.first)
both_below spans inner outer same attaches kept lanes never s l (Exit id at before later) t m d =
    let after : later ≡ d.between = (lanes l (OnExit id at d.between later) m d.second).0.as_it_is (never l) in
    subst (λ (b : Lane). inner s (Exit id at before b) t) (sym after) d.first
both_below spans inner outer same attaches kept lanes never s l (CloneSpan id) t m d = d.0
both_below spans inner outer same attaches kept lanes never s l (TryClose id at) t m d = d.first

pub chain_below : {L S : Type 0} (spans : S → Spans) (does : S → SubscriberCall → S → Type 0) (outer : Layered L S → SubscriberCall → Layered L S → Type 0)
    → ((s : Layered L S) (id at : ℕ) (t : Layered L S) → outer s (TryClose id at) t → does s.inner (TryClose id at) t.inner) → (at : ℕ) (next : Option ℕ) (s t : Layered L S)
    → Chain (λ (p : Layered L S). spans p.inner) outer at next s t → Chain spans does at next s.inner t.inner
chain_below spans does outer step at _ _ _ (ended s) = ended s.inner
chain_below spans does outer step at _ _ _ (closes id s m t did rest) = closes id s.inner m.inner t.inner (step s id at m did) (chain_below spans does outer step at (parent_to_release (spans s.inner).made id) m t rest)

pub first_below : {L S : Type 0} (has : Bool) (outer : L → PartCall → L → Type 0) (inner : S → PartCall → S → Type 0) (l : L) (s : S) (call : PartCall) (m : L) (t : S) → has ≡ false → TouchesFirst has outer inner l s call m t → (m ≡ l) × inner s call t
first_below true outer inner l s call m t e d = absurd (true≢false e)
first_below false outer inner l s call m t e d = d

-- a filter attaches nothing
pub attaches_none : (o : Option FilterWithRoom) → layer_or false (λ _. false) o ≡ false
attaches_none None = refl
attaches_none (Some f) = refl
