-- What a registry and a layer over it need of sound spans.
use Rattle.std.proofs.Common.{◌≡◌, ℕ, ◌+◌, List, length, None, Result, Ok, Err, refl, sym, ap, subst, ◌∙◌, arith, OnOk, OnErr}
use Rattle.span_registry.proofs.Common.{length_push, get_or_past, get_or_push, Span, Spans, no_span, is_open_child, without_hold, with_new_span, HasUnboundHold, IsSound, count_push, no_entries, KnownSpans, in_step_start, SlotTableValue}
use Rattle.std.proofs.lemmas.List.{length-set}
use Rattle.span_registry.specs.Both.{InStep, KnowsNone}

-- what holds after an Ok and after an Err
pub either_way : {T E A : Type 0} (P : A → Type 0) (result : Result T E) (now x y : A) → OnOk result (now ≡ x) → OnErr result (now ≡ y) → P x → P y → P now
either_way P (Ok v) now x y ok err px py = subst P (sym ok) px
either_way P (Err e) now x y ok err px py = subst P (sym err) py

-- a layer that knows nothing is in step
pub sound_in_step : (spans : Spans) (seen : KnownSpans) → IsSound spans → KnowsNone seen → InStep spans seen
sound_in_step spans seen sound fresh =
    in_step_start spans seen fresh
    (λ lane id past.
    let none = ap (λ (s : Span). s.holds) (get_or_past spans.made id no_span past) in
    let bound = sound.bound id in
    no_entries spans.lanes id lane (omega (arith, none, bound)))

pub err_made : {T E : Type 0} (result : Result T E) (now old : SlotTableValue) → OnErr result (now ≡ old) → OnErr result (now.made ≡ old.made)
err_made (Ok v) now old e = tt
err_made (Err v) now old e = ap (λ (t : SlotTableValue). t.made) e

-- a root that is made has a hold of its own
pub made_own : (x y : Spans) (site : ℕ) → IsSound x → y ≡ with_new_span x None site → HasUnboundHold y (length x.made)
made_own x y site sound is =
    let new : Span = record { holds = 1; parent = None; site = site } in
    let n = length x.made in
    let children = count_push (is_open_child n) x.made new in
    let past = ap (λ (s : Span). s.holds) (get_or_past x.made n no_span (omega arith)) in
    let bound = sound.bound n in
    let h = ap (λ (s : Span). s.holds) (get_or_push x.made new no_span n refl) in
    subst (λ (z : Spans). HasUnboundHold z n) (sym is) (omega (arith, children, past, bound, h))

pub made_count : (x y z : Spans) (site id : ℕ) → y ≡ with_new_span x None site → z.made ≡ without_hold y.made id → length z.made ≡ length x.made + 1
made_count x y z site id is closed =
    let new : Span = record { holds = 1; parent = None; site = site } in
    let longer = length_push x.made new in
    ap (λ (made : List Span). length made) closed ∙ length-set y.made id _ ∙ ap (λ (w : Spans). length w.made) is ∙ omega (arith, longer)
