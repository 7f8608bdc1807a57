-- Requests that are refused, and steps as a whole.
use Rattle.std.proofs.Common.{◌≡◌, ℕ, ◌<◌, zero, suc, List, [], ◌∷◌, length, false, Option, Some, None, Ok, Err, option_map, map, refl, sym, ap, subst, ◌∙◌, arith, Result, IfOk, IfErr, slice_get}
use Rattle.span_script.proofs.Common.{cond-false, length-map, fold_push, get_or-map, Lane, Handle, Request, Reply, Refusal, Scope, Tables, History, tables, after_effect, no_tables, slot_at, Resolved, ◌>>=◌, need, is_bad_moment, effect_of, effect_of_call, PipelineState, StandsFor, IsServed, IsServedByHistory, IsRefusal, held_by, held_of}
use Rattle.span_script.specs.declared.reply.Refusal.TheVariants as refusal
use Rattle.span_script.specs.declared.reply.What.TheVariants as what
use Rattle.span_script.specs.Fits.{Fits}

-- a handle that isn't there
pub refuses_unknown : (view k : PipelineState) → view ≡ k → (hs : List (Option Handle)) → view.handles ≡ map held_by hs → (handle : ℕ) → slot_at hs handle ≡ None → (t : Tables) → Fits k t → (go : Scope → Resolved)
    → (need what.Handle (slot_at t.handles handle) >>= go) ≡ Err (refusal.UnknownName what.Handle)
refuses_unknown view k is hs handles handle gone t fits go = ap (λ o. need what.Handle o >>= go) (by_slot (slot_at t.handles handle)
    (sym (get_or-map (option_map (held_of k.dispatch)) t.handles handle None) ∙ ap (λ xs. slot_at xs handle) (sym fits.handle_slots ∙ ap (λ (x : PipelineState). x.handles) (sym is) ∙ handles) ∙ get_or-map held_by hs handle None ∙ ap held_by gone))
  where
    by_slot : (o : Option Scope) → option_map (held_of k.dispatch) o ≡ None → o ≡ None
    by_slot None e = refl
    by_slot (Some x) e = absurd (cc e)

-- ---- steps

pub within_get : {A : Type 0} (xs : List A) (n : ℕ) → n < length xs → (x : A) × (slice_get xs n ≡ Some x)
within_get [] n within = absurd (omega (arith, within))
within_get (x ∷ xs) zero within = (x, refl)
within_get (x ∷ xs) (suc n) within = within_get xs n (omega (arith, within))

-- past the moment and the lane a request is its call
pub effect_is : (view k : PipelineState) → view ≡ k → (lanes : List Lane) → view.setup.ids ≡ map (λ (l : Lane). l.id) lanes → (before : ℕ) → view.moment ≡ before → (t : Tables) → Fits k t → (request : Request) → is_bad_moment before request.at ≡ false → request.lane_place < length lanes
    → effect_of k.setup t request ≡ effect_of_call k.setup t request.at request.lane_place request.call
effect_is view k is lanes ids before moment t fits request good within =
    let latest : before ≡ t.moment = sym moment ∙ ap (λ (x : PipelineState). x.moment) is ∙ fits.latest in
    let many : length k.setup.ids ≡ length lanes = ap (λ (x : PipelineState). length x.setup.ids) (sym is) ∙ ap length ids ∙ length-map lanes (λ (l : Lane). l.id) in
    let at = within_get k.setup.ids request.lane_place (omega (arith, within, many)) in
    cond-false {A = Resolved} (is_bad_moment t.moment request.at) _ _ (ap (λ (n : ℕ). is_bad_moment n request.at) (sym latest) ∙ good)
    ∙ ap (λ o. need what.Lane o >>= (λ (id : ℕ). effect_of_call k.setup t request.at request.lane_place request.call)) at.1

pub steps_ok : (result : Result Reply Refusal) (whole call : Resolved) (h : History) (old new : PipelineState) → whole ≡ call → IfOk result (IsServed call (tables old.setup h) old new) → IfOk result (IsServedByHistory whole h old new)
steps_ok (Ok reply) whole call h old new same served = record {
  effect = served.effect;
  is = same ∙ served.is;
  reply_is = served.reply_is;
  setup = served.setup;
  records = served.records;
  measures = served.measures;
  stands = subst (StandsFor new) (sym (fold_push after_effect (no_tables old.setup) h served.effect)) served.stands;
}
steps_ok (Err error) whole call h old new same served = tt

pub steps_refused : (result : Result Reply Refusal) (whole call : Resolved) → whole ≡ call → IfErr result (IsRefusal call) → IfErr result (IsRefusal whole)
steps_refused (Ok reply) whole call same given = tt
steps_refused (Err error) whole call same given = λ other. same ∙ given other
