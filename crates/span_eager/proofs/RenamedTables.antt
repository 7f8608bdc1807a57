-- What an early start makes of effects and of tables, and that it is kept by one effect more.
use Rattle.std.proofs.Common.{◌≡◌, ℕ, suc, ◌≤◌, ◌==◌, ◌||◌, List, [], ◌∷◌, ◌++◌, length, map, fold, Bool, true, false, Option, Some, None, refl, sym, ap, ap₂, subst, subst₂, ◌∙◌, arith, append_assoc, if◌then◌else◌, option_map}
use Rattle.span_eager.proofs.Common.{AllByRecursion, list_any, map-append, LayerSettings, GREATEST, deed, Recording, with_start, with_start_if_some, with_applied, without_last, MadeSpan, SpanOp, Owner, Attached, is_attached_by, Effect, Tables, with_item, with_attached, with_detached, with_span_made, with_starts_of, with_ops_of, recording_after, open_part, after_effect, starts_from, closes_from, LeavesStartData, renamed_context, renamed_reply}
use Rattle.std.proofs.lemmas.List.{length-append}
use Rattle.span_eager.proofs.SameSpan.{Ids, told_by}
use Rattle.span_eager.proofs.SameRecordings.{SameRecording, Shut, AreOnce, done_with, later_same, starts_same, made_same, ops_same, closes_same}

abbrev pub made_by : (ℕ → ℕ) → MadeSpan → MadeSpan
made_by f m = record m { made_with = told_by f m.made_with }

abbrev pub attached_by : (ℕ → ℕ) → Attached → Attached
attached_by f a = record a { context = renamed_context f a.context }

-- the effect where spans start at their making, so many having been made before
abbrev pub effect_by : (ℕ → ℕ) → ℕ → Effect → Effect
effect_by f n e = record e {
  new_context = option_map (renamed_context f) e.new_context;
  new_span = option_map (made_by f) e.new_span;
  new_span_start = option_map (λ (m : MadeSpan). n) e.new_span;
  ops = map (done_with f) e.ops;
  attach = option_map (attached_by f) e.attach;
  reply = renamed_reply f e.reply;
}

-- the tables, with what was recorded
abbrev pub tables_by : (ℕ → ℕ) → Recording → Tables → Tables
tables_by f r t = record t {
  named_contexts = map (renamed_context f) t.named_contexts;
  spans = map (made_by f) t.spans;
  contexts = λ lane. map (attached_by f) (t.contexts lane);
  recording = r;
}

-- ---- the tables after one effect more

map_new : {A : Type 0} (g : A → A) (xs : List A) (x : Option A) → with_item (map g xs) (option_map g x) ≡ map g (with_item xs x)
map_new g xs None = refl
map_new g xs (Some x) = sym (map-append g xs (x ∷ []))

any_by : (f : ℕ → ℕ) (o : Owner) (xs : List Attached) → list_any (is_attached_by o) (map (attached_by f) xs) ≡ list_any (is_attached_by o) xs
any_by f o [] = refl
any_by f o (x ∷ xs) = ap (λ (b : Bool). is_attached_by o x || b) (any_by f o xs)

map_without : (f : ℕ → ℕ) (o : Owner) (xs : List Attached) → without_last (is_attached_by o) (map (attached_by f) xs) ≡ map (attached_by f) (without_last (is_attached_by o) xs)
map_without f o [] = refl
map_without f o (x ∷ xs) =
    ap₂ (λ (b : Bool) (ys : List Attached). if b then attached_by f x ∷ ys else if is_attached_by o x then map (attached_by f) xs else attached_by f x ∷ map (attached_by f) xs) (any_by f o xs) (map_without f o xs)
    ∙ pushed (list_any (is_attached_by o) xs) (is_attached_by o x)
  where
    pushed : (b c : Bool) → (if b then attached_by f x ∷ map (attached_by f) (without_last (is_attached_by o) xs) else if c then map (attached_by f) xs else attached_by f x ∷ map (attached_by f) xs)
        ≡ map (attached_by f) (if b then x ∷ without_last (is_attached_by o) xs else if c then xs else x ∷ xs)
    pushed true c = refl
    pushed false true = refl
    pushed false false = refl

map_if : (f : ℕ → ℕ) (b : Bool) (xs ys : List Attached) → (if b then map (attached_by f) xs else map (attached_by f) ys) ≡ map (attached_by f) (if b then xs else ys)
map_if f true xs ys = refl
map_if f false xs ys = refl

map_attached : (f : ℕ → ℕ) (cs : ℕ → List Attached) (lane : ℕ) (a : Option Attached) (l : ℕ)
    → with_attached (λ n. map (attached_by f) (cs n)) lane (option_map (attached_by f) a) l ≡ map (attached_by f) (with_attached cs lane a l)
map_attached f cs lane None l = refl
map_attached f cs lane (Some a) l =
    ap (λ (xs : List Attached). if lane == l then xs else map (attached_by f) (cs l)) (sym (map-append (attached_by f) (cs lane) (a ∷ [])))
    ∙ map_if f (lane == l) (cs lane ++ a ∷ []) (cs l)

map_detached : (f : ℕ → ℕ) (ds cs : ℕ → List Attached) (lane : ℕ) (o : Option Owner) → ((l : ℕ) → ds l ≡ map (attached_by f) (cs l)) → (l : ℕ) → with_detached ds lane o l ≡ map (attached_by f) (with_detached cs lane o l)
map_detached f ds cs lane None same l = same l
map_detached f ds cs lane (Some o) same l =
    ap₂ (λ (xs ys : List Attached). if lane == l then xs else ys) (ap (without_last (is_attached_by o)) (same lane) ∙ map_without f o (cs lane)) (same l)
    ∙ map_if f (lane == l) (without_last (is_attached_by o) (cs lane)) (cs l)

pub after_by : (f : ℕ → ℕ) (n : ℕ) (r : Recording) (t : Tables) (e : Effect)
    → after_effect (tables_by f r t) (effect_by f n e) ≡ tables_by f (open_part (recording_after (length (map (made_by f) t.spans)) (effect_by f n e) r)) (after_effect t e)
after_by f n r t e = λ i. record (after_effect (tables_by f r t) (effect_by f n e)) {
  named_contexts = map_new (renamed_context f) t.named_contexts e.new_context i;
  spans = map_new (made_by f) t.spans e.new_span i;
  contexts = λ l. map_detached f (with_attached (λ m. map (attached_by f) (t.contexts m)) e.lane (option_map (attached_by f) e.attach)) (with_attached t.contexts e.lane e.attach) e.lane e.detach (map_attached f t.contexts e.lane e.attach) l i;
}

-- ---- what is recorded after one effect more

-- so many have been made
abbrev pub count_made : ℕ → Option MadeSpan → ℕ
count_made n None = n
count_made n (Some m) = suc n

pub made_count : (ms : List MadeSpan) (m : Option MadeSpan) → length (with_item ms m) ≡ count_made (length ms) m
made_count ms None = refl
made_count ms (Some m) = let more = length-append ms (m ∷ []) in omega (arith, more)

-- a span that was just made hasn't started, and no time passes up to it
abbrev pub IsJustMade : ℕ → Option MadeSpan → Type 0
IsJustMade at None = Unit {0}
IsJustMade at (Some m) = (m.made_with.own ≡ None) × (m.made_with.last ≤ at)

-- what holds of the effect of any request, where spans don't start at their making
pub record IsPlain (at : ℕ) (e : Effect) : Type 0 where
  pub at_is : e.at ≡ at
  pub begins : e.new_span_start ≡ None
  pub made : IsJustMade at e.new_span
  pub starts_none : AllByRecursion (λ (d : SpanOp). (deed d.op).own ≡ None) e.ops

module _ (f : Ids) (layer : LayerSettings) where
  abbrev Same : ℕ → ℕ → List ℕ → Recording → Recording → Type 0
  Same = SameRecording f layer

  made_by_effect : (n at : ℕ) (pending : List ℕ) (e l : Recording) (m : Option MadeSpan) → at ≤ GREATEST → IsJustMade at m → Same n at pending e l
      → Same (count_made n m) at pending (with_start_if_some (option_map (λ (m : MadeSpan). n) m) at (with_span_made n (option_map (made_by f.new) m) e)) (with_span_made n m l)
  made_by_effect n at pending e l None within just same = same
  made_by_effect n at pending e l (Some m) within just same = made_same f layer n at pending e l m.made_with just.0 just.1 within same

  -- what is recorded before spans close
  pub done_same : (n at : ℕ) (pending : List ℕ) (e : Effect) (r l : Recording) → e.at ≡ at → at ≤ GREATEST → IsPlain at e
      → AllByRecursion (LeavesStartData (with_starts_of n e l)) e.ops → Same n at (starts_from at l e.starts ++ pending) r l
      → Same (count_made n e.new_span) at pending (with_ops_of n (effect_by f.new n e) r) (with_ops_of n e l)
  done_same n at pending e r l at_is within plain settled same =
      let started = starts_same f layer n at e.starts pending r l within same in
      let begun = made_by_effect n at pending (fold (λ r s. with_start s at r) r e.starts) (fold (λ r s. with_start s at r) l e.starts) e.new_span within plain.made started in
      let lazily : with_starts_of n e l ≡ with_span_made n e.new_span (fold (λ r s. with_start s at r) l e.starts) =
      ap (λ (b : Option ℕ). with_start_if_some b e.at (with_span_made n e.new_span (fold (λ r s. with_start s e.at r) l e.starts))) plain.begins
      ∙ ap (λ (m : ℕ). with_span_made n e.new_span (fold (λ r s. with_start s m r) l e.starts)) at_is in
      let early : with_starts_of n (effect_by f.new n e) r ≡ with_start_if_some (option_map (λ (m : MadeSpan). n) e.new_span) at (with_span_made n (option_map (made_by f.new) e.new_span) (fold (λ r s. with_start s at r) r e.starts)) =
      ap (λ (m : ℕ). with_start_if_some (option_map (λ (m : MadeSpan). n) e.new_span) m (with_span_made n (option_map (made_by f.new) e.new_span) (fold (λ r s. with_start s m r) r e.starts))) at_is in
      let ready = subst₂ (Same (count_made n e.new_span) at pending) (sym early) (sym lazily) begun in
      let done = ops_same f layer (count_made n e.new_span) at pending e.ops (with_starts_of n (effect_by f.new n e) r) (with_starts_of n e l) within plain.starts_none settled ready in
      subst (λ (m : ℕ). Same (count_made n e.new_span) at pending (fold (λ r d. with_applied d.span m d.op r) (with_starts_of n (effect_by f.new n e) r) (map (done_with f.new) e.ops)) (fold (λ r d. with_applied d.span m d.op r) (with_starts_of n e l) e.ops))
      (sym at_is) done

  pub recorded_same : (n before : ℕ) (pending : List ℕ) (e : Effect) (r l : Recording) → before ≤ e.at → e.at ≤ GREATEST → IsPlain e.at e
      → AllByRecursion (LeavesStartData (with_starts_of n e l)) e.ops → AreOnce e.closes → Shut e.closes (with_ops_of n e l).spans
      → Same n before ((starts_from e.at l e.starts ++ closes_from e.at (with_ops_of n e l) e.closes) ++ pending) r l
      → Same (count_made n e.new_span) e.at pending (recording_after n (effect_by f.new n e) r) (recording_after n e l)
  recorded_same n before pending e r l past within plain settled once shut same =
      let closing = closes_from e.at (with_ops_of n e l) e.closes in
      let now = later_same f layer n before e.at ((starts_from e.at l e.starts ++ closing) ++ pending) r l past same in
      let first = subst (λ (xs : List ℕ). Same n e.at xs r l) (append_assoc (starts_from e.at l e.starts) closing pending) now in
      let done = done_same n e.at (closing ++ pending) e r l refl within plain settled first in
      closes_same f layer (count_made n e.new_span) e.at e.closes pending (with_ops_of n (effect_by f.new n e) r) (with_ops_of n e l) within once shut done
