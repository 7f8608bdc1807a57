-- A queue after a poll of its first task.
use Rattle.std.proofs.Common.{◌≡◌, ℕ, suc, ◌+◌, List, [], ◌∷◌, ◌++◌, Option, Some, None, refl, sym, ap, subst, ◌∙◌, arith}
use Rattle.std.specs.Option.{option_map}
use Rattle.trace_tasks.proofs.Common.{sum_by-cons, sum_by_push, WorldValue, Span, Spans, span_at, spans_in, Handle, HeldSpan, IsKnown, id_of, Instrumented, TaskFuture, Step, steps_left, UnfinishedTask, yield_count, polls_left, poll_count, after_poll, requeue, IsAlone, IsAloneAs, IsAfterPoll, OtherSpansStay, Waits, IsApart, AreApart, AllWait, AllKnownAndApart, TaskStands, AllStand, KeepsKnownBut, queue_with, polls_in}
use Rattle.trace_tasks.specs.declared.script.Step.TheVariants as step

-- ---- polls

pub yields_none : (steps : List Step) → steps_left steps ≡ None → yield_count steps ≡ 0
yields_none [] is = refl
yields_none (step.Yield ∷ steps) is = absurd (cc is)
yields_none (step.Event site fields ∷ steps) is = yields_none steps is
yields_none (step.Record fields ∷ steps) is = yields_none steps is
yields_none (step.SetAttribute key value ∷ steps) is = yields_none steps is

the_steps : (a b : List Step) → ◌≡◌ {A = Option (List Step)} (Some a) (Some b) → a ≡ b
the_steps a b e = cc e

pub yields_some : (steps rest : List Step) → steps_left steps ≡ Some rest → yield_count steps ≡ yield_count rest + 1
yields_some [] rest is = absurd (cc is)
yields_some (step.Yield ∷ steps) rest is = ap (λ (xs : List Step). yield_count xs + 1) (the_steps steps rest is)
yields_some (step.Event site fields ∷ steps) rest is = yields_some steps rest is
yields_some (step.Record fields ∷ steps) rest is = yields_some steps rest is
yields_some (step.SetAttribute key value ∷ steps) rest is = yields_some steps rest is

pub polls_cons : (f : Instrumented TaskFuture) (fs : List (Instrumented TaskFuture)) → polls_in (f ∷ fs) ≡ yield_count f.inner.steps.items + 1 + polls_in fs
polls_cons f fs = sum_by-cons (λ (g : Instrumented TaskFuture). yield_count g.inner.steps.items + 1) f fs

-- one poll less
pub polls_after : (f : Instrumented TaskFuture) (fs : List (Instrumented TaskFuture)) (left : Option (Instrumented TaskFuture)) → IsAfterPoll left f → polls_in (f ∷ fs) ≡ polls_in (queue_with fs left) + 1
polls_after f fs None is = (let a = polls_cons f fs in let b = yields_none f.inner.steps.items is in omega (arith, a, b))
polls_after f fs (Some g) is = (
    let a = polls_cons f fs in
    let b = yields_some f.inner.steps.items g.inner.steps.items is.0 in
    let c = sum_by_push (λ (h : Instrumented TaskFuture). yield_count h.inner.steps.items + 1) fs g in
    omega (arith, a, b, c))

left_cons : (t : UnfinishedTask) (ts : List UnfinishedTask) → poll_count (t ∷ ts) ≡ polls_left t + poll_count ts
left_cons t ts = sum_by-cons polls_left t ts

left_after : (t : UnfinishedTask) (ts : List UnfinishedTask) (o : Option (List Step)) → steps_left t.steps ≡ o → poll_count (t ∷ ts) ≡ suc (poll_count (requeue ts (option_map (λ steps. record t { steps = steps }) o)))
left_after t ts None is = (let a = left_cons t ts in let b = yields_none t.steps is in omega (arith, a, b))
left_after t ts (Some rest) is = (
    let u : UnfinishedTask = record t { steps = rest } in
    let a = left_cons t ts in
    let b = yields_some t.steps rest is in
    let c = sum_by_push polls_left ts u in
    omega (arith, a, b, c))

pub left_less : (t : UnfinishedTask) (ts : List UnfinishedTask) → poll_count (t ∷ ts) ≡ suc (poll_count (requeue ts (after_poll t)))
left_less t ts = left_after t ts (steps_left t.steps) refl

-- ---- where the tasks stand

pub stand_push : (handles : List Handle) (ts : List UnfinishedTask) (fs : List (Instrumented TaskFuture)) (t : UnfinishedTask) (f : Instrumented TaskFuture) → AllStand handles ts fs → TaskStands handles t f → AllStand handles (ts ++ t ∷ []) (fs ++ f ∷ [])
stand_push handles [] [] t f all one = (one, tt)
stand_push handles [] (g ∷ fs) t f all one = absurd all
stand_push handles (u ∷ ts) [] t f all one = absurd all
stand_push handles (u ∷ ts) (g ∷ fs) t f all one = (all.0, stand_push handles ts fs t f all.1 one)

pub stand_after : (handles : List Handle) (t : UnfinishedTask) (ts : List UnfinishedTask) (f : Instrumented TaskFuture) (fs : List (Instrumented TaskFuture)) (left : Option (Instrumented TaskFuture)) → TaskStands handles t f → AllStand handles ts fs → IsAfterPoll left f
    → AllStand handles (requeue ts (after_poll t)) (queue_with fs left)
stand_after handles t ts f fs None one all is =
    subst (λ (o : Option (List Step)). AllStand handles (requeue ts (option_map (λ steps. record t { steps = steps }) o)) fs) (sym (ap steps_left one.steps ∙ is)) all
stand_after handles t ts f fs (Some g) one all is =
    subst (λ (o : Option (List Step)). AllStand handles (requeue ts (option_map (λ steps. record t { steps = steps }) o)) (fs ++ g ∷ [])) (sym (ap steps_left one.steps ∙ is.0))
    (stand_push handles ts fs (record t { steps = g.inner.steps.items }) g all (record {
      handle = one.handle ∙ ap (λ (h : Handle). Some h) (sym is.1);
      site = ap (λ (h : Handle). h.site) is.1 ∙ one.site;
      steps = refl;
    }))

-- ---- which tasks wait

apart_sym : (a b : HeldSpan) → IsApart a b → IsApart b a
apart_sym a b apart = λ id is other. apart id other is

pub apart_push : (f : Instrumented TaskFuture) (fs : List (Instrumented TaskFuture)) (g : Instrumented TaskFuture) → AreApart f fs → IsApart f.span.held g.span.held → AreApart f (fs ++ g ∷ [])
apart_push f [] g all one = (one, tt)
apart_push f (x ∷ fs) g all one = (all.0, apart_push f fs g all.1 one)

module _ {S : Type 0} (spans : S → Spans) where
  -- of another span than the one that closed it is known still
  known_apart : (old new : WorldValue S) (closed held : HeldSpan) → KeepsKnownBut spans old new closed → IsApart closed held → IsKnown spans old held → IsKnown spans new held
  known_apart old new closed None keeps apart known = tt
  known_apart old new closed (Some h) keeps apart known = keeps (Some h) (λ is. apart h.1 (ap id_of (sym is)) refl) known

  lone_apart : (old new : WorldValue S) (d site : ℕ) (closed held : HeldSpan) → ((q : ℕ) → (option_map (λ h. h.1) closed ≡ Some q → ⊥) → span_at (spans_in spans new d).made q ≡ span_at (spans_in spans old d).made q)
      → IsApart closed held → IsAloneAs (spans_in spans old d).made d site held → IsAloneAs (spans_in spans new d).made d site held
  lone_apart old new d site closed None stay apart lone = tt
  lone_apart old new d site closed (Some h) stay apart lone = (lone.0, stay h.1 (λ is. apart h.1 is refl) ∙ lone.1)

  stay_all : (left : Option (Instrumented TaskFuture)) (held : HeldSpan) (old new : List Span) → OtherSpansStay left held old new → (q : ℕ) → (option_map (λ h. h.1) held ≡ Some q → ⊥) → span_at new q ≡ span_at old q
  stay_all None held old new stay = stay
  stay_all (Some g) held old new stay = λ q apart. ap (λ (made : List Span). span_at made q) stay

  module _ (old new : WorldValue S) (d : ℕ) (f : Instrumented TaskFuture) (keeps : KeepsKnownBut spans old new f.span.held) (stay : (q : ℕ) → (option_map (λ h. h.1) f.span.held ≡ Some q → ⊥) → span_at (spans_in spans new d).made q ≡ span_at (spans_in spans old d).made q) where
    others_wait : (fs : List (Instrumented TaskFuture)) → AreApart f fs → AllWait spans old d fs → AllWait spans new d fs
    others_wait [] apart all = tt
    others_wait (g ∷ fs) apart all = (
      record {
        known = known_apart old new f.span.held g.span.held keeps apart.0 all.0.known;
        site = all.0.site;
        lone = record { site_is = all.0.lone.site_is; held_is = lone_apart old new d all.0.site f.span.held g.span.held stay apart.0 all.0.lone.held_is };
      },
      all.1,
      others_wait fs apart.1 all.2,
    )

  wait_push : (world : WorldValue S) (d : ℕ) (fs : List (Instrumented TaskFuture)) (g : Instrumented TaskFuture) → AllWait spans world d fs → AreApart g fs → Waits spans world d g → AllWait spans world d (fs ++ g ∷ [])
  wait_push world d [] g all apart one = (one, tt, tt)
  wait_push world d (f ∷ fs) g all apart one = (all.0, apart_push f fs g all.1 (apart_sym g.span.held f.span.held apart.0), wait_push world d fs g all.2 apart.1 one)

  same_apart : (f g : Instrumented TaskFuture) (fs : List (Instrumented TaskFuture)) → g.span ≡ f.span → AreApart f fs → AreApart g fs
  same_apart f g [] is apart = tt
  same_apart f g (x ∷ fs) is apart = (subst (λ (h : Handle). IsApart h.held x.span.held) (sym is) apart.0, same_apart f g fs is apart.1)

  pub wait_after : (old new : WorldValue S) (d : ℕ) (f : Instrumented TaskFuture) (fs : List (Instrumented TaskFuture)) (left : Option (Instrumented TaskFuture)) → AllWait spans old d (f ∷ fs) → IsAfterPoll left f
      → OtherSpansStay left f.span.held (spans_in spans old d).made (spans_in spans new d).made → KeepsKnownBut spans old new f.span.held → ((g : Instrumented TaskFuture) → left ≡ Some g → IsKnown spans new g.span.held)
      → AllWait spans new d (queue_with fs left)
  wait_after old new d f fs None all is stay keeps known = others_wait old new d f keeps stay fs all.1 all.2
  wait_after old new d f fs (Some g) all is stay keeps known =
      wait_push new d fs g (others_wait old new d f keeps (stay_all (Some g) f.span.held (spans_in spans old d).made (spans_in spans new d).made stay) fs all.1 all.2) (same_apart f g fs is.1 all.1) (record {
        known = known g refl;
        site = all.0.site;
        lone = subst (λ (h : Handle). IsAlone (spans_in spans new d).made d all.0.site h) (sym is.1) (subst (λ (made : List Span). IsAlone made d all.0.site f.span) (sym stay) all.0.lone);
      })

  -- ---- which are known

  pub all_known : (world : WorldValue S) (d : ℕ) (fs : List (Instrumented TaskFuture)) → AllWait spans world d fs → AllKnownAndApart spans world fs
  all_known world d [] all = tt
  all_known world d (f ∷ fs) all = (all.0.known, all.1, all_known world d fs all.2)

  pub known_after : (old new : WorldValue S) (f : Instrumented TaskFuture) (fs : List (Instrumented TaskFuture)) → KeepsKnownBut spans old new f.span.held → AreApart f fs → AllKnownAndApart spans old fs → AllKnownAndApart spans new fs
  known_after old new f [] keeps apart all = tt
  known_after old new f (g ∷ fs) keeps apart all = (known_apart old new f.span.held g.span.held keeps apart.0 all.0, all.1, known_after old new f fs keeps apart.1 all.2)
