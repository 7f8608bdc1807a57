-- A poll of a task's steps, so far.
use Rattle.std.proofs.Common.{◌≡◌, ℕ, List, [], ◌∷◌, ◌++◌, Bool, Option, Err, refl, sym, ap, subst, ◌∙◌, ◌⊎◌, inl, inr, append_assoc}
use Rattle.trace_tasks.proofs.Common.{Callsite, Lane, LevelFilter, WorldValue, Spans, SubscriberCall, spans_after_call, CallKeepsLanes, ChangesUpTo, KeepsLent, calls_none, calls_then, keeps_nothing, PartCall, StaysStack, Step, steps_now, steps_left, StepOn, StepsOn, PollsSteps, Changes, Asks, WantsMemory}
use Rattle.otel_base.specs.declared.enter_error.EnterError.TheVariants as faults
use Rattle.trace_tasks.specs.declared.script.Step.TheVariants as step
use Rattle.trace_tasks.proofs.polls.ChangesLemmas.{lent_then, changes_keep, changes_call}

-- a step that doesn't end the poll
abbrev pub IsAct : Step → Type 0
IsAct step.Yield = ⊥
IsAct (step.Event site fields) = Unit {0}
IsAct (step.Record fields) = Unit {0}
IsAct (step.SetAttribute key value) = Unit {0}

pub act_or : (s : Step) → (s ≡ step.Yield) ⊎ IsAct s
act_or step.Yield = inl refl
act_or (step.Event site fields) = inr tt
act_or (step.Record fields) = inr tt
act_or (step.SetAttribute key value) = inr tt

next_left : (s : Step) (steps : List Step) → IsAct s → steps_left (s ∷ steps) ≡ steps_left steps
next_left step.Yield steps act = absurd act
next_left (step.Event site fields) steps act = refl
next_left (step.Record fields) steps act = refl
next_left (step.SetAttribute key value) steps act = refl

next_now : (s : Step) (steps : List Step) → IsAct s → steps_now (s ∷ steps) ≡ s ∷ steps_now steps
next_now step.Yield steps act = absurd act
next_now (step.Event site fields) steps act = refl
next_now (step.Record fields) steps act = refl
next_now (step.SetAttribute key value) steps act = refl

module _ {S : Type 0} (spans : S → Spans) (hint : S → Option LevelFilter) (enables : S → ℕ → Callsite → Bool) (attaches : S → Bool) (kept : S → ℕ → ℕ → ℕ) (is_whole : S → Type 0) (does : S → SubscriberCall → S → Type 0) (touches : S → PartCall → S → Type 0) (same : S → S → Type 0) (lane : Lane) (at : ℕ) where
  pub record Polling (first steps : List Step) (old world : WorldValue S) : Type 0 where
    pub lent : KeepsLent spans kept is_whole old world lane lane
    pub called : ChangesUpTo does (Asks touches) same at old world
    pub left : steps_left steps ≡ steps_left first
    pub done : List Step
    pub split : done ++ steps_now steps ≡ steps_now first
    pub did : StepsOn spans hint enables does touches lane at done old world

  -- one step more at the end
  did_more : (done : List Step) (s : Step) (old world next : WorldValue S) → StepsOn spans hint enables does touches lane at done old world → StepOn spans hint enables does touches lane at s world next → StepsOn spans hint enables does touches lane at (done ++ s ∷ []) old next
  did_more [] s old world next is on = (next, subst (λ (w : WorldValue S). StepOn spans hint enables does touches lane at s w next) is on, refl)
  did_more (x ∷ done) s old world next (w, first, rest) on = (w, first, did_more done s w world next rest on)

  module _ (same_refl : (s : S) → same s s) (same_trans : (s t u : S) → same s t → same t u → same s u) where
    pub polling_first : (steps : List Step) (world : WorldValue S) → Polling steps steps world world
    polling_first steps world = record { lent = keeps_nothing spans kept is_whole world lane; called = calls_none does (Asks touches) same same_refl same_trans at world; left = refl; done = []; split = refl; did = refl }

    module _ (same_spans : (s t : S) → same s t → spans t ≡ spans s) (same_kept : (s t : S) → same s t → kept t ≡ kept s) (same_whole : (s t : S) → same s t → is_whole s → is_whole t)
        (shows : (s : S) (call : SubscriberCall) (t : S) → does s call t → spans t ≡ spans_after_call (spans s) call) (lanes : (s : S) (call : SubscriberCall) (t : S) → does s call t → CallKeepsLanes (attaches s) (kept s) call (kept t))
        (keeps_whole : (s : S) (call : SubscriberCall) (t : S) → does s call t → is_whole s → is_whole t)
        (stays : (s : S) (call : PartCall) (t : S) → touches s call t → StaysStack spans kept attaches is_whole s t) where
      pub lent_more : (first steps : List Step) (old world next : WorldValue S) → Polling first steps old world → Changes spans hint enables does touches same at world next → KeepsLent spans kept is_whole old next lane lane
      lent_more first steps old world next so_far changes =
          lent_then spans kept is_whole old world next lane lane lane so_far.lent
          (changes_keep spans hint enables attaches kept is_whole does touches same same_spans same_kept same_whole shows lanes keeps_whole stays at world next lane changes)

      pub called_more : (first steps : List Step) (old world next : WorldValue S) → Polling first steps old world → Changes spans hint enables does touches same at world next → ChangesUpTo does (Asks touches) same at old next
      called_more first steps old world next so_far changes =
          calls_then does (Asks touches) same same_refl same_trans at old world next so_far.called
          (changes_call spans hint enables attaches kept is_whole does touches same same_refl same_trans at world next changes)

      pub polling_more : (first all : List Step) (s : Step) (steps : List Step) (old world next : WorldValue S) → Polling first all old world → all ≡ s ∷ steps → IsAct s → StepOn spans hint enables does touches lane at s world next
          → Changes spans hint enables does touches same at world next → Polling first steps old next
      polling_more first all s steps old world next so_far is act on changes = record {
        lent = lent_more first all old world next so_far changes;
        called = called_more first all old world next so_far changes;
        left = sym (next_left s steps act) ∙ sym (ap steps_left is) ∙ so_far.left;
        done = so_far.done ++ s ∷ [];
        split = append_assoc so_far.done (s ∷ []) (steps_now steps) ∙ ap (λ (xs : List Step). so_far.done ++ xs) (sym (ap steps_now is ∙ next_now s steps act)) ∙ so_far.split;
        did = did_more so_far.done s old world next so_far.did on;
      }

  -- a step wanted memory
  pub polled_wants : (first all : List Step) (s : Step) (steps : List Step) (old world next : WorldValue S) → Polling first all old world → all ≡ s ∷ steps → IsAct s → WantsMemory spans hint enables does touches same at world next → PollsSteps spans hint enables does touches same first old lane at (Err faults.Memory) steps next lane
  polled_wants first all s steps old world next so_far is act wants = (
    refl,
    refl,
    record {
      done = so_far.done;
      refused = s;
      others = steps_now steps;
      within = ap (λ (xs : List Step). so_far.done ++ xs) (sym (ap steps_now is ∙ next_now s steps act)) ∙ so_far.split;
      world = world;
      did = so_far.did;
      wants = wants;
    },
  )
