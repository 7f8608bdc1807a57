-- The handles that are left are closed, one after another.
use Rattle.std.proofs.Common.{◌≡◌, ℕ, List, [], ◌∷◌, Bool, Option, Some, refl, subst}
use Rattle.trace_tasks.proofs.Common.{Callsite, LevelFilter, SubscriberCall, WorldValue, Spans, Chain, Handle, ReplacedOn, Instrumented, PartCall, TaskFuture, UnfinishedTask, Drops, AllStand}

module _ {S : Type 0} (spans : S → Spans) (hint : S → Option LevelFilter) (enables : S → ℕ → Callsite → Bool) (does : S → SubscriberCall → S → Type 0) (touches : S → PartCall → S → Type 0) (at : ℕ) where
  -- so far: what is left to be closed leads on
  pub record Closing (first fs : List (Instrumented TaskFuture)) (old world : WorldValue S) (handles : List Handle) (ts : List UnfinishedTask) : Type 0 where
    pub now : List UnfinishedTask
    pub stand : AllStand handles now fs
    pub go : (new : WorldValue S) → Drops spans hint enables does touches at now handles world new → Drops spans hint enables does touches at ts handles old new

  pub closing_first : (fs : List (Instrumented TaskFuture)) (world : WorldValue S) (handles : List Handle) (ts : List UnfinishedTask) → AllStand handles ts fs → Closing fs fs world world handles ts
  closing_first fs world handles ts stand = record { now = ts; stand = stand; go = λ new did. did }

  closing_now : (first : List (Instrumented TaskFuture)) (f : Instrumented TaskFuture) (fs : List (Instrumented TaskFuture)) (old world next : WorldValue S) (handles : List Handle) (ts now : List UnfinishedTask)
      → ((new : WorldValue S) → Drops spans hint enables does touches at now handles world new → Drops spans hint enables does touches at ts handles old new) → AllStand handles now (f ∷ fs) → ReplacedOn (λ id s t. Chain spans does at (Some id) s t) world next f.span.held → Closing first fs old next handles ts
  closing_now first f fs old world next handles ts [] go stand chain = absurd stand
  closing_now first f fs old world next handles ts (t ∷ now) go stand chain = record {
    now = now;
    stand = stand.1;
    go = λ new did. go new (λ d lane guards. (record { world = next; lane = lane; handles = handles; guards = guards }, record { handle = f.span; is = stand.0.handle; did = (refl, chain); handles = refl; guards = refl }, did d lane guards));
  }

  -- one more
  pub closing_more : (first all : List (Instrumented TaskFuture)) (f : Instrumented TaskFuture) (fs : List (Instrumented TaskFuture)) (old world next : WorldValue S) (handles : List Handle) (ts : List UnfinishedTask) → all ≡ f ∷ fs → Closing first all old world handles ts
      → ReplacedOn (λ id s t. Chain spans does at (Some id) s t) world next f.span.held → Closing first fs old next handles ts
  closing_more first all f fs old world next handles ts is so_far chain =
      closing_now first f fs old world next handles ts so_far.now so_far.go (subst (λ (xs : List (Instrumented TaskFuture)). AllStand handles so_far.now xs) is so_far.stand) chain

  closed_now : (old world : WorldValue S) (handles : List Handle) (ts now : List UnfinishedTask) → ((new : WorldValue S) → Drops spans hint enables does touches at now handles world new → Drops spans hint enables does touches at ts handles old new) → AllStand handles now [] → Drops spans hint enables does touches at ts handles old world
  closed_now old world handles ts [] go stand = go world (λ d lane guards. refl)
  closed_now old world handles ts (t ∷ now) go stand = absurd stand

  pub closed_all : (first all : List (Instrumented TaskFuture)) (old world : WorldValue S) (handles : List Handle) (ts : List UnfinishedTask) → all ≡ [] → Closing first all old world handles ts → Drops spans hint enables does touches at ts handles old world
  closed_all first all old world handles ts is so_far = closed_now old world handles ts so_far.now so_far.go (subst (λ (xs : List (Instrumented TaskFuture)). AllStand handles so_far.now xs) is so_far.stand)
