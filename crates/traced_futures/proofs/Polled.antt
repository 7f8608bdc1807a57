-- What a poll inside a span makes of a world that stands.
use Rattle.std.proofs.Common.{◌≡◌, ℕ, ◌+◌, ◌∷◌, None, Ok, Err, refl, sym, ap, subst, ◌∙◌, arith, inl, inr}
use Rattle.std.specs.Prelude.{IsOk}
use Rattle.otel_base.specs.declared.enter_error.EnterError.TheVariants.{Full}
use Rattle.trace_base.specs.declared.lane.Lane.{Lane}
use Rattle.trace_base.specs.declared.subscriber.Subscriber.{Ghosts}
use Rattle.trace_base.specs.Gate.{WorldValue}
use Rattle.trace_base.specs.Calls.{Exit}
use Rattle.span_handles.specs.Handles.{IsKnown, ReplacedOn}
use Rattle.span_handles.specs.Entries.{EntryGuard, MeetsFullLane}
use Rattle.span_futures.specs.declared.instrument.Instrumented.{Instrumented}
use Rattle.span_futures.specs.Polls.{PollResult, FailsToEnter, PollsInside}
use Rattle.span_futures.proofs.Inside.{begun, ended, keeps_nothing}
use Rattle.traced.specs.Laws.{IsLawful}
use Rattle.traced.proofs.Elsewhere.{count_on}
use Rattle.traced.proofs.Moves.{later, refuses, entered_on, has_entered, exited_on, exited_again, lane_left}
use Rattle.traced_futures.specs.Polling.{ChangesNothing, PollsPlain, Polls}

-- an error isn't an answer
no_error : {A : Type 0} (result : PollResult A) → result ≡ Err Full → IsOk result → ⊥
no_error (Ok x) is ok = absurd (cc is)
no_error (Err e) is ok = absurd (cc ok)

module _ {T S A : Type 0} (sub : Ghosts S) (law : IsLawful sub) (future : Instrumented T) (old : WorldValue S) (before : Lane) (at : ℕ) (result : PollResult A) (next : Instrumented T) (new : WorldValue S) (left : Lane) where
  of_refused : FailsToEnter sub.same_but_room sub.activates future old before result next new left → Polls sub old new before left future.span
  of_refused r =
      let refused = refuses sub law old new before left future.span (Err r.error) r.nothing r.lane_same in
      record {
        lane_id = refused.lane_room.id;
        count = refused.count;
        stands = λ most dispatch sites others held stands. later sub most (most + 1) dispatch sites new (left ∷ others) (omega arith) (refused.stands most dispatch sites others stands);
        as_before = λ dispatch held. refused.as_before dispatch;
      }

  of_inside : IsKnown sub.spans old future.span.held → PollsInside sub.does sub.activates ChangesNothing future old before at result next new left → Polls sub old new before left future.span
  of_inside known r =
      let handle = future.span in
      let guard : EntryGuard = record { span = handle; lane = before.id } in
      let inside = begun sub.spans sub.attaches sub.kept sub.is_whole sub.does law.sound law.allowed law.shows law.keeps_lanes law.keeps_whole at handle.held old r.world before r.lane r.entered in
      let did : ReplacedOn (λ id s t. sub.does s (Exit id at r.lane left) t) r.world new handle.held =
      subst (λ (w : WorldValue S). ReplacedOn (λ id s t. sub.does s (Exit id at r.lane left) t) w new handle.held) r.polled.0
      (subst (λ (l : Lane). ReplacedOn (λ id s t. sub.does s (Exit id at l left) t) r.left_world new handle.held) r.polled.1 r.exited) in
      let none : (handle.held ≡ None → left ≡ r.lane) = λ e. r.none e ∙ r.polled.1 in
      let ends = ended sub.spans sub.attaches sub.kept sub.is_whole sub.does law.sound law.allowed law.shows law.keeps_lanes law.keeps_whole at handle.held old r.world r.world new before r.lane r.lane left known r.entered (keeps_nothing sub.spans sub.kept sub.is_whole r.world r.lane) did in
      record {
        lane_id = lane_left sub law r.world new r.lane left at handle.held did none ∙ inside.lane_id;
        count = count_on _ r.world new handle.held did ∙ count_on _ old r.world handle.held r.entered.entered;
        stands = λ most dispatch sites others held stands.
            exited_on sub law (most + 1) dispatch sites r.world new r.lane left others at handle.held held.of_dispatch did none
            (entered_on sub law most dispatch sites old r.world before r.lane others at handle.held held.of_dispatch r.entered.entered r.entered.none stands);
        as_before = λ dispatch held.
            exited_again sub law dispatch old r.world new r.lane left at guard inside.lane_id did ends.0
            (has_entered sub law dispatch old r.world before r.lane at handle guard refl held (inside.known handle.held known) inside.known r.entered.entered);
      }

  pub polls : IsKnown sub.spans old future.span.held → PollsPlain sub future old before at result next new left → Polls sub old new before left future.span
  polls known (inl refused) = of_refused refused
  polls known (inr inside) = of_inside known inside

  pub same_span : PollsPlain sub future old before at result next new left → next.span ≡ future.span
  same_span (inl refused) = ap (λ (f : Instrumented T). f.span) refused.future_same
  same_span (inr inside) = inside.span_same

  pub full : PollsPlain sub future old before at result next new left → result ≡ Err Full → MeetsFullLane sub.activates old before future.span.held
  full (inl refused) is = refused.full (cc (sym refused.is ∙ is))
  full (inr inside) is = absurd (no_error result is inside.polled.2)
