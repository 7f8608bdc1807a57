-- A span that is followed, served.
use Rattle.std.proofs.Common.{◌≡◌, ℕ, List, [], ◌∷◌, Bool, Option, Some, None, Ok, Err, map, refl, sym, ap, subst, ◌∙◌, ◌≢◌}
use Rattle.span_script.proofs.Common.{ids_of, empty_context, SpanData, WorldValue, Spans, SubscriberCall, link_op, with_link, data_at, with_op, own_context_or, ids_if_known, Recording, no_recording, with_start, read_subscriber, Handle, HeldSpan, FollowsOn, AreOfOne, Scope, SpanOp, Effect, Tables, slot_at, here_at, ◌>>=◌, need, op_on, effect_of_call, context_of_scope, follow_effect, span_of_handle, open_guard_by, Views, PipelineState, state_of, held_by, held_of, StandsFor, PipelineInvariant, IsServed, Parts, CallsLaw}
use Rattle.span_script.specs.declared.reply.Refusal.TheVariants as refusal
use Rattle.span_script.specs.declared.reply.Reply.TheVariants as reply
use Rattle.span_script.specs.declared.reply.What.TheVariants as what
use Rattle.span_script.specs.declared.request.Call.TheVariants as call
use Rattle.span_script.specs.Fits.{Fits}
use Rattle.span_script.proofs.steps.BalanceLemmas.{named_slot}
use Rattle.span_script.proofs.entries.EntriesFitLemmas.{fits_live}
use Rattle.span_script.proofs.lane_contexts.ContextsLemmas.{own_open}
use Rattle.span_script.proofs.steps.KnownSpansLemmas.{start_known}
use Rattle.span_script.proofs.steps.SlotsLemmas.{Found, find, held_slot}
use Rattle.span_script.proofs.runs.RefusalsLemmas.{refuses_unknown}
use Rattle.span_script.proofs.events.EventsLemmas.{Starts, does_none, starts_then, serves_starts, keeps_starts}

-- the link to a known span is one to its own context
linked_is : (o : Option SpanData) → o ≢ None → (s at : ℕ) (spans : List (ℕ × SpanData)) → with_link s at (ids_if_known o) spans ≡ with_op s at (link_op (ids_of (own_context_or empty_context o)) []) spans
linked_is None known s at spans = absurd (known refl)
linked_is (Some told) known s at spans = refl

-- handles of one world are of one dispatch
pub of_one : (dispatch : ℕ) (line from : Scope) (held other : HeldSpan) → held ≡ held_of dispatch line → other ≡ held_of dispatch from → AreOfOne held other
of_one dispatch line from held other is from_is = subst (λ (x : HeldSpan). AreOfOne x other) (sym is) (subst (λ (y : HeldSpan). AreOfOne (held_of dispatch line) y) (sym from_is) (both line from))
  where
    both : (line from : Scope) → AreOfOne (held_of dispatch line) (held_of dispatch from)
    both [] from = tt
    both (s ∷ up) [] = tt
    both (s ∷ up) (f ∷ above) = refl

module _ {S : Type 0} (spans : S → Spans) (views : Views S) (attaches : S → Bool) (kept : S → ℕ → ℕ → ℕ) (is_whole : S → Type 0) (parts : Parts S)
    (handle : ℕ) (h : Handle) (found : slot_at parts.handles handle ≡ Some h) where
  abbrev now : PipelineState
  now = state_of spans views parts

  abbrev r : Recording
  r = read_subscriber views.recording no_recording parts.world parts.dispatch

  its_scope : (t : Tables) → Fits now t → (n : ℕ) (x : Handle) → slot_at parts.handles n ≡ Some x → Found (held_of parts.dispatch) t.handles n x.held
  its_scope t fits n x there = find (held_of parts.dispatch) (map held_by parts.handles) t.handles n x.held fits.handle_slots (held_slot parts.handles n x there)

  -- the followed handle isn't there
  pub refuses_from : (k : PipelineState) → now ≡ k → (from : ℕ) → slot_at parts.handles from ≡ None → (t : Tables) → StandsFor k t → (at place : ℕ) → effect_of_call k.setup t at place (call.Follows handle from) ≡ Err (refusal.UnknownName what.Handle)
  refuses_from k is from gone t stands at place =
      let line = its_scope t (subst (λ (x : PipelineState). Fits x t) (sym is) stands.fits) handle h found in
      ap (λ o. need what.Handle o >>= (λ scope. need what.Handle (slot_at t.handles from) >>= (λ followed. Ok (follow_effect (here_at k.setup t at place) scope followed)))) line.there
      ∙ refuses_unknown now k is parts.handles refl from gone t stands.fits _

  module _ (from : ℕ) (f : Handle) (found_from : slot_at parts.handles from ≡ Some f) where
    pub needs_one : PipelineInvariant spans views kept is_whole parts → AreOfOne h.held f.held
    needs_one inv = (let line = its_scope inv.tables inv.stands.fits handle h found in let other = its_scope inv.tables inv.stands.fits from f found_from in of_one parts.dispatch line.at other.at h.held f.held line.is other.is)

    module _ (new : WorldValue S) (at place : ℕ) (does : S → SubscriberCall → S → Type 0) (law : CallsLaw spans views attaches kept is_whole does)
        (did : FollowsOn does parts.world new at h.held f.held) where
      abbrev then_parts : Parts S
      then_parts = record parts { world = new; moment = at }

      abbrev then : PipelineState
      then = state_of spans views then_parts

      -- what starts and what is linked
      record Followed (t : Tables) (line other : Scope) : Type 0 where
        starting : List ℕ
        ops : List SpanOp
        done : Starts spans views attaches kept is_whole parts new at starting ops [] []
        is : follow_effect (here_at now.setup t at place) line other ≡ starts_then spans views attaches kept is_whole parts new at place starting ops [] reply.Done

      followed_by : (t : Tables) → StandsFor now t → (line other : Scope) → slot_at t.handles from ≡ Some other → FollowsOn does parts.world new at (held_of parts.dispatch line) (held_of parts.dispatch other) → Followed t line other
      followed_by t stands [] other there same = record { starting = []; ops = []; done = does_none spans views attaches kept is_whole parts new at same; is = refl }
      followed_by t stands (s ∷ up) [] there same = record { starting = []; ops = []; done = does_none spans views attaches kept is_whole parts new at same; is = refl }
      followed_by t stands (s ∷ up) (q ∷ above) there step =
          let shown = law.shown parts.world new parts.dispatch _ step in
          let live = fits_live now.spans (map span_of_handle t.handles) (map (open_guard_by now.setup.ids) t.guards) t.entries stands.fits.balanced from q (named_slot t.handles from (q ∷ above) there) in
          let r1 : Recording = with_start q at r in
          let known = start_known q at q r (stands.recording.known q live) in
          let op = link_op (ids_of (context_of_scope r at (q ∷ above))) [] in
          record {
            starting = q ∷ [];
            ops = op_on (s ∷ up) op;
            done = record {
              spans_same = shown.spans_after;
              kept_same = shown.lanes;
              sites_same = ap (λ (w : WorldValue S). w.sites) step.others;
              recorded_is = (law.viewed parts.world new parts.dispatch _ step).0 ∙ ap (λ (xs : List (ℕ × SpanData)). record r1 { spans = xs }) (linked_is (data_at q r1.spans) known s at r1.spans);
              filter_is = (law.viewed parts.world new parts.dispatch _ step).1;
              aside_is = (law.viewed parts.world new parts.dispatch _ step).2;
              cached_same = ap (λ (w : WorldValue S). w.cached) step.others;
              count = shown.count;
              whole = shown.whole;
            };
            is = ap (λ (c : _). starts_then spans views attaches kept is_whole parts new at place (q ∷ []) (op_on (s ∷ up) (link_op (ids_of c) [])) [] reply.Done)
                (sym (own_open (q ∷ above) at r t.recording stands.recording.recorded));
          }

      its_follow : (t : Tables) (stands : StandsFor now t) → Followed t (its_scope t stands.fits handle h found).at (its_scope t stands.fits from f found_from).at
      its_follow t stands =
          let line = its_scope t stands.fits handle h found in
          let other = its_scope t stands.fits from f found_from in
          followed_by t stands line.at other.at other.there
          (subst (λ (x : HeldSpan). FollowsOn does parts.world new at x (held_of parts.dispatch other.at)) line.is (subst (λ (y : HeldSpan). FollowsOn does parts.world new at h.held y) other.is did))

      its_effect : (t : Tables) (stands : StandsFor now t) → effect_of_call now.setup t at place (call.Follows handle from)
          ≡ Ok (starts_then spans views attaches kept is_whole parts new at place (its_follow t stands).starting (its_follow t stands).ops [] reply.Done)
      its_effect t stands =
          let line = its_scope t stands.fits handle h found in
          let other = its_scope t stands.fits from f found_from in
          ap (λ o. need what.Handle o >>= (λ scope. need what.Handle (slot_at t.handles from) >>= (λ followed. Ok (follow_effect (here_at now.setup t at place) scope followed)))) line.there
          ∙ ap (λ o. need what.Handle o >>= (λ followed. Ok (follow_effect (here_at now.setup t at place) line.at followed))) other.there
          ∙ ap (λ (e : Effect). Ok e) (its_follow t stands).is

      pub serves_follow : (t : Tables) → StandsFor now t → IsServed (effect_of_call now.setup t at place (call.Follows handle from)) t now then reply.Done
      serves_follow t stands = (let step = its_follow t stands in serves_starts spans views attaches kept is_whole parts new at place t stands step.starting step.ops [] refl reply.Done _ step.done (its_effect t stands))

      pub keeps_follow : PipelineInvariant spans views kept is_whole parts → PipelineInvariant spans views kept is_whole then_parts
      keeps_follow inv = (let stands : StandsFor now inv.tables = inv.stands in let step = its_follow inv.tables stands in
          keeps_starts spans views attaches kept is_whole parts new at place inv step.starting step.ops [] refl reply.Done _ step.done (its_effect inv.tables stands))
