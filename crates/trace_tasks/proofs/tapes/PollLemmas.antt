-- A poll of a task over a tape.
use Rattle.std.proofs.Common.{◌≡◌, ℕ, zero, suc, ◌<◌, List, [], ◌∷◌, ◌++◌, length, map, Bool, true, Option, Some, None, Result, Ok, Err, refl, sym, ap, subst, ◌∙◌, arith, slice_get, append_assoc}
use Rattle.std.proofs.lemmas.List.{append-nil}
use Rattle.trace_tasks.proofs.Common.{Memory, OpReply, Callsite, SubscriberCall, Records, Event, spans_after_call, WorldValue, cached_at, gate, Spans, Replaced, Handle, RecordsAt, RecordsOn, callsite_in, handle_of, now_there, Applies, Request, TapeValue, DoesTape, tape_after, on_first_lane, TouchesTape, AppliesTape, is_live, Step, steps_now, CallsIf, TellsAt, IsGranted, TaskScene, CarriesEvent, CarriesOnHandle, Fields, values_of, values_by, UnfinishedTask, declared_ones, step_call, tape_spans, CarriesTape, IsDeclared, StepsAreDeclared}
use Rattle.otel_state.specs.declared.op.Op.TheVariants as ops
use Rattle.trace_base.specs.declared.subscriber.Interest.TheVariants as interests
use Rattle.trace_base.specs.declared.span.Parent.TheVariants as parent
use Rattle.otel_layer.specs.Asking.{AppliesOn}
use Rattle.span_script.specs.declared.request.Call.TheVariants as call
use Rattle.span_script.specs.declared.request.RequestParent.TheVariants as request_parent
use Rattle.trace_tasks.specs.declared.script.Step.TheVariants as step
use Rattle.trace_tasks.proofs.tapes.SpelledLemmas.{named_back, all_declared, one_call}

-- ---- between two moments inside a poll: requests were added, and nothing else of the tape changed

pub record Adds (d : ℕ) (rs : List Request) (s t : TaskScene TapeValue) (tape : TapeValue) : Type 0 where
  pub now : TapeValue
  pub there : slice_get t.world.subscribers d ≡ Some now
  pub spans_same : now.below.spans ≡ tape.below.spans
  pub is : now ≡ record tape { below = now.below; requests = tape.requests ++ rs }
  pub sites : t.world.sites ≡ s.world.sites
  pub cached : t.world.cached ≡ s.world.cached
  pub lane : t.lane ≡ s.lane
  pub handles : t.handles ≡ s.handles
  pub guards : t.guards ≡ s.guards

adds_none : (d : ℕ) (s t : TaskScene TapeValue) (tape : TapeValue) → t ≡ s → slice_get s.world.subscribers d ≡ Some tape → Adds d [] s t tape
adds_none d s t tape is there = record {
  now = tape;
  there = ap (λ (x : TaskScene TapeValue). slice_get x.world.subscribers d) is ∙ there;
  spans_same = refl;
  is = ap (λ (rs : List Request). let y : TapeValue = record tape { requests = rs } in y) (sym (append-nil tape.requests));
  sites = ap (λ (x : TaskScene TapeValue). x.world.sites) is;
  cached = ap (λ (x : TaskScene TapeValue). x.world.cached) is;
  lane = ap (λ (x : TaskScene TapeValue). x.lane) is;
  handles = ap (λ (x : TaskScene TapeValue). x.handles) is;
  guards = ap (λ (x : TaskScene TapeValue). x.guards) is;
}

adds_then : (d : ℕ) (rs more : List Request) (s m t : TaskScene TapeValue) (tape : TapeValue) (first : Adds d rs s m tape) → Adds d more m t first.now → Adds d (rs ++ more) s t tape
adds_then d rs more s m t tape first second = record {
  now = second.now;
  there = second.there;
  spans_same = second.spans_same ∙ first.spans_same;
  is = second.is ∙ ap (λ (x : TapeValue). let y : TapeValue = record x { below = second.now.below; requests = x.requests ++ more } in y) first.is
      ∙ ap (λ (qs : List Request). let y : TapeValue = record tape { below = second.now.below; requests = qs } in y) (append_assoc tape.requests rs more);
  sites = second.sites ∙ first.sites;
  cached = second.cached ∙ first.cached;
  lane = second.lane ∙ first.lane;
  handles = second.handles ∙ first.handles;
  guards = second.guards ∙ first.guards;
}

-- a call that spells one request
adds_call : (d : ℕ) (s t : TaskScene TapeValue) (tape : TapeValue) (c : SubscriberCall) (r : Request) → slice_get s.world.subscribers d ≡ Some tape → Replaced (λ a b. DoesTape a c b) s.world t.world d → t.lane ≡ s.lane → t.handles ≡ s.handles → t.guards ≡ s.guards
    → spans_after_call tape.below.spans c ≡ tape.below.spans → tape_after tape c ≡ record tape { requests = tape.requests ++ r ∷ [] } → Adds d (r ∷ []) s t tape
adds_call d s t tape c r there did lane handles guards spans_stay spells =
    let one = one_call s.world t.world d tape c there did in
    record {
      now = one.now;
      there = one.there;
      spans_same = one.spans_are ∙ spans_stay;
      is = one.is ∙ ap (λ (x : TapeValue). let y : TapeValue = record x { below = one.now.below } in y) spells;
      sites = one.sites;
      cached = one.cached;
      lane = lane;
      handles = handles;
      guards = guards;
    }

-- ---- steps

get_within : {X : Type 0} (xs : List X) (n : ℕ) (x : X) → slice_get xs n ≡ Some x → n < length xs
get_within [] n x is = absurd (cc is)
get_within (y ∷ xs) zero x is = omega arith
get_within (y ∷ xs) (suc n) x is = (let r = get_within xs n x is in omega (arith, r))

module _ (d : ℕ) (sites : List Callsite) (t : UnfinishedTask) (at : ℕ) where
  -- an event is let through, and spelled as it was given
  event_adds : (site : ℕ) (fields : Fields) (s m : TaskScene TapeValue) (tape : TapeValue) → slice_get s.world.subscribers d ≡ Some tape → s.world.sites ≡ sites → ((n : ℕ) → n < length sites → cached_at s.world.cached d n ≡ interests.Always)
      → IsDeclared (slice_get sites site) fields → CarriesEvent tape_spans (λ x. None) (λ x lane c. true) DoesTape TouchesTape d at site fields s m → Adds d (on_first_lane at (call.Event site request_parent.Contextual fields) ∷ []) s m tape
  event_adds site fields s m tape there same cached declared told = by_site (slice_get sites site) refl declared where
    by_site : (o : Option Callsite) → slice_get sites site ≡ o → IsDeclared o fields → Adds d (on_first_lane at (call.Event site request_parent.Contextual fields) ∷ []) s m tape
    by_site None is declared = absurd declared
    by_site (Some c) is declared =
        let found : slice_get s.world.sites site ≡ Some c = ap (λ (xs : List Callsite). slice_get xs site) same ∙ is in
        let at_c : TellsAt tape_spans (λ x. None) (λ x lane c. true) DoesTape TouchesTape s.lane at d site fields (Some c) s.world m.world =
        subst (λ (o : Option Callsite). TellsAt tape_spans (λ x. None) (λ x lane c. true) DoesTape TouchesTape s.lane at d site fields o s.world m.world) found told.told in
        let through : at_c.0 ≡ true = at_c.1 tape c there found ∙ ap (λ i. gate i None true c.level) (cached site (get_within sites site c is)) in
        adds_call d s m tape (Event s.lane at parent.Current site c (values_of c fields)) (on_first_lane at (call.Event site request_parent.Contextual fields)) there
        (subst (λ (b : Bool). CallsIf tape_spans (λ x. None) (λ x lane c. true) DoesTape TouchesTape b (Event s.lane at parent.Current site c (values_of c fields)) s.world m.world d) through at_c.2)
        told.lane told.handles told.guards refl
        (ap (λ (fs : Fields). let y : TapeValue = record tape { requests = tape.requests ++ on_first_lane at (call.Event site request_parent.Contextual fs) ∷ [] } in y) (named_back c fields declared))

  the_tape : (a b : TapeValue) → ◌≡◌ {A = Option TapeValue} (Some a) (Some b) → a ≡ b
  the_tape a b e = cc e

  the_handle : (a b : Handle) → ◌≡◌ {A = Option Handle} (Some a) (Some b) → a ≡ b
  the_handle a b e = cc e

  record_adds : (fields : Fields) (s m : TaskScene TapeValue) (tape : TapeValue) → slice_get s.world.subscribers d ≡ Some tape → s.world.sites ≡ sites → slice_get s.handles t.number ≡ Some (handle_of d t.number t.site) → (c : Callsite) → slice_get sites t.site ≡ Some c
      → CarriesOnHandle tape_spans (λ x. None) (λ x lane c. true) DoesTape TouchesTape d at t.number (call.Record t.number (declared_ones (slice_get sites t.site) fields)) s m
      → Adds d (on_first_lane at (call.Record t.number (declared_ones (slice_get sites t.site) fields)) ∷ []) s m tape
  record_adds fields s m tape there same is c site_is done =
      let found : slice_get s.world.sites t.site ≡ Some c = ap (λ (xs : List Callsite). slice_get xs t.site) same ∙ site_is in
      let handle_is : done.handle ≡ handle_of d t.number t.site = the_handle done.handle (handle_of d t.number t.site) (sym done.is ∙ is) in
      let fs : Fields = declared_ones (Some c) fields in
      let given : Fields = declared_ones (slice_get sites t.site) fields in
      let given_is : given ≡ fs = ap (λ (o : Option Callsite). declared_ones o fields) site_is in
      let on_handle : RecordsAt DoesTape s.world m.world at (values_by (slice_get s.world.sites t.site) given) (Some (d, t.number)) (slice_get s.world.sites t.site) =
      (subst (λ (h : Handle). RecordsOn DoesTape s.world m.world at (values_by (callsite_in s.world h.site) given) h) handle_is done.did.1) in
      let did : Replaced (λ a b. DoesTape a (Records t.number at c (values_of c fs)) b) s.world m.world d =
      subst (λ (o : Option Callsite). RecordsAt DoesTape s.world m.world at (values_by o fs) (Some (d, t.number)) o) found (subst (λ (g : Fields). RecordsAt DoesTape s.world m.world at (values_by (slice_get s.world.sites t.site) g) (Some (d, t.number)) (slice_get s.world.sites t.site)) given_is on_handle) in
      adds_call d s m tape (Records t.number at c (values_of c fs)) (on_first_lane at (call.Record t.number given)) there did done.did.0 done.handles done.guards refl
      (ap (λ (g : Fields). let y : TapeValue = record tape { requests = tape.requests ++ on_first_lane at (call.Record t.number g) ∷ [] } in y) (named_back c fs (all_declared c fields) ∙ sym given_is))

  set_adds : (key : List ℕ) (value : _) (s m : TaskScene TapeValue) (tape : TapeValue) → slice_get s.world.subscribers d ≡ Some tape → slice_get s.handles t.number ≡ Some (handle_of d t.number t.site) → is_live tape.below.spans t.number ≡ true
      → CarriesOnHandle tape_spans (λ x. None) (λ x lane c. true) DoesTape TouchesTape d at t.number (call.SetAttribute t.number key value) s m
      → Adds d (on_first_lane at (call.SetAttribute t.number key value) ∷ []) s m tape
  set_adds key value s m tape there is live done = by_answer done.did.1.0 done.did.1.1 (subst (λ (h : Handle). AppliesOn TouchesTape s.world m.world at (ops.SetAttribute (record { key = key; value = value })) h.held done.did.1.0)
      (the_handle done.handle (handle_of d t.number t.site) (sym done.is ∙ is)) done.did.1.2) where
        by_answer : (answer : Option (Result OpReply Memory)) → IsGranted answer → Replaced (λ a b. TouchesTape a (Applies t.number at (ops.SetAttribute (record { key = key; value = value })) answer) b) s.world m.world d
            → Adds d (on_first_lane at (call.SetAttribute t.number key value) ∷ []) s m tape
        by_answer None granted r = absurd (subst (λ (b : Bool). AppliesTape b tape t.number at (ops.SetAttribute (record { key = key; value = value })) None r.later) live
            (subst (λ (x : TapeValue). AppliesTape (is_live x.below.spans t.number) x t.number at (ops.SetAttribute (record { key = key; value = value })) None r.later) (the_tape r.before tape (sym r.there ∙ there)) r.did))
        by_answer (Some (Err memory)) granted r = absurd granted
        by_answer (Some (Ok reply)) granted r =
            let did : AppliesTape true tape t.number at (ops.SetAttribute (record { key = key; value = value })) (Some (Ok reply)) r.later =
            subst (λ (b : Bool). AppliesTape b tape t.number at (ops.SetAttribute (record { key = key; value = value })) (Some (Ok reply)) r.later) live
            (subst (λ (x : TapeValue). AppliesTape (is_live x.below.spans t.number) x t.number at (ops.SetAttribute (record { key = key; value = value })) (Some (Ok reply)) r.later) (the_tape r.before tape (sym r.there ∙ there)) r.did) in
            record {
              now = r.later;
              there = now_there (λ (a b : TapeValue). TouchesTape a (Applies t.number at (ops.SetAttribute (record { key = key; value = value })) (Some (Ok reply))) b) s.world m.world d r;
              spans_same = ap (λ (x : TapeValue). x.below.spans) did.1;
              is = did.1 ∙ ap (λ b. let y : TapeValue = record tape { below = b; requests = tape.requests ++ on_first_lane at (call.SetAttribute t.number key value) ∷ [] } in y) (sym (ap (λ (x : TapeValue). x.below) did.1));
              sites = ap (λ (w : WorldValue TapeValue). w.sites) r.others;
              cached = ap (λ (w : WorldValue TapeValue). w.cached) r.others;
              lane = done.did.0;
              handles = done.handles;
              guards = done.guards;
            }

  pub steps_add : (c : Callsite) → slice_get sites t.site ≡ Some c → (steps : List Step) → StepsAreDeclared sites steps → (s m : TaskScene TapeValue) (tape : TapeValue) → slice_get s.world.subscribers d ≡ Some tape → s.world.sites ≡ sites
      → ((n : ℕ) → n < length sites → cached_at s.world.cached d n ≡ interests.Always) → slice_get s.handles t.number ≡ Some (handle_of d t.number t.site) → is_live tape.below.spans t.number ≡ true
      → CarriesTape d (map (λ x. on_first_lane at (step_call sites t x)) (steps_now steps)) s m → Adds d (map (λ x. on_first_lane at (step_call sites t x)) (steps_now steps)) s m tape
  steps_add c site_is [] tested s m tape there same cached is live did = adds_none d s m tape did there
  steps_add c site_is (step.Yield ∷ steps) tested s m tape there same cached is live did = adds_none d s m tape did there
  steps_add c site_is (step.Event site fields ∷ steps) tested s m tape there same cached is live (x, one, rest) =
      let first = event_adds site fields s x tape there same cached tested.0 one in
      adds_then d (on_first_lane at (call.Event site request_parent.Contextual fields) ∷ []) (map (λ x. on_first_lane at (step_call sites t x)) (steps_now steps)) s x m tape first
      (steps_add c site_is steps tested.1 x m first.now first.there (first.sites ∙ same) (λ n less. ap (λ k. cached_at k d n) first.cached ∙ cached n less) (ap (λ (hs : List Handle). slice_get hs t.number) first.handles ∙ is)
      (ap (λ (y : Spans). is_live y t.number) first.spans_same ∙ live) rest)
  steps_add c site_is (step.Record fields ∷ steps) tested s m tape there same cached is live (x, one, rest) =
      let first = record_adds fields s x tape there same is c site_is one in
      adds_then d (on_first_lane at (call.Record t.number (declared_ones (slice_get sites t.site) fields)) ∷ []) (map (λ x. on_first_lane at (step_call sites t x)) (steps_now steps)) s x m tape first
      (steps_add c site_is steps tested x m first.now first.there (first.sites ∙ same) (λ n less. ap (λ k. cached_at k d n) first.cached ∙ cached n less) (ap (λ (hs : List Handle). slice_get hs t.number) first.handles ∙ is)
      (ap (λ (y : Spans). is_live y t.number) first.spans_same ∙ live) rest)
  steps_add c site_is (step.SetAttribute key value ∷ steps) tested s m tape there same cached is live (x, one, rest) =
      let first = set_adds key value s x tape there is live one in
      adds_then d (on_first_lane at (call.SetAttribute t.number key value) ∷ []) (map (λ x. on_first_lane at (step_call sites t x)) (steps_now steps)) s x m tape first
      (steps_add c site_is steps tested x m first.now first.there (first.sites ∙ same) (λ n less. ap (λ k. cached_at k d n) first.cached ∙ cached n less) (ap (λ (hs : List Handle). slice_get hs t.number) first.handles ∙ is)
      (ap (λ (y : Spans). is_live y t.number) first.spans_same ∙ live) rest)
