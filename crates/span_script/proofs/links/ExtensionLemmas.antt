-- What is asked of the span extension, served.
use Rattle.std.proofs.Common.{◌≡◌, ℕ, List, [], ◌∷◌, Option, Some, None, Result, Ok, Err, map, refl, sym, ap, subst, ◌∙◌, IsTrue, ◌≢◌, Bool, true, false, is_some, slice_get, if◌then◌else◌}
use Rattle.span_script.proofs.Common.{Context, SpanContext, KeyValue, is_valid, ids_of, Op, SpanData, reply_after, is_growing, WorldValue, Spans, data_at, with_op, start_context, context_unless_started, PartCall, Applies, AppliesTo, AppliesOn, AsksDone, AsksParent, link_op, add_event_op, done_answer, parent_reply, parent_answer, Recording, no_recording, KeepsPlainData, read_subscriber, Handle, HeldSpan, Scope, SpanOp, Tables, slot_at, span_of_scope, here_at, Resolved, ◌>>=◌, need, op_on, ops_effect, effect_of_call, link_ops, event_time, result_if_settable, set_parent_result, span_of_handle, open_guard_by, Views, PipelineState, state_of, held_by, held_of, StandsFor, PipelineInvariant, IsServed, Parts, AddsMeasures, AsksLaw, aside_in}
use Rattle.otel_base.specs.declared.memory.Memory.{Memory}
use Rattle.otel_base.specs.declared.status.Status.{Status}
use Rattle.otel_state.specs.declared.op.Op.TheVariants as ops
use Rattle.otel_state.specs.declared.op.OpReply.{OpReply}
use Rattle.otel_state.specs.declared.op.SetParentError.{SetParentError}
use Rattle.span_script.specs.declared.reply.Refusal.TheVariants as refusal
use Rattle.span_script.specs.declared.reply.Reply.TheVariants as reply
use Rattle.span_script.specs.declared.reply.What.TheVariants as what
use Rattle.span_script.specs.declared.request.Call.TheVariants as call
use Rattle.span_script.specs.Fits.{Fits}
use Rattle.span_script.proofs.filter.CounterLemmas.{adds_nothing}
use Rattle.span_script.proofs.steps.BalanceLemmas.{named_slot}
use Rattle.span_script.proofs.filter.FilterLemmas.{heard_none}
use Rattle.span_script.proofs.entries.EntriesFitLemmas.{fits_live}
use Rattle.span_script.proofs.steps.LanesLemmas.{kept_alike}
use Rattle.span_script.proofs.steps.SlotsLemmas.{Found, find, held_slot}
use Rattle.span_script.proofs.events.EventsLemmas.{Does, does_none, serves_ops, keeps_ops}

-- ---- the answers of ops

-- an op of a known span was applied, where no memory was wanted
applied_by : (o : Option SpanData) → o ≢ None → (spans now : List (ℕ × SpanData)) (id at : ℕ) (op : Op) (answer : Option (Result OpReply Memory)) → AppliesTo o spans id at op answer now → done_answer answer ≡ Ok tt → now ≡ with_op id at op spans
applied_by None known spans now id at op answer did done = absurd (known refl)
applied_by (Some told) known spans now id at op None did done = absurd did
applied_by (Some told) known spans now id at op (Some (Ok r)) did done = did.1
applied_by (Some told) known spans now id at op (Some (Err memory)) did done = absurd (cc done)

-- else nothing changed
left_by : (o : Option SpanData) (spans now : List (ℕ × SpanData)) (id at : ℕ) (op : Op) (answer : Option (Result OpReply Memory)) (memory : Memory) → AppliesTo o spans id at op answer now → done_answer answer ≡ Err memory → now ≡ spans
left_by None spans now id at op answer memory did wanted = did.1
left_by (Some told) spans now id at op None memory did wanted = absurd did
left_by (Some told) spans now id at op (Some (Ok r)) memory did wanted = absurd (cc wanted)
left_by (Some told) spans now id at op (Some (Err m)) memory did wanted = did.1

-- an op that doesn't grow wants none
unwanted : (o : Option SpanData) (spans now : List (ℕ × SpanData)) (id at : ℕ) (op : Op) (answer : Option (Result OpReply Memory)) → is_growing op ≡ false → AppliesTo o spans id at op answer now → done_answer answer ≡ Ok tt
unwanted None spans now id at op answer still did = ap done_answer did.0
unwanted (Some told) spans now id at op None still did = absurd did
unwanted (Some told) spans now id at op (Some (Ok r)) still did = refl
unwanted (Some told) spans now id at op (Some (Err m)) still did = absurd (let e : false ≡ true = subst (λ (b : Bool). IsTrue b) still did.0 in cc e)

-- a parent is set exactly while the span waits to be started
own_answer : (own : Option SpanContext) (context parent : Context) → parent_reply (reply_after own (ops.SetParent context)) ≡ result_if_settable (is_some (context_unless_started own parent))
own_answer None context parent = refl
own_answer (Some given) context parent = refl

set_by : (o : Option SpanData) → o ≢ None → (held : ℕ × ℕ) (spans now : List (ℕ × SpanData)) (id at : ℕ) (context : Context) (answer : Option (Result OpReply Memory)) → AppliesTo o spans id at (ops.SetParent context) answer now
    → parent_answer (Some held) answer ≡ result_if_settable (is_some (start_context o))
set_by None known held spans now id at context answer did = absurd (known refl)
set_by (Some told) known held spans now id at context None did = absurd did
set_by (Some told) known held spans now id at context (Some (Ok x)) did = ap parent_reply did.0 ∙ own_answer told.own context told.parent
set_by (Some told) known held spans now id at context (Some (Err m)) did = absurd (let e : false ≡ true = did.0 in cc e)

-- ---- on the span of a handle

module _ {S : Type 0} (spans : S → Spans) (views : Views S) (attaches : S → Bool) (kept : S → ℕ → ℕ → ℕ) (is_whole : S → Type 0) (parts : Parts S) (new : WorldValue S)
    (touches : S → PartCall → S → Type 0) (law : AsksLaw spans views attaches kept is_whole touches)
    (at place : ℕ) (handle : ℕ) (h : Handle) (found : slot_at parts.handles handle ≡ Some h) where
  abbrev now : PipelineState
  now = state_of spans views parts

  abbrev later_parts : Parts S
  later_parts = record parts { world = new; moment = at }

  abbrev later : PipelineState
  later = state_of spans views later_parts

  abbrev r : Recording
  r = read_subscriber views.recording no_recording parts.world parts.dispatch

  abbrev IsDone : List SpanOp → Type 0
  IsDone o = Does spans views attaches kept is_whole parts new at o []

  its_scope : (t : Tables) → Fits now t → Found (held_of parts.dispatch) t.handles handle h.held
  its_scope t fits = find (held_of parts.dispatch) (map held_by parts.handles) t.handles handle h.held fits.handle_slots (held_slot parts.handles handle h found)

  -- the span of an unspent handle is known
  known : (t : Tables) → StandsFor now t → (line : Scope) → slot_at t.handles handle ≡ Some line → (s : ℕ) (up : Scope) → line ≡ s ∷ up → data_at s r.spans ≢ None
  known t stands line there s up is = stands.recording.known s (fits_live now.spans (map span_of_handle t.handles) (map (open_guard_by now.setup.ids) t.guards) t.entries stands.fits.balanced handle s (named_slot t.handles handle line there ∙ ap span_of_scope is))

  abbrev Known : Scope → Type 0
  Known line = (s : ℕ) (up : Scope) → line ≡ s ∷ up → data_at s r.spans ≢ None

  -- an op was applied
  did_op : (line : Scope) → Known line → (op : Op) (answer : Option (Result OpReply Memory)) → AppliesOn touches parts.world new at op (held_of parts.dispatch line) answer → done_answer answer ≡ Ok tt → IsDone (op_on line op)
  did_op [] is_known op answer did done = does_none spans views attaches kept is_whole parts new at did.1
  did_op (s ∷ up) is_known op answer did done =
      let alike = law.shown parts.world new parts.dispatch (Applies s at op answer) did in
      let told = law.viewed parts.world new parts.dispatch (Applies s at op answer) did in
      let records = told.0 in
      record {
        spans_same = alike.spans_same;
        kept_same = alike.kept_same;
        sites_same = ap (λ (w : WorldValue S). w.sites) did.others;
        recorded_is = records.1 ∙ ap (λ (xs : List (ℕ × SpanData)). record r { spans = xs }) (applied_by (data_at s r.spans) (is_known s up refl) r.spans _ s at op answer records.0 done);
        filter_is = told.1 ∙ heard_none (read_subscriber views.filter None parts.world parts.dispatch);
        aside_is = told.2;
        cached_same = ap (λ (w : WorldValue S). w.cached) did.others;
        count = alike.count;
        whole = alike.whole;
      }

  -- one that doesn't grow always is
  still_done : (line : Scope) (op : Op) (answer : Option (Result OpReply Memory)) → is_growing op ≡ false → AppliesOn touches parts.world new at op (held_of parts.dispatch line) answer → done_answer answer ≡ Ok tt
  still_done [] op answer still did = ap done_answer did.0
  still_done (s ∷ up) op answer still did = unwanted (data_at s r.spans) r.spans _ s at op answer still (law.viewed parts.world new parts.dispatch (Applies s at op answer) did).0.0

  -- whether a parent was set
  was_set : (line : Scope) → Known line → (context : Context) (answer : Option (Result OpReply Memory)) → AppliesOn touches parts.world new at (ops.SetParent context) (held_of parts.dispatch line) answer → parent_answer (held_of parts.dispatch line) answer ≡ set_parent_result r line
  was_set [] is_known context answer did = refl
  was_set (s ∷ up) is_known context answer did = set_by (data_at s r.spans) (is_known s up refl) (parts.dispatch, s) r.spans _ s at context answer (law.viewed parts.world new parts.dispatch (Applies s at (ops.SetParent context) answer) did).0.0

  -- nothing of what is kept changed
  abbrev Rest : Type 0
  Rest = KeepsPlainData spans attaches kept is_whole parts.world new parts.dispatch × (new.sites ≡ parts.world.sites) × (read_subscriber views.recording no_recording new parts.dispatch ≡ r) × (read_subscriber views.filter None new parts.dispatch ≡ read_subscriber views.filter None parts.world parts.dispatch) × (new.cached ≡ parts.world.cached) × AddsMeasures (aside_in views parts.world parts.dispatch) (aside_in views new parts.dispatch) []

  -- where memory was wanted nothing changed
  left : (line : Scope) (op : Op) (answer : Option (Result OpReply Memory)) (memory : Memory) → AppliesOn touches parts.world new at op (held_of parts.dispatch line) answer → done_answer answer ≡ Err memory
      → Rest
  left [] op answer memory did wanted = absurd (let e = sym (ap done_answer did.0) ∙ wanted in cc e)
  left (s ∷ up) op answer memory did wanted =
      let told = law.viewed parts.world new parts.dispatch (Applies s at op answer) did in
      let records = told.0 in (
        law.shown parts.world new parts.dispatch (Applies s at op answer) did,
        ap (λ (w : WorldValue S). w.sites) did.others,
        records.1 ∙ ap (λ (xs : List (ℕ × SpanData)). record r { spans = xs }) (left_by (data_at s r.spans) r.spans _ s at op answer memory records.0 wanted),
        told.1,
        ap (λ (w : WorldValue S). w.cached) did.others,
        told.2,
      )

  -- ---- the requests

  -- an op of the handle's span
  abbrev asked : Tables → Op → Resolved
  asked t op = need what.Handle (slot_at t.handles handle) >>= (λ scope. Ok (ops_effect (here_at now.setup t at place) reply.Done (op_on scope op)))

  module _ (op : Op) (result : Result (Unit {0}) Memory) (did : AsksDone touches parts.world new at op h.held result) where
    line_did : (t : Tables) (fits : Fits now t) → AppliesOn touches parts.world new at op (held_of parts.dispatch (its_scope t fits).at) did.answer
    line_did t fits = subst (λ (held : HeldSpan). AppliesOn touches parts.world new at op held did.answer) (its_scope t fits).is did.did

    -- where no memory was wanted
    module _ (ok : result ≡ Ok tt) where
      its_op : (t : Tables) (stands : StandsFor now t) → IsDone (op_on (its_scope t stands.fits).at op)
      its_op t stands = (let line = its_scope t stands.fits in did_op line.at (known t stands line.at line.there) op did.answer (line_did t stands.fits) (sym did.is ∙ ok))

      its_effect : (t : Tables) (fits : Fits now t) → asked t op ≡ Ok (ops_effect (here_at now.setup t at place) reply.Done (op_on (its_scope t fits).at op))
      its_effect t fits = ap (λ o. need what.Handle o >>= (λ scope. Ok (ops_effect (here_at now.setup t at place) reply.Done (op_on scope op)))) (its_scope t fits).there

      pub serves_op : (t : Tables) → StandsFor now t → IsServed (asked t op) t now later reply.Done
      serves_op t stands = serves_ops spans views attaches kept is_whole parts new at place t stands _ [] refl reply.Done _ (its_op t stands) (its_effect t stands.fits)

      pub keeps_op : PipelineInvariant spans views kept is_whole parts → PipelineInvariant spans views kept is_whole later_parts
      keeps_op inv = (let t = inv.tables in let stands : StandsFor now t = inv.stands in
          keeps_ops spans views attaches kept is_whole parts new at place inv _ [] refl reply.Done _ (its_op t stands) (its_effect t inv.stands.fits))

    -- where it was, what is kept is as it was
    module _ (memory : Memory) (wanted : result ≡ Err memory) (inv : PipelineInvariant spans views kept is_whole parts) where
      its_rest : Rest
      its_rest = left (its_scope inv.tables inv.stands.fits).at op did.answer memory (line_did inv.tables inv.stands.fits) (sym did.is ∙ wanted)

      pub left_state : state_of spans views (record parts { world = new }) ≡ now
      left_state = (let still = adds_nothing (aside_in views parts.world parts.dispatch) (aside_in views new parts.dispatch) its_rest.5 in rw (its_rest.0.spans_same, its_rest.1, its_rest.2, its_rest.3, its_rest.4, still.0, still.1) refl)

      pub left_kept : PipelineInvariant spans views kept is_whole (record parts { world = new })
      left_kept = kept_alike spans views attaches kept is_whole parts (record parts { world = new }) inv left_state its_rest.0

  -- an event, at its time
  pub serves_event : (name : List ℕ) (attributes : List KeyValue) (time : Option ℕ) (n : ℕ) → n ≡ event_time at time → (result : Result (Unit {0}) Memory) → AsksDone touches parts.world new at (add_event_op name n attributes) h.held result → result ≡ Ok tt
      → (t : Tables) → StandsFor now t → IsServed (asked t (add_event_op name (event_time at time) attributes)) t now later reply.Done
  serves_event name attributes time n is result did ok t stands = subst (λ (k : ℕ). IsServed (asked t (add_event_op name k attributes)) t now later reply.Done) is (serves_op (add_event_op name n attributes) result did ok t stands)

  -- a status never wants memory
  module _ (status : Status) (did : (answer : Option (Result OpReply Memory)) × AppliesOn touches parts.world new at (ops.SetStatus status) h.held answer) where
    never_wants : (t : Tables) (fits : Fits now t) → done_answer did.0 ≡ Ok tt
    never_wants t fits = (let line = its_scope t fits in still_done line.at (ops.SetStatus status) did.0 refl (subst (λ (held : HeldSpan). AppliesOn touches parts.world new at (ops.SetStatus status) held did.0) line.is did.1))

    asks_status : AsksDone touches parts.world new at (ops.SetStatus status) h.held (done_answer did.0)
    asks_status = record { answer = did.0; did = did.1; is = refl }

    pub serves_status : (t : Tables) → StandsFor now t → IsServed (asked t (ops.SetStatus status)) t now later reply.Done
    serves_status t stands = serves_op (ops.SetStatus status) (done_answer did.0) asks_status (never_wants t stands.fits) t stands

    pub keeps_status : PipelineInvariant spans views kept is_whole parts → PipelineInvariant spans views kept is_whole later_parts
    keeps_status inv = keeps_op (ops.SetStatus status) (done_answer did.0) asks_status (never_wants inv.tables inv.stands.fits) inv

  -- ---- with a context

  module _ (context : ℕ) where
    -- one that isn't there
    pub refuses_context : slice_get parts.contexts.contexts context ≡ None → (t : Tables) → Fits now t → (go : Scope → Context → Resolved)
        → (need what.Handle (slot_at t.handles handle) >>= (λ scope. need what.Context (slice_get t.named_contexts context) >>= (go scope))) ≡ Err (refusal.UnknownName what.Context)
    refuses_context gone t fits go =
        let line = its_scope t fits in
        ap (λ o. need what.Handle o >>= (λ scope. need what.Context (slice_get t.named_contexts context) >>= (go scope))) line.there
        ∙ ap (λ o. need what.Context o >>= (go line.at)) (ap (λ (xs : List Context). slice_get xs context) (sym fits.named_contexts) ∙ gone)

    module _ (given : Context) (there : slice_get parts.contexts.contexts context ≡ Some given) where
      its_context : (t : Tables) (fits : Fits now t) → (go : Scope → Context → Resolved)
          → (need what.Handle (slot_at t.handles handle) >>= (λ scope. need what.Context (slice_get t.named_contexts context) >>= (go scope))) ≡ go (its_scope t fits).at given
      its_context t fits go =
          let line = its_scope t fits in
          ap (λ o. need what.Handle o >>= (λ scope. need what.Context (slice_get t.named_contexts context) >>= (go scope))) line.there
          ∙ ap (λ o. need what.Context o >>= (go line.at)) (ap (λ (xs : List Context). slice_get xs context) (sym fits.named_contexts) ∙ there)

      -- a parent
      module _ (set : Result (Unit {0}) SetParentError) (did : AsksParent touches parts.world new at given h.held set) where
        parent_did : (t : Tables) (fits : Fits now t) → AppliesOn touches parts.world new at (ops.SetParent given) (held_of parts.dispatch (its_scope t fits).at) did.answer
        parent_did t fits = subst (λ (held : HeldSpan). AppliesOn touches parts.world new at (ops.SetParent given) held did.answer) (its_scope t fits).is did.did

        its_set : (t : Tables) (stands : StandsFor now t) → set ≡ set_parent_result t.recording (its_scope t stands.fits).at
        its_set t stands =
            let line = its_scope t stands.fits in
            did.is ∙ ap (λ (held : HeldSpan). parent_answer held did.answer) line.is ∙ was_set line.at (known t stands line.at line.there) given did.answer (parent_did t stands.fits)
            ∙ ap (λ (x : Recording). set_parent_result x line.at) stands.recording.recorded

        its_parent : (t : Tables) (stands : StandsFor now t) → IsDone (op_on (its_scope t stands.fits).at (ops.SetParent given))
        its_parent t stands =
            let line = its_scope t stands.fits in
            did_op line.at (known t stands line.at line.there) (ops.SetParent given) did.answer (parent_did t stands.fits) (still_done line.at (ops.SetParent given) did.answer refl (parent_did t stands.fits))

        parent_effect : (t : Tables) (stands : StandsFor now t) → effect_of_call now.setup t at place (call.SetParent handle context) ≡ Ok (ops_effect (here_at now.setup t at place) (reply.Set set) (op_on (its_scope t stands.fits).at (ops.SetParent given)))
        parent_effect t stands =
            its_context t stands.fits (λ scope given. Ok (ops_effect (here_at now.setup t at place) (reply.Set (set_parent_result t.recording scope)) (op_on scope (ops.SetParent given))))
            ∙ ap (λ (x : Result (Unit {0}) SetParentError). Ok (ops_effect (here_at now.setup t at place) (reply.Set x) (op_on (its_scope t stands.fits).at (ops.SetParent given)))) (sym (its_set t stands))

        pub serves_parent : (t : Tables) → StandsFor now t → IsServed (effect_of_call now.setup t at place (call.SetParent handle context)) t now later (reply.Set set)
        serves_parent t stands = serves_ops spans views attaches kept is_whole parts new at place t stands _ [] refl (reply.Set set) _ (its_parent t stands) (parent_effect t stands)

        pub keeps_parent : PipelineInvariant spans views kept is_whole parts → PipelineInvariant spans views kept is_whole later_parts
        keeps_parent inv = (let t = inv.tables in let stands : StandsFor now t = inv.stands in
            keeps_ops spans views attaches kept is_whole parts new at place inv _ [] refl (reply.Set set) _ (its_parent t stands) (parent_effect t stands))

      -- a link
      module _ (ids : SpanContext) (shown : ids ≡ ids_of given) (attributes : List KeyValue) (result : Result (Unit {0}) Memory) (valid : is_valid ids ≡ true → AsksDone touches parts.world new at (link_op ids attributes) h.held result)
          (invalid : is_valid ids ≡ false → (result ≡ Ok tt) × (new ≡ parts.world)) where
        linked : (ok : result ≡ Ok tt) (t : Tables) (stands : StandsFor now t) (b : Bool) → is_valid ids ≡ b → IsDone (if b then op_on (its_scope t stands.fits).at (link_op ids attributes) else [])
        linked ok t stands true is = its_op (link_op ids attributes) result (valid is) ok t stands
        linked ok t stands false is = does_none spans views attaches kept is_whole parts new at (invalid is).1

        link_effect : (t : Tables) (stands : StandsFor now t) → effect_of_call now.setup t at place (call.AddLink handle context attributes) ≡ Ok (ops_effect (here_at now.setup t at place) reply.Done (link_ops (its_scope t stands.fits).at ids attributes))
        link_effect t stands =
            its_context t stands.fits (λ scope given. Ok (ops_effect (here_at now.setup t at place) reply.Done (link_ops scope (ids_of given) attributes)))
            ∙ ap (λ (x : SpanContext). Ok (ops_effect (here_at now.setup t at place) reply.Done (link_ops (its_scope t stands.fits).at x attributes))) (sym shown)

        pub serves_link : result ≡ Ok tt → (t : Tables) → StandsFor now t → IsServed (effect_of_call now.setup t at place (call.AddLink handle context attributes)) t now later reply.Done
        serves_link ok t stands = serves_ops spans views attaches kept is_whole parts new at place t stands _ [] refl reply.Done _ (linked ok t stands (is_valid ids) refl) (link_effect t stands)

        pub keeps_link : result ≡ Ok tt → PipelineInvariant spans views kept is_whole parts → PipelineInvariant spans views kept is_whole later_parts
        keeps_link ok inv = (let t = inv.tables in let stands : StandsFor now t = inv.stands in
            keeps_ops spans views attaches kept is_whole parts new at place inv _ [] refl reply.Done _ (linked ok t stands (is_valid ids) refl) (link_effect t stands))

        -- no memory is wanted where the context is invalid
        wanted_link : (memory : Memory) → result ≡ Err memory → AsksDone touches parts.world new at (link_op ids attributes) h.held result
        wanted_link memory wanted = by_valid (is_valid ids) refl
          where
            by_valid : (b : Bool) → is_valid ids ≡ b → AsksDone touches parts.world new at (link_op ids attributes) h.held result
            by_valid true is = valid is
            by_valid false is = absurd (let e = sym (invalid is).0 ∙ wanted in cc e)

        pub left_link_state : (memory : Memory) → result ≡ Err memory → PipelineInvariant spans views kept is_whole parts → state_of spans views (record parts { world = new }) ≡ now
        left_link_state memory wanted inv = left_state (link_op ids attributes) result (wanted_link memory wanted) memory wanted inv

        pub left_link_kept : (memory : Memory) → result ≡ Err memory → PipelineInvariant spans views kept is_whole parts → PipelineInvariant spans views kept is_whole (record parts { world = new })
        left_link_kept memory wanted inv = left_kept (link_op ids attributes) result (wanted_link memory wanted) memory wanted inv
