-- The steps of the hooks, put together.
use Rattle.std.proofs.Common.{◌≡◌, ℕ, ◌+◌, ◌<◌, ◌^◌, List, length, Bool, true, cond, ◌-◌, Option, Some, None, refl, sym, ap, subst, ◌∙◌, arith, if◌then◌else◌, IfSome, ◌==◌, ◌&&◌, false, option_map}
use Rattle.std.specs.Prelude.{min, max}
use Rattle.otel_layer.proofs.Common.{empty_context, remove_entry, and_parts, and_from, cond-true, Context, ids_of, Lane, AreAttached, attached_count, Op, LayerSettings, last_passing, SpanData, Room, HasRoom, after_op, data_at, knows_span, update, with_op, start_context, ids_if_known, is_id, RoomFor, Core, own_context_if_known, is_token, is_attached_as, keeps_as, kept_by, StartsIf, StartsSpan, StartsIfSome, parent_source, lane_context, context_from, new_span_data, MakesSpan, DetachesOwnContext, EntersLane, EntersSpan, ExitsSpan, ClosesSpan, IfKnown, with_moment, last_passes, last_counted}
use Rattle.std.proofs.lemmas.Bool.{eq-eqb, true≢false}
use Rattle.otel_base.specs.Tracer.{TracerCall}
use Rattle.otel_base.specs.declared.stack.Attached.{Attached}
use Rattle.trace_base.specs.declared.callsite.Callsite.{Callsite}
use Rattle.trace_base.specs.declared.field.ValueSet.{ValueSet}
use Rattle.trace_base.specs.declared.span.Parent.{Parent}
use Rattle.otel_state.specs.declared.op.Op.TheVariants as ops
use Rattle.otel_state.specs.declared.times.TheConstants.{GREATEST}
use Rattle.otel_state.specs.States.{with_making}
use Rattle.otel_layer.specs.declared.layer.tokens.Token.{Token}
use Rattle.otel_layer.specs.Core.{on_spans}
use Rattle.otel_layer.specs.Starts.{StartsTo, StartsIn, EntersKnown, FinishesState}
use Rattle.otel_layer.specs.Steps.{with_added_span, AttachesContext, own_context_in, with_finish, with_token, without_token}
use Rattle.otel_layer.proofs.StartsLemmas.{started_in, found_at, removed_update, update_unknown}

-- a start among the spans is one of the layer
pub starts_core : {T : Type 0} (does : T → TracerCall → T → Type 0) (c d : Core T) (id at : ℕ) → StartsIn does id at c.spans c.tracer d.tracer d.spans → d ≡ record c { tracer = d.tracer; spans = d.spans } → StartsSpan does id at c d
starts_core {T} does c d id at starts rest = by (start_context (data_at id c.spans)) starts
  where
    by : (o : Option Context) → StartsTo does o (λ given. with_op id at (ops.Start given) c.spans) c.spans c.tracer d.tracer d.spans → StartsIf does o id at c d
    by None h = rest ∙ ap (λ (s : T). let x : Core T = record c { tracer = s; spans = d.spans } in x) h.0 ∙ ap (λ (xs : List (ℕ × SpanData)). let x : Core T = record c { spans = xs } in x) h.1
    by (Some under) h = (h.0, h.1, rest ∙ ap (λ (xs : List (ℕ × SpanData)). let x : Core T = record c { tracer = d.tracer; spans = xs } in x) h.2)

pub makes : {T : Type 0} (does : T → TracerCall → T → Type 0) (c between d : Core T) (id : ℕ) (lane : Lane) (at : ℕ) (parent : Parent) (current : Option ℕ) (callsite : Callsite) (values : ValueSet) (source : Option ℕ) (active : Bool) (context : Context) (span_data : SpanData)
    → active ≡ c.settings.activation → source ≡ parent_source active parent current → StartsIfSome does source at c between → context ≡ context_from between.spans (lane_context lane parent) source
    → span_data ≡ new_span_data callsite lane values context at c.settings c.counting → length c.spans < c.reserved → c.span_count + 1 < 2 ^ 62 → between.settings ≡ c.settings
    → StartsIfSome does (if between.settings.eager then Some id else None) at (with_added_span id span_data between) d → MakesSpan does c id lane at parent current callsite values d
makes {T} does c between d id lane at parent current callsite values source active context span_data is_active is_source starts is_context is_data spare few same begins =
    let from = is_source ∙ ap (λ (b : Bool). parent_source b parent current) is_active in
    record {
      between = between;
      spare = spare;
      few = few;
      starts = subst (λ (o : Option ℕ). StartsIfSome does o at c between) from starts;
      added = with_added_span id span_data between;
      rest = ap (λ (t : SpanData). with_added_span id t between)
          (is_data ∙ ap (λ (x : Context). new_span_data callsite lane values x at c.settings c.counting) (is_context ∙ ap (λ (o : Option ℕ). context_from between.spans (lane_context lane parent) o) from));
      begins = subst (λ (s : LayerSettings). StartsIfSome does (if s.eager then Some id else None) at (with_added_span id span_data between) d) same begins;
    }

-- a new span that gets its parent and its moment after what its fields write
pub begins_under : (callsite : Callsite) (lane : Lane) (values : ValueSet) (context : Context) (at : ℕ) (settings : LayerSettings) (counting : Bool)
    → with_making context at (new_span_data callsite lane values empty_context 0 settings counting) ≡ new_span_data callsite lane values context at settings counting
begins_under callsite lane values context at settings counting =
    let same : min at GREATEST ≡ min (max at (min at GREATEST)) GREATEST = omega arith in
    ap (λ (n : ℕ). let x : SpanData = record (new_span_data callsite lane values context at settings counting) { last = n } in x) same

-- an entry with activation, and one without
abbrev pub with_started : {T : Type 0} → T → List (ℕ × SpanData) → Core T → Core T
with_started tracer spans c = record c { tracer = tracer; spans = spans }

pub same_started : {T : Type 0} (c : Core T) (tracer : T) (spans : List (ℕ × SpanData)) → tracer ≡ c.tracer → spans ≡ c.spans → with_started tracer spans c ≡ c
same_started {T} c tracer spans s xs = ap (λ (x : T). with_started x spans c) s ∙ ap (λ (ys : List (ℕ × SpanData)). with_started c.tracer ys c) xs

pub enters_active : {T : Type 0} (does : T → TracerCall → T → Type 0) (c d : Core T) (id at : ℕ) (before later : Lane) (tracer : T) (spans : List (ℕ × SpanData)) (own : Context) (attached : Attached)
    → c.settings.activation ≡ true → EntersKnown does id at c.spans c.tracer tracer spans own → AttachesContext own before later (Some attached)
    → d ≡ with_token (record { lane = later.id; id = id; attached = Some attached }) (with_started tracer spans c) → EntersSpan does c id at before later d
enters_active {T} does c d id at before later tracer spans own attached active enters lane rest =
    let between : Core T = with_started tracer enters.between c in
    record {
      between = between;
      attached = Some attached;
      starts = subst (λ (b : Bool). StartsIfSome does (if b then Some id else None) at c between) (sym active) (starts_core does c between id at enters.starts refl);
      lane = subst (λ (b : Bool). EntersLane b (own_context_in between id) before later (Some attached)) (sym active) (subst (λ (x : Context). AttachesContext x before later (Some attached)) enters.own_is lane);
      rest = rest ∙ ap (λ (xs : List (ℕ × SpanData)). with_token (record { lane = later.id; id = id; attached = Some attached }) (with_started tracer xs c)) enters.rest
          ∙ ap (λ (l : ℕ). with_token (record { lane = l; id = id; attached = Some attached }) (with_started tracer (with_op id at ops.Enter enters.between) c)) lane.keeps.id;
    }

pub enters_still : {T : Type 0} (does : T → TracerCall → T → Type 0) (c d : Core T) (id at : ℕ) (lane : Lane) → c.settings.activation ≡ false
    → d ≡ with_token (record { lane = lane.id; id = id; attached = None }) (on_spans (with_op id at ops.Enter) c) → EntersSpan does c id at lane lane d
enters_still {T} does c d id at lane still rest = record {
  between = c;
  attached = None;
  starts = subst (λ (b : Bool). StartsIfSome does (if b then Some id else None) at c c) (sym still) refl;
  lane = subst (λ (b : Bool). EntersLane b (own_context_in c id) lane lane None) (sym still) (refl, refl);
  rest = rest;
}

-- an exit, once the op is applied
pub exits : {T : Type 0} (c between d : Core T) (id at : ℕ) (before later : Lane) → between ≡ on_spans (with_op id at ops.Exit) c
    → (token : Token) × (last_passing (is_token before.id id) between.tokens ≡ Some token) × DetachesOwnContext (if between.settings.activation then token.attached else None) before later × (d ≡ without_token before.id id between)
    → ExitsSpan c id at before later d
exits {T} c between d id at before later is left =
    let l = subst (λ (x : Core T). (token : Token) × (last_passing (is_token before.id id) x.tokens ≡ Some token) × DetachesOwnContext (if x.settings.activation then token.attached else None) before later × (d ≡ without_token before.id id x)) is left in
    record { token = l.0; last = l.1; leaves = l.2; rest = l.3 }

-- what an exit detaches is attached
kept_still : (o : Option ℕ) (tokens : List Token) (token : Token) (id : ℕ) (lane : Lane) → token.attached ≡ o → AreAttached (kept_by true tokens) lane → last_passing (is_token lane.id id) tokens ≡ Some token → IfSome o (λ n. 0 < attached_count n lane)
kept_still None tokens token id lane is still last = tt
kept_still (Some n) tokens token id lane is still last =
    let parts = and_parts (token.lane == lane.id) (token.id == id) (last_passes (is_token lane.id id) tokens token last) in
    let count = last_counted (is_token lane.id id) (keeps_as lane.id n) tokens token last in
    let one = ap (λ (o : Option ℕ). cond {A = ℕ} (token.lane == lane.id && is_attached_as n o) 1 0) is ∙ cond-true {A = ℕ} (token.lane == lane.id && n == n) 1 0 (and_from (token.lane == lane.id) (n == n) parts.0 (eq-eqb n n refl)) in
    let h = still n in
    omega (arith, count, one, h)

pub leaves_still : (active : Bool) (tokens : List Token) (token : Token) (id : ℕ) (lane : Lane) → AreAttached (kept_by active tokens) lane → last_passing (is_token lane.id id) tokens ≡ Some token → active ≡ true → IfSome token.attached (λ n. 0 < attached_count n lane)
leaves_still active tokens token id lane still last is =
    kept_still token.attached tokens token id lane refl (subst (λ (b : Bool). AreAttached (kept_by b tokens) lane) is still) last

-- a close, by the state that was taken out
pub closes : {T : Type 0} (does : T → TracerCall → T → Type 0) (c d : Core T) (id at : ℕ) (left : List (ℕ × SpanData)) (span_data : SpanData) → data_at id c.spans ≡ Some span_data → left ≡ remove_entry (is_id id) c.spans
    → FinishesState does at span_data c.tracer d.tracer → d ≡ with_finish d.tracer (on_spans (λ _. left) c) → ClosesSpan does c id at d
closes {T} does c d id at left span_data is removed finishes rest =
    let begun : List (ℕ × SpanData) = update id (λ _. finishes.begun) c.spans in
    let between : Core T = with_started finishes.between begun c in
    record {
      between = between;
      span_data = finishes.begun;
      starts = starts_core does c between id at (started_in does id at c.spans c.tracer finishes.between begun span_data finishes.begun is refl finishes.starts) refl;
      is = found_at id (λ _. finishes.begun) c.spans span_data is;
      finishes = finishes.finishes;
      rest = rest ∙ ap (λ (xs : List (ℕ × SpanData)). with_finish d.tracer (on_spans (λ _. xs) c)) (removed ∙ sym (removed_update id (λ _. finishes.begun) c.spans));
    }

-- nothing changes where the span isn't known
pub op_unknown : {T : Type 0} (c d : Core T) (id at : ℕ) (op : Op) → knows_span id c.spans ≡ false → d ≡ on_spans (with_op id at op) c → d ≡ c
op_unknown c d id at op not rest = rest ∙ ap (λ (xs : List (ℕ × SpanData)). on_spans (λ _. xs) c) (update_unknown id (λ t. after_op t at op) c.spans not)

-- by whether the span is known
pub if_is : (P Q : Type 0) (known : Bool) → known ≡ true → P → IfKnown known P Q
if_is P Q known is p = record { is_known = λ _. p; isnt = λ not. absurd (true≢false (sym is ∙ not)) }

pub if_isnt : (P Q : Type 0) (known : Bool) → known ≡ false → Q → IfKnown known P Q
if_isnt P Q known is q = record { is_known = λ yes. absurd (true≢false (sym yes ∙ is)); isnt = λ _. q }

-- the ids of a context that was shown
pub ids_shown : (o : Option SpanData) (shown : Option Context) → shown ≡ own_context_if_known o → ids_if_known o ≡ option_map ids_of shown
ids_shown None shown is = sym (ap (λ (x : Option Context). option_map ids_of x) is)
ids_shown (Some span_data) shown is = sym (ap (λ (x : Option Context). option_map ids_of x) is)

-- an op of one span, by what it is
pub op_is : {T : Type 0} (c d : Core T) (id at : ℕ) (op wanted : Op) → op ≡ wanted → d ≡ record c { spans = with_op id at op c.spans } → d ≡ record c { spans = with_op id at wanted c.spans }
op_is {T} c d id at op wanted is rest = rest ∙ ap (λ (o : Op). let x : Core T = record c { spans = with_op id at o c.spans } in x) is

-- an event's op at another moment takes the same room
room_of_retimed : (room : Room) (at : ℕ) (op : Op) → HasRoom room op → HasRoom room (with_moment at op)
room_of_retimed room at (ops.Event is_error update event) h = record { attributes = h.attributes; events = h.events; links = h.links }
room_of_retimed room at (ops.Update update) h = h
room_of_retimed room at ops.Counted h = h
room_of_retimed room at (ops.AddEvent event) h = h
room_of_retimed room at (ops.Link link) h = h
room_of_retimed room at (ops.SetAttribute pair) h = h
room_of_retimed room at (ops.SetStatus status) h = h
room_of_retimed room at (ops.SetParent context) h = h
room_of_retimed room at (ops.Start own) h = h
room_of_retimed room at ops.Enter h = h
room_of_retimed room at ops.Exit h = h

pub room_retimed : (id at : ℕ) (op timed : Op) (rooms : List (ℕ × Room)) → timed ≡ with_moment at op → RoomFor id op rooms → RoomFor id timed rooms
room_retimed id at op timed rooms is room = subst (λ (o : Op). RoomFor id o rooms) (sym is) (λ r found. room_of_retimed r at op (room r found))
