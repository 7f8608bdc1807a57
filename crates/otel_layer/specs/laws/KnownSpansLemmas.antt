-- What the hooks make of the spans and entries that are known.
use Rattle.std.proofs.Common.{◌≡◌, ℕ, ◌+◌, List, [], ◌∷◌, ◌++◌, true, false, Option, Some, None, refl, sym, ap, subst, ◌∙◌, arith, inl, inr}
use Rattle.std.specs.Prelude.{if◌then◌else◌, ◌==◌, ◌&&◌}
use Rattle.std.specs.List.{list_any}
use Rattle.std.specs.Map.{remove_entry, keys_of}
use Rattle.std.proofs.lemmas.List.{map-append}
use Rattle.std.proofs.lemmas.List.Folds.{list_any-append}
use Rattle.std.proofs.lemmas.Bool.{true≢false, cases_Bool, eqb-true, eq-eqb, ne_eqb, and_parts, and_right, or_cases, or_parts, cond-false}
use Rattle.otel_base.specs.declared.context.Context.{Context}
use Rattle.otel_base.specs.declared.context.SpanContext.{SpanContext}
use Rattle.otel_base.specs.Tracer.{TracerCall}
use Rattle.trace_base.specs.declared.callsite.Callsite.{Callsite}
use Rattle.trace_base.specs.declared.lane.Lane.{Lane}
use Rattle.trace_base.specs.declared.span.Parent.{Parent}
use Rattle.trace_base.specs.layers.Hooks.{Hook, OnNewSpan, OnRecord, OnFollows, OnEvent, OnEnter, OnExit, OnClose, KnownSpans, Sees, one_if_entered, one_if_exited, one_if}
use Rattle.trace_base.proofs.EntryLemmas.{count_push}
use Rattle.trace_base.specs.Spans.{without_last}
use Rattle.otel_state.specs.Stack.{last_passing}
use Rattle.otel_state.specs.declared.op.Op.{Op}
use Rattle.otel_state.specs.declared.op.Op.TheVariants as ops
use Rattle.otel_layer.specs.declared.layer.tokens.Token.{Token}
use Rattle.otel_state.specs.States.{SpanData, after_op}
use Rattle.otel_state.specs.fields.SpanFields.{span_update}
use Rattle.otel_layer.specs.Table.{is_id, data_at, knows_span, update, with_op, start_context, ids_if_known}
use Rattle.otel_layer.specs.Core.{Core, is_token, open_entry_count, seen_by, seen_in}
use Rattle.otel_layer.specs.Steps.{StartsIf, StartsSpan, StartsIfSome, parent_source, lane_context, context_from, new_span_data, with_link, FollowsSpan, EventEffect, EntersSpan, ExitsSpan, Step, DoesHook}
use Rattle.otel_layer.specs.laws.CountsLemmas.{last_passes, last_counted}
use Rattle.otel_layer.specs.laws.HookLemmas.{update_keys, removed_knows, removed_other}

-- the tokens and the keys that a start leaves
starts_if_tokens : {T : Type 0} (does : T → TracerCall → T → Type 0) (under : Option Context) (id at : ℕ) (c d : Core T) → StartsIf does under id at c d → d.tokens ≡ c.tokens
starts_if_tokens does None id at c d h = ap (λ x. x.tokens) h
starts_if_tokens does (Some under) id at c d h = ap (λ x. x.tokens) h.2

starts_if_keys : {T : Type 0} (does : T → TracerCall → T → Type 0) (under : Option Context) (id at : ℕ) (c d : Core T) → StartsIf does under id at c d → keys_of d.spans ≡ keys_of c.spans
starts_if_keys does None id at c d h = ap (λ x. keys_of x.spans) h
starts_if_keys does (Some under) id at c d h = ap (λ x. keys_of x.spans) h.2 ∙ update_keys id (λ t. after_op t at (ops.Start h.0)) c.spans

starts_if_settings : {T : Type 0} (does : T → TracerCall → T → Type 0) (under : Option Context) (id at : ℕ) (c d : Core T) → StartsIf does under id at c d → d.settings ≡ c.settings
starts_if_settings does None id at c d h = ap (λ x. x.settings) h
starts_if_settings does (Some under) id at c d h = ap (λ x. x.settings) h.2

-- what a start leaves
pub record Quiet {T : Type 0} (c d : Core T) : Type 0 where
  pub keys : keys_of d.spans ≡ keys_of c.spans
  pub tokens : d.tokens ≡ c.tokens
  pub settings : d.settings ≡ c.settings

pub starts_quiet : {T : Type 0} (does : T → TracerCall → T → Type 0) (id at : ℕ) (c d : Core T) → StartsSpan does id at c d → Quiet c d
starts_quiet does id at c d h =
    let under = start_context (data_at id c.spans) in
    record { keys = starts_if_keys does under id at c d h; tokens = starts_if_tokens does under id at c d h; settings = starts_if_settings does under id at c d h }

pub starts_if_some_quiet : {T : Type 0} (does : T → TracerCall → T → Type 0) (o : Option ℕ) (at : ℕ) (c d : Core T) → StartsIfSome does o at c d → Quiet c d
starts_if_some_quiet does None at c d h = record { keys = ap (λ x. keys_of x.spans) h; tokens = ap (λ x. x.tokens) h; settings = ap (λ x. x.settings) h }
starts_if_some_quiet does (Some id) at c d h = starts_quiet does id at c d h

pub op_quiet : {T : Type 0} (c d : Core T) (id at : ℕ) (op : Op) → d ≡ record c { spans = with_op id at op c.spans } → Quiet c d
op_quiet c d id at op e = record { keys = ap (λ x. keys_of x.spans) e ∙ update_keys id (λ t. after_op t at op) c.spans; tokens = ap (λ x. x.tokens) e; settings = ap (λ x. x.settings) e }

pub update_quiet : {T : Type 0} (c d : Core T) (id : ℕ) (f : SpanData → SpanData) → d ≡ record c { spans = update id f c.spans } → Quiet c d
update_quiet c d id f e = record { keys = ap (λ x. keys_of x.spans) e ∙ update_keys id f c.spans; tokens = ap (λ x. x.tokens) e; settings = ap (λ x. x.settings) e }

link_keys : (o : Option SpanContext) (id at : ℕ) (spans : List (ℕ × SpanData)) → keys_of (with_link id at o spans) ≡ keys_of spans
link_keys None id at spans = refl
link_keys (Some context) id at spans = update_keys id (λ t. after_op t at (ops.Link (record { context = context; attributes = [] }))) spans

quiet_trans : {T : Type 0} (c d e : Core T) → Quiet c d → Quiet d e → Quiet c e
quiet_trans c d e a b = record { keys = b.keys ∙ a.keys; tokens = b.tokens ∙ a.tokens; settings = b.settings ∙ a.settings }

pub follows_quiet : {T : Type 0} (does : T → TracerCall → T → Type 0) (c d : Core T) (id from at : ℕ) → FollowsSpan does c id from at d → Quiet c d
follows_quiet does c d id from at h =
    let b = h.between in
    quiet_trans c b d (starts_quiet does from at c b h.starts)
    (record { keys = ap (λ x. keys_of x.spans) h.rest ∙ link_keys (ids_if_known (data_at from b.spans)) id at b.spans; tokens = ap (λ x. x.tokens) h.rest; settings = ap (λ x. x.settings) h.rest })

pub same_quiet : {T : Type 0} (c d : Core T) → d ≡ c → Quiet c d
same_quiet c d h = record { keys = ap (λ x. keys_of x.spans) h; tokens = ap (λ x. x.tokens) h; settings = ap (λ x. x.settings) h }

-- what is seen where the same spans are known
moved_sees : (ids now : List ℕ) (tokens left : List Token) (hook : Hook) → now ≡ ids → ((lane id : ℕ) → list_any (is_id id) ids ≡ true → open_entry_count left lane id + one_if_exited hook lane id ≡ open_entry_count tokens lane id + one_if_entered hook lane id)
    → ((lane id : ℕ) → list_any (is_id id) ids ≡ false → open_entry_count left lane id ≡ open_entry_count tokens lane id) → Sees (seen_by ids tokens) hook (seen_by now left)
moved_sees ids now tokens left hook same known unknown = record {
  gains = λ id knows not. absurd (true≢false (sym knows ∙ ap (λ (xs : List ℕ). list_any (is_id id) xs) same ∙ not));
  loses = λ id knew not. absurd (true≢false (sym knew ∙ sym (ap (λ (xs : List ℕ). list_any (is_id id) xs) same) ∙ not));
  known = known;
  unknown = unknown;
}

quiet_sees : {T : Type 0} (c d : Core T) (hook : Hook) → Quiet c d → ((lane id : ℕ) → (one_if_exited hook lane id ≡ 0) × (one_if_entered hook lane id ≡ 0)) → Sees (seen_in c) hook (seen_in d)
quiet_sees c d hook q none =
    moved_sees (keys_of c.spans) (keys_of d.spans) c.tokens d.tokens hook q.keys
    (λ lane id knew. (
    let e = ap (λ (ts : List Token). open_entry_count ts lane id) q.tokens in
    let n = none lane id in
    let x = n.0 in
    let y = n.1 in
    omega (arith, e, x, y)))
    (λ lane id not. ap (λ (ts : List Token). open_entry_count ts lane id) q.tokens)

makes_sees : (ids now : List ℕ) (tokens left : List Token) (id : ℕ) (lane : Lane) (at : ℕ) (parent : Parent) (current : Option ℕ) (callsite : Callsite) (values : _) → now ≡ ids ++ id ∷ [] → left ≡ tokens
    → Sees (seen_by ids tokens) (OnNewSpan id lane at parent current callsite values) (seen_by now left)
makes_sees ids now tokens left id lane at parent current callsite values more same = record {
  gains = λ other knows not. elim (or_cases (list_any (is_id other) ids) (list_any (is_id other) (id ∷ [])) (sym (list_any-append (is_id other) ids (id ∷ [])) ∙ sym (ap (λ (xs : List ℕ). list_any (is_id other) xs) more) ∙ knows)) [
    | inl old ↦ absurd (true≢false (sym old ∙ not))
    | inr new_one ↦ elim (or_cases (id == other) false new_one) [ inl is ↦ is | inr none ↦ absurd (true≢false (sym none)) ]
  ];
  loses = λ other knew not. absurd (true≢false (sym knew ∙ (or_parts (list_any (is_id other) ids) (list_any (is_id other) (id ∷ [])) (sym (list_any-append (is_id other) ids (id ∷ [])) ∙ sym (ap (λ (xs : List ℕ). list_any (is_id other) xs) more) ∙ not)).0));
  known = λ l other knew. (let e = ap (λ (ts : List Token). open_entry_count ts l other) same in omega (arith, e));
  unknown = λ l other not. ap (λ (ts : List Token). open_entry_count ts l other) same;
}

closes_sees : (spans now : List (ℕ × SpanData)) (tokens left : List Token) (id at : ℕ) → now ≡ remove_entry (is_id id) spans → left ≡ tokens → Sees (seen_by (keys_of spans) tokens) (OnClose id at) (seen_by (keys_of now) left)
closes_sees spans now tokens left id at less same = record {
  gains = λ other knows not. absurd (true≢false (sym (removed_knows id other spans (sym (ap (λ (xs : List (ℕ × SpanData)). knows_span other xs) less) ∙ knows)) ∙ not));
  loses = λ other knew not. eq-eqb id other (removed_other id other spans knew (sym (ap (λ (xs : List (ℕ × SpanData)). knows_span other xs) less) ∙ not));
  known = λ l other knew. (let e = ap (λ (ts : List Token). open_entry_count ts l other) same in omega (arith, e));
  unknown = λ l other not. ap (λ (ts : List Token). open_entry_count ts l other) same;
}

-- entries, where the span is known
enters_entries : (tokens left : List Token) (id : ℕ) (before : Lane) (attached : Option ℕ) → left ≡ tokens ++ record { lane = before.id; id = id; attached = attached } ∷ [] → (lane other : ℕ)
    → open_entry_count left lane other ≡ open_entry_count tokens lane other + one_if (before.id == lane && id == other)
enters_entries tokens left id before attached more lane other =
    let token : Token = record { lane = before.id; id = id; attached = attached } in
    ap (λ (ts : List Token). open_entry_count ts lane other) more ∙ count_push (is_token lane other) tokens token

exits_entries : (tokens : List Token) (token : Token) (id : ℕ) (before : Lane) → last_passing (is_token before.id id) tokens ≡ Some token → (lane other : ℕ)
    → open_entry_count (without_last (is_token before.id id) tokens) lane other + one_if (before.id == lane && id == other) ≡ open_entry_count tokens lane other
exits_entries tokens token id before last lane other =
    let parts = and_parts (token.lane == before.id) (token.id == id) (last_passes (is_token before.id id) tokens token last) in
    let one = ap (λ (l : ℕ). one_if (l == lane && token.id == other)) (eqb-true token.lane before.id parts.0) ∙ ap (λ (i : ℕ). one_if (before.id == lane && i == other)) (eqb-true token.id id parts.1) in
    let count = last_counted (is_token before.id id) (is_token lane other) tokens token last in
    omega (arith, count, one)

not_that : (ids : List ℕ) (lane id other : ℕ) (before : ℕ) → list_any (is_id id) ids ≡ true → list_any (is_id other) ids ≡ false → one_if (before == lane && id == other) ≡ 0
not_that ids lane id other before known not =
    let apart = ne_eqb id other (λ same. true≢false (sym known ∙ ap (λ (i : ℕ). list_any (is_id i) ids) same ∙ not)) in
    cond-false {A = ℕ} (before == lane && id == other) 1 0 (and_right (before == lane) (id == other) apart)

enters_sees : {T : Type 0} (does : T → TracerCall → T → Type 0) (c d : Core T) (id at : ℕ) (before later : Lane) → knows_span id c.spans ≡ true → EntersSpan does c id at before later d
    → Sees (seen_in c) (OnEnter id at before later) (seen_in d)
enters_sees does c d id at before later known h =
    let b = h.between in
    let q = starts_if_some_quiet does (if c.settings.activation then Some id else None) at c b h.starts in
    let keys = ap (λ x. keys_of x.spans) h.rest ∙ update_keys id (λ t. after_op t at ops.Enter) b.spans ∙ q.keys in
    let tokens = ap (λ x. x.tokens) h.rest ∙ ap (λ (ts : List Token). ts ++ record { lane = before.id; id = id; attached = h.attached } ∷ []) q.tokens in
    let moves = enters_entries c.tokens d.tokens id before h.attached tokens in
    moved_sees (keys_of c.spans) (keys_of d.spans) c.tokens d.tokens (OnEnter id at before later) keys (λ lane other knew. (let e = moves lane other in omega (arith, e)))
    (λ lane other not. (
    let e = moves lane other in
    let none = not_that (keys_of c.spans) lane id other before.id known not in
    omega (arith, e, none)))

exits_sees : {T : Type 0} (c d : Core T) (id at : ℕ) (before later : Lane) → knows_span id c.spans ≡ true → ExitsSpan c id at before later d
    → Sees (seen_in c) (OnExit id at before later) (seen_in d)
exits_sees c d id at before later known h =
    let keys = ap (λ x. keys_of x.spans) h.rest ∙ update_keys id (λ t. after_op t at ops.Exit) c.spans in
    let moves = exits_entries c.tokens h.token id before h.last in
    let now = λ (lane other : ℕ). ap (λ x. open_entry_count x.tokens lane other) h.rest in
    moved_sees (keys_of c.spans) (keys_of d.spans) c.tokens d.tokens (OnExit id at before later) keys (λ lane other knew. (let e = moves lane other in let n = now lane other in omega (arith, e, n)))
    (λ lane other not. (
    let e = moves lane other in
    let n = now lane other in
    let none = not_that (keys_of c.spans) lane id other before.id known not in
    omega (arith, e, n, none)))

-- where the span isn't known
unknown_enters : (ids : List ℕ) (tokens : List Token) (id at : ℕ) (before later : Lane) → (lane other : ℕ) → list_any (is_id id) ids ≡ false → list_any (is_id other) ids ≡ true → one_if (before.id == lane && id == other) ≡ 0
unknown_enters ids tokens id at before later lane other not knew =
    let apart = ne_eqb id other (λ same. true≢false (sym knew ∙ ap (λ (i : ℕ). list_any (is_id i) ids) (sym same) ∙ not)) in
    cond-false {A = ℕ} (before.id == lane && id == other) 1 0 (and_right (before.id == lane) (id == other) apart)

nothing_sees_enter : {T : Type 0} (c d : Core T) (id at : ℕ) (before later : Lane) → knows_span id c.spans ≡ false → d ≡ c → Sees (seen_in c) (OnEnter id at before later) (seen_in d)
nothing_sees_enter c d id at before later not h =
    moved_sees (keys_of c.spans) (keys_of d.spans) c.tokens d.tokens (OnEnter id at before later) (ap (λ x. keys_of x.spans) h)
    (λ lane other knew. (
    let e = ap (λ x. open_entry_count x.tokens lane other) h in
    let none = unknown_enters (keys_of c.spans) c.tokens id at before later lane other not knew in
    omega (arith, e, none)))
    (λ lane other n. ap (λ x. open_entry_count x.tokens lane other) h)

nothing_sees_exit : {T : Type 0} (c d : Core T) (id at : ℕ) (before later : Lane) → knows_span id c.spans ≡ false → d ≡ c → Sees (seen_in c) (OnExit id at before later) (seen_in d)
nothing_sees_exit c d id at before later not h =
    moved_sees (keys_of c.spans) (keys_of d.spans) c.tokens d.tokens (OnExit id at before later) (ap (λ x. keys_of x.spans) h)
    (λ lane other knew. (
    let e = ap (λ x. open_entry_count x.tokens lane other) h in
    let none = unknown_enters (keys_of c.spans) c.tokens id at before later lane other not knew in
    omega (arith, e, none)))
    (λ lane other n. ap (λ x. open_entry_count x.tokens lane other) h)

step_sees : {T : Type 0} (does : T → TracerCall → T → Type 0) (events : EventEffect) (c : Core T) (hook : Hook) (d : Core T) → Step does events c hook d → Sees (seen_in c) hook (seen_in d)
step_sees does events c (OnNewSpan id lane at parent current callsite values) d h =
    let b = h.between in
    let q = starts_if_some_quiet does (parent_source c.settings.activation parent current) at c b h.starts in
    let r = starts_if_some_quiet does (if c.settings.eager then Some id else None) at h.added d h.begins in
    let new : ℕ × SpanData = (id, new_span_data callsite lane values (context_from b.spans (lane_context lane parent) (parent_source c.settings.activation parent current)) at c.settings c.counting) in
    makes_sees (keys_of c.spans) (keys_of d.spans) c.tokens d.tokens id lane at parent current callsite values
    (r.keys ∙ ap (λ x. keys_of x.spans) h.rest ∙ map-append (λ (e : ℕ × SpanData). e.0) b.spans (new ∷ []) ∙ ap (λ (ks : List ℕ). ks ++ id ∷ []) q.keys) (r.tokens ∙ ap (λ x. x.tokens) h.rest ∙ q.tokens)
step_sees does events c (OnRecord id at callsite values) d h = quiet_sees c d (OnRecord id at callsite values) (op_quiet c d id at (ops.Update (span_update callsite values c.settings)) h) (λ lane other. (refl, refl))
step_sees does events c (OnFollows id from at) d h = quiet_sees c d (OnFollows id from at) (follows_quiet does c d id from at h) (λ lane other. (refl, refl))
step_sees does events c (OnEvent None lane at callsite values) d h = quiet_sees c d (OnEvent None lane at callsite values) (same_quiet c d h) (λ l other. (refl, refl))
step_sees does events c (OnEvent (Some id) lane at callsite values) d h = quiet_sees c d (OnEvent (Some id) lane at callsite values) (update_quiet c d id (events c.settings lane.id at callsite values) h) (λ l other. (refl, refl))
step_sees does events c (OnEnter id at before later) d h =
    elim (cases_Bool (knows_span id c.spans)) [
      | inl known ↦ enters_sees does c d id at before later known (h.is_known known)
      | inr unknown ↦ nothing_sees_enter c d id at before later unknown (h.isnt unknown).0
    ]
step_sees does events c (OnExit id at before later) d h =
    elim (cases_Bool (knows_span id c.spans)) [
      | inl known ↦ exits_sees c d id at before later known (h.is_known known)
      | inr unknown ↦ nothing_sees_exit c d id at before later unknown (h.isnt unknown).0
    ]
step_sees does events c (OnClose id at) d h =
    elim (cases_Bool (knows_span id c.spans)) [
      | inl known ↦ (
          let x = h.is_known known in
          let b = x.between in
          let q = starts_quiet does id at c b x.starts in
          let s = closes_sees b.spans d.spans b.tokens d.tokens id at (ap (λ y. y.spans) x.rest) (ap (λ y. y.tokens) x.rest) in
          let seen_is : seen_by (keys_of b.spans) b.tokens ≡ seen_in c = ap (λ (ks : List ℕ). seen_by ks b.tokens) q.keys ∙ ap (λ (ts : List Token). seen_by (keys_of c.spans) ts) q.tokens in
          subst (λ (k : KnownSpans). Sees k (OnClose id at) (seen_in d)) seen_is s)
      | inr unknown ↦ quiet_sees c d (OnClose id at) (same_quiet c d (h.isnt unknown)) (λ lane other. (refl, refl))
    ]

pub does_sees : {T : Type 0} (does : T → TracerCall → T → Type 0) (events : EventEffect) (c : Core T) (hook : Hook) (d : Core T) → DoesHook does events c hook d → Sees (seen_in c) hook (seen_in d)
does_sees {T} does events c hook d h =
    subst (λ (x : Core T). Sees (seen_in x) hook (seen_in d)) h.room.rest (step_sees does events h.prepared hook d h.step)
