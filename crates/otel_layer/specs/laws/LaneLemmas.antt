-- What the hooks make of lanes and of what is kept attached.
use Rattle.std.proofs.Common.{◌≡◌, ℕ, List, [], ◌∷◌, ◌++◌, Bool, true, false, cond, count_by, Option, Some, None, refl, sym, ap, subst, ◌∙◌, arith, inl, inr}
use Rattle.std.specs.Prelude.{if◌then◌else◌, ◌==◌, ◌&&◌}
use Rattle.std.proofs.lemmas.Bool.{cases_Bool, cases_eq, eqb-true, eq-eqb, ne_eqb, and_parts, and_right, cond-true, cond-false}
use Rattle.otel_base.specs.declared.context.Context.{Context}
use Rattle.otel_base.specs.Tracer.{TracerCall}
use Rattle.trace_base.specs.declared.lane.Lane.{Lane}
use Rattle.trace_base.specs.lanes.Contexts.{attached_count, attached_count_on, TracksAttached, KeepsLane}
use Rattle.trace_base.specs.layers.Hooks.{Hook, OnNewSpan, OnRecord, OnFollows, OnEvent, OnEnter, OnExit, OnClose, HookKeepsLanes}
use Rattle.trace_base.proofs.EntryLemmas.{count_cons, count_push}
use Rattle.trace_base.specs.Spans.{without_last}
use Rattle.otel_state.specs.Stack.{last_passing}
use Rattle.otel_state.specs.declared.op.Op.TheVariants as ops
use Rattle.otel_layer.specs.declared.layer.tokens.Token.{Token}
use Rattle.otel_state.specs.declared.settings.LayerSettings.{LayerSettings}
use Rattle.otel_state.specs.fields.SpanFields.{span_update}
use Rattle.otel_layer.specs.Table.{data_at, knows_span, own_context_or}
use Rattle.otel_layer.specs.Core.{Core, is_token, open_entry_count, is_attached_as, keeps_as, kept_by, kept_in}
use Rattle.otel_layer.specs.Steps.{parent_source, EventEffect, DetachesOwnContext, EntersLane, Step, DoesHook}
use Rattle.otel_base.specs.Stack.{empty_context}
use Rattle.otel_layer.specs.laws.CountsLemmas.{last_passes, last_counted, count_without}
use Rattle.otel_layer.specs.laws.KnownSpansLemmas.{Quiet, starts_quiet, starts_if_some_quiet, op_quiet, update_quiet, follows_quiet, same_quiet}

-- lanes
as_before : (attaches : Bool) (a b : Lane) → b ≡ a → KeepsLane attaches a b
as_before attaches a b e = record { id = ap (λ (l : Lane). l.id) e; name = ap (λ (l : Lane). l.name) e; default = ap (λ (l : Lane). l.default) e; as_it_is = λ no. e }

kept_quiet : (attaches : Bool) (tokens left : List Token) (a b : Lane) → ((lane number : ℕ) → kept_by attaches left lane number ≡ kept_by attaches tokens lane number) → b ≡ a
    → KeepsLane attaches a b × TracksAttached (kept_by attaches tokens) a b (kept_by attaches left)
kept_quiet attaches tokens left a b same e = (
  as_before attaches a b e,
  λ lane number. (
      let x = same lane number in
      let y = ap (λ (l : Lane). attached_count_on lane number l) e in
      omega (arith, x, y)),
)

enter_lanes : (attaches : Bool) (own : Context) (tokens left : List Token) (id : ℕ) (before later : Lane) (attached : Option ℕ) → EntersLane attaches own before later attached → left ≡ tokens ++ record { lane = before.id; id = id; attached = attached } ∷ []
    → KeepsLane attaches before later × TracksAttached (kept_by attaches tokens) before later (kept_by attaches left)
enter_lanes false own tokens left id before later attached e more = kept_quiet false tokens left before later (λ lane number. refl) e.0
enter_lanes true own tokens left id before later attached a more = (
  a.keeps,
  λ lane number. (
      let token : Token = record { lane = before.id; id = id; attached = attached } in
      let item : ℕ × Context = (a.number, own) in
      let kept = ap (λ (ts : List Token). kept_by true ts lane number) more ∙ count_push (keeps_as lane number) tokens token in
      let with = ap (λ (o : Option ℕ). cond {A = ℕ} (before.id == lane && is_attached_as number o) 1 0) a.is in
      let live = ap (λ (xs : List (ℕ × Context)). count_by (λ i. i.0 == number) xs) a.live ∙ count_push (λ (i : ℕ × Context). i.0 == number) before.contexts.live item in
      let was = attached_count number before in
      let is = attached_count number later in
      elim (cases_eq before.id lane) [
        | inl on ↦ (
            let x = cond-true {A = ℕ} (before.id == lane) was 0 (eq-eqb before.id lane on) in
            let y = cond-true {A = ℕ} (later.id == lane) is 0 (eq-eqb later.id lane (a.keeps.id ∙ on)) in
            let one = ap (λ b. cond {A = ℕ} (b && a.number == number) 1 0) (eq-eqb before.id lane on) in
            omega (arith, kept, with, live, x, y, one))
        | inr off ↦ (
            let x = cond-false {A = ℕ} (before.id == lane) was 0 (ne_eqb before.id lane off) in
            let y = cond-false {A = ℕ} (later.id == lane) is 0 (ne_eqb later.id lane (λ e. off (sym a.keeps.id ∙ e))) in
            let none = ap (λ b. cond {A = ℕ} (b && a.number == number) 1 0) (ne_eqb before.id lane off) in
            omega (arith, kept, with, x, y, none))
      ]),
)

exit_lane : (o : Option ℕ) (tokens : List Token) (token : Token) (id : ℕ) (before later : Lane) → token.attached ≡ o → last_passing (is_token before.id id) tokens ≡ Some token → DetachesOwnContext o before later
    → KeepsLane true before later × TracksAttached (kept_by true tokens) before later (kept_by true (without_last (is_token before.id id) tokens))
exit_lane None tokens token id before later is last e =
    kept_quiet true tokens (without_last (is_token before.id id) tokens) before later
    (λ lane number. (
    let count = last_counted (is_token before.id id) (keeps_as lane number) tokens token last in
    let none = ap (λ (o : Option ℕ). cond {A = ℕ} (token.lane == lane && is_attached_as number o) 1 0) is ∙ cond-false {A = ℕ} (token.lane == lane && false) 1 0 (and_right (token.lane == lane) false refl) in
    omega (arith, count, none)))
    e
exit_lane (Some n) tokens token id before later is last d = (
  d.keeps,
  λ lane number. (
      let parts = and_parts (token.lane == before.id) (token.id == id) (last_passes (is_token before.id id) tokens token last) in
      let count = last_counted (is_token before.id id) (keeps_as lane number) tokens token last in
      let at = ap (λ (l : ℕ). cond {A = ℕ} (l == lane && is_attached_as number token.attached) 1 0) (eqb-true token.lane before.id parts.0) ∙ ap (λ (o : Option ℕ). cond {A = ℕ} (before.id == lane && is_attached_as number o) 1 0) is in
      let live = ap (λ (xs : List (ℕ × Context)). count_by (λ i. i.0 == number) xs) d.live in
      let less = count_without number n before.contexts.live d.attached in
      let was = attached_count number before in
      let now = attached_count number later in
      elim (cases_eq before.id lane) [
        | inl on ↦ (
            let x = cond-true {A = ℕ} (before.id == lane) was 0 (eq-eqb before.id lane on) in
            let y = cond-true {A = ℕ} (later.id == lane) now 0 (eq-eqb later.id lane (d.keeps.id ∙ on)) in
            let one = ap (λ b. cond {A = ℕ} (b && n == number) 1 0) (eq-eqb before.id lane on) in
            omega (arith, count, at, live, less, x, y, one))
        | inr off ↦ (
            let x = cond-false {A = ℕ} (before.id == lane) was 0 (ne_eqb before.id lane off) in
            let y = cond-false {A = ℕ} (later.id == lane) now 0 (ne_eqb later.id lane (λ e. off (sym d.keeps.id ∙ e))) in
            let none = ap (λ b. cond {A = ℕ} (b && n == number) 1 0) (ne_eqb before.id lane off) in
            omega (arith, count, at, x, y, none))
      ]),
)

exit_lanes : (attaches : Bool) (tokens : List Token) (token : Token) (id : ℕ) (before later : Lane) → last_passing (is_token before.id id) tokens ≡ Some token → DetachesOwnContext (if attaches then token.attached else None) before later
    → KeepsLane attaches before later × TracksAttached (kept_by attaches tokens) before later (kept_by attaches (without_last (is_token before.id id) tokens))
exit_lanes true tokens token id before later last leaves = exit_lane token.attached tokens token id before later refl last leaves
exit_lanes false tokens token id before later last leaves = kept_quiet false tokens (without_last (is_token before.id id) tokens) before later (λ lane number. refl) leaves

kept_is : {T : Type 0} (c d : Core T) → Quiet c d → kept_in d ≡ kept_in c
kept_is c d q = ap (λ (s : LayerSettings). kept_by s.activation d.tokens) q.settings ∙ ap (λ (ts : List Token). kept_by c.settings.activation ts) q.tokens

nothing_lanes : {T : Type 0} (c d : Core T) (before later : Lane) → d ≡ c → later ≡ before → KeepsLane c.settings.activation before later × TracksAttached (kept_in c) before later (kept_in d)
nothing_lanes c d before later e f = (
  as_before c.settings.activation before later f,
  λ lane number. (
      let x = ap (λ y. kept_in y lane number) e in
      let y = ap (λ (l : Lane). attached_count_on lane number l) f in
      omega (arith, x, y)),
)

step_lanes : {T : Type 0} (does : T → TracerCall → T → Type 0) (events : EventEffect) (c : Core T) (hook : Hook) (d : Core T) → Step does events c hook d → HookKeepsLanes c.settings.activation (kept_in c) hook (kept_in d)
step_lanes does events c (OnNewSpan id lane at parent current callsite values) d h =
    let q = starts_if_some_quiet does (parent_source c.settings.activation parent current) at c h.between h.starts in
    kept_is h.added d (starts_if_some_quiet does (if c.settings.eager then Some id else None) at h.added d h.begins) ∙ ap (λ x. kept_in x) h.rest ∙ kept_is c h.between q
step_lanes does events c (OnRecord id at callsite values) d h = kept_is c d (op_quiet c d id at (ops.Update (span_update callsite values c.settings)) h)
step_lanes does events c (OnFollows id from at) d h = kept_is c d (follows_quiet does c d id from at h)
step_lanes does events c (OnEvent None lane at callsite values) d h = kept_is c d (same_quiet c d h)
step_lanes does events c (OnEvent (Some id) lane at callsite values) d h = kept_is c d (update_quiet c d id (events c.settings lane.id at callsite values) h)
step_lanes does events c (OnEnter id at before later) d h =
    elim (cases_Bool (knows_span id c.spans)) [
      | inl known ↦ (
          let x = h.is_known known in
          let q = starts_if_some_quiet does (if c.settings.activation then Some id else None) at c x.between x.starts in
          let tokens = ap (λ y. y.tokens) x.rest ∙ ap (λ (ts : List Token). ts ++ record { lane = before.id; id = id; attached = x.attached } ∷ []) q.tokens in
          let r = enter_lanes c.settings.activation (own_context_or empty_context (data_at id x.between.spans)) c.tokens d.tokens id before later x.attached x.lane tokens in
          let a : d.settings ≡ c.settings = ap (λ y. y.settings) x.rest ∙ q.settings in
          subst (λ (s : LayerSettings). KeepsLane c.settings.activation before later × TracksAttached (kept_in c) before later (kept_by s.activation d.tokens)) (sym a) r)
      | inr unknown ↦ nothing_lanes c d before later (h.isnt unknown).0 (h.isnt unknown).1
    ]
step_lanes does events c (OnExit id at before later) d h =
    elim (cases_Bool (knows_span id c.spans)) [
      | inl known ↦ (
          let x = h.is_known known in
          let r = exit_lanes c.settings.activation c.tokens x.token id before later x.last x.leaves in
          subst (λ (kept : ℕ → ℕ → ℕ). KeepsLane c.settings.activation before later × TracksAttached (kept_in c) before later kept) (sym (ap (λ y. kept_in y) x.rest)) r)
      | inr unknown ↦ nothing_lanes c d before later (h.isnt unknown).0 (h.isnt unknown).1
    ]
step_lanes does events c (OnClose id at) d h =
    elim (cases_Bool (knows_span id c.spans)) [
      | inl known ↦ (
          let x = h.is_known known in
          ap (λ y. kept_in y) x.rest ∙ kept_is c x.between (starts_quiet does id at c x.between x.starts))
      | inr unknown ↦ kept_is c d (same_quiet c d (h.isnt unknown))
    ]

pub does_lanes : {T : Type 0} (does : T → TracerCall → T → Type 0) (events : EventEffect) (c : Core T) (hook : Hook) (d : Core T) → DoesHook does events c hook d → HookKeepsLanes c.settings.activation (kept_in c) hook (kept_in d)
does_lanes {T} does events c hook d h = subst (λ (x : Core T). HookKeepsLanes x.settings.activation (kept_in x) hook (kept_in d)) h.room.rest (step_lanes does events h.prepared hook d h.step)

-- without entries on a lane nothing is kept attached to it
none_counted : (lane number : ℕ) (tokens : List Token) → ((id : ℕ) → open_entry_count tokens lane id ≡ 0) → count_by (keeps_as lane number) tokens ≡ 0
none_counted lane number [] none = refl
none_counted lane number (token ∷ tokens) none =
    elim (cases_Bool (token.lane == lane)) [
      | inl on ↦ (
          let one = count_cons (is_token lane token.id) token tokens in
          let is = cond-true {A = ℕ} (token.lane == lane && token.id == token.id) 1 0 (ap (λ b. b && token.id == token.id) on ∙ eq-eqb token.id token.id refl) in
          let no = none token.id in
          absurd (omega (arith, no, one, is)))
      | inr off ↦ (
          let all = count_cons (keeps_as lane number) token tokens in
          let rest = none_counted lane number tokens (λ id. let more = count_cons (is_token lane id) token tokens in let no = none id in omega (arith, more, no)) in
          let isnt = cond-false {A = ℕ} (token.lane == lane && is_attached_as number token.attached) 1 0 (ap (λ b. b && is_attached_as number token.attached) off) in
          omega (arith, all, rest, isnt))
    ]

pub none_kept_by_tokens : (activation : Bool) (tokens : List Token) (lane number : ℕ) → ((id : ℕ) → open_entry_count tokens lane id ≡ 0) → kept_by activation tokens lane number ≡ 0
none_kept_by_tokens true tokens lane number none = none_counted lane number tokens none
none_kept_by_tokens false tokens lane number none = refl

-- an entry of a span that isn't known leaves the lane as it is
pub does_passive : {T : Type 0} (does : T → TracerCall → T → Type 0) (events : EventEffect) (c : Core T) (id at : ℕ) (before later : Lane) (d : Core T) → DoesHook does events c (OnEnter id at before later) d → knows_span id c.spans ≡ false
    → later.contexts.live ≡ before.contexts.live
does_passive does events c id at before later d h unknown = ap (λ (l : Lane). l.contexts.live) (h.step.isnt (ap (λ x. knows_span id x.spans) h.room.rest ∙ unknown)).1

-- settings stay
step_settings : {T : Type 0} (does : T → TracerCall → T → Type 0) (events : EventEffect) (c : Core T) (hook : Hook) (d : Core T) → Step does events c hook d → d.settings ≡ c.settings
step_settings does events c (OnNewSpan id lane at parent current callsite values) d h =
    (starts_if_some_quiet does (if c.settings.eager then Some id else None) at h.added d h.begins).settings ∙ ap (λ x. x.settings) h.rest ∙ (starts_if_some_quiet does (parent_source c.settings.activation parent current) at c h.between h.starts).settings
step_settings does events c (OnRecord id at callsite values) d h = ap (λ x. x.settings) h
step_settings does events c (OnFollows id from at) d h = (follows_quiet does c d id from at h).settings
step_settings does events c (OnEvent None lane at callsite values) d h = ap (λ x. x.settings) h
step_settings does events c (OnEvent (Some id) lane at callsite values) d h = ap (λ x. x.settings) h
step_settings does events c (OnEnter id at before later) d h =
    elim (cases_Bool (knows_span id c.spans)) [
      | inl known ↦ (let x = h.is_known known in ap (λ y. y.settings) x.rest ∙ (starts_if_some_quiet does (if c.settings.activation then Some id else None) at c x.between x.starts).settings)
      | inr unknown ↦ ap (λ y. y.settings) (h.isnt unknown).0
    ]
step_settings does events c (OnExit id at before later) d h =
    elim (cases_Bool (knows_span id c.spans)) [
      | inl known ↦ ap (λ y. y.settings) (h.is_known known).rest
      | inr unknown ↦ ap (λ y. y.settings) (h.isnt unknown).0
    ]
step_settings does events c (OnClose id at) d h =
    elim (cases_Bool (knows_span id c.spans)) [
      | inl known ↦ (let x = h.is_known known in ap (λ y. y.settings) x.rest ∙ (starts_quiet does id at c x.between x.starts).settings)
      | inr unknown ↦ ap (λ y. y.settings) (h.isnt unknown)
    ]

pub does_settings : {T : Type 0} (does : T → TracerCall → T → Type 0) (events : EventEffect) (c : Core T) (hook : Hook) (d : Core T) → DoesHook does events c hook d → d.settings ≡ c.settings
does_settings does events c hook d h = step_settings does events h.prepared hook d h.step ∙ ap (λ x. x.settings) h.room.rest
