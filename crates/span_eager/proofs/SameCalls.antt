-- What a request changes where spans start at their making is what it changes where they don't, with other ids.
use Rattle.std.proofs.Common.{◌≡◌, ℕ, zero, suc, ◌≤◌, ◌==◌, ◌&&◌, List, [], ◌∷◌, length, map, fold, min, max, Bool, true, false, Option, Some, None, Ok, Err, IfSome, refl, sym, ap, subst, subst₂, ◌∙◌, arith, if◌then◌else◌, is_some, option_map, slice_get, option_and_then, not}
use Rattle.span_eager.proofs.Common.{AllByRecursion, length-map, slice_get-map, Context, SpanContext, is_valid, ids_of, Op, LayerSettings, GREATEST, deed, SpanData, Recording, id_if_on, with_start, with_start_if_some, data_at, start_context, own_context_or, current_of, Reply, Refusal, Request, Setup, span_site, event_site, Here, here_at, Resolved, refuse_if, ◌>>=◌, need, op_on, ops_on, ops_effect, effect_of_call, is_bad_moment, effect_of, parent_scope, disabled_effect, parent_under, last_attached, context_around, lane_in, span_effect, new_effect, clone_effect, drop_effect, is_borrowed, current_scope, scope_or_current, exchange_effect, Scope, SpanOp, MadeSpan, EntryOf, Attached, HookNew, Tables, slot_at, span_of_scope, site_of, scope_of, made_span_at, with_starts_of, quiet_effect, lazy_setup, LeavesStartData, is_no_span_id, gives_no_span_id, renamed_ids, renamed_context, renamed_reply}
use Rattle.std.specs.Option.{option_to_list}
use Rattle.env_directives.specs.orders.Choice.{admits}
use Rattle.otel_base.specs.declared.value.KeyValue.{KeyValue}
use Rattle.otel_base.specs.declared.stack.TheConstants.{MAX_CONTEXTS}
use Rattle.otel_base.specs.Stack.{empty_context}
use Rattle.otel_metrics.specs.Measures.{measures}
use Rattle.otel_state.specs.declared.op.Op.TheVariants as ops
use Rattle.otel_state.specs.fields.EventFields.{event_op}
use Rattle.otel_layer.specs.Asking.{link_op, add_event_op}
use Rattle.otel_layer.specs.Steps.{parent_source, context_from, new_span_data}
use Rattle.trace_base.specs.declared.callsite.Callsite.{Callsite}
use Rattle.trace_base.specs.declared.field.ValueSet.{ValueSet}
use Rattle.trace_base.specs.declared.lane.Lane.{Lane}
use Rattle.trace_base.specs.declared.span.Parent.{Parent}
use Rattle.trace_base.specs.declared.span.Parent.TheVariants as parent
use Rattle.span_script.specs.declared.reply.Reply.TheVariants as reply
use Rattle.span_script.specs.declared.reply.Refusal.TheVariants as refusal
use Rattle.span_script.specs.declared.reply.What.{What}
use Rattle.span_script.specs.declared.reply.What.TheVariants as what
use Rattle.span_script.specs.declared.request.RequestParent.{RequestParent}
use Rattle.span_script.specs.declared.request.RequestParent.TheVariants as places
use Rattle.span_script.specs.declared.request.Call.{Call}
use Rattle.span_script.specs.declared.request.Call.TheVariants as call
use Rattle.span_script.specs.Admission.{TextRead, text_read, text_filter}
use Rattle.span_script.specs.Fields.{Fields, all_values, declared_by}
use Rattle.span_script.specs.calls.Contexts.{context_effect, context_of_scope, attach_effect, detach_effect}
use Rattle.span_script.specs.calls.Entries.{activated_span, enter_effect, is_full, meets_full, entry_call, exit_effect, is_shared, entry_context as attaches_by}
use Rattle.span_script.specs.calls.Events.{if_enabled, event_ops, event_effect}
use Rattle.span_script.specs.calls.Fields.{callsite_of, update_ops, hooks_of_values, record_effect}
use Rattle.span_script.specs.calls.Filter.{admits_on, enabled_effect, reload_by}
use Rattle.span_script.specs.calls.Links.{follow_effect, result_if_settable, set_parent_result, link_ops, event_time}
use Rattle.span_eager.proofs.SameSpan.{Ids, early_ids, op_by, told_by, valid_by, ids_of_by}
use Rattle.span_eager.proofs.SameSpans.{SameAt, same_at}
use Rattle.span_eager.proofs.SameRecordings.{SameRecording, done_with, early_stays, none_waits, has_started}
use Rattle.span_eager.proofs.RenamedTables.{made_by, attached_by, effect_by, tables_by, IsPlain}

-- both are refused alike, or the one effect is the other's
abbrev pub Agrees : (ℕ → ℕ) → ℕ → ℕ → Resolved → Resolved → Type 0
Agrees f n at (Ok e) (Ok l) = (e ≡ effect_by f n l) × IsPlain at l
Agrees f n at (Err a) (Err b) = a ≡ b
Agrees f n at (Ok e) (Err b) = ⊥
Agrees f n at (Err a) (Ok l) = ⊥

-- the spans that it starts are started alike, and its ops settle nothing too early
abbrev pub IsReady : Ids → LayerSettings → ℕ → ℕ → Recording → Recording → Resolved → Type 0
IsReady f layer n at r l (Ok e) =
    e.at ≡ at → ((pending : List ℕ) × SameRecording f layer n at pending r (fold (λ r s. with_start s at r) l e.starts)) × AllByRecursion (LeavesStartData (with_starts_of n e l)) e.ops
IsReady f layer n at r l (Err refusal) = Unit {0}

-- ---- what is looked up

scope_by : (f : ℕ → ℕ) (ms : List MadeSpan) (s : ℕ) → (made_span_at (map (made_by f) ms) s).scope ≡ (made_span_at ms s).scope
scope_by f [] s = refl
scope_by f (m ∷ ms) zero = refl
scope_by f (m ∷ ms) (suc s) = scope_by f ms s

site_by : (f : ℕ → ℕ) (ms : List MadeSpan) (s : ℕ) → (made_span_at (map (made_by f) ms) s).site ≡ (made_span_at ms s).site
site_by f [] s = refl
site_by f (m ∷ ms) zero = refl
site_by f (m ∷ ms) (suc s) = site_by f ms s

scoped : (f : ℕ → ℕ) (ms : List MadeSpan) (s : Option ℕ) → scope_of (map (made_by f) ms) s ≡ scope_of ms s
scoped f ms None = refl
scoped f ms (Some s) = scope_by f ms s

sited : (f : ℕ → ℕ) (ms : List MadeSpan) (scope : Scope) → site_of (map (made_by f) ms) scope ≡ site_of ms scope
sited f ms [] = refl
sited f ms (s ∷ up) = ap (λ (n : ℕ). Some n) (site_by f ms s)

last_by : (f : ℕ → ℕ) (items : List Attached) (context : Context) → last_attached (renamed_context f context) (map (attached_by f) items) ≡ renamed_context f (last_attached context items)
last_by f [] context = refl
last_by f (a ∷ items) context = last_by f items a.context

around_by : (f : ℕ → ℕ) (items : List Attached) (p : Parent) → context_around (map (attached_by f) items) p ≡ renamed_context f (context_around items p)
around_by f items parent.Root = refl
around_by f items (parent.Of s) = refl
around_by f items parent.Current = last_by f items empty_context

module _ (f : Ids) (setup : Setup) (eager : setup.layer.eager ≡ true) (t : Tables) (r : Recording) (at place : ℕ) where
  abbrev te : Tables
  te = tables_by f.new r t

  abbrev A : Resolved → Resolved → Type 0
  A = Agrees f.new (length t.spans) at

  abbrev P : Resolved → Type 0
  P = IsReady f setup.layer (length t.spans) at r t.recording

  -- where the request stands, with spans that start early and without
  abbrev he : Here
  he = here_at setup te at place

  abbrev hl : Here
  hl = here_at (lazy_setup setup) t at place

  abbrev id : ℕ
  id = hl.lane

  named_agrees : {X : Type 0} (w : What) (o : Option X) (g h : X → Resolved) → P (need w o >>= h) → ((x : X) → P (h x) → A (g x) (h x)) → A (need w o >>= g) (need w o >>= h)
  named_agrees w None g h ready each = refl
  named_agrees w (Some x) g h ready each = each x ready

  if_agrees : (b : Bool) (why : Refusal) (g h : Resolved) → P (refuse_if b why h) → (P h → A g h) → A (refuse_if b why g) (refuse_if b why h)
  if_agrees true why g h ready rest = refl
  if_agrees false why g h ready rest = rest ready

  else_agrees : (b : Bool) (why : Refusal) (g h : Resolved) → P (refuse_if (not b) why h) → (P h → A g h) → A (refuse_if (not b) why g) (refuse_if (not b) why h)
  else_agrees true why g h ready rest = rest ready
  else_agrees false why g h ready rest = refl

  -- ---- contexts

  own_by : (s : ℕ) (e l : Option SpanData) (d c : Context) → SameAt f.new s at e l → ((m : SpanData) → l ≡ Some m → (ids : SpanContext) × (m.own ≡ Some ids)) → d ≡ renamed_context f.new c → own_context_or d e ≡ renamed_context f.new (own_context_or c l)
  own_by s None None d c alike started same = same
  own_by s None (Some m) d c alike started same = absurd alike
  own_by s (Some e) None d c alike started same = absurd alike
  own_by s (Some e) (Some m) d c alike started same =
      let has = started m refl in
      let is : renamed_ids f.new has.0 ≡ early_ids f.new s m.parent = own_is has.0 has.1 in
      λ i. record { span = (ap (λ (t : SpanData). t.own) alike.is ∙ ap (λ (ids : SpanContext). Some ids) (sym is) ∙ sym (ap (option_map (renamed_ids f.new)) has.1)) i }
    where
      own_is : (ids : SpanContext) → m.own ≡ Some ids → renamed_ids f.new ids ≡ early_ids f.new s m.parent
      own_is ids is = subst (λ (o : Option SpanContext). IfSome o (λ ids. renamed_ids f.new ids ≡ early_ids f.new s m.parent)) is alike.own_is

  context_alike : (pending : List ℕ) (s : ℕ) (d c : Context) → SameRecording f setup.layer (length t.spans) at pending r (with_start s at t.recording) → d ≡ renamed_context f.new c
      → own_context_or d (data_at s (with_start s at r).spans) ≡ renamed_context f.new (own_context_or c (data_at s (with_start s at t.recording).spans))
  context_alike pending s d c same others =
      let now = with_start s at t.recording in
      ap (λ (x : Recording). own_context_or d (data_at s x.spans)) (early_stays f setup.layer (length t.spans) at at s pending r now same)
      ∙ own_by s (data_at s r.spans) (data_at s now.spans) d c (same_at f.new at r.spans now.spans s same.spans)
      (λ m found. has_started f setup.layer s at t.recording m (start_context (data_at s t.recording.spans)) refl found) others

  -- ---- handles

  clones_agree : (scope : Scope) → A (Ok (clone_effect he scope)) (Ok (clone_effect hl scope))
  clones_agree scope = (refl, record { at_is = refl; begins = refl; made = tt; starts_none = tt })

  drops_agree : (handle : ℕ) (scope : Scope) → A (Ok (drop_effect he handle scope)) (Ok (drop_effect hl handle scope))
  drops_agree handle scope = (refl, record { at_is = refl; begins = refl; made = tt; starts_none = tt })

  exchanges_agree : (handle : ℕ) (scope now : Scope) → now ≡ scope → A (Ok (exchange_effect he handle now)) (Ok (exchange_effect hl handle scope))
  exchanges_agree handle scope now same =
      subst (λ (x : Scope). A (Ok (exchange_effect he handle x)) (Ok (exchange_effect hl handle scope))) (sym same) (refl, record { at_is = refl; begins = refl; made = tt; starts_none = tt })

  or_current_by : (scope : Scope) → scope_or_current te id scope ≡ scope_or_current t id scope
  or_current_by [] = scoped f.new t.spans (current_of (t.entries id))
  or_current_by (s ∷ up) = refl

  -- ---- entries

  abbrev plain_of : List SpanOp → Type 0
  plain_of done = AllByRecursion (λ (d : SpanOp). (deed d.op).own ≡ None) done

  on_by : (scope : Scope) (op : Op) → op_on scope (op_by f.new op) ≡ map (done_with f.new) (op_on scope op)
  on_by [] op = refl
  on_by (s ∷ up) op = refl

  on_plain : (scope : Scope) (op : Op) → (deed op).own ≡ None → plain_of (op_on scope op)
  on_plain [] op none = tt
  on_plain (s ∷ up) op none = (none, tt)

  entered_agrees : (handle : ℕ) (owns : Bool) (scope : Scope) (o : Option ℕ)
      → P (Ok (record (enter_effect hl handle owns scope) { starts = option_to_list o; attach = attaches_by t.recording at o }))
      → A (Ok (record (enter_effect he handle owns scope) { starts = option_to_list o; attach = attaches_by r at o }))
      (Ok (record (enter_effect hl handle owns scope) { starts = option_to_list o; attach = attaches_by t.recording at o }))
  entered_agrees handle owns scope None ready = (
    (λ i. record (enter_effect he handle owns scope) { starts = []; attach = None; ops = on_by scope ops.Enter i }),
    record { at_is = refl; begins = refl; made = tt; starts_none = on_plain scope ops.Enter refl },
  )
  entered_agrees handle owns scope (Some s) ready = (
    (λ i. record (enter_effect he handle owns scope) {
      starts = s ∷ [];
      attach = Some (record { owner = EntryOf s; context = context_alike (ready refl).0.0 s empty_context empty_context (ready refl).0.1 refl i });
      ops = on_by scope ops.Enter i;
    }),
    record { at_is = refl; begins = refl; made = tt; starts_none = on_plain scope ops.Enter refl },
  )

  full_by : is_full (te.contexts id) ≡ is_full (t.contexts id)
  full_by = ap (λ (k : ℕ). k == MAX_CONTEXTS) (length-map (t.contexts id) (attached_by f.new))

  opens_agree : (handle : ℕ) (owns : Bool) → P (entry_call hl handle owns) → A (entry_call he handle owns) (entry_call hl handle owns)
  opens_agree handle owns ready =
      named_agrees what.Handle (slot_at t.handles handle)
      (λ scope. refuse_if (meets_full setup.layer.activation scope (te.contexts id)) (refusal.Full place) (Ok (enter_effect he handle owns scope)))
      (λ scope. refuse_if (meets_full setup.layer.activation scope (t.contexts id)) (refusal.Full place) (Ok (enter_effect hl handle owns scope))) ready
      (λ scope given. subst (λ (b : Bool). A (refuse_if (is_some (activated_span setup.layer.activation scope) && b) (refusal.Full place) (Ok (enter_effect he handle owns scope))) (refuse_if (meets_full setup.layer.activation scope (t.contexts id)) (refusal.Full place) (Ok (enter_effect hl handle owns scope))))
      (sym full_by)
      (if_agrees (meets_full setup.layer.activation scope (t.contexts id)) (refusal.Full place) (Ok (enter_effect he handle owns scope)) (Ok (enter_effect hl handle owns scope)) given
      (λ go. entered_agrees handle owns scope (activated_span setup.layer.activation scope) go)))

  exits_agree : (guard : ℕ) (scope : Scope) → A (Ok (exit_effect he guard scope)) (Ok (exit_effect hl guard scope))
  exits_agree guard scope = (
    (λ i. record (exit_effect he guard scope) { ops = on_by scope ops.Exit i }),
    record { at_is = refl; begins = refl; made = tt; starts_none = on_plain scope ops.Exit refl },
  )

  -- ---- ops

  -- ops on one span that a start settles nothing of
  tells_agree : (scope : Scope) (op : Op) → (deed op).own ≡ None → (answer : Reply) → renamed_reply f.new answer ≡ answer
      → A (Ok (ops_effect hl answer (op_on scope (op_by f.new op)))) (Ok (ops_effect hl answer (op_on scope op)))
  tells_agree scope op none answer same = (
    (λ i. record (ops_effect hl (sym same i) (op_on scope (op_by f.new op))) { ops = on_by scope op i }),
    record { at_is = refl; begins = refl; made = tt; starts_none = on_plain scope op none },
  )

  callsite_by : (scope : Scope) → callsite_of setup te scope ≡ callsite_of (lazy_setup setup) t scope
  callsite_by scope = ap (option_and_then (λ (site : ℕ). slice_get setup.sites site)) (sited f.new t.spans scope)

  records_agree : (scope : Scope) (fields : Fields) (c : Option Callsite)
      → A (Ok (record (ops_effect hl reply.Done (update_ops setup.layer scope fields c)) { hooks = hooks_of_values scope fields c }))
      (Ok (record (ops_effect hl reply.Done (update_ops (lazy_setup setup).layer scope fields c)) { hooks = hooks_of_values scope fields c }))
  records_agree scope fields None = (refl, record { at_is = refl; begins = refl; made = tt; starts_none = tt })
  records_agree [] fields (Some c) = (refl, record { at_is = refl; begins = refl; made = tt; starts_none = tt })
  records_agree (s ∷ up) fields (Some c) = (refl, record { at_is = refl; begins = refl; made = tt; starts_none = (refl, tt) })

  events_agree : (c : Callsite) (values : ValueSet) (enabled : Bool) (reached : Scope) (counting : Option (List ℕ))
      → A (Ok (record (ops_effect hl (reply.Enabled enabled) (if_enabled enabled (ops_on reached (event_ops counting c (event_op c values setup.layer at))))) { measures = if_enabled enabled (measures c values) }))
      (Ok (record (ops_effect hl (reply.Enabled enabled) (if_enabled enabled (ops_on reached (event_ops counting c (event_op c values (lazy_setup setup).layer at))))) { measures = if_enabled enabled (measures c values) }))
  events_agree c values false reached counting = (refl, record { at_is = refl; begins = refl; made = tt; starts_none = tt })
  events_agree c values true [] counting = (refl, record { at_is = refl; begins = refl; made = tt; starts_none = tt })
  events_agree c values true (s ∷ up) None = (refl, record { at_is = refl; begins = refl; made = tt; starts_none = (refl, tt) })
  events_agree c values true (s ∷ up) (Some text) = by_test (admits (text_filter text).statics.directives c)
    where
      by_test : (b : Bool) → A (Ok (record (ops_effect hl (reply.Enabled true) (ops_on (s ∷ up) (ops.Counted ∷ if_enabled b (event_op c values setup.layer at ∷ [])))) { measures = measures c values }))
          (Ok (record (ops_effect hl (reply.Enabled true) (ops_on (s ∷ up) (ops.Counted ∷ if_enabled b (event_op c values (lazy_setup setup).layer at ∷ [])))) { measures = measures c values }))
      by_test true = (refl, record { at_is = refl; begins = refl; made = tt; starts_none = (refl, (refl, tt)) })
      by_test false = (refl, record { at_is = refl; begins = refl; made = tt; starts_none = (refl, tt) })

  scope_at_by : (under : RequestParent) → parent_scope te id under ≡ parent_scope t id under
  scope_at_by places.Root = refl
  scope_at_by places.Contextual = ap (λ (s : Scope). Some s) (scoped f.new t.spans (current_of (t.entries id)))
  scope_at_by (places.Under handle) = refl

  -- ---- contexts

  gives_agree : (starting : Option ℕ) (d c : Context) → d ≡ renamed_context f.new c → A (Ok (context_effect he starting d)) (Ok (context_effect hl starting c))
  gives_agree starting d c same = (
    (λ i. record (context_effect hl starting c) {
      new_context = Some (same i);
      reply = reply.Context (length-map t.named_contexts (renamed_context f.new) i) ((ap ids_of same ∙ ids_of_by f c) i);
    }),
    record { at_is = refl; begins = refl; made = tt; starts_none = tt },
  )

  context_agrees : (scope : Scope) → P (Ok (context_effect hl (span_of_scope scope) (context_of_scope t.recording at scope))) → A (Ok (context_effect he (span_of_scope scope) (context_of_scope r at scope))) (Ok (context_effect hl (span_of_scope scope) (context_of_scope t.recording at scope)))
  context_agrees [] ready = gives_agree None empty_context empty_context refl
  context_agrees (s ∷ up) ready =
      gives_agree (Some s) (context_of_scope r at (s ∷ up)) (context_of_scope t.recording at (s ∷ up)) (context_alike (ready refl).0.0 s empty_context empty_context (ready refl).0.1 refl)

  far_and : (a b : Bool) → (a && b) ≡ true → (a ≡ true) × (b ≡ true)
  far_and true b is = (refl, is)
  far_and false b is = absurd (cc is)

  remote_agrees : (ids : SpanContext) → (is_no_span_id f.many ids.trace && is_no_span_id f.many ids.span) ≡ true → A (Ok (context_effect he None (record { span = Some ids }))) (Ok (context_effect hl None (record { span = Some ids })))
  remote_agrees ids far =
      let both = far_and (is_no_span_id f.many ids.trace) (is_no_span_id f.many ids.span) far in
      gives_agree None (record { span = Some ids }) (record { span = Some ids }) (λ i. record { span = Some (record { trace = sym (f.far ids.trace both.0) i; span = sym (f.far ids.span both.1) i }) })

  attaches_agree : (given : Context) → A (Ok (attach_effect he (renamed_context f.new given))) (Ok (attach_effect hl given))
  attaches_agree given = (refl, record { at_is = refl; begins = refl; made = tt; starts_none = tt })

  -- ---- what is asked of spans from outside

  follows_agree : (scope from : Scope) → P (Ok (follow_effect hl scope from)) → A (Ok (follow_effect he scope from)) (Ok (follow_effect hl scope from))
  follows_agree [] from ready = (refl, record { at_is = refl; begins = refl; made = tt; starts_none = tt })
  follows_agree (s ∷ up) [] ready = (refl, record { at_is = refl; begins = refl; made = tt; starts_none = tt })
  follows_agree (s ∷ up) (q ∷ over) ready =
      let same = context_alike (ready refl).0.0 q empty_context empty_context (ready refl).0.1 refl in (
        (λ i. record (follow_effect hl (s ∷ up) (q ∷ over)) { ops = op_on (s ∷ up) (link_op ((ap ids_of same ∙ ids_of_by f (context_of_scope t.recording at (q ∷ over))) i) []) }),
        record { at_is = refl; begins = refl; made = tt; starts_none = (refl, tt) },
      )

  sets_agree : (scope : Scope) (given : Context) → P (Ok (ops_effect hl (reply.Set (set_parent_result t.recording scope)) (op_on scope (ops.SetParent given))))
      → A (Ok (ops_effect he (reply.Set (set_parent_result r scope)) (op_on scope (ops.SetParent (renamed_context f.new given))))) (Ok (ops_effect hl (reply.Set (set_parent_result t.recording scope)) (op_on scope (ops.SetParent given))))
  sets_agree [] given ready = (refl, record { at_is = refl; begins = refl; made = tt; starts_none = tt })
  sets_agree (s ∷ up) given ready = (
    (λ i. record (ops_effect hl (reply.Set (result_if_settable (waits_not i))) (op_on (s ∷ up) (ops.SetParent given))) { ops = op_on (s ∷ up) (ops.SetParent (renamed_context f.new given)) }),
    record { at_is = refl; begins = refl; made = tt; starts_none = (refl, tt) },
  )
    where
      waits_not : is_some (start_context (data_at s r.spans)) ≡ is_some (start_context (data_at s t.recording.spans))
      waits_not =
          ap (λ (o : Option Context). is_some o) (none_waits f setup.layer s at (data_at s r.spans) (data_at s t.recording.spans) (same_at f.new at r.spans t.recording.spans s (ready refl).0.1.spans))
          ∙ sym (ready refl).1.0

  links_agree : (scope : Scope) (given : SpanContext) (attributes : List KeyValue) (b : Bool)
      → A (Ok (ops_effect hl reply.Done (if b then op_on scope (link_op (renamed_ids f.new given) attributes) else []))) (Ok (ops_effect hl reply.Done (if b then op_on scope (link_op given attributes) else [])))
  links_agree scope given attributes true = tells_agree scope (link_op given attributes) refl reply.Done refl
  links_agree scope given attributes false = (refl, record { at_is = refl; begins = refl; made = tt; starts_none = tt })

  -- ---- a making

  last_of : (m : ℕ) → min (max m (min m GREATEST)) GREATEST ≤ m
  last_of m = omega arith

  told_alike : (c : Callsite) (l : Lane) (values : ValueSet) (d x : Context) (se sl : LayerSettings) (ke kl : Bool) → d ≡ renamed_context f.new x → se ≡ setup.layer → sl ≡ (lazy_setup setup).layer → ke ≡ kl
      → new_span_data c l values d at se ke ≡ told_by f.new (new_span_data c l values x at sl kl)
  told_alike c l values d x se sl ke kl same e_set l_set count =
      (λ i. new_span_data c l values (same i) at (e_set i) (count i))
      ∙ ap (λ (s : LayerSettings). told_by f.new (new_span_data c l values x at s kl)) (sym l_set)

  made_agrees : (c : Callsite) (l : Lane) (values : ValueSet) (d x : Context) (o : Option ℕ) (pending : List ℕ) → d ≡ renamed_context f.new x
      → SameRecording f setup.layer (length t.spans) at pending r (fold (λ r s. with_start s at r) t.recording (option_to_list o))
      → new_span_data c l values (context_from (with_start_if_some o at r).spans d o) at (with_start_if_some o at r).settings (with_start_if_some o at r).counting
      ≡ told_by f.new (new_span_data c l values (context_from (with_start_if_some o at t.recording).spans x o) at (with_start_if_some o at t.recording).settings (with_start_if_some o at t.recording).counting)
  made_agrees c l values d x None pending same ready = told_alike c l values d x r.settings t.recording.settings r.counting t.recording.counting same ready.e_settings ready.l_settings ready.counting
  made_agrees c l values d x (Some s) pending same ready =
      let now = with_start s at t.recording in
      let still = early_stays f setup.layer (length t.spans) at at s pending r now ready in
      told_alike c l values (own_context_or d (data_at s (with_start s at r).spans)) (own_context_or x (data_at s now.spans)) (with_start s at r).settings now.settings (with_start s at r).counting now.counting
      (context_alike pending s d x ready same)
      (ap (λ (y : Recording). y.settings) still ∙ ready.e_settings) ready.l_settings
      (ap (λ (y : Recording). y.counting) still ∙ ready.counting)

  spans_agree : (site : ℕ) (c : Callsite) (values : ValueSet) (under : RequestParent) (up : Scope) → P (Ok (span_effect hl site c values under up))
      → A (Ok (span_effect he site c values under up)) (Ok (span_effect hl site c values under up))
  spans_agree site c values under up ready =
      let k : length te.spans ≡ length t.spans = length-map t.spans (made_by f.new) in
      let p = parent_under under up in
      let source = parent_source setup.layer.activation p (current_of (t.entries id)) in
      let told = made_agrees c (lane_in hl) values (context_around (te.contexts id) p) (context_around (t.contexts id) p) source (ready refl).0.0 (around_by f.new (t.contexts id) p) (ready refl).0.1 in (
        (λ i. record (span_effect hl site c values under up) {
          new_handle = Some (k i ∷ up);
          new_span = Some (record { site = site; scope = k i ∷ up; made_with = told i });
          new_span_start = id_if_on (eager i) (k i);
          hooks = HookNew (k i) c values ∷ [];
        }),
        record { at_is = refl; begins = refl; made = (refl, last_of at); starts_none = tt },
      )

  makes_agree : (site : ℕ) (c : Callsite) (values : ValueSet) (under : RequestParent) (up : Scope) (b : Bool)
      → P (Ok (if b then span_effect hl site c values under up else disabled_effect hl))
      → A (Ok (if b then span_effect he site c values under up else disabled_effect he)) (Ok (if b then span_effect hl site c values under up else disabled_effect hl))
  makes_agree site c values under up true ready = spans_agree site c values under up ready
  makes_agree site c values under up false ready = (refl, record { at_is = refl; begins = refl; made = tt; starts_none = tt })

  -- ---- all calls

  pub call_agrees : (c : Call) → gives_no_span_id f.many c ≡ true → P (effect_of_call (lazy_setup setup) t at place c) → A (effect_of_call setup te at place c) (effect_of_call (lazy_setup setup) t at place c)
  call_agrees (call.New site under fields) far ready =
      named_agrees what.Site (span_site setup.sites site)
      (λ c. need what.Handle (parent_scope te id under) >>= (λ up. need what.Field (all_values c fields) >>= (λ values. Ok (new_effect he site c values under up))))
      (λ c. need what.Handle (parent_scope t id under) >>= (λ up. need what.Field (all_values c fields) >>= (λ values. Ok (new_effect hl site c values under up)))) ready
      (λ c given. subst (λ (o : Option Scope). A (need what.Handle o >>= (λ up. need what.Field (all_values c fields) >>= (λ values. Ok (new_effect he site c values under up))))
      (need what.Handle (parent_scope t id under) >>= (λ up. need what.Field (all_values c fields) >>= (λ values. Ok (new_effect hl site c values under up)))))
      (sym (scope_at_by under))
      (named_agrees what.Handle (parent_scope t id under)
      (λ up. need what.Field (all_values c fields) >>= (λ values. Ok (new_effect he site c values under up)))
      (λ up. need what.Field (all_values c fields) >>= (λ values. Ok (new_effect hl site c values under up))) given
      (λ up more. named_agrees what.Field (all_values c fields) (λ values. Ok (new_effect he site c values under up)) (λ values. Ok (new_effect hl site c values under up)) more
      (λ values last. makes_agree site c values under up (admits_on setup t id c) last))))
  call_agrees (call.Clone handle) far ready =
      named_agrees what.Handle (slot_at t.handles handle) (λ scope. Ok (clone_effect he scope)) (λ scope. Ok (clone_effect hl scope)) ready (λ scope given. clones_agree scope)
  call_agrees (call.Drop handle) far ready =
      named_agrees what.Handle (slot_at t.handles handle)
      (λ scope. refuse_if (is_borrowed t.guards handle) refusal.InUse (Ok (drop_effect he handle scope))) (λ scope. refuse_if (is_borrowed t.guards handle) refusal.InUse (Ok (drop_effect hl handle scope))) ready
      (λ scope given. if_agrees (is_borrowed t.guards handle) refusal.InUse (Ok (drop_effect he handle scope)) (Ok (drop_effect hl handle scope)) given (λ go. drops_agree handle scope))
  call_agrees (call.Enter handle) far ready = opens_agree handle false ready
  call_agrees (call.Exit guard) far ready =
      named_agrees what.Guard (slot_at t.guards guard)
      (λ g. refuse_if (is_shared t.guards g) refusal.InUse (refuse_if (not (g.place == place)) (refusal.WrongLane g.place) (Ok (exit_effect he guard g.scope))))
      (λ g. refuse_if (is_shared t.guards g) refusal.InUse (refuse_if (not (g.place == place)) (refusal.WrongLane g.place) (Ok (exit_effect hl guard g.scope)))) ready
      (λ g given. if_agrees (is_shared t.guards g) refusal.InUse (refuse_if (not (g.place == place)) (refusal.WrongLane g.place) (Ok (exit_effect he guard g.scope))) (refuse_if (not (g.place == place)) (refusal.WrongLane g.place) (Ok (exit_effect hl guard g.scope))) given
      (λ go. else_agrees (g.place == place) (refusal.WrongLane g.place) (Ok (exit_effect he guard g.scope)) (Ok (exit_effect hl guard g.scope)) go (λ last. exits_agree guard g.scope)))
  call_agrees call.Current far ready =
      subst (λ (scope : Scope). A (Ok (clone_effect he scope)) (Ok (clone_effect hl (current_scope t id)))) (sym (scoped f.new t.spans (current_of (t.entries id)))) (clones_agree (current_scope t id))
  call_agrees (call.OrCurrent handle) far ready =
      named_agrees what.Handle (slot_at t.handles handle)
      (λ scope. refuse_if (is_borrowed t.guards handle) refusal.InUse (Ok (exchange_effect he handle (scope_or_current te id scope))))
      (λ scope. refuse_if (is_borrowed t.guards handle) refusal.InUse (Ok (exchange_effect hl handle (scope_or_current t id scope)))) ready
      (λ scope given. if_agrees (is_borrowed t.guards handle) refusal.InUse (Ok (exchange_effect he handle (scope_or_current te id scope))) (Ok (exchange_effect hl handle (scope_or_current t id scope))) given
      (λ go. exchanges_agree handle (scope_or_current t id scope) (scope_or_current te id scope) (or_current_by scope)))
  call_agrees (call.Entered handle) far ready =
      named_agrees what.Handle (slot_at t.handles handle)
      (λ scope. refuse_if (is_borrowed t.guards handle) refusal.InUse (entry_call he handle true))
      (λ scope. refuse_if (is_borrowed t.guards handle) refusal.InUse (entry_call hl handle true)) ready
      (λ scope given. if_agrees (is_borrowed t.guards handle) refusal.InUse (entry_call he handle true) (entry_call hl handle true) given (λ go. opens_agree handle true go))
  call_agrees (call.Record handle fields) far ready =
      named_agrees what.Handle (slot_at t.handles handle)
      (λ scope. Ok (record_effect he scope fields)) (λ scope. Ok (record_effect hl scope fields)) ready
      (λ scope given. subst (λ (c : Option Callsite). A (Ok (record (ops_effect hl reply.Done (update_ops setup.layer scope fields c)) { hooks = hooks_of_values scope fields c })) (Ok (record_effect hl scope fields)))
      (sym (callsite_by scope)) (records_agree scope fields (callsite_of (lazy_setup setup) t scope)))
  call_agrees (call.HasField handle name) far ready =
      named_agrees what.Handle (slot_at t.handles handle)
      (λ scope. Ok (quiet_effect at id (reply.Has (declared_by (callsite_of setup te scope) name)))) (λ scope. Ok (quiet_effect at id (reply.Has (declared_by (callsite_of (lazy_setup setup) t scope) name)))) ready
      (λ scope given. subst (λ (c : Option Callsite). A (Ok (quiet_effect at id (reply.Has (declared_by c name)))) (Ok (quiet_effect at id (reply.Has (declared_by (callsite_of (lazy_setup setup) t scope) name)))))
      (sym (callsite_by scope)) (refl, record { at_is = refl; begins = refl; made = tt; starts_none = tt }))
  call_agrees (call.Event site under fields) far ready =
      named_agrees what.Site (event_site setup.sites site)
      (λ c. need what.Handle (parent_scope te id under) >>= (λ reached. need what.Field (all_values c fields) >>= (λ values. Ok (event_effect he c values reached))))
      (λ c. need what.Handle (parent_scope t id under) >>= (λ reached. need what.Field (all_values c fields) >>= (λ values. Ok (event_effect hl c values reached)))) ready
      (λ c given. subst (λ (o : Option Scope). A (need what.Handle o >>= (λ reached. need what.Field (all_values c fields) >>= (λ values. Ok (event_effect he c values reached))))
      (need what.Handle (parent_scope t id under) >>= (λ reached. need what.Field (all_values c fields) >>= (λ values. Ok (event_effect hl c values reached)))))
      (sym (scope_at_by under))
      (named_agrees what.Handle (parent_scope t id under)
      (λ reached. need what.Field (all_values c fields) >>= (λ values. Ok (event_effect he c values reached)))
      (λ reached. need what.Field (all_values c fields) >>= (λ values. Ok (event_effect hl c values reached))) given
      (λ reached more. named_agrees what.Field (all_values c fields) (λ values. Ok (event_effect he c values reached)) (λ values. Ok (event_effect hl c values reached)) more
      (λ values last. events_agree c values (admits_on setup t id c) reached setup.counting))))
  call_agrees (call.Remote ids) far ready = remote_agrees ids far
  call_agrees (call.Context handle) far ready =
      named_agrees what.Handle (slot_at t.handles handle)
      (λ scope. Ok (context_effect he (span_of_scope scope) (context_of_scope r at scope))) (λ scope. Ok (context_effect hl (span_of_scope scope) (context_of_scope t.recording at scope))) ready
      (λ scope given. context_agrees scope given)
  call_agrees (call.Attach context) far ready =
      subst₂ (λ (o : Option Context) (b : Bool). A (need what.Context o >>= (λ given. refuse_if b (refusal.Full place) (Ok (attach_effect he given)))) (effect_of_call (lazy_setup setup) t at place (call.Attach context)))
      (sym (slice_get-map (renamed_context f.new) t.named_contexts context)) (sym full_by) (by_slot (slice_get t.named_contexts context) ready)
    where
      by_slot : (o : Option Context) → P (need what.Context o >>= (λ given. refuse_if (is_full (t.contexts id)) (refusal.Full place) (Ok (attach_effect hl given))))
          → A (need what.Context (option_map (renamed_context f.new) o) >>= (λ given. refuse_if (is_full (t.contexts id)) (refusal.Full place) (Ok (attach_effect he given)))) (need what.Context o >>= (λ given. refuse_if (is_full (t.contexts id)) (refusal.Full place) (Ok (attach_effect hl given))))
      by_slot None ready = refl
      by_slot (Some given) ready = if_agrees (is_full (t.contexts id)) (refusal.Full place) (Ok (attach_effect he (renamed_context f.new given))) (Ok (attach_effect hl given)) ready (λ go. attaches_agree given)
  call_agrees (call.Detach guard) far ready =
      named_agrees what.Guard (slot_at t.attaches guard)
      (λ mine. refuse_if (not (mine == place)) (refusal.WrongLane mine) (Ok (detach_effect hl guard))) (λ mine. refuse_if (not (mine == place)) (refusal.WrongLane mine) (Ok (detach_effect hl guard))) ready
      (λ mine given. else_agrees (mine == place) (refusal.WrongLane mine) (Ok (detach_effect hl guard)) (Ok (detach_effect hl guard)) given (λ go. (refl, record { at_is = refl; begins = refl; made = tt; starts_none = tt })))
  call_agrees (call.Follows handle from) far ready =
      named_agrees what.Handle (slot_at t.handles handle)
      (λ scope. need what.Handle (slot_at t.handles from) >>= (λ followed. Ok (follow_effect he scope followed))) (λ scope. need what.Handle (slot_at t.handles from) >>= (λ followed. Ok (follow_effect hl scope followed))) ready
      (λ scope given. named_agrees what.Handle (slot_at t.handles from) (λ followed. Ok (follow_effect he scope followed)) (λ followed. Ok (follow_effect hl scope followed)) given
      (λ followed last. follows_agree scope followed last))
  call_agrees (call.SetParent handle context) far ready =
      named_agrees what.Handle (slot_at t.handles handle)
      (λ scope. need what.Context (slice_get te.named_contexts context) >>= (λ given. Ok (ops_effect he (reply.Set (set_parent_result r scope)) (op_on scope (ops.SetParent given)))))
      (λ scope. need what.Context (slice_get t.named_contexts context) >>= (λ given. Ok (ops_effect hl (reply.Set (set_parent_result t.recording scope)) (op_on scope (ops.SetParent given))))) ready
      (λ scope more. subst (λ (o : Option Context). A (need what.Context o >>= (λ given. Ok (ops_effect he (reply.Set (set_parent_result r scope)) (op_on scope (ops.SetParent given)))))
      (need what.Context (slice_get t.named_contexts context) >>= (λ given. Ok (ops_effect hl (reply.Set (set_parent_result t.recording scope)) (op_on scope (ops.SetParent given))))))
      (sym (slice_get-map (renamed_context f.new) t.named_contexts context)) (by_slot scope (slice_get t.named_contexts context) more))
    where
      by_slot : (scope : Scope) (o : Option Context) → P (need what.Context o >>= (λ given. Ok (ops_effect hl (reply.Set (set_parent_result t.recording scope)) (op_on scope (ops.SetParent given)))))
          → A (need what.Context (option_map (renamed_context f.new) o) >>= (λ given. Ok (ops_effect he (reply.Set (set_parent_result r scope)) (op_on scope (ops.SetParent given)))))
          (need what.Context o >>= (λ given. Ok (ops_effect hl (reply.Set (set_parent_result t.recording scope)) (op_on scope (ops.SetParent given)))))
      by_slot scope None ready = refl
      by_slot scope (Some given) ready = sets_agree scope given ready
  call_agrees (call.AddLink handle context attributes) far ready =
      named_agrees what.Handle (slot_at t.handles handle)
      (λ scope. need what.Context (slice_get te.named_contexts context) >>= (λ given. Ok (ops_effect hl reply.Done (link_ops scope (ids_of given) attributes))))
      (λ scope. need what.Context (slice_get t.named_contexts context) >>= (λ given. Ok (ops_effect hl reply.Done (link_ops scope (ids_of given) attributes)))) ready
      (λ scope more. subst (λ (o : Option Context). A (need what.Context o >>= (λ given. Ok (ops_effect hl reply.Done (link_ops scope (ids_of given) attributes))))
      (need what.Context (slice_get t.named_contexts context) >>= (λ given. Ok (ops_effect hl reply.Done (link_ops scope (ids_of given) attributes)))))
      (sym (slice_get-map (renamed_context f.new) t.named_contexts context)) (by_slot scope (slice_get t.named_contexts context)))
    where
      by_slot : (scope : Scope) (o : Option Context)
          → A (need what.Context (option_map (renamed_context f.new) o) >>= (λ given. Ok (ops_effect hl reply.Done (link_ops scope (ids_of given) attributes)))) (need what.Context o >>= (λ given. Ok (ops_effect hl reply.Done (link_ops scope (ids_of given) attributes))))
      by_slot scope None = refl
      by_slot scope (Some given) =
          subst₂ (λ (ids : SpanContext) (b : Bool). A (Ok (ops_effect hl reply.Done (if b then op_on scope (link_op ids attributes) else []))) (Ok (ops_effect hl reply.Done (link_ops scope (ids_of given) attributes))))
          (sym (ids_of_by f given)) (sym (ap is_valid (ids_of_by f given) ∙ valid_by f (ids_of given))) (links_agree scope (ids_of given) attributes (is_valid (ids_of given)))
  call_agrees (call.SetAttribute handle key value) far ready =
      named_agrees what.Handle (slot_at t.handles handle)
      (λ scope. Ok (ops_effect hl reply.Done (op_on scope (ops.SetAttribute (record { key = key; value = value }))))) (λ scope. Ok (ops_effect hl reply.Done (op_on scope (ops.SetAttribute (record { key = key; value = value }))))) ready
      (λ scope given. tells_agree scope (ops.SetAttribute (record { key = key; value = value })) refl reply.Done refl)
  call_agrees (call.SetStatus handle status) far ready =
      named_agrees what.Handle (slot_at t.handles handle)
      (λ scope. Ok (ops_effect hl reply.Done (op_on scope (ops.SetStatus status)))) (λ scope. Ok (ops_effect hl reply.Done (op_on scope (ops.SetStatus status)))) ready
      (λ scope given. tells_agree scope (ops.SetStatus status) refl reply.Done refl)
  call_agrees (call.AddEvent handle name attributes time) far ready =
      named_agrees what.Handle (slot_at t.handles handle)
      (λ scope. Ok (ops_effect hl reply.Done (op_on scope (add_event_op name (event_time at time) attributes)))) (λ scope. Ok (ops_effect hl reply.Done (op_on scope (add_event_op name (event_time at time) attributes)))) ready
      (λ scope given. tells_agree scope (add_event_op name (event_time at time) attributes) refl reply.Done refl)
  call_agrees (call.Enabled site) far ready =
      named_agrees what.Site (slice_get setup.sites site) (λ c. Ok (enabled_effect he c)) (λ c. Ok (enabled_effect hl c)) ready (λ c given. (refl, record { at_is = refl; begins = refl; made = tt; starts_none = tt }))
  call_agrees (call.Reload text) far ready = by_read (text_read text)
    where
      by_read : (read : TextRead) → A (reload_by hl text read) (reload_by hl text read)
      by_read (Ok ds) = (refl, record { at_is = refl; begins = refl; made = tt; starts_none = tt })
      by_read (Err piece) = refl

-- ---- all requests

pub request_agrees : (f : Ids) (setup : Setup) → setup.layer.eager ≡ true → (t : Tables) (r : Recording) (request : Request) → gives_no_span_id f.many request.call ≡ true
    → IsReady f setup.layer (length t.spans) request.at r t.recording (effect_of (lazy_setup setup) t request)
    → Agrees f.new (length t.spans) request.at (effect_of setup (tables_by f.new r t) request) (effect_of (lazy_setup setup) t request)
request_agrees f setup eager t r request far ready =
    if_agrees f setup eager t r request.at request.lane_place (is_bad_moment t.moment request.at) (refusal.BadMoment t.moment request.at)
    (need what.Lane (slice_get setup.ids request.lane_place) >>= (λ id. effect_of_call setup (tables_by f.new r t) request.at request.lane_place request.call))
    (need what.Lane (slice_get setup.ids request.lane_place) >>= (λ id. effect_of_call (lazy_setup setup) t request.at request.lane_place request.call)) ready
    (λ go. named_agrees f setup eager t r request.at request.lane_place what.Lane (slice_get setup.ids request.lane_place)
    (λ id. effect_of_call setup (tables_by f.new r t) request.at request.lane_place request.call) (λ id. effect_of_call (lazy_setup setup) t request.at request.lane_place request.call) go
    (λ id given. call_agrees f setup eager t r request.at request.lane_place request.call far given))
