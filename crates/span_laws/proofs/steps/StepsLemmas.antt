-- What the effect of each request does to handles, guards, spans and entries, whatever its kind.
use Rattle.span_laws.proofs.Common.{AllByRecursion, Bool, Call, Callsite, Context, Effect, Err, Fields, FilterHook, GREATEST, Here, IsMadeWith, Lane, LayerSettings, List, MadeSpan, Making, None, Ok, Op, Option, Recording, Request, RequestParent, Resolved, Scope, ScopeGuard, Setup, Some, SpanOp, Tables, TextRead, ValueSet, [], activated_span, admits_on, all_values, any_counted, ap, arith, attach_effect, callsite_of, clone_effect, closed_of, cond, context_effect, context_of_scope, current_of, current_scope, data_at, deed, detach_effect, disabled_effect, drop_effect, effect_of, effect_of_call, either_after, enter_effect, entry_call, event_op, event_site, event_time, exchange_effect, exit_effect, false, first_attributes, follow_effect, here_at, holds_span, hooks_of_values, ids_of, is_bad_moment, is_borrowed, is_drop, is_full, is_in, is_open, is_shared, is_some, is_valid, lane_in, length, meets_full, nat_tests, need, new_span_data, new_span_data_at, not, occurrences, op_on, ops_effect, option_map, parent_scope, parent_source, parent_under, refl, refuse_if, reload_by, scope_or_current, slice_get, slice_set, slot_at, slot_open, span_effect, span_of_scope, span_site, span_starting_at_making, span_update, start_context, subst, sym, text_read, true, update_ops, values_of, with_item, with_start_if_some, with_start_under, ℕ, ◌++◌, ◌==◌, ◌>>=◌, ◌||◌, ◌∙◌, ◌∷◌, ◌≡◌, ◌≤◌}
use Rattle.std.specs.Option.{option_to_list}
use Rattle.std.proofs.lemmas.Bool.{eq-eqb, eqb-true}
use Rattle.otel_metrics.specs.declared.measure.Measure.{Measure}
use Rattle.otel_state.specs.declared.op.Op.TheVariants as ops
use Rattle.otel_layer.specs.Asking.{link_op, add_event_op}
use Rattle.span_script.specs.declared.request.RequestParent.TheVariants as request_parent
use Rattle.span_script.specs.declared.request.Call.TheVariants as call
use Rattle.span_script.specs.declared.reply.Reply.{Reply}
use Rattle.span_script.specs.declared.reply.Reply.TheVariants as reply
use Rattle.span_script.specs.declared.reply.Refusal.{Refusal}
use Rattle.span_script.specs.declared.reply.Refusal.TheVariants as refusal
use Rattle.span_script.specs.declared.reply.What.{What}
use Rattle.span_script.specs.declared.reply.What.TheVariants as what
use Rattle.span_laws.proofs.records.EventOpsLemmas.{each_counted, each_on, each_told}
use Rattle.span_laws.proofs.steps.GuardsLemmas.{Enters, no_entry, skips, enters_by, exits_by}
use Rattle.span_laws.proofs.levels.HooksLemmas.{Hears, of_making, of_open, heard_entry, heard_exit, heard_record, heard_close}
use Rattle.span_laws.proofs.spans.OccurrencesLemmas.{held_push, held_set, is_in_counted, none_in, occurs_filter, slot_push}

-- a scope that an unspent handle has, or none
pub data IsKnown (hs : List (Option Scope)) : Scope → Type 0 where
  no_scope : IsKnown hs []
  of_handle : (k : ℕ) (scope : Scope) → slot_at hs k ≡ Some scope → IsKnown hs scope

-- A new handle and a new span: neither, a handle more of a known scope, or a span under one and a handle of it.
pub data Names (hs : List (Option Scope)) (ms : List MadeSpan) : Option Scope → Option MadeSpan → Type 0 where
  no_name : Names hs ms None None
  another : (scope : Scope) → IsKnown hs scope → Names hs ms (Some scope) None
  new_span : (m : MadeSpan) (up : Scope) → IsKnown hs up → m.scope ≡ length ms ∷ up → Names hs ms (Some m.scope) (Some m)

-- A spent handle, which no guard names, and the spans that close: those of its scope that are open no more.
pub data Spends (slots : List (Option Scope)) (gs : List (Option ScopeGuard)) : Option ℕ → List ℕ → Type 0 where
  no_spending : Spends slots gs None []
  one_spent : (k : ℕ) (scope : Scope) (closes : List ℕ) → slot_at slots k ≡ Some scope → is_borrowed gs k ≡ false
      → closes ≡ closed_of (slice_set slots k None) scope → Spends slots gs (Some k) closes

-- what a span is made with
abbrev pub Begins : Setup → ℕ → Option MadeSpan → Type 0
Begins setup at None = Unit {0}
Begins setup at (Some m) = (making : Making) × IsMadeWith setup at m.made_with making

-- an op of an open span that is no start
pub record IsReached (hs : List (Option Scope)) (d : SpanOp) : Type 0 where
  pub there : is_open hs d.span ≡ true
  pub unstarted : (deed d.op).own ≡ None

abbrev IsUnstarted : Op → Type 0
IsUnstarted op = (deed op).own ≡ None

-- an op that leaves the open entries as they are
abbrev OpKeepsEntries : Op → Type 0
OpKeepsEntries op = ((deed op).enters ≡ false) × ((deed op).exits ≡ false)

abbrev pub KeepsEntries : SpanOp → Type 0
KeepsEntries d = OpKeepsEntries d.op

-- an effect's ops turn the entry that it adds or takes off, and no other
abbrev pub Turns : Option ℕ → Option ℕ → List SpanOp → Type 0
Turns (Some s) exit ds = ds ≡ record { span = s; op = ops.Enter } ∷ []
Turns None (Some s) ds = ds ≡ record { span = s; op = ops.Exit } ∷ []
Turns None None ds = AllByRecursion KeepsEntries ds

-- moments don't fall
pub record IsTimed (before at : ℕ) : Type 0 where
  pub later : before ≤ at
  pub most : at ≤ GREATEST

-- The effect of a request at a moment, which may be a drop.
pub record IsStep (setup : Setup) (t : Tables) (at : ℕ) (is_drop : Bool) (e : Effect) : Type 0 where
  pub moment : e.at ≡ at
  pub names : Names t.handles t.spans e.new_handle e.new_span
  pub enters : Enters setup.ids t.handles t.guards e.lane e.new_guard e.new_attach e.spent_guard e.entry e.exit
  pub spends : Spends (with_item t.handles (option_map Some e.new_handle)) (either_after t.guards e.new_guard e.new_attach e.spent_guard) e.spent_handle e.closes
  pub begins : Begins setup e.at e.new_span
  pub early : e.new_span_start ≡ span_starting_at_making setup.layer.eager (length t.spans) e.new_span
  pub starts : AllByRecursion (λ s. is_open t.handles s ≡ true) e.starts
  pub reached : AllByRecursion (IsReached t.handles) e.ops
  pub turns : Turns e.entry e.exit e.ops
  pub closing : is_drop ≡ false → e.closes ≡ []
  pub heard : Hears t.handles (length t.spans) e.closes e.new_span e.hooks

-- ---- each kind of request

-- what a handle is exchanged for holds the same spans
exchange_closes : (hs : List (Option Scope)) (k : ℕ) (scope : Scope) → slot_at hs k ≡ Some scope → (s : ℕ) → occurrences s [] ≡ occurrences s (closed_of (slice_set (hs ++ Some scope ∷ []) k None) scope)
exchange_closes hs k scope there s =
    let slots = hs ++ Some scope ∷ [] in
    let push = held_push hs (Some scope) s in
    let set = held_set slots k scope s (slot_push hs (Some scope) k scope there) in
    let before = held_set hs k scope s there in
    let after = any_counted (holds_span s) (slice_set slots k None) in
    let its = is_in_counted s scope in
    let of_scope = occurs_filter (λ t. not (is_open (slice_set slots k None) t)) s scope in
    grind (arith, nat_tests, push, set, before, after, its, of_scope)

-- what the tables of a history have
pub record IsFit (setup : Setup) (t : Tables) : Type 0 where
  pub currents : (lane : ℕ) → IsKnown t.handles (current_scope t lane)
  pub entered : (lane s : ℕ) → current_of (t.entries lane) ≡ Some s → is_open t.handles s ≡ true
  pub still : (n : ℕ) (g : ScopeGuard) → slot_at t.guards n ≡ Some g → slot_at t.handles g.handle ≡ Some g.scope
  pub settings_are : t.recording.settings ≡ setup.layer
  pub counting_is : t.recording.counting ≡ is_some setup.counting

-- settings stay with starts
pub starts_keep : (o : Option ℕ) (at : ℕ) (r : Recording) → ((with_start_if_some o at r).settings ≡ r.settings) × ((with_start_if_some o at r).counting ≡ r.counting)
starts_keep None at r = (refl, refl)
starts_keep (Some id) at r = by_context (start_context (data_at id r.spans))
  where
    by_context : (under : Option Context) → ((with_start_under under id at r).settings ≡ r.settings) × ((with_start_under under id at r).counting ≡ r.counting)
    by_context None = (refl, refl)
    by_context (Some context) = (refl, refl)

told_begins : (setup : Setup) (given : LayerSettings) (callsite : Callsite) (lane : Lane) (values : ValueSet) (context : Context) (at : ℕ) (counting : Bool) → given ≡ setup.layer → counting ≡ is_some setup.counting
    → (making : Making) × IsMadeWith setup at (new_span_data callsite lane values context at given counting) making
told_begins setup given callsite lane values context at counting same counting_is = (
  record { name = callsite.name; parent = context; made_at = at; first = first_attributes callsite lane given; counting = counting; inactivity = given.inactivity },
  record { update = span_update callsite values given; is = refl; made_at = refl; tracked = ap (λ (s : LayerSettings). s.inactivity) same; counting_is = counting_is },
)

module _ (setup : Setup) (t : Tables) (fit : IsFit setup t) where
  abbrev Step : ℕ → Bool → Effect → Type 0
  Step at is_drop e = IsStep setup t at is_drop e

  abbrev here : ℕ → ℕ → Here
  here at place = here_at setup t at place

  abbrev Open : List ℕ → Type 0
  Open spans = AllByRecursion (λ s. is_open t.handles s ≡ true) spans

  -- the own span of a known scope is open
  own_open : (scope : Scope) → IsKnown t.handles scope → (s : ℕ) (up : Scope) → scope ≡ s ∷ up → is_open t.handles s ≡ true
  own_open _ no_scope s up is = absurd (cc is)
  own_open _ (of_handle k scope there) s up is = slot_open t.handles k s scope there (ap (is_in s) is ∙ ap (λ b. b || is_in s up) (eq-eqb s s refl))

  -- what starts is open: the span that gives a new one its context, and the one that an entry activates
  source_open : (activation : Bool) (under : RequestParent) (up : Scope) (lane : ℕ) → IsKnown t.handles up → Open (option_to_list (parent_source activation (parent_under under up) (current_of (t.entries lane))))
  source_open activation request_parent.Root up lane known = tt
  source_open true request_parent.Contextual up lane known = tt
  source_open false request_parent.Contextual up lane known = by_current (current_of (t.entries lane)) refl
    where
      by_current : (o : Option ℕ) → current_of (t.entries lane) ≡ o → Open (option_to_list o)
      by_current None is = tt
      by_current (Some s) is = (fit.entered lane s is, tt)
  source_open activation (request_parent.Under handle) [] lane known = tt
  source_open activation (request_parent.Under handle) (s ∷ up) lane known = (own_open (s ∷ up) known s up refl, tt)

  active_open : (activation : Bool) (scope : Scope) → IsKnown t.handles scope → Open (option_to_list (activated_span activation scope))
  active_open false scope known = tt
  active_open true [] known = tt
  active_open true (s ∷ up) known = (own_open (s ∷ up) known s up refl, tt)

  -- what ops are done to is open
  on_reached : (scope : Scope) (op : Op) → IsKnown t.handles scope → (deed op).own ≡ None → AllByRecursion (IsReached t.handles) (op_on scope op)
  on_reached [] op known unstarted = tt
  on_reached (s ∷ up) op known unstarted = (record { there = own_open (s ∷ up) known s up refl; unstarted = unstarted }, tt)

  reaches : (scope : Scope) → IsKnown t.handles scope → (s : ℕ) (up : Scope) (op : Op) → scope ≡ s ∷ up → IsUnstarted op → IsReached t.handles (record { span = s; op = op })
  reaches scope known s up op is unstarted = record { there = own_open scope known s up is; unstarted = unstarted }

  enters_on : (scope : Scope) → Turns (span_of_scope scope) None (op_on scope ops.Enter)
  enters_on [] = tt
  enters_on (s ∷ up) = refl

  exits_on_own : (scope : Scope) → Turns None (span_of_scope scope) (op_on scope ops.Exit)
  exits_on_own [] = tt
  exits_on_own (s ∷ up) = refl

  declined : (at place : ℕ) → Step at false (disabled_effect (here at place))
  declined at place = record { moment = refl; names = another [] no_scope; enters = no_entry; spends = no_spending; begins = tt; early = refl; starts = tt; reached = tt; turns = tt; closing = λ no. refl; heard = of_open None [] tt }

  made_span : (at place site : ℕ) (callsite : Callsite) (values : ValueSet) (under : RequestParent) (up : Scope) → IsKnown t.handles up → Step at false (span_effect (here at place) site callsite values under up)
  made_span at place site callsite values under up known =
      let source = parent_source setup.layer.activation (parent_under under up) (current_of (t.entries (here at place).lane)) in
      let keep = starts_keep source at t.recording in
      record {
        moment = refl;
        names = new_span (record { site = site; scope = length t.spans ∷ up; made_with = new_span_data_at (here at place) callsite values (parent_under under up) }) up known refl;
        enters = no_entry;
        spends = no_spending;
        begins = told_begins setup (with_start_if_some source at t.recording).settings callsite (lane_in (here at place)) values _ at (with_start_if_some source at t.recording).counting (keep.0 ∙ fit.settings_are) (keep.1 ∙ fit.counting_is);
        early = refl;
        starts = source_open setup.layer.activation under up (here at place).lane known;
        reached = tt;
        turns = tt;
        closing = λ no. refl;
        heard = of_making _ callsite values;
      }

  cloned : (at place : ℕ) (scope : Scope) → IsKnown t.handles scope → Step at false (clone_effect (here at place) scope)
  cloned at place scope known = record { moment = refl; names = another scope known; enters = no_entry; spends = no_spending; begins = tt; early = refl; starts = tt; reached = tt; turns = tt; closing = λ no. refl; heard = of_open None [] tt }

  dropped : (at place handle : ℕ) (scope : Scope) → slot_at t.handles handle ≡ Some scope → is_borrowed t.guards handle ≡ false → Step at true (drop_effect (here at place) handle scope)
  dropped at place handle scope there free = record {
    moment = refl;
    names = no_name;
    enters = no_entry;
    spends = one_spent handle scope (closed_of (slice_set t.handles handle None) scope) there free refl;
    begins = tt;
    early = refl;
    starts = tt;
    reached = tt;
    turns = tt;
    closing = λ no. absurd (cc no);
    heard = of_open None _ (heard_close t.handles handle scope there);
  }

  exchanged : (at place handle : ℕ) (scope : Scope) → slot_at t.handles handle ≡ Some scope → is_borrowed t.guards handle ≡ false → Step at false (exchange_effect (here at place) handle (scope_or_current t (here at place).lane scope))
  exchanged at place handle [] there free = record {
    moment = refl;
    names = another (current_scope t (here at place).lane) (fit.currents (here at place).lane);
    enters = no_entry;
    spends = one_spent handle [] [] (slot_push t.handles (Some (current_scope t (here at place).lane)) handle [] there) free refl;
    begins = tt;
    early = refl;
    starts = tt;
    reached = tt;
    turns = tt;
    closing = λ no. refl;
    heard = of_open None [] tt;
  }
  exchanged at place handle (x ∷ up) there free = record {
    moment = refl;
    names = another (x ∷ up) (of_handle handle (x ∷ up) there);
    enters = no_entry;
    spends = one_spent handle (x ∷ up) [] (slot_push t.handles (Some (x ∷ up)) handle (x ∷ up) there) free
        (sym (none_in (closed_of (slice_set (t.handles ++ Some (x ∷ up) ∷ []) handle None) (x ∷ up)) (λ s. sym (exchange_closes t.handles handle (x ∷ up) there s))));
    begins = tt;
    early = refl;
    starts = tt;
    reached = tt;
    turns = tt;
    closing = λ no. refl;
    heard = of_open None [] tt;
  }

  entered : (at place handle : ℕ) (owns : Bool) (scope : Scope) → slot_at t.handles handle ≡ Some scope → Step at false (enter_effect (here at place) handle owns scope)
  entered at place handle owns scope there = record {
    moment = refl;
    names = no_name;
    enters = enters_by (record { handle = handle; place = place; owns = owns; scope = scope }) there refl;
    spends = no_spending;
    begins = tt;
    early = refl;
    starts = active_open setup.layer.activation scope (of_handle handle scope there);
    reached = on_reached scope ops.Enter (of_handle handle scope there) refl;
    turns = enters_on scope;
    closing = λ no. refl;
    heard = of_open None _ (heard_entry t.handles [] scope (here at place).lane);
  }

  exited : (at place guard : ℕ) (g : ScopeGuard) → slot_at t.guards guard ≡ Some g → g.place ≡ place → Step at false (exit_effect (here at place) guard g.scope)
  exited at place guard g there on = record {
    moment = refl;
    names = no_name;
    enters = exits_by guard g there (ap (λ (p : ℕ). (here at p).lane) (sym on));
    spends = no_spending;
    begins = tt;
    early = refl;
    starts = tt;
    reached = on_reached g.scope ops.Exit (of_handle g.handle g.scope (fit.still guard g there)) refl;
    turns = exits_on_own g.scope;
    closing = λ no. refl;
    heard = of_open None _ (heard_exit t.handles [] g.scope (here at place).lane);
  }

  op_keeps_entries : (scope : Scope) (op : Op) → (deed op).enters ≡ false → (deed op).exits ≡ false → AllByRecursion KeepsEntries (op_on scope op)
  op_keeps_entries [] op unentered unleft = tt
  op_keeps_entries (s ∷ up) op unentered unleft = ((unentered, unleft), tt)

  -- fields of a callsite, if it is there
  updates_reached : (scope : Scope) (fields : Fields) (callsite : Option Callsite) → IsKnown t.handles scope → AllByRecursion (IsReached t.handles) (update_ops setup.layer scope fields callsite)
  updates_reached scope fields None known = tt
  updates_reached scope fields (Some callsite) known = on_reached scope (ops.Update (span_update callsite (values_of callsite fields) setup.layer)) known refl

  updates_keep_entries : (scope : Scope) (fields : Fields) (callsite : Option Callsite) → AllByRecursion KeepsEntries (update_ops setup.layer scope fields callsite)
  updates_keep_entries scope fields None = tt
  updates_keep_entries scope fields (Some callsite) = op_keeps_entries scope (ops.Update (span_update callsite (values_of callsite fields) setup.layer)) refl refl

  told : (at place : ℕ) (answer : Reply) (done : List SpanOp) → AllByRecursion (IsReached t.handles) done → AllByRecursion KeepsEntries done → Step at false (ops_effect (here at place) answer done)
  told at place answer done reached entries_kept = record { moment = refl; names = no_name; enters = no_entry; spends = no_spending; begins = tt; early = refl; starts = tt; reached = reached; turns = entries_kept; closing = λ no. refl; heard = of_open None [] tt }

  -- one op on a known scope's own span
  one_told : (at place : ℕ) (answer : Reply) (scope : Scope) (op : Op) → IsKnown t.handles scope → (deed op).own ≡ None → (deed op).enters ≡ false → (deed op).exits ≡ false → Step at false (ops_effect (here at place) answer (op_on scope op))
  one_told at place answer scope op known unstarted unentered unleft = told at place answer (op_on scope op) (on_reached scope op known unstarted) (op_keeps_entries scope op unentered unleft)

  -- the followed span starts, and the other one is linked
  follower : (at place : ℕ) (scope from : Scope) → IsKnown t.handles scope → IsKnown t.handles from → Step at false (follow_effect (here at place) scope from)
  follower at place [] from known other = told at place reply.Done [] tt tt
  follower at place (s ∷ up) [] known other = told at place reply.Done [] tt tt
  follower at place (s ∷ up) (f ∷ above) known other = (let op = link_op (ids_of (context_of_scope t.recording at (f ∷ above))) [] in record {
    moment = refl;
    names = no_name;
    enters = no_entry;
    spends = no_spending;
    begins = tt;
    early = refl;
    starts = (own_open (f ∷ above) other f above refl, tt);
    reached = on_reached (s ∷ up) op known refl;
    turns = op_keeps_entries (s ∷ up) op refl refl;
    closing = λ no. refl;
    heard = of_open None [] tt;
  })

  -- the same, of which a filter hears something, or which puts one in force, and with measures
  beside : (at : ℕ) (e : Effect) (text : Option (List ℕ)) (heard : List FilterHook) (added : List Measure) → Hears t.handles (length t.spans) e.closes e.new_span heard → Step at false e
      → Step at false (record e { filter = text; hooks = heard; measures = added })
  beside at e text heard added hears s = record { moment = s.moment; names = s.names; enters = s.enters; spends = s.spends; begins = s.begins; early = s.early; starts = s.starts; reached = s.reached; turns = s.turns; closing = s.closing; heard = hears }

  given : (at place : ℕ) (starting : Option ℕ) (context : Context) → Open (option_to_list starting) → Step at false (context_effect (here at place) starting context)
  given at place starting context held = record { moment = refl; names = no_name; enters = no_entry; spends = no_spending; begins = tt; early = refl; starts = held; reached = tt; turns = tt; closing = λ no. refl; heard = of_open None [] tt }

  attached : (at place : ℕ) (context : Context) → Step at false (attach_effect (here at place) context)
  attached at place context = record { moment = refl; names = no_name; enters = skips place; spends = no_spending; begins = tt; early = refl; starts = tt; reached = tt; turns = tt; closing = λ no. refl; heard = of_open None [] tt }

  detached : (at place guard : ℕ) → Step at false (detach_effect (here at place) guard)
  detached at place guard = record { moment = refl; names = no_name; enters = no_entry; spends = no_spending; begins = tt; early = refl; starts = tt; reached = tt; turns = tt; closing = λ no. refl; heard = of_open None [] tt }

  if_both : (at : ℕ) (b : Bool) (x y : Effect) → Step at false x → Step at false y → Step at false (cond b x y)
  if_both at true x y one two = one
  if_both at false x y one two = two

  -- an effect comes from no refusal
  pub unrefused : (b : Bool) (why : Refusal) (rest : Resolved) (e : Effect) → refuse_if b why rest ≡ Ok e → (b ≡ false) × (rest ≡ Ok e)
  unrefused true why rest e is = absurd (cc is)
  unrefused false why rest e is = (refl, is)

  -- nor where a test has to pass
  pub allowed : (b : Bool) (why : Refusal) (rest : Resolved) (e : Effect) → refuse_if (not b) why rest ≡ Ok e → (b ≡ true) × (rest ≡ Ok e)
  allowed true why rest e is = (refl, is)
  allowed false why rest e is = absurd (cc is)

  -- nor from a name that names nothing
  pub found : {A : Type 0} (unknown : What) (o : Option A) (go : A → Resolved) (e : Effect) → (need unknown o >>= go) ≡ Ok e → (x : A) × (o ≡ Some x) × (go x ≡ Ok e)
  found unknown None go e is = absurd (cc is)
  found unknown (Some x) go e is = (x, refl, is)

  pub the_effect : (a e : Effect) → ◌≡◌ {A = Resolved} (Ok a) (Ok e) → a ≡ e
  the_effect a e is = cc is

  -- where a span is put is known
  known_place : (lane : ℕ) (under : RequestParent) (up : Scope) → parent_scope t lane under ≡ Some up → IsKnown t.handles up
  known_place lane request_parent.Root up is = subst (IsKnown t.handles) (the_scope [] up is) no_scope
    where
      the_scope : (a b : Scope) → ◌≡◌ {A = Option Scope} (Some a) (Some b) → a ≡ b
      the_scope a b e = cc e
  known_place lane request_parent.Contextual up is = subst (IsKnown t.handles) (the_scope (current_scope t lane) up is) (fit.currents lane)
    where
      the_scope : (a b : Scope) → ◌≡◌ {A = Option Scope} (Some a) (Some b) → a ≡ b
      the_scope a b e = cc e
  known_place lane (request_parent.Under handle) up is = of_handle handle up is

  opened : (at place handle : ℕ) (owns : Bool) (e : Effect) → entry_call (here at place) handle owns ≡ Ok e → Step at false e
  opened at place handle owns e is =
      let there = found what.Handle (slot_at t.handles handle) _ e is in
      let room = unrefused (meets_full setup.layer.activation there.0 (t.contexts (here at place).lane)) (refusal.Full place) (Ok (enter_effect (here at place) handle owns there.0)) e there.2 in
      subst (Step at false) (the_effect _ e room.1) (entered at place handle owns there.0 there.1)

  by_call : (at place : ℕ) (what_for : Call) (e : Effect) → effect_of_call setup t at place what_for ≡ Ok e → Step at (is_drop what_for) e
  by_call at place (call.New site under fields) e is =
      let callsite = found what.Site (span_site setup.sites site) _ e is in
      let up = found what.Handle (parent_scope t (here at place).lane under) _ e callsite.2 in
      let values = found what.Field (all_values callsite.0 fields) _ e up.2 in
      subst (Step at false) (the_effect _ e values.2)
      (if_both at (admits_on setup t (here at place).lane callsite.0) _ _
      (made_span at place site callsite.0 values.0 under up.0 (known_place (here at place).lane under up.0 up.1)) (declined at place))
  by_call at place (call.Clone handle) e is =
      let there = found what.Handle (slot_at t.handles handle) _ e is in
      subst (Step at false) (the_effect _ e there.2) (cloned at place there.0 (of_handle handle there.0 there.1))
  by_call at place (call.Drop handle) e is =
      let there = found what.Handle (slot_at t.handles handle) _ e is in
      let free = unrefused (is_borrowed t.guards handle) refusal.InUse (Ok (drop_effect (here at place) handle there.0)) e there.2 in
      subst (Step at true) (the_effect _ e free.1) (dropped at place handle there.0 there.1 free.0)
  by_call at place (call.Enter handle) e is = opened at place handle false e is
  by_call at place (call.Exit guard) e is =
      let there = found what.Guard (slot_at t.guards guard) _ e is in
      let leaves = exit_effect (here at place) guard there.0.scope in
      let alone = unrefused (is_shared t.guards there.0) refusal.InUse (refuse_if (not (there.0.place == place)) (refusal.WrongLane there.0.place) (Ok leaves)) e there.2 in
      let mine = allowed (there.0.place == place) (refusal.WrongLane there.0.place) (Ok leaves) e alone.1 in
      subst (Step at false) (the_effect _ e mine.1) (exited at place guard there.0 there.1 (eqb-true there.0.place place mine.0))
  by_call at place call.Current e is = subst (Step at false) (the_effect _ e is) (cloned at place (current_scope t (here at place).lane) (fit.currents (here at place).lane))
  by_call at place (call.OrCurrent handle) e is =
      let there = found what.Handle (slot_at t.handles handle) _ e is in
      let free = unrefused (is_borrowed t.guards handle) refusal.InUse (Ok (exchange_effect (here at place) handle (scope_or_current t (here at place).lane there.0))) e there.2 in
      subst (Step at false) (the_effect _ e free.1) (exchanged at place handle there.0 there.1 free.0)
  by_call at place (call.Entered handle) e is =
      let there = found what.Handle (slot_at t.handles handle) _ e is in
      let free = unrefused (is_borrowed t.guards handle) refusal.InUse (entry_call (here at place) handle true) e there.2 in
      opened at place handle true e free.1
  by_call at place (call.Event site under fields) e is =
      let there = found what.Site (event_site setup.sites site) _ e is in
      let reached = found what.Handle (parent_scope t (here at place).lane under) _ e there.2 in
      let values = found what.Field (all_values there.0 fields) _ e reached.2 in
      let op = event_op there.0 values.0 setup.layer at in
      let enabled = admits_on setup t (here at place).lane there.0 in
      let known = known_place (here at place).lane under reached.0 reached.1 in
      subst (Step at false) (the_effect _ e values.2)
      (beside at (ops_effect (here at place) (reply.Enabled enabled) _) None [] _ (of_open None [] tt)
      (told at place (reply.Enabled enabled) _
      (each_told _ enabled _ (each_on IsUnstarted _ reached.0 _ (reaches reached.0 known) (each_counted IsUnstarted refl setup.counting there.0 op refl)))
      (each_told _ enabled _ (each_on OpKeepsEntries _ reached.0 _ (λ s up o is entries_kept. entries_kept) (each_counted OpKeepsEntries (refl, refl) setup.counting there.0 op (refl, refl))))))
  by_call at place (call.Record handle fields) e is =
      let there = found what.Handle (slot_at t.handles handle) _ e is in
      let callsite = callsite_of setup t there.0 in
      subst (Step at false) (the_effect _ e there.2)
      (beside at (ops_effect (here at place) reply.Done (update_ops setup.layer there.0 fields callsite)) None (hooks_of_values there.0 fields callsite) []
      (of_open None _ (heard_record t.handles [] there.0 fields callsite (own_open there.0 (of_handle handle there.0 there.1))))
      (told at place reply.Done _ (updates_reached there.0 fields callsite (of_handle handle there.0 there.1)) (updates_keep_entries there.0 fields callsite)))
  by_call at place (call.HasField handle name) e is =
      let there = found what.Handle (slot_at t.handles handle) _ e is in
      subst (Step at false) (the_effect _ e there.2) (told at place (reply.Has _) [] tt tt)
  by_call at place (call.Remote ids) e is = subst (Step at false) (the_effect _ e is) (given at place None _ tt)
  by_call at place (call.Context handle) e is =
      let there = found what.Handle (slot_at t.handles handle) _ e is in
      subst (Step at false) (the_effect _ e there.2) (given at place (span_of_scope there.0) _ (active_open true there.0 (of_handle handle there.0 there.1)))
  by_call at place (call.Attach context) e is =
      let there = found what.Context (slice_get t.named_contexts context) _ e is in
      let room = unrefused (is_full (t.contexts (here at place).lane)) (refusal.Full place) (Ok (attach_effect (here at place) there.0)) e there.2 in
      subst (Step at false) (the_effect _ e room.1) (attached at place there.0)
  by_call at place (call.Detach guard) e is =
      let there = found what.Guard (slot_at t.attaches guard) _ e is in
      let mine = allowed (there.0 == place) (refusal.WrongLane there.0) (Ok (detach_effect (here at place) guard)) e there.2 in
      subst (Step at false) (the_effect _ e mine.1) (detached at place guard)
  by_call at place (call.Follows handle from) e is =
      let there = found what.Handle (slot_at t.handles handle) _ e is in
      let followed = found what.Handle (slot_at t.handles from) _ e there.2 in
      subst (Step at false) (the_effect _ e followed.2) (follower at place there.0 followed.0 (of_handle handle there.0 there.1) (of_handle from followed.0 followed.1))
  by_call at place (call.SetParent handle context) e is =
      let there = found what.Handle (slot_at t.handles handle) _ e is in
      let given = found what.Context (slice_get t.named_contexts context) _ e there.2 in
      subst (Step at false) (the_effect _ e given.2) (one_told at place _ there.0 (ops.SetParent given.0) (of_handle handle there.0 there.1) refl refl refl)
  by_call at place (call.AddLink handle context attributes) e is =
      let there = found what.Handle (slot_at t.handles handle) _ e is in
      let given = found what.Context (slice_get t.named_contexts context) _ e there.2 in
      let op = link_op (ids_of given.0) attributes in
      let valid = is_valid (ids_of given.0) in
      let known = of_handle handle there.0 there.1 in
      subst (Step at false) (the_effect _ e given.2) (told at place reply.Done _ (each_told _ valid _ (on_reached there.0 op known refl)) (each_told _ valid _ (op_keeps_entries there.0 op refl refl)))
  by_call at place (call.SetAttribute handle key value) e is =
      let there = found what.Handle (slot_at t.handles handle) _ e is in
      subst (Step at false) (the_effect _ e there.2) (one_told at place _ there.0 (ops.SetAttribute (record { key = key; value = value })) (of_handle handle there.0 there.1) refl refl refl)
  by_call at place (call.SetStatus handle status) e is =
      let there = found what.Handle (slot_at t.handles handle) _ e is in
      subst (Step at false) (the_effect _ e there.2) (one_told at place _ there.0 (ops.SetStatus status) (of_handle handle there.0 there.1) refl refl refl)
  by_call at place (call.AddEvent handle name attributes time) e is =
      let there = found what.Handle (slot_at t.handles handle) _ e is in
      subst (Step at false) (the_effect _ e there.2) (one_told at place _ there.0 (add_event_op name (event_time at time) attributes) (of_handle handle there.0 there.1) refl refl refl)
  by_call at place (call.Enabled site) e is =
      let there = found what.Site (slice_get setup.sites site) _ e is in
      subst (Step at false) (the_effect _ e there.2) (told at place (reply.Enabled _) [] tt tt)
  by_call at place (call.Reload text) e is = by_read (text_read text) is
    where
      by_read : (r : TextRead) → reload_by (here at place) text r ≡ Ok e → Step at false e
      by_read (Ok ds) read = subst (Step at false) (the_effect _ e read) (beside at (ops_effect (here at place) reply.Done []) (Some text) [] [] (of_open None [] tt) (told at place reply.Done [] tt tt))
      by_read (Err piece) read = absurd (cc read)

  pub step_of : (request : Request) (e : Effect) → effect_of setup t request ≡ Ok e → IsTimed t.moment e.at × IsStep setup t request.at (is_drop request.call) e
  step_of request e is =
      let by_name = (need what.Lane (slice_get setup.ids request.lane_place) >>= (λ id. effect_of_call setup t request.at request.lane_place request.call)) in
      let passed = unrefused (is_bad_moment t.moment request.at) (refusal.BadMoment t.moment request.at) by_name e is in
      let lane = found what.Lane (slice_get setup.ids request.lane_place) (λ id. effect_of_call setup t request.at request.lane_place request.call) e passed.1 in
      let step = by_call request.at request.lane_place request.call e lane.2 in
      (timed t.moment request.at e.at step.moment passed.0, step)
    where
      timed : (before at now : ℕ) → now ≡ at → is_bad_moment before at ≡ false → IsTimed before now
      timed before at now is good = record { later = grind (arith, nat_tests, is, good); most = grind (arith, nat_tests, is, good) }
