-- Each request of a made script has an effect, whatever the filter lets through.
use Rattle.std.specs.Option.{option_to_list}
use Rattle.trace_lines.proofs.Common.{Attached, Bool, Call, Effect, EntryOf, History, LAST_MOMENT, List, None, Ok, Option, Request, Resolved, Scope, ScopeGuard, Some, Tables, [], after_effect, ap, append-nil, append_assoc, arith, codes, effect_of, effect_of_call, false, generated_requests, generated_setup, generated_site, here_at, history_after, history_unless_refused, id_at, if◌then◌else◌, is_attached_by, is_bad_moment, is_some, length, length-append, list_any, list_any-append, nat_tests, option_map, refl, requests_of_round, requests_of_rounds, root_fields, row_fields, scope_of, set-append_right, slice_get, slice_set, slot_at, subst, suc, sym, tables, true, with_attached, with_detached, zero, ℕ, ◌%◌, ◌&&◌, ◌*◌, ◌++◌, ◌+◌, ◌-◌, ◌<◌, ◌==◌, ◌^◌, ◌||◌, ◌∙◌, ◌∷◌, ◌≡◌, ◌≤◌}
use Rattle.std.proofs.lemmas.List.{get_or-append-add}
use Rattle.std.proofs.lemmas.List.Sums.{fold-append}
use Rattle.otel_base.specs.declared.context.Context.{Context}
use Rattle.trace_base.specs.declared.callsite.Callsite.{Callsite}
use Rattle.trace_base.specs.declared.callsite.Kind.TheVariants as kind
use Rattle.trace_base.specs.declared.field.ValueSet.{ValueSet}
use Rattle.trace_base.specs.Spans.{without_last, current_of}
use Rattle.span_script.specs.declared.request.Call.TheVariants as call
use Rattle.span_script.specs.declared.request.RequestParent.{RequestParent}
use Rattle.span_script.specs.declared.request.RequestParent.TheVariants as put
use Rattle.span_script.specs.Fields.{values_of}
use Rattle.span_script.specs.calls.Entries.{enter_effect, exit_effect, entry_context, activated_span, is_full}
use Rattle.span_script.specs.calls.Events.{event_effect}
use Rattle.span_script.specs.calls.Filter.{admits_on}
use Rattle.span_script.specs.calls.Spans.{borrows, is_borrowed, new_effect, span_effect, disabled_effect, drop_effect}
use Rattle.trace_lines.proofs.made.LinesLemmas.{asked, root_call, below_call, event_call}

-- ---- histories, a request more at a time

abbrev made_tables : History → Tables
made_tables h = tables generated_setup h

-- a request has an effect, and of the tables behind it something holds
pub record Steps (t : Tables) (request : Request) (P : Tables → Type 0) : Type 0 where
  pub effect : Effect
  pub is : effect_of generated_setup t request ≡ Ok effect
  pub now : P (after_effect t effect)

-- some requests have effects
pub record Replays (h : History) (requests : List Request) (P : Tables → Type 0) : Type 0 where
  pub history : History
  pub replays : (more : List Request) → history_after generated_setup h (requests ++ more) ≡ history_after generated_setup history more
  pub now : P (made_tables history)

steps_on : (t : Tables) (request : Request) (P Q : Tables → Type 0) → Steps t request P → ((u : Tables) → P u → Q u) → Steps t request Q
steps_on t request P Q s on = record { effect = s.effect; is = s.is; now = on (after_effect t s.effect) s.now }

tables_more : (h : History) (e : Effect) → made_tables (h ++ e ∷ []) ≡ after_effect (made_tables h) e
tables_more h e = fold-append after_effect _ h (e ∷ [])

one : (h : History) (request : Request) (P : Tables → Type 0) → Steps (made_tables h) request P → Replays h (request ∷ []) P
one h request P s = record {
  history = h ++ s.effect ∷ [];
  replays = λ more. ap (λ (r : Resolved). history_unless_refused r (λ e. history_after generated_setup (h ++ e ∷ []) more)) s.is;
  now = subst P (sym (tables_more h s.effect)) s.now;
}

followed : (h : History) (requests more : List Request) (P Q : Tables → Type 0) → Replays h requests P → ((g : History) → P (made_tables g) → Replays g more Q) → Replays h (requests ++ more) Q
followed h requests more P Q first later =
    let second = later first.history first.now in
    record {
      history = second.history;
      replays = λ rest. ap (history_after generated_setup h) (append_assoc requests more rest) ∙ first.replays (more ++ rest) ∙ second.replays rest;
      now = second.now;
    }

-- ---- the tables within a round

-- Behind the slots of the rounds before stand those of this one, and the lane alone has contexts.
pub record Within (xs : List (Option Scope)) (ys : List (Option ScopeGuard)) (lane : ℕ) (hs : List (Option Scope)) (gs : List (Option ScopeGuard)) (items : List Attached) (at : ℕ) (t : Tables) : Type 0 where
  pub handles : t.handles ≡ xs ++ hs
  pub guards : t.guards ≡ ys ++ gs
  pub contexts : (l : ℕ) → t.contexts l ≡ (if lane == l then items else [])
  pub moment : t.moment ≤ at

-- the context of an entry of a scope's own span, if it has one
abbrev pub OwnedBy : Scope → List Attached → Type 0
OwnedBy [] items = items ≡ []
OwnedBy (s ∷ up) items = (c : Context) × (items ≡ record { owner = EntryOf s; context = c } ∷ [])

same : (n : ℕ) → (n == n) ≡ true
same n = grind (arith, nat_tests)

good_moment : (before at : ℕ) → before ≤ at → at ≤ LAST_MOMENT → is_bad_moment before at ≡ false
good_moment before at later fits = grind (arith, nat_tests, later, fits)

-- the request is one of its lane
abbrev pub OnTime : ℕ → ℕ → ℕ → Type 0
OnTime before at place = (before ≤ at) × (at ≤ LAST_MOMENT) × (slice_get generated_setup.ids place ≡ Some (id_at generated_setup.ids place))

resolved : (t : Tables) (at place : ℕ) (said : Call) → OnTime t.moment at place → effect_of generated_setup t (asked at place said) ≡ effect_of_call generated_setup t at place said
resolved t at place said on = rw (good_moment t.moment at on.0 on.1, on.2) refl

slot_behind : {A : Type 0} (slots front back : List (Option A)) (k : ℕ) (x : A) → slots ≡ front ++ back → slot_at back k ≡ Some x → slot_at slots (length front + k) ≡ Some x
slot_behind slots front back k x is there = ap (λ l. slot_at l (length front + k)) is ∙ get_or-append-add front back k None ∙ there

spent_behind : {A : Type 0} (slots front back : List (Option A)) (k : ℕ) → slots ≡ front ++ back → slice_set slots (length front + k) None ≡ front ++ slice_set back k None
spent_behind slots front back k is =
    let behind : length front + k - length front ≡ k = omega arith in
    ap (λ l. slice_set l (length front + k) None) is ∙ set-append_right front back (length front) (length front + k) None refl (omega arith)
    ∙ ap (λ n. front ++ slice_set back n None) behind

-- ---- makings

made_kept : (enabled : Bool) (t : Tables) (before at lane place site : ℕ) (callsite : Callsite) (values : ValueSet) (under : RequestParent) (up : Scope)
    (xs hs : List (Option Scope)) (ys gs : List (Option ScopeGuard)) (items : List Attached) → Within xs ys lane hs gs items before t
    → (scope : Scope) × Within xs ys lane (hs ++ Some scope ∷ []) gs items at
    (after_effect t (if enabled then span_effect (here_at generated_setup t at place) site callsite values under up else disabled_effect (here_at generated_setup t at place)))
made_kept true t before at lane place site callsite values under up xs hs ys gs items w = (
  length t.spans ∷ up,
  record {
    handles = ap (λ l. l ++ Some (length t.spans ∷ up) ∷ []) w.handles ∙ append_assoc xs hs (Some (length t.spans ∷ up) ∷ []);
    guards = w.guards;
    contexts = w.contexts;
    moment = omega arith;
  },
)
made_kept false t before at lane place site callsite values under up xs hs ys gs items w = (
  [],
  record {
    handles = ap (λ l. l ++ Some [] ∷ []) w.handles ∙ append_assoc xs hs (Some [] ∷ []);
    guards = w.guards;
    contexts = w.contexts;
    moment = omega arith;
  },
)

abbrev web_request_site : Callsite
web_request_site = generated_site (codes "request") (codes "web") kind.Span (codes "otel.kind" ∷ codes "id" ∷ [])

abbrev query_site : Callsite
query_site = generated_site (codes "query") (codes "web::db") kind.Span []

abbrev row_site : Callsite
row_site = generated_site (codes "row") (codes "web::db") kind.Event (codes "message" ∷ [])

root_step : (t : Tables) (before at lane place i : ℕ) (xs hs : List (Option Scope)) (ys gs : List (Option ScopeGuard)) (items : List Attached)
    → Within xs ys lane hs gs items before t → OnTime t.moment at place
    → Steps t (asked at place (root_call i)) (λ u. (scope : Scope) × Within xs ys lane (hs ++ Some scope ∷ []) gs items at u)
root_step t before at lane place i xs hs ys gs items w on = record {
  effect = new_effect (here_at generated_setup t at place) 0 web_request_site (values_of web_request_site (root_fields i)) put.Root [];
  is = resolved t at place (root_call i) on;
  now = made_kept (admits_on generated_setup t (id_at generated_setup.ids place) web_request_site) t before at lane place 0 web_request_site (values_of web_request_site (root_fields i)) put.Root [] xs hs ys gs items w;
}

below_step : (t : Tables) (before at lane place : ℕ) (xs hs : List (Option Scope)) (ys gs : List (Option ScopeGuard)) (items : List Attached)
    → Within xs ys lane hs gs items before t → OnTime t.moment at place
    → Steps t (asked at place below_call) (λ u. (scope : Scope) × Within xs ys lane (hs ++ Some scope ∷ []) gs items at u)
below_step t before at lane place xs hs ys gs items w on =
    let up = scope_of t.spans (current_of (t.entries (id_at generated_setup.ids place))) in
    record {
      effect = new_effect (here_at generated_setup t at place) 1 query_site (values_of query_site []) put.Contextual up;
      is = resolved t at place below_call on;
      now = made_kept (admits_on generated_setup t (id_at generated_setup.ids place) query_site) t before at lane place 1 query_site (values_of query_site []) put.Contextual up xs hs ys gs items w;
    }

-- ---- events

event_step : (t : Tables) (before at lane place : ℕ) (xs hs : List (Option Scope)) (ys gs : List (Option ScopeGuard)) (items : List Attached)
    → Within xs ys lane hs gs items before t → OnTime t.moment at place → Steps t (asked at place event_call) (Within xs ys lane hs gs items at)
event_step t before at lane place xs hs ys gs items w on =
    let id = id_at generated_setup.ids place in
    record {
      effect = event_effect (here_at generated_setup t at place) row_site (values_of row_site row_fields) (scope_of t.spans (current_of (t.entries id)));
      is = resolved t at place event_call on;
      now = record { handles = w.handles; guards = w.guards; contexts = w.contexts; moment = omega arith };
    }

-- ---- entries

abbrev entry : ℕ → ℕ → Scope → ScopeGuard
entry handle place scope = record { handle = handle; place = place; owns = false; scope = scope }

attached_more : (contexts : ℕ → List Attached) (lane : ℕ) (items : List Attached) (new : Option Attached) → ((l : ℕ) → contexts l ≡ (if lane == l then items else []))
    → (l : ℕ) → with_attached contexts lane new l ≡ (if lane == l then items ++ option_to_list new else [])
attached_more contexts lane items None is l = is l ∙ ap (λ (xs : List Attached). if lane == l then xs else []) (sym (append-nil items))
attached_more contexts lane items (Some a) is l = by_case (lane == l) refl
  where
    by_case : (b : Bool) → (lane == l) ≡ b → (if b then contexts lane ++ a ∷ [] else contexts l) ≡ (if b then items ++ a ∷ [] else [])
    by_case true e = ap (λ (xs : List Attached). xs ++ a ∷ []) (is lane ∙ rw (same lane) refl)
    by_case false e = is l ∙ rw e refl

owned_entry : (t : Tables) (at : ℕ) (scope : Scope) → OwnedBy scope (option_to_list (entry_context t.recording at (activated_span true scope)))
owned_entry t at [] = refl
owned_entry t at (s ∷ up) = (_, refl)

not_full : (some : Bool) (items : List Attached) → length items ≤ 2 → (some && is_full items) ≡ false
not_full some items few = rw (unequal (length items) few) (and_false some)
  where
    unequal : (n : ℕ) → n ≤ 2 → (n == 65534) ≡ false
    unequal n few = grind (arith, nat_tests, few)

    and_false : (b : Bool) → (b && false) ≡ false
    and_false true = refl
    and_false false = refl

enter_step : (t : Tables) (before at place k : ℕ) (scope : Scope) (xs hs : List (Option Scope)) (ys gs : List (Option ScopeGuard)) (items : List Attached)
    → Within xs ys (id_at generated_setup.ids place) hs gs items before t → OnTime t.moment at place → slot_at hs k ≡ Some scope → length items ≤ 2
    → Steps t (asked at place (call.Enter (length xs + k)))
    (λ u. (new : List Attached) × OwnedBy scope new × Within xs ys (id_at generated_setup.ids place) hs (gs ++ Some (entry (length xs + k) place scope) ∷ []) (items ++ new) at u)
enter_step t before at place k scope xs hs ys gs items w on there few =
    let lane = id_at generated_setup.ids place in
    let handle = length xs + k in
    let here : t.contexts lane ≡ items = w.contexts lane ∙ rw (same lane) refl in
    record {
      effect = enter_effect (here_at generated_setup t at place) handle false scope;
      is = resolved t at place (call.Enter handle) on
          ∙ rw (slot_behind t.handles xs hs k scope w.handles there, here, not_full (is_some (activated_span true scope)) items few) refl;
      now = (
        option_to_list (entry_context t.recording at (activated_span true scope)),
        owned_entry t at scope,
        record {
          handles = w.handles;
          guards = ap (λ l. l ++ Some (entry handle place scope) ∷ []) w.guards ∙ append_assoc ys gs (Some (entry handle place scope) ∷ []);
          contexts = attached_more t.contexts lane items (entry_context t.recording at (activated_span true scope)) w.contexts;
          moment = omega arith;
        },
      );
    }

-- ---- exits

last_gone : (p : Attached → Bool) (items : List Attached) (a : Attached) → p a ≡ true → without_last p (items ++ a ∷ []) ≡ items
last_gone p [] a is = rw is refl
last_gone p (x ∷ items) a is = rw (list_any-append p items (a ∷ []), is, or_true (list_any p items), last_gone p items a is) refl
  where
    or_true : (b : Bool) → (b || true) ≡ true
    or_true true = refl
    or_true false = refl

detached_one : (contexts : ℕ → List Attached) (lane : ℕ) (items rest new : List Attached) (scope : Scope) → ((l : ℕ) → contexts l ≡ (if lane == l then items else []))
    → items ≡ rest ++ new → OwnedBy scope new → (l : ℕ) → with_detached contexts lane (option_map EntryOf (activated_span true scope)) l ≡ (if lane == l then rest else [])
detached_one contexts lane items rest new [] is all none l = is l ∙ ap (λ (xs : List Attached). if lane == l then xs else []) (all ∙ ap (λ (xs : List Attached). rest ++ xs) none ∙ append-nil rest)
detached_one contexts lane items rest new (s ∷ up) is all owned l = by_case (lane == l) refl
  where
    here : contexts lane ≡ items
    here = is lane ∙ rw (same lane) refl

    gone : without_last (is_attached_by (EntryOf s)) (contexts lane) ≡ rest
    gone = ap (without_last (is_attached_by (EntryOf s))) (here ∙ all ∙ ap (λ (xs : List Attached). rest ++ xs) owned.1)
        ∙ last_gone (is_attached_by (EntryOf s)) rest (record { owner = EntryOf s; context = owned.0 }) (same s)

    by_case : (b : Bool) → (lane == l) ≡ b → (if b then without_last (is_attached_by (EntryOf s)) (contexts lane) else contexts l) ≡ (if b then rest else [])
    by_case true e = gone
    by_case false e = is l ∙ rw e refl

exit_step : (t : Tables) (before at place k handle : ℕ) (scope : Scope) (xs hs : List (Option Scope)) (ys gs : List (Option ScopeGuard)) (items rest new : List Attached)
    → Within xs ys (id_at generated_setup.ids place) hs gs items before t → OnTime t.moment at place → slot_at gs k ≡ Some (entry handle place scope)
    → items ≡ rest ++ new → OwnedBy scope new
    → Steps t (asked at place (call.Exit (length ys + k))) (Within xs ys (id_at generated_setup.ids place) hs (slice_set gs k None) rest at)
exit_step t before at place k handle scope xs hs ys gs items rest new w on there all owned =
    let lane = id_at generated_setup.ids place in
    record {
      effect = exit_effect (here_at generated_setup t at place) (length ys + k) scope;
      is = resolved t at place (call.Exit (length ys + k)) on
          ∙ rw (slot_behind t.guards ys gs k (entry handle place scope) w.guards there, same place) refl;
      now = record {
        handles = w.handles;
        guards = spent_behind t.guards ys gs k w.guards;
        contexts = detached_one t.contexts lane items rest new scope w.contexts all owned;
        moment = omega arith;
      };
    }

-- ---- drops

drop_step : (t : Tables) (before at place k : ℕ) (scope : Scope) (xs hs : List (Option Scope)) (ys gs : List (Option ScopeGuard)) (items : List Attached)
    → Within xs ys (id_at generated_setup.ids place) hs gs items before t → OnTime t.moment at place → slot_at hs k ≡ Some scope
    → list_any (borrows (length xs + k)) ys ≡ false → list_any (borrows (length xs + k)) gs ≡ false
    → Steps t (asked at place (call.Drop (length xs + k))) (Within xs ys (id_at generated_setup.ids place) (slice_set hs k None) gs items at)
drop_step t before at place k scope xs hs ys gs items w on there before_none none =
    let handle = length xs + k in
    let free : is_borrowed t.guards handle ≡ false = ap (list_any (borrows handle)) w.guards ∙ list_any-append (borrows handle) ys gs ∙ rw (before_none, none) refl in
    record {
      effect = drop_effect (here_at generated_setup t at place) handle scope;
      is = resolved t at place (call.Drop handle) on ∙ rw (slot_behind t.handles xs hs k scope w.handles there, free) refl;
      now = record {
        handles = spent_behind t.handles xs hs k w.handles;
        guards = w.guards;
        contexts = w.contexts;
        moment = omega arith;
      };
    }

-- ---- a round

-- All handles and guards of the rounds before are spent, and no lane has a context.
pub record Ready (i : ℕ) (t : Tables) : Type 0 where
  pub handles : length t.handles ≡ 2 * i
  pub guards : length t.guards ≡ 2 * i
  pub free : (handle : ℕ) → list_any (borrows handle) t.guards ≡ false
  pub contexts : (l : ℕ) → t.contexts l ≡ []
  pub moment : t.moment ≤ 1000 * i

none_ready : Ready 0 (made_tables [])
none_ready = record { handles = refl; guards = refl; free = λ handle. refl; contexts = λ l. refl; moment = omega arith }

in_lane : (b : Bool) (items : List Attached) → (if b then items else items) ≡ items
in_lane true items = refl
in_lane false items = refl

begins : (i : ℕ) (t : Tables) (lane : ℕ) → Ready i t → Within t.handles t.guards lane [] [] [] (1000 * i) t
begins i t lane r = record {
  handles = sym (append-nil t.handles);
  guards = sym (append-nil t.guards);
  contexts = λ l. r.contexts l ∙ sym (in_lane (lane == l) []);
  moment = r.moment;
}

ends : (i lane at : ℕ) (xs : List (Option Scope)) (ys : List (Option ScopeGuard)) (t : Tables) → length xs ≡ 2 * i → length ys ≡ 2 * i → ((handle : ℕ) → list_any (borrows handle) ys ≡ false)
    → at ≤ 1000 * (i + 1) → Within xs ys lane (None ∷ None ∷ []) (None ∷ None ∷ []) [] at t → Ready (i + 1) t
ends i lane at xs ys t handles guards free early w = record {
  handles = ap (λ (l : List (Option Scope)). length l) w.handles ∙ length-append xs (None ∷ None ∷ []) ∙ omega (arith, handles);
  guards = ap (λ (l : List (Option ScopeGuard)). length l) w.guards ∙ length-append ys (None ∷ None ∷ []) ∙ omega (arith, guards);
  free = λ handle. ap (list_any (borrows handle)) w.guards ∙ list_any-append (borrows handle) ys (None ∷ None ∷ []) ∙ rw (free handle) refl;
  contexts = λ l. w.contexts l ∙ in_lane (lane == l) [];
  moment = omega (arith, early, w.moment);
}

two_lanes : (n : ℕ) → n < 2 → slice_get generated_setup.ids n ≡ Some (id_at generated_setup.ids n)
two_lanes zero few = refl
two_lanes (suc zero) few = refl
two_lanes (suc (suc n)) few = absurd (omega (arith, few))

timely : (i before mid at : ℕ) → before ≤ mid → mid ≤ at → at ≤ 10 ^ 8 → OnTime before at (i % 2)
timely i before mid at early later fits = (omega (arith, early, later), omega (arith, fits), two_lanes (i % 2) (omega arith))

-- a round whose handles and guards have these numbers
abbrev round_of : ℕ → ℕ → ℕ → ℕ → ℕ → List Request
round_of i p q e f =
    asked (1000 * i + 0) (i % 2) (root_call i)
    ∷ asked (1000 * i + 10) (i % 2) (call.Enter p)
    ∷ asked (1000 * i + 20) (i % 2) below_call
    ∷ asked (1000 * i + 30) (i % 2) (call.Enter q)
    ∷ asked (1000 * i + 40) (i % 2) event_call
    ∷ asked (1000 * i + 50) (i % 2) (call.Exit f)
    ∷ asked (1000 * i + 60) (i % 2) (call.Drop q)
    ∷ asked (1000 * i + 70) (i % 2) (call.Exit e)
    ∷ asked (1000 * i + 80) (i % 2) (call.Drop p) ∷ []

other_handle : (m : ℕ) → (m + 0 == m + 1) ≡ false
other_handle m = grind (arith, nat_tests)

few_items : (scope : Scope) (items : List Attached) → OwnedBy scope items → length items ≤ 2
few_items [] items owned = omega (arith, ap (λ (l : List Attached). length l) owned)
few_items (s ∷ up) items owned = omega (arith, ap (λ (l : List Attached). length l) owned.1)

round_behind : (i : ℕ) (h : History) → i < 50000 → Ready i (made_tables h)
    → Replays h (round_of i (length (made_tables h).handles + 0) (length (made_tables h).handles + 1) (length (made_tables h).guards + 0) (length (made_tables h).guards + 1)) (Ready (i + 1))
round_behind i h few r =
    let at = 1000 * i in
    let place = i % 2 in
    let lane = id_at generated_setup.ids place in
    let xs = (made_tables h).handles in
    let ys = (made_tables h).guards in
    let m = length xs in
    let n = length ys in
    let free = r.free in
    followed h _ _ _ _ (one h _ _ (root_step (made_tables h) at (at + 0) lane place i xs [] ys [] [] (begins i (made_tables h) lane r) (timely i _ at (at + 0) r.moment (omega arith) (omega (arith, few))))) (λ h1 w1.
    followed h1 _ _ _ _ (one h1 _ _ (enter_step (made_tables h1) (at + 0) (at + 10) place 0 w1.0 xs (Some w1.0 ∷ []) ys [] [] w1.1 (timely i _ (at + 0) (at + 10) w1.1.moment (omega arith) (omega (arith, few))) refl (omega arith))) (λ h2 w2.
    followed h2 _ _ _ _ (one h2 _ _ (below_step (made_tables h2) (at + 10) (at + 20) lane place xs _ ys _ _ w2.2 (timely i _ (at + 10) (at + 20) w2.2.moment (omega arith) (omega (arith, few))))) (λ h3 w3.
    followed h3 _ _ _ _ (one h3 _ _ (enter_step (made_tables h3) (at + 20) (at + 30) place 1 w3.0 xs _ ys _ w2.0 w3.1 (timely i _ (at + 20) (at + 30) w3.1.moment (omega arith) (omega (arith, few))) refl (few_items w1.0 w2.0 w2.1))) (λ h4 w4.
    followed h4 _ _ _ _ (one h4 _ _ (event_step (made_tables h4) (at + 30) (at + 40) lane place xs _ ys _ _ w4.2 (timely i _ (at + 30) (at + 40) w4.2.moment (omega arith) (omega (arith, few))))) (λ h5 w5.
    followed h5 _ _ _ _ (one h5 _ _ (exit_step (made_tables h5) (at + 40) (at + 50) place 1 (m + 1) w3.0 xs _ ys _ _ w2.0 w4.0 w5 (timely i _ (at + 40) (at + 50) w5.moment (omega arith) (omega (arith, few))) refl refl w4.1)) (λ h6 w6.
    followed h6 _ _ _ _ (one h6 _ _ (drop_step (made_tables h6) (at + 50) (at + 60) place 1 w3.0 xs _ ys _ _ w6 (timely i _ (at + 50) (at + 60) w6.moment (omega arith) (omega (arith, few))) refl (free (m + 1)) (rw (other_handle m) refl))) (λ h7 w7.
    followed h7 _ _ _ _ (one h7 _ _ (exit_step (made_tables h7) (at + 60) (at + 70) place 0 (m + 0) w1.0 xs _ ys _ w2.0 [] w2.0 w7 (timely i _ (at + 60) (at + 70) w7.moment (omega arith) (omega (arith, few))) refl refl w2.1)) (λ h8 w8.
    one h8 _ _ (steps_on _ _ _ _ (drop_step (made_tables h8) (at + 70) (at + 80) place 0 w1.0 xs _ ys _ _ w8 (timely i _ (at + 70) (at + 80) w8.moment (omega arith) (omega (arith, few))) refl (free (m + 0)) refl)
    (λ u w. ends i lane (at + 80) xs ys u r.handles r.guards free (omega arith) w))))))))))

round_replays : (i : ℕ) (h : History) → i < 50000 → Ready i (made_tables h) → Replays h (requests_of_round i) (Ready (i + 1))
round_replays i h few r =
    let m = length (made_tables h).handles in
    let n = length (made_tables h).guards in
    let p : m + 0 ≡ 2 * i = omega (arith, r.handles) in
    let q : m + 1 ≡ 2 * i + 1 = omega (arith, r.handles) in
    let e : n + 0 ≡ 2 * i = omega (arith, r.guards) in
    let f : n + 1 ≡ 2 * i + 1 = omega (arith, r.guards) in
    subst (λ k. Replays h (round_of i k (2 * i + 1) (2 * i) (2 * i + 1)) (Ready (i + 1))) p
    (subst (λ k. Replays h (round_of i (m + 0) k (2 * i) (2 * i + 1)) (Ready (i + 1))) q
    (subst (λ k. Replays h (round_of i (m + 0) (m + 1) k (2 * i + 1)) (Ready (i + 1))) e
    (subst (λ k. Replays h (round_of i (m + 0) (m + 1) (n + 0) k) (Ready (i + 1))) f (round_behind i h few r))))

rounds_replay : (first n : ℕ) (h : History) → first + n ≤ 50000 → Ready first (made_tables h) → Replays h (requests_of_rounds first n) (Ready (first + n))
rounds_replay first zero h few r =
    let none : first ≡ first + 0 = omega arith in
    record { history = h; replays = λ more. refl; now = subst (λ k. Ready k (made_tables h)) none r }
rounds_replay first (suc n) h few r =
    let next : (first + 1) + n ≡ first + suc n = omega arith in
    followed h (requests_of_round first) (requests_of_rounds (first + 1) n) (Ready (first + 1)) (Ready (first + suc n)) (round_replays first h (omega (arith, few)) r)
    (λ g s. subst (λ k. Replays g (requests_of_rounds (first + 1) n) (Ready k)) next (rounds_replay (first + 1) n g (omega (arith, few)) s))

pub made_replays : (n : ℕ) → n ≤ 50000 → ((h : History) × (history_after generated_setup [] (generated_requests n) ≡ Some h))
made_replays n few =
    let all = rounds_replay 0 n [] (omega (arith, few)) none_ready in
    (all.history, ap (history_after generated_setup []) (sym (append-nil (generated_requests n))) ∙ all.replays [])
