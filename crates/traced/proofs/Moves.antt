-- What each call keeps and makes.
use Rattle.std.proofs.Common.{◌≡◌, ℕ, zero, suc, ◌+◌, ◌≤◌, ◌<◌, List, [], ◌∷◌, length, Option, Some, None, Result, Ok, Err, refl, sym, ap, ◌∙◌, subst, arith, inl, inr, count_by, slice_get, ◌==◌, OnOk, OnErr, IfOk, IfSome}
use Rattle.traced.proofs.Common.{option_map_or, cases_eq, get_or_past, Memory, ValueSet, Callsite, Lane, Parent, Ghosts, WorldValue, dispatch_on, Span, Spans, no_span, span_at, entries_on, parent_on, SubscriberCall, NewSpan, Event, Enter, Exit, spans_after_call, IsLive, IsLiveParent, TracksAttached, Replaced, ChangesPlainData, KeepsPlainData, Chain, ChainChangesPlainData, spans_in, kept_in, no_spans, HeldSpan, Handle, IsKnown, IsOf, HasOn, Makes, MakesIf, MayMakeIf, ReplacedIf, ReplacedOn, EntryGuard, KeepsLaneButRoom, KeepsKnown, KeepsHandles, KeepsOthers, as_many, shown, alike, chain_shown, IsLawful, AreAtMost, AreServed, StandsReady, IsHeld, CanClose, IsAsBefore, IsOfNewest, HadNoHandle, HasMade, IsLiveOn, GainsEntry, HasEntered, TellsEventIf, Enters, Refuses, IsUnchanged}
use Rattle.otel_base.specs.declared.enter_error.EnterError.{EnterError}
use Rattle.trace_base.specs.Sound.{IsSound}
use Rattle.trace_base.proofs.Sound.{parent_live}
use Rattle.span_handles.proofs.KnownHandlesLemmas.{handles_same}
use Rattle.traced.proofs.changes.Counts.{more, with_new, with_entry, with_exit, with_closes}
use Rattle.traced.proofs.changes.Restored.{unchanged, closes, exits, IsReleasedOn, IsExitedOn}
use Rattle.traced.proofs.Elsewhere.{beside, same_sites, same_global, alike_there, count_on, others_served, still_apart, attached_on_lane, stands_after}

-- what is within a list is there
pub get_there : {X : Type 0} (xs : List X) (n : ℕ) → n < length xs → (x : X) × (slice_get xs n ≡ Some x)
get_there [] n within = absurd (omega (arith, within))
get_there (x ∷ xs) zero within = (x, refl)
get_there (x ∷ xs) (suc n) within = get_there xs n (omega (arith, within))

-- what is read of a subscriber that is there
pub read_there : {S : Type 0} (sub : Ghosts S) (world : WorldValue S) (dispatch : ℕ) (s : S) → slice_get world.subscribers dispatch ≡ Some s → spans_in sub.spans world dispatch ≡ sub.spans s
read_there {S} sub world dispatch s there = ap (λ (o : Option S). option_map_or sub.spans o no_spans) there

pub later : {S : Type 0} (sub : Ghosts S) (n m dispatch sites : ℕ) (world : WorldValue S) (lanes : List Lane) → n ≤ m → StandsReady sub n dispatch sites world lanes → StandsReady sub m dispatch sites world lanes
later sub n m dispatch sites world lanes within stands = record {
  there = stands.there;
  whole = stands.whole;
  few = more n m (spans_in sub.spans world dispatch) within stands.few;
  declared = stands.declared;
  served = stands.served;
}

pub stays_same : {S : Type 0} (sub : Ghosts S) (old new : WorldValue S) → new ≡ old → IsUnchanged sub old new
stays_same {S} sub old new same = subst (λ (w : WorldValue S). IsUnchanged sub old w) (sym same) (record {
  alike = λ d. record { spans_same = refl; attaches_same = refl; kept_same = refl; count = refl; whole = λ w. w };
  sites = refl;
  global = refl;
  known = record { known = λ held known. known; beside = λ others held known. known };
})

-- a step that leaves all that is read
pub stays_step : {S : Type 0} (sub : Ghosts S) (R : S → S → Type 0) → ((s t : S) → R s t → sub.spans t ≡ sub.spans s) → ((s t : S) → R s t → sub.attaches t ≡ sub.attaches s) → ((s t : S) → R s t → sub.kept t ≡ sub.kept s)
    → ((s t : S) → R s t → sub.is_whole s → sub.is_whole t) → (old new : WorldValue S) (dispatch : ℕ) → Replaced R old new dispatch → IsUnchanged sub old new
stays_step {S} sub R a b c e old new dispatch r = record {
  alike = λ d. elim (cases_eq d dispatch) [
    | inl here ↦ subst (λ (k : ℕ). KeepsPlainData sub.spans sub.attaches sub.kept sub.is_whole old new k) (sym here) (alike sub.spans sub.attaches sub.kept sub.is_whole R a b c e old new dispatch r)
    | inr other ↦ alike_there sub old new d (beside R old new dispatch r d other) (as_many R old new dispatch r)
  ];
  sites = same_sites R old new dispatch r;
  global = same_global R old new dispatch r;
  known = handles_same sub.spans R a old new dispatch r;
}

pub stays_stands : {S : Type 0} (sub : Ghosts S) (n dispatch sites : ℕ) (old new : WorldValue S) (lanes : List Lane) → IsUnchanged sub old new → StandsReady sub n dispatch sites old lanes → StandsReady sub n dispatch sites new lanes
stays_stands sub n dispatch sites old new lanes stays stands =
    let a = stays.alike dispatch in
    stands_after sub n n dispatch sites old new lanes a.count stays.sites stays.global a.whole (λ few. subst (AreAtMost n) (sym a.spans_same) few) a.kept_same stands

pub stays_as_before : {S : Type 0} (sub : Ghosts S) (dispatch : ℕ) (old new : WorldValue S) → IsUnchanged sub old new → IsAsBefore sub dispatch old new
stays_as_before sub dispatch old new stays = record { known = stays.known.known; as_before = unchanged _ _ (stays.alike dispatch).spans_same }

-- a handle that is known has a live span
pub live_on : {S : Type 0} (sub : Ghosts S) (dispatch : ℕ) (world : WorldValue S) (held : HeldSpan) → IsOf held dispatch → IsKnown sub.spans world held → IsLiveOn held (spans_in sub.spans world dispatch)
live_on sub dispatch world None own known = tt
live_on {S} sub dispatch world (Some h) own known =
    let g = get_there world.subscribers h.0 known.0 in
    let holds = known.1 g.0 g.1 in
    let read = ap (λ (v : Spans). (span_at v.made h.1).holds) (subst (λ (d : ℕ). spans_in sub.spans world d ≡ sub.spans g.0) own (read_there sub world h.0 g.0 g.1)) in
    omega (arith, holds, read)

module _ {S : Type 0} (sub : Ghosts S) (law : IsLawful sub) where
  by_call : (old new : WorldValue S) (dispatch : ℕ) (call : SubscriberCall) → Replaced (λ s t. sub.does s call t) old new dispatch → ChangesPlainData sub.spans sub.attaches sub.kept sub.is_whole old new dispatch call
  by_call old new dispatch call r = shown sub.spans sub.attaches sub.kept sub.is_whole sub.does law.shows law.keeps_lanes law.keeps_attaches law.keeps_whole old new dispatch call r

  pub room_stays : (old new : WorldValue S) (dispatch : ℕ) → Replaced sub.same_but_room old new dispatch → IsUnchanged sub old new
  room_stays old new dispatch r = stays_step sub sub.same_but_room law.same_spans law.same_attaches law.same_kept law.same_whole old new dispatch r

  pub room_stays_if : (old new : WorldValue S) (o : Option ℕ) → ReplacedIf sub.same_but_room old new o → IsUnchanged sub old new
  room_stays_if old new None r = stays_same sub old new r
  room_stays_if old new (Some e) r = room_stays old new e r

  pub room_stays_on : (old new : WorldValue S) (held : HeldSpan) → ReplacedOn (λ id s t. sub.same_but_room s t) old new held → IsUnchanged sub old new
  room_stays_on old new None r = stays_same sub old new r
  room_stays_on old new (Some h) r = room_stays old new h.0 r

  -- an event
  pub told : (old new : WorldValue S) (dispatch : ℕ) (lane : Lane) (at : ℕ) (parent : Parent) (site : ℕ) (callsite : Callsite) (values : ValueSet) → Replaced (λ s t. sub.does s (Event lane at parent site callsite values) t) old new dispatch → IsUnchanged sub old new
  told old new dispatch lane at parent site callsite values r =
      let call : SubscriberCall = Event lane at parent site callsite values in
      stays_step sub (λ s t. sub.does s call t) (λ s t e. law.shows s call t e) (λ s t e. law.keeps_attaches s call t e) (λ s t e. law.keeps_lanes s call t e) (λ s t e. law.keeps_whole s call t e) old new dispatch r

  pub told_if : (old new : WorldValue S) (lane : Lane) (at : ℕ) (parent : Parent) (site : ℕ) (values : ValueSet) (o : Option ℕ) (result : Result (Unit {0}) Memory) → OnOk result (TellsEventIf sub.does old new lane at parent site values o) → OnErr result (ReplacedIf sub.same_but_room old new o) → IsUnchanged sub old new
  told_if old new lane at parent site values None (Ok done) did left = stays_same sub old new did
  told_if old new lane at parent site values (Some d) (Ok done) did left = told old new d lane at parent site did.callsite values did.told
  told_if old new lane at parent site values o (Err memory) did left = room_stays_if old new o left

  -- the same lanes are served by a subscriber that a call leaves as it is
  stands_beside : (n m dispatch sites : ℕ) (R : S → S → Type 0) (old new : WorldValue S) (e : ℕ) (lanes : List Lane) → n ≤ m → Replaced R old new e → (dispatch ≡ e → ⊥) → StandsReady sub n dispatch sites old lanes → StandsReady sub m dispatch sites new lanes
  stands_beside n m dispatch sites R old new e lanes within r other stands =
      let a = alike_there sub old new dispatch (beside R old new e r dispatch other) (as_many R old new e r) in
      stands_after sub n m dispatch sites old new lanes a.count (same_sites R old new e r) (same_global R old new e r) a.whole
      (λ few. subst (AreAtMost m) (sym a.spans_same) (more n m (spans_in sub.spans old dispatch) within few)) a.kept_same stands

  -- a span
  pub made : (n dispatch sites : ℕ) (old new : WorldValue S) (lanes : List Lane) (lane : Lane) (at : ℕ) (parent : Parent) (site : ℕ) (values : ValueSet) (o : Option ℕ) (result : Result Handle Memory)
      → IfOk result (MakesIf sub.spans sub.does old new lane at parent site values o) → OnErr result (ReplacedIf sub.same_but_room old new o) → StandsReady sub n dispatch sites old lanes → StandsReady sub (n + 1) dispatch sites new lanes
  made n dispatch sites old new lanes lane at parent site values None (Ok handle) did left stands =
      later sub n (n + 1) dispatch sites new lanes (omega arith) (subst (λ (w : WorldValue S). StandsReady sub n dispatch sites w lanes) (sym did.1) stands)
  made n dispatch sites old new lanes lane at parent site values (Some e) (Ok handle) did left stands =
      let call : SubscriberCall = NewSpan lane at parent site did.callsite values in
      let r : Replaced (λ s t. sub.does s call t) old new e = record { before = did.made.before; later = did.made.later; there = did.made.there; did = did.made.did.1; others = did.made.others } in
      elim (cases_eq dispatch e) [
        | inl here ↦ (
            let sh : ChangesPlainData sub.spans sub.attaches sub.kept sub.is_whole old new dispatch call = subst (λ (d : ℕ). ChangesPlainData sub.spans sub.attaches sub.kept sub.is_whole old new d call) (sym here) (by_call old new e call r) in
            let x = spans_in sub.spans old dispatch in
            stands_after sub n (n + 1) dispatch sites old new lanes sh.count (same_sites _ old new e r) (same_global _ old new e r) sh.whole
            (λ few. subst (AreAtMost (n + 1)) (sym sh.spans_after) (with_new n x (parent_on (entries_on lane.id x.lanes) parent) site few)) sh.lanes stands)
        | inr other ↦ stands_beside n (n + 1) dispatch sites _ old new e lanes (omega arith) r other stands
      ]
  made n dispatch sites old new lanes lane at parent site values o (Err memory) did left stands =
      later sub n (n + 1) dispatch sites new lanes (omega arith) (stays_stands sub n dispatch sites old new lanes (room_stays_if old new o left) stands)

  pub made_one : (dispatch : ℕ) (old new : WorldValue S) (lane : Lane) (at : ℕ) (parent : Parent) (site : ℕ) (values : ValueSet) (o : Option ℕ) (result : Result Handle Memory)
      → IfOk result (MakesIf sub.spans sub.does old new lane at parent site values o) → IfOk result (λ handle. IsKnown sub.spans new handle.held) → KeepsHandles sub.spans old new → o ≡ Some dispatch → IfOk result (HasMade sub dispatch old new)
  made_one dispatch old new lane at parent site values o (Err memory) did known keeps serves = tt
  made_one dispatch old new lane at parent site values o (Ok handle) did known keeps serves =
      let makes : Makes sub.spans sub.does old new lane at parent site values dispatch handle = subst (λ (p : Option ℕ). MakesIf sub.spans sub.does old new lane at parent site values p handle) serves did in
      let call : SubscriberCall = NewSpan lane at parent site makes.callsite values in
      let r : Replaced (λ s t. sub.does s call t) old new dispatch = record { before = makes.made.before; later = makes.made.later; there = makes.made.there; did = makes.made.did.1; others = makes.made.others } in
      let sh = by_call old new dispatch call r in
      let x = spans_in sub.spans old dispatch in
      let read : x ≡ sub.spans r.before = read_there sub old dispatch r.before r.there in
      let is_sound : IsSound x = subst IsSound (sym read) (law.sound r.before call r.later r.did) in
      let may : IsLiveParent x.made parent = subst (λ (v : Spans). IsLiveParent v.made parent) (sym read) (law.allowed r.before call r.later r.did) in
      let of_it : handle.held ≡ Some (dispatch, makes.id) = ap (λ (h : Handle). h.held) makes.handle_is in
      record {
        known = keeps.known;
        held = record { known = known; of_dispatch = subst (λ (h : HeldSpan). IsOf h dispatch) (sym of_it) refl };
        is_new = subst (λ (h : HeldSpan). HadNoHandle sub old h) (sym of_it) (λ old_known. (
            let holds = old_known.1 r.before r.there in
            let past = ap (λ (s : Span). s.holds) (get_or_past (sub.spans r.before).made makes.id no_span (let e = makes.made.did.0 in omega (arith, e))) in
            omega (arith, holds, past)));
        newest = subst (λ (h : HeldSpan). IsOfNewest x (spans_in sub.spans new dispatch) h) (sym of_it) (record {
          above = parent_on (entries_on lane.id x.lanes) parent;
          site = site;
          is = makes.made.did.0 ∙ sym (ap (λ (v : Spans). length v.made) read);
          live = λ p is. live_above (parent_on (entries_on lane.id x.lanes) parent) p x (parent_live x lane.id parent is_sound may) is;
          made = unchanged _ (spans_in sub.spans new dispatch) sh.spans_after;
        });
      }
    where
      live_above : (above : Option ℕ) (p : ℕ) (x : Spans) → IfSome above (λ q. IsLive x.made q) → above ≡ Some p → 0 < (span_at x.made p).holds
      live_above None p x live is = absurd (cc is)
      live_above (Some q) p x live is = (let e : q ≡ p = cc is in subst (λ (k : ℕ). IsLive x.made k) e live)

  pub made_global : (old new : WorldValue S) (lane : Lane) (at : ℕ) (parent : Parent) (site : ℕ) (values : ValueSet) (o : Option ℕ) (result : Result Handle Memory) → IfOk result (MakesIf sub.spans sub.does old new lane at parent site values o) → OnErr result (ReplacedIf sub.same_but_room old new o) → new.global ≡ old.global
  made_global old new lane at parent site values None (Ok handle) did left = ap (λ (w : WorldValue S). w.global) did.1
  made_global old new lane at parent site values (Some e) (Ok handle) did left = ap (λ (w : WorldValue S). w.global) did.made.others
  made_global old new lane at parent site values o (Err memory) did left = (room_stays_if old new o left).global

  pub made_count : (old new : WorldValue S) (lane : Lane) (at : ℕ) (parent : Parent) (site : ℕ) (values : ValueSet) (o : Option ℕ) (result : Result Handle Memory) → IfOk result (MakesIf sub.spans sub.does old new lane at parent site values o) → OnErr result (ReplacedIf sub.same_but_room old new o) → length new.subscribers ≡ length old.subscribers
  made_count old new lane at parent site values None (Ok handle) did left = ap (λ (w : WorldValue S). length w.subscribers) did.1
  made_count old new lane at parent site values (Some e) (Ok handle) did left = as_many _ old new e did.made
  made_count old new lane at parent site values o (Err memory) did left = ((room_stays_if old new o left).alike 0).count

  -- its handle can be closed
  pub made_can_close : (old new : WorldValue S) (lane : Lane) (at : ℕ) (parent : Parent) (site : ℕ) (values : ValueSet) (o : Option ℕ) (result : Result Handle Memory) → IfOk result (MakesIf sub.spans sub.does old new lane at parent site values o)
      → IfOk result (λ handle. IsKnown sub.spans new handle.held) → MayMakeIf sub.spans sub.is_whole old lane.id parent o → IfOk result (CanClose sub new)
  made_can_close old new lane at parent site values o (Err memory) did known may = tt
  made_can_close old new lane at parent site values None (Ok handle) did known may = record {
    known = known;
    whole = subst (λ (h : Handle). HasOn (λ s id. sub.is_whole s) new h.held) (sym did.0) tt;
  }
  made_can_close old new lane at parent site values (Some e) (Ok handle) did known may =
      let call : SubscriberCall = NewSpan lane at parent site did.callsite values in
      let r : Replaced (λ s t. sub.does s call t) old new e = record { before = did.made.before; later = did.made.later; there = did.made.there; did = did.made.did.1; others = did.made.others } in
      record {
        known = known;
        whole = subst (λ (h : Handle). HasOn (λ s id. sub.is_whole s) new h.held) (sym did.handle_is) ((by_call old new e call r).whole may.whole);
      }

  pub none_made : (old new : WorldValue S) (o : Option ℕ) (result : Result Handle Memory) → OnErr result (ReplacedIf sub.same_but_room old new o) → OnErr result ((dispatch : ℕ) → IsAsBefore sub dispatch old new)
  none_made old new o (Ok handle) left = tt
  none_made old new o (Err memory) left = λ dispatch. stays_as_before sub dispatch old new (room_stays_if old new o left)

  -- a close
  pub closed : (n dispatch sites : ℕ) (old new : WorldValue S) (lanes : List Lane) (at : ℕ) (held : HeldSpan) → ReplacedOn (λ id s t. Chain sub.spans sub.does at (Some id) s t) old new held → StandsReady sub n dispatch sites old lanes → StandsReady sub n dispatch sites new lanes
  closed n dispatch sites old new lanes at None did stands = subst (λ (w : WorldValue S). StandsReady sub n dispatch sites w lanes) (sym did) stands
  closed n dispatch sites old new lanes at (Some h) did stands = elim (cases_eq dispatch h.0) [
    | inl here ↦ (
        let sh : ChainChangesPlainData sub.spans sub.attaches sub.kept sub.is_whole old new dispatch h.1 = subst (λ (d : ℕ). ChainChangesPlainData sub.spans sub.attaches sub.kept sub.is_whole old new d h.1) (sym here) (chain old new h at did) in
        stands_after sub n n dispatch sites old new lanes sh.count (same_sites _ old new h.0 did) (same_global _ old new h.0 did) sh.whole
        (λ few. (with_closes n (Some h.1) (spans_in sub.spans old dispatch) (spans_in sub.spans new dispatch) sh.released few).0) sh.kept_same stands)
    | inr other ↦ stands_beside n n dispatch sites _ old new h.0 lanes (omega arith) did other stands
  ] where
    chain : (old new : WorldValue S) (h : ℕ × ℕ) (at : ℕ) → Replaced (λ s t. Chain sub.spans sub.does at (Some h.1) s t) old new h.0 → ChainChangesPlainData sub.spans sub.attaches sub.kept sub.is_whole old new h.0 h.1
    chain old new h at r = chain_shown sub.spans sub.attaches sub.kept sub.is_whole sub.does law.allowed law.shows law.keeps_lanes law.keeps_attaches law.keeps_whole at old new h.0 h.1 r

  pub closed_global : (old new : WorldValue S) (at : ℕ) (held : HeldSpan) → ReplacedOn (λ id s t. Chain sub.spans sub.does at (Some id) s t) old new held → new.global ≡ old.global
  closed_global old new at None did = ap (λ (w : WorldValue S). w.global) did
  closed_global old new at (Some h) did = ap (λ (w : WorldValue S). w.global) did.others

  released_spans : (dispatch : ℕ) (old new : WorldValue S) (at : ℕ) (held : HeldSpan) → IsOf held dispatch → ReplacedOn (λ id s t. Chain sub.spans sub.does at (Some id) s t) old new held → IsReleasedOn held (spans_in sub.spans old dispatch) (spans_in sub.spans new dispatch)
  released_spans dispatch old new at None own did = ap (λ (w : WorldValue S). spans_in sub.spans w dispatch) did
  released_spans dispatch old new at (Some h) own did =
      let r : Replaced (λ s t. Chain sub.spans sub.does at (Some h.1) s t) old new dispatch = subst (λ (d : ℕ). Replaced (λ s t. Chain sub.spans sub.does at (Some h.1) s t) old new d) own did in
      (chain_shown sub.spans sub.attaches sub.kept sub.is_whole sub.does law.allowed law.shows law.keeps_lanes law.keeps_attaches law.keeps_whole at old new dispatch h.1 r).released

  known_beside : (before old new : WorldValue S) (at : ℕ) (held : HeldSpan) → HadNoHandle sub before held → KeepsKnown sub.spans before old → KeepsOthers sub.spans old new held → ReplacedOn (λ id s t. Chain sub.spans sub.does at (Some id) s t) old new held → KeepsKnown sub.spans before new
  known_beside before old new at None apart keeps others did q known = subst (λ (w : WorldValue S). IsKnown sub.spans w q) (sym did) (keeps q known)
  known_beside before old new at (Some h) apart keeps others did q known = others.known q (λ here. apart (subst (λ (o : HeldSpan). IsKnown sub.spans before o) here known)) (keeps q known)

  pub closed_again : (dispatch : ℕ) (before old new : WorldValue S) (at : ℕ) (handle : Handle) → ReplacedOn (λ id s t. Chain sub.spans sub.does at (Some id) s t) old new handle.held → KeepsOthers sub.spans old new handle.held → HasMade sub dispatch before old handle → IsAsBefore sub dispatch before new
  closed_again dispatch before old new at handle did others made = record {
    known = known_beside before old new at handle.held made.is_new made.known others did;
    as_before = closes handle.held (spans_in sub.spans before dispatch) (spans_in sub.spans old dispatch) (spans_in sub.spans new dispatch) made.newest (released_spans dispatch old new at handle.held made.held.of_dispatch did);
  }

  -- the lane of an entry or an exit has other contexts
  on_lane : (n m dispatch sites : ℕ) (call : SubscriberCall) (old new : WorldValue S) (before left : Lane) (others : List Lane) → ChangesPlainData sub.spans sub.attaches sub.kept sub.is_whole old new dispatch call → new.sites ≡ old.sites → new.global ≡ old.global
      → left.id ≡ before.id → left.default ≡ before.default → TracksAttached (kept_in sub.kept old dispatch) before left (kept_in sub.kept new dispatch) → (AreAtMost n (spans_in sub.spans old dispatch) → AreAtMost m (spans_after_call (spans_in sub.spans old dispatch) call))
      → StandsReady sub n dispatch sites old (before ∷ others) → StandsReady sub m dispatch sites new (left ∷ others)
  on_lane n m dispatch sites call old new before left others sh same global id default keeps few stands =
      let kept = kept_in sub.kept old dispatch in
      let now = kept_in sub.kept new dispatch in
      record {
        there = (let k = sh.count in omega (arith, k, stands.there));
        whole = sh.whole stands.whole;
        few = subst (AreAtMost m) (sym sh.spans_after) (few stands.few);
        declared = (let e = ap (λ (cs : List Callsite). length cs) same in omega (arith, e, stands.declared));
        served = subst (λ (o : Option ℕ). AreServed o now dispatch (left ∷ others)) (sym global) (
          record {
            serves = ap (λ (o : Option ℕ). dispatch_on o old.global) default ∙ stands.served.0.serves;
            attached = attached_on_lane kept now before left id keeps stands.served.0.attached;
          },
          still_apart before left others id stands.served.1,
          others_served old.global kept now dispatch before left others id keeps stands.served.1 stands.served.2,
        );
      }

  -- an entry
  pub entered_on : (n dispatch sites : ℕ) (old new : WorldValue S) (before left : Lane) (others : List Lane) (at : ℕ) (held : HeldSpan) → IsOf held dispatch → ReplacedOn (λ id s t. sub.does s (Enter id at before left) t) old new held → (held ≡ None → left ≡ before)
      → StandsReady sub n dispatch sites old (before ∷ others) → StandsReady sub (n + 1) dispatch sites new (left ∷ others)
  entered_on n dispatch sites old new before left others at None own did none stands =
      subst (λ (l : Lane). StandsReady sub (n + 1) dispatch sites new (l ∷ others)) (sym (none refl)) (later sub n (n + 1) dispatch sites new (before ∷ others) (omega arith) (subst (λ (w : WorldValue S). StandsReady sub n dispatch sites w (before ∷ others)) (sym did) stands))
  entered_on n dispatch sites old new before left others at (Some h) own did none stands =
      let call : SubscriberCall = Enter h.1 at before left in
      let r : Replaced (λ s t. sub.does s call t) old new dispatch = subst (λ (d : ℕ). Replaced (λ s t. sub.does s call t) old new d) own did in
      let sh = by_call old new dispatch call r in
      on_lane n (n + 1) dispatch sites call old new before left others sh (same_sites _ old new dispatch r) (same_global _ old new dispatch r) sh.lanes.0.id sh.lanes.0.default sh.lanes.1 (with_entry n (spans_in sub.spans old dispatch) h.1 before.id) stands

  lane_same : (old new : WorldValue S) (before left : Lane) (at : ℕ) (held : HeldSpan) → ReplacedOn (λ id s t. sub.does s (Enter id at before left) t) old new held → (held ≡ None → left ≡ before) → left.id ≡ before.id
  lane_same old new before left at None did none = ap (λ (l : Lane). l.id) (none refl)
  lane_same old new before left at (Some h) did none = (by_call old new h.0 (Enter h.1 at before left) did).lanes.0.id

  -- one that is refused
  pub refused_on : (n dispatch sites : ℕ) (old new : WorldValue S) (before left : Lane) (others : List Lane) (held : HeldSpan) → ReplacedOn (λ id s t. sub.same_but_room s t) old new held → KeepsLaneButRoom before left
      → StandsReady sub n dispatch sites old (before ∷ others) → StandsReady sub n dispatch sites new (left ∷ others)
  refused_on n dispatch sites old new before left others held did leaves stands =
      let s = stays_stands sub n dispatch sites old new (before ∷ others) (room_stays_on old new held did) stands in
      record {
        there = s.there;
        whole = s.whole;
        few = s.few;
        declared = s.declared;
        served = (
          record {
            serves = ap (λ (o : Option ℕ). dispatch_on o new.global) leaves.default ∙ s.served.0.serves;
            attached = λ number. (
                let i = ap (λ (l : ℕ). kept_in sub.kept new dispatch l number) leaves.id in
                let a = ap (λ xs. count_by (λ item. item.0 == number) xs) leaves.live in
                let b = s.served.0.attached number in
                omega (arith, i, a, b));
          },
          still_apart before left others leaves.id s.served.1,
          s.served.2,
        );
      }

  entered_spans : (dispatch : ℕ) (old new : WorldValue S) (before left : Lane) (at : ℕ) (held : HeldSpan) → IsOf held dispatch → ReplacedOn (λ id s t. sub.does s (Enter id at before left) t) old new held → GainsEntry held before.id (spans_in sub.spans old dispatch) (spans_in sub.spans new dispatch)
  entered_spans dispatch old new before left at None own did = unchanged _ _ (ap (λ (w : WorldValue S). spans_in sub.spans w dispatch) did)
  entered_spans dispatch old new before left at (Some h) own did =
      let call : SubscriberCall = Enter h.1 at before left in
      let r : Replaced (λ s t. sub.does s call t) old new dispatch = subst (λ (d : ℕ). Replaced (λ s t. sub.does s call t) old new d) own did in
      unchanged _ _ (by_call old new dispatch call r).spans_after

  pub has_entered : (dispatch : ℕ) (old new : WorldValue S) (before left : Lane) (at : ℕ) (handle : Handle) (guard : EntryGuard) → guard ≡ record { span = handle; lane = before.id } → IsHeld sub dispatch old handle → IsKnown sub.spans new handle.held → KeepsKnown sub.spans old new
      → ReplacedOn (λ id s t. sub.does s (Enter id at before left) t) old new handle.held → HasEntered sub dispatch old new guard
  has_entered dispatch old new before left at handle guard is held known keeps did = subst (λ (o : EntryGuard). HasEntered sub dispatch old new o) (sym is) (record {
    known = keeps;
    held = record { known = known; of_dispatch = held.of_dispatch };
    live = live_on sub dispatch old handle.held held.of_dispatch held.known;
    entered_once = entered_spans dispatch old new before left at handle.held held.of_dispatch did;
  })

  pub enters : (old new : WorldValue S) (before left : Lane) (at : ℕ) (handle : Handle) (result : Result EntryGuard EnterError) → IfOk result (λ guard. guard ≡ record { span = handle; lane = before.id }) → IsKnown sub.spans new handle.held → KeepsHandles sub.spans old new
      → OnOk result (ReplacedOn (λ id s t. sub.does s (Enter id at before left) t) old new handle.held) → (handle.held ≡ None → left ≡ before) → IfOk result (Enters sub old new before left at handle)
  enters old new before left at handle (Err error) is known keeps did none = tt
  enters old new before left at handle (Ok guard) is known keeps did none = record {
    did = did;
    none = none;
    lane_id = lane_same old new before left at handle.held did none;
    count = count_on _ old new handle.held did;
    of = ap (λ (o : EntryGuard). o.span) is;
    on = ap (λ (o : EntryGuard). o.lane) is;
    stands = λ most dispatch sites others held stands. entered_on most dispatch sites old new before left others at handle.held held.of_dispatch did none stands;
    entered = λ dispatch held. has_entered dispatch old new before left at handle guard is held known keeps.known did;
  }

  pub refuses : (old new : WorldValue S) (before left : Lane) (handle : Handle) (result : Result EntryGuard EnterError) → OnErr result (ReplacedOn (λ id s t. sub.same_but_room s t) old new handle.held) → OnErr result (KeepsLaneButRoom before left) → OnErr result (Refuses sub old new before left handle)
  refuses old new before left handle (Ok guard) same leaves = tt
  refuses old new before left handle (Err error) same leaves = record {
    room = same;
    lane_room = leaves;
    count = count_on _ old new handle.held same;
    stands = λ most dispatch sites others stands. refused_on most dispatch sites old new before left others handle.held same leaves stands;
    as_before = λ dispatch. stays_as_before sub dispatch old new (room_stays_on old new handle.held same);
  }

  -- an exit
  pub exited_on : (n dispatch sites : ℕ) (old new : WorldValue S) (before left : Lane) (others : List Lane) (at : ℕ) (held : HeldSpan) → IsOf held dispatch → ReplacedOn (λ id s t. sub.does s (Exit id at before left) t) old new held → (held ≡ None → left ≡ before)
      → StandsReady sub n dispatch sites old (before ∷ others) → StandsReady sub n dispatch sites new (left ∷ others)
  exited_on n dispatch sites old new before left others at None own did none stands =
      subst (λ (l : Lane). StandsReady sub n dispatch sites new (l ∷ others)) (sym (none refl)) (subst (λ (w : WorldValue S). StandsReady sub n dispatch sites w (before ∷ others)) (sym did) stands)
  exited_on n dispatch sites old new before left others at (Some h) own did none stands =
      let call : SubscriberCall = Exit h.1 at before left in
      let r : Replaced (λ s t. sub.does s call t) old new dispatch = subst (λ (d : ℕ). Replaced (λ s t. sub.does s call t) old new d) own did in
      let sh = by_call old new dispatch call r in
      on_lane n n dispatch sites call old new before left others sh (same_sites _ old new dispatch r) (same_global _ old new dispatch r) sh.lanes.0.id sh.lanes.0.default sh.lanes.1 (with_exit n (spans_in sub.spans old dispatch) h.1 before.id) stands

  pub lane_left : (old new : WorldValue S) (before left : Lane) (at : ℕ) (held : HeldSpan) → ReplacedOn (λ id s t. sub.does s (Exit id at before left) t) old new held → (held ≡ None → left ≡ before) → left.id ≡ before.id
  lane_left old new before left at None did none = ap (λ (l : Lane). l.id) (none refl)
  lane_left old new before left at (Some h) did none = (by_call old new h.0 (Exit h.1 at before left) did).lanes.0.id

  exited_spans : (dispatch : ℕ) (old new : WorldValue S) (before left : Lane) (at : ℕ) (held : HeldSpan) → IsOf held dispatch → ReplacedOn (λ id s t. sub.does s (Exit id at before left) t) old new held → IsExitedOn held before.id (spans_in sub.spans old dispatch) (spans_in sub.spans new dispatch)
  exited_spans dispatch old new before left at None own did = ap (λ (w : WorldValue S). spans_in sub.spans w dispatch) did
  exited_spans dispatch old new before left at (Some h) own did =
      let call : SubscriberCall = Exit h.1 at before left in
      let r : Replaced (λ s t. sub.does s call t) old new dispatch = subst (λ (d : ℕ). Replaced (λ s t. sub.does s call t) old new d) own did in
      (by_call old new dispatch call r).spans_after

  pub exited_again : (dispatch : ℕ) (start old new : WorldValue S) (before left : Lane) (at : ℕ) (guard : EntryGuard) → before.id ≡ guard.lane → ReplacedOn (λ id s t. sub.does s (Exit id at before left) t) old new guard.span.held → KeepsKnown sub.spans old new → HasEntered sub dispatch start old guard → IsAsBefore sub dispatch start new
  exited_again dispatch start old new before left at guard on did keeps entered = record {
    known = λ q known. keeps q (entered.known q known);
    as_before = exits guard.span.held (spans_in sub.spans start dispatch) (spans_in sub.spans old dispatch) (spans_in sub.spans new dispatch) guard.lane entered.live entered.entered_once
        (subst (λ (l : ℕ). IsExitedOn guard.span.held l (spans_in sub.spans old dispatch) (spans_in sub.spans new dispatch)) on (exited_spans dispatch old new before left at guard.span.held entered.held.of_dispatch did));
  }
