-- Polls over a tape spell their requests.
use Rattle.std.proofs.Common.{◌≡◌, ℕ, zero, suc, ◌+◌, ◌-◌, ◌<◌, ◌^◌, List, [], ◌∷◌, ◌++◌, length, map, Bool, true, Option, Some, None, refl, sym, ap, subst, ◌∙◌, arith, slice_get, slice_set, append_assoc, ◌==◌, ◌&&◌, if◌then◌else◌, nat_lt}
use Rattle.std.proofs.lemmas.List.{append-nil, length_push}
use Rattle.trace_tasks.proofs.Common.{cond-true, Callsite, Lane, Enter, Exit, TryClose, with_span_entry, with_span_exit, cached_at, Span, Spans, span_at, entries_on, with_hold, without_hold, without_last, parent_to_release, Replaced, Chain, ended, closes, Handle, HeldSpan, ReplacedOn, handle_of, BeginsInside, Request, TapeValue, DoesTape, on_first_lane, is_entry_of, is_due, without_handle, exit_requests, drop_requests, handle_count_of, one_more, TouchesTape, is_live, Step, steps_now, steps_left, TaskScene, CarriesEnter, CarriesExit, UnfinishedTask, step_call, moment_of, drop_at_end, poll_requests, tape_spans, CarriesTape, StepsAreDeclared, root_of_one_handle}
use Rattle.std.proofs.lemmas.Bool.{eq-eqb, lt-ltb}
use Rattle.otel_state.specs.Stack.{last_passing}
use Rattle.trace_tape.specs.declared.opened.OpenEntry.{OpenEntry}
use Rattle.span_script.specs.declared.request.Call.TheVariants as call
use Rattle.trace_tasks.specs.TapeTurns.{BetweenPolls, HeldOnce}
use Rattle.trace_tasks.proofs.polls.EntryLemmas.{get_push}
use Rattle.trace_tasks.proofs.queues.RootLemmas.{back, entered_made, entered_entries, exited_made, exited_entries, no_next}
use Rattle.trace_tasks.proofs.tapes.SpelledLemmas.{one_call}
use Rattle.trace_tasks.proofs.tapes.PollLemmas.{steps_add}

pub split : (d : ℕ) (rs more : List Request) (s t : TaskScene TapeValue) → CarriesTape d (rs ++ more) s t → (m : TaskScene TapeValue) × CarriesTape d rs s m × CarriesTape d more m t
split d [] more s t did = (s, refl, did)
split d (r ∷ rs) more s t (x, one, rest) = (let two = split d rs more x t rest in (two.0, (x, one, two.1), two.2))

the_held : (a b : HeldSpan) → ◌≡◌ {A = Option HeldSpan} (Some a) (Some b) → a ≡ b
the_held a b e = cc e

the_handle : (a b : Handle) → ◌≡◌ {A = Option Handle} (Some a) (Some b) → a ≡ b
the_handle a b e = cc e

-- what a poll made of a tape and of a task
pub record Polled (d : ℕ) (sites : List Callsite) (k : ℕ) (t : UnfinishedTask) (s m : TaskScene TapeValue) (tape : TapeValue) : Type 0 where
  pub now : TapeValue
  pub between : BetweenPolls d sites (k + 1) m now
  pub requests : now.requests ≡ tape.requests ++ poll_requests sites k t
  pub handles : m.handles ≡ s.handles
  pub others : (n : ℕ) → (n ≡ t.number → ⊥) → (span_at now.below.spans.made n ≡ span_at tape.below.spans.made n) × (handle_count_of now.handle_counts n ≡ handle_count_of tape.handle_counts n)
  pub left : (rest : List Step) → steps_left t.steps ≡ Some rest → (now.below.spans.made ≡ tape.below.spans.made) × (now.handle_counts ≡ tape.handle_counts)

handles_other : (xs : List ℕ) (i n y : ℕ) → (n ≡ i → ⊥) → handle_count_of (slice_set xs i y) n ≡ handle_count_of xs n
handles_other [] i n y apart = refl
handles_other (x ∷ xs) zero zero y apart = absurd (apart refl)
handles_other (x ∷ xs) zero (suc n) y apart = refl
handles_other (x ∷ xs) (suc i) zero y apart = refl
handles_other (x ∷ xs) (suc i) (suc n) y apart = handles_other xs i n y (λ e. apart (ap suc e))

others_stay : (made : List Span) (id q : ℕ) → (q ≡ id → ⊥) → span_at (without_hold made id) q ≡ span_at made q
others_stay [] id q apart = refl
others_stay (x ∷ made) zero zero apart = absurd (apart refl)
others_stay (x ∷ made) zero (suc q) apart = refl
others_stay (x ∷ made) (suc id) zero apart = refl
others_stay (x ∷ made) (suc id) (suc q) apart = others_stay made id q (λ e. apart (ap suc e))

-- a chain of a span whose parent isn't to be released is one release
chain_none : (d at : ℕ) (o : Option ℕ) (s t : TapeValue) → Chain tape_spans DoesTape at o s t → o ≡ None → t ≡ s
chain_none d at _ _ _ (ended s) is = refl
chain_none d at _ _ _ (closes id s m t did rest) is = absurd (cc is)

chain_one : (d at : ℕ) (o : Option ℕ) (s t : TapeValue) → Chain tape_spans DoesTape at o s t → (id : ℕ) → o ≡ Some id → parent_to_release s.below.spans.made id ≡ None → DoesTape s (TryClose id at) t
chain_one d at _ _ _ (ended s) id is none = absurd (cc is)
chain_one d at _ _ _ (closes i s m t did rest) id is none =
    let same : i ≡ id = cc is in
    let last : t ≡ m = chain_none d at (parent_to_release s.below.spans.made i) m t rest (ap (λ (n : ℕ). parent_to_release s.below.spans.made n) same ∙ none) in
    subst (λ (x : TapeValue). DoesTape s (TryClose id at) x) (sym last) (subst (λ (n : ℕ). DoesTape s (TryClose n at) m) same did)

held_live : (made : List Span) (id site : ℕ) → span_at made id ≡ root_of_one_handle site → (span_at (with_hold made id) id).holds ≡ 2
held_live [] id site is = absurd (let e = ap (λ (x : Span). x.holds) is in omega (arith, e))
held_live (x ∷ made) zero site is = ap (λ (y : Span). y.holds + 1) is
held_live (x ∷ made) (suc id) site is = held_live made id site is

opened_is : (l n k : ℕ) → is_entry_of l n (record { lane = l; id = n; guard = k }) ≡ true
opened_is l n k = ap (λ (b : Bool). b && (n == n)) (eq-eqb l l refl) ∙ eq-eqb n n refl

-- the one entry that is open is taken out
last_is : (p : OpenEntry → Bool) (o : OpenEntry) → p o ≡ true → last_passing p (o ∷ []) ≡ Some o
last_is p o is = ap (λ (b : Bool). if b then Some o else None) is

without_is : (p : OpenEntry → Bool) (o : OpenEntry) → p o ≡ true → without_last p (o ∷ []) ≡ []
without_is p o is = ap (λ (b : Bool). if b then [] else o ∷ []) is

few_more : (k : ℕ) → k < 2 ^ 63 → one_more k ≡ k + 1
few_more k few = cond-true {A = ℕ} (nat_lt k (2 ^ 64 - 1)) (k + 1) k (lt-ltb k (2 ^ 64 - 1) (omega (arith, few)))

-- ---- the entry, the steps and the exit

module _ (d : ℕ) (sites : List Callsite) (k : ℕ) (t : UnfinishedTask) (few : k < 2 ^ 63) (c : Callsite) (site_is : slice_get sites t.site ≡ Some c) (tested : StepsAreDeclared sites t.steps) where
  -- between the entry and the exit
  pub record Inside (s m : TaskScene TapeValue) (tape : TapeValue) (rs : List Request) : Type 0 where
    pub now : TapeValue
    pub there : slice_get m.world.subscribers d ≡ Some now
    pub spans_are : now.below.spans ≡ with_span_entry tape.below.spans t.number s.lane.id
    pub due : now.due ≡ None
    pub entries : now.entries ≡ record { lane = s.lane.id; id = t.number; guard = k } ∷ []
    pub guards : now.made_guard_count ≡ k + 1
    pub spells : now.requests ≡ tape.requests ++ rs
    pub holds : now.handle_counts ≡ tape.handle_counts
    pub sites_are : m.world.sites ≡ sites
    pub cached : m.world.cached ≡ s.world.cached
    pub lane : m.lane ≡ s.lane
    pub table : m.handles ≡ s.handles
    pub guarded : m.guards ≡ s.guards ++ Some (d, t.number) ∷ []

  enters : (s e : TaskScene TapeValue) (tape : TapeValue) → BetweenPolls d sites k s tape → HeldOnce d s tape t → CarriesEnter tape_spans (λ x. None) (λ x lane c. true) DoesTape TouchesTape d (moment_of k) t.number s e → Inside s e tape (on_first_lane (moment_of k) (call.Enter t.number) ∷ [])
  enters s e tape between waits enter =
      let n : ℕ = t.number in
      let a : ℕ = moment_of k in
      let handle_is : enter.handle ≡ handle_of d n t.site = the_handle enter.handle (handle_of d n t.site) (sym enter.is ∙ waits.handle) in
      let held_is : enter.handle.held ≡ Some (d, n) = ap (λ (h : Handle). h.held) handle_is in
      let began : BeginsInside DoesTape a (Some (d, n)) s.world s.lane e.world e.lane = subst (λ (h : Handle). BeginsInside DoesTape a h.held s.world s.lane e.world e.lane) handle_is enter.begins in
      let r : Replaced (λ x y. DoesTape x (Enter n a s.lane e.lane) y) s.world e.world d = began.entered in
      let one = one_call s.world e.world d tape (Enter n a s.lane e.lane) between.there r in
      record {
        now = one.now;
        there = one.there;
        spans_are = one.spans_are;
        due = ap (λ (x : TapeValue). x.due) one.is ∙ between.no_due;
        entries = ap (λ (x : TapeValue). x.entries) one.is ∙ ap (λ (xs : List OpenEntry). xs ++ record { lane = s.lane.id; id = n; guard = tape.made_guard_count } ∷ []) between.no_entries
            ∙ ap (λ (g : ℕ). let o : OpenEntry = record { lane = s.lane.id; id = n; guard = g } in o ∷ []) between.guards;
        guards = ap (λ (x : TapeValue). x.made_guard_count) one.is ∙ ap one_more between.guards ∙ few_more k few;
        spells = ap (λ (x : TapeValue). x.requests) one.is;
        holds = ap (λ (x : TapeValue). x.handle_counts) one.is;
        sites_are = one.sites ∙ between.sites_are;
        cached = one.cached;
        lane = r.did.below.lane;
        table = enter.handles;
        guarded = enter.guards ∙ ap (λ (h : HeldSpan). s.guards ++ h ∷ []) held_is;
      }

  -- the steps
  acts : (s e m : TaskScene TapeValue) (tape : TapeValue) → BetweenPolls d sites k s tape → HeldOnce d s tape t → (rs : List Request) → Inside s e tape rs
      → CarriesTape d (map (λ x. on_first_lane (moment_of k) (step_call sites t x)) (steps_now t.steps)) e m → Inside s m tape (rs ++ map (λ x. on_first_lane (moment_of k) (step_call sites t x)) (steps_now t.steps))
  acts s e m tape between waits rs inside did =
      let n : ℕ = t.number in
      let steps : List Request = map (λ x. on_first_lane (moment_of k) (step_call sites t x)) (steps_now t.steps) in
      let live : is_live inside.now.below.spans n ≡ true =
      ap (λ (x : Spans). nat_lt 0 (span_at x.made n).holds) inside.spans_are ∙ ap (λ (made : List Span). nat_lt 0 (span_at made n).holds) (entered_made tape.below.spans n s.lane.id between.none_open)
      ∙ ap (λ (h : ℕ). nat_lt 0 h) (held_live tape.below.spans.made n t.site waits.lone) in
      let adds = steps_add d sites t (moment_of k) c site_is t.steps tested e m inside.now inside.there inside.sites_are (λ i less. ap (λ x. cached_at x d i) inside.cached ∙ between.cached i less)
      (ap (λ (hs : List Handle). slice_get hs n) inside.table ∙ waits.handle) live did in
      record {
        now = adds.now;
        there = adds.there;
        spans_are = adds.spans_same ∙ inside.spans_are;
        due = ap (λ (x : TapeValue). x.due) adds.is ∙ inside.due;
        entries = ap (λ (x : TapeValue). x.entries) adds.is ∙ inside.entries;
        guards = ap (λ (x : TapeValue). x.made_guard_count) adds.is ∙ inside.guards;
        spells = ap (λ (x : TapeValue). x.requests) adds.is ∙ ap (λ (qs : List Request). qs ++ steps) inside.spells ∙ append_assoc tape.requests rs steps;
        holds = ap (λ (x : TapeValue). x.handle_counts) adds.is ∙ inside.holds;
        sites_are = adds.sites ∙ inside.sites_are;
        cached = adds.cached ∙ inside.cached;
        lane = adds.lane ∙ inside.lane;
        table = adds.handles ∙ inside.table;
        guarded = adds.guards ∙ inside.guarded;
      }

  -- after the exit
  pub record Outside (s m : TaskScene TapeValue) (tape : TapeValue) (rs : List Request) : Type 0 where
    pub now : TapeValue
    pub between : BetweenPolls d sites (k + 1) m now
    pub made : now.below.spans.made ≡ tape.below.spans.made
    pub spells : now.requests ≡ tape.requests ++ rs
    pub holds : now.handle_counts ≡ tape.handle_counts
    pub table : m.handles ≡ s.handles

  leaves : (s e m : TaskScene TapeValue) (tape : TapeValue) → BetweenPolls d sites k s tape → HeldOnce d s tape t → (rs : List Request) → Inside s e tape rs → CarriesExit tape_spans (λ x. None) (λ x lane c. true) DoesTape TouchesTape d (moment_of k) k e m
      → Outside s m tape (rs ++ on_first_lane (moment_of k) (call.Exit k) ∷ [])
  leaves s e m tape between waits rs inside exit =
      let n : ℕ = t.number in
      let a : ℕ = moment_of k in
      let held_is : exit.held ≡ Some (d, n) = the_held exit.held (Some (d, n)) (sym exit.is ∙ ap (λ (gs : List HeldSpan). slice_get gs k) inside.guarded ∙ get_push s.guards (Some (d, n)) k between.guard_count) in
      let r : Replaced (λ x y. DoesTape x (Exit n a e.lane m.lane) y) e.world m.world d = subst (λ (h : HeldSpan). ReplacedOn (λ id x y. DoesTape x (Exit id a e.lane m.lane) y) e.world m.world h) held_is exit.exited in
      let one = one_call e.world m.world d inside.now (Exit n a e.lane m.lane) inside.there r in
      let lane_same : m.lane ≡ e.lane = r.did.below.lane in
      let at_start : e.lane.id ≡ s.lane.id = ap (λ (l : Lane). l.id) inside.lane in
      let o : OpenEntry = record { lane = s.lane.id; id = n; guard = k } in
      let p : OpenEntry → Bool = is_entry_of e.lane.id n in
      let passes : is_entry_of e.lane.id n o ≡ true = ap (λ (l : ℕ). is_entry_of l n o) at_start ∙ opened_is s.lane.id n k in
      let y : Spans = with_span_entry tape.below.spans n s.lane.id in
      let open_one : entries_on s.lane.id y.lanes ≡ n ∷ [] = entered_entries tape.below.spans n s.lane.id between.none_open in
      let spans_now : one.now.below.spans ≡ with_span_exit y n s.lane.id = one.spans_are ∙ ap (λ (x : Spans). with_span_exit x n e.lane.id) inside.spans_are ∙ ap (λ (l : ℕ). with_span_exit y n l) at_start in
      record {
        now = one.now;
        between = record {
          there = one.there;
          sites_are = one.sites ∙ inside.sites_are;
          cached = λ i less. ap (λ x. cached_at x d i) (one.cached ∙ inside.cached) ∙ between.cached i less;
          no_due = ap (λ (x : TapeValue). x.due) one.is ∙ inside.due;
          no_entries = ap (λ (x : TapeValue). x.entries) one.is ∙ ap (λ (xs : List OpenEntry). without_last p xs) inside.entries ∙ without_is p o passes;
          guards = ap (λ (x : TapeValue). x.made_guard_count) one.is ∙ inside.guards;
          guard_count = (let l = ap (λ (gs : List HeldSpan). length gs) (exit.guards ∙ inside.guarded) in let q = length_push s.guards (Some (d, n)) in let z = between.guard_count in omega (arith, l, q, z));
          none_open = ap (λ (l : Lane). entries_on l.id one.now.below.spans.lanes) (lane_same ∙ inside.lane) ∙ ap (λ (x : Spans). entries_on s.lane.id x.lanes) spans_now ∙ exited_entries y n s.lane.id open_one;
        };
        made = ap (λ (x : Spans). x.made) spans_now ∙ exited_made y n s.lane.id open_one ∙ ap (λ (made : List Span). without_hold made n) (entered_made tape.below.spans n s.lane.id between.none_open) ∙ back tape.below.spans.made n t.site waits.lone;
        spells = ap (λ (x : TapeValue). x.requests) one.is ∙ ap (λ (qs : List Request). qs ++ exit_requests a (last_passing p inside.now.entries)) inside.spells
            ∙ ap (λ (o' : Option OpenEntry). (tape.requests ++ rs) ++ exit_requests a o') (ap (λ (xs : List OpenEntry). last_passing p xs) inside.entries ∙ last_is p o passes) ∙ append_assoc tape.requests rs (on_first_lane a (call.Exit k) ∷ []);
        holds = ap (λ (x : TapeValue). x.handle_counts) one.is ∙ inside.holds;
        table = exit.handles ∙ inside.table;
      }

  -- the handle's drop, if the task is finished
  finishes : (s e m : TaskScene TapeValue) (tape : TapeValue) → HeldOnce d s tape t → (rs : List Request) (out : Outside s e tape rs) → (o : Option (List Step)) → steps_left t.steps ≡ o → CarriesTape d (drop_at_end k t.number o) e m
      → (now : TapeValue) × BetweenPolls d sites (k + 1) m now × (now.requests ≡ tape.requests ++ (rs ++ drop_at_end k t.number o)) × (m.handles ≡ s.handles)
      × ((i : ℕ) → (i ≡ t.number → ⊥) → (span_at now.below.spans.made i ≡ span_at tape.below.spans.made i) × (handle_count_of now.handle_counts i ≡ handle_count_of tape.handle_counts i))
      × ((rest : List Step) → o ≡ Some rest → (now.below.spans.made ≡ tape.below.spans.made) × (now.handle_counts ≡ tape.handle_counts))
  finishes s e m tape waits rs out (Some later) left_is did = (
    out.now,
    subst (λ (x : TaskScene TapeValue). BetweenPolls d sites (k + 1) x out.now) (sym did) out.between,
    out.spells ∙ ap (λ (qs : List Request). tape.requests ++ qs) (sym (append-nil rs)),
    ap (λ (x : TaskScene TapeValue). x.handles) did ∙ out.table,
    λ i apart. (ap (λ (made : List Span). span_at made i) out.made, ap (λ (hs : List ℕ). handle_count_of hs i) out.holds),
    λ rest is. (out.made, out.holds),
  )
  finishes s e m tape waits rs out None left_is (x, drop, last) =
      let n : ℕ = t.number in
      let a : ℕ = moment_of k in
      let handle_is : drop.handle ≡ handle_of d n t.site = the_handle drop.handle (handle_of d n t.site) (sym drop.is ∙ ap (λ (hs : List Handle). slice_get hs n) out.table ∙ waits.handle) in
      let chain : Replaced (λ b q. Chain tape_spans DoesTape a (Some n) b q) e.world x.world d = subst (λ (h : Handle). ReplacedOn (λ id b q. Chain tape_spans DoesTape a (Some id) b q) e.world x.world h.held) handle_is drop.did.1 in
      let before_is : chain.before ≡ out.now = the_now chain.before out.now (sym chain.there ∙ out.between.there) in
      let lone : span_at out.now.below.spans.made n ≡ root_of_one_handle t.site = ap (λ (made : List Span). span_at made n) out.made ∙ waits.lone in
      let no_more : parent_to_release chain.before.below.spans.made n ≡ None = ap (λ (y : TapeValue). parent_to_release y.below.spans.made n) before_is ∙ no_next out.now.below.spans.made n t.site lone in
      let r : Replaced (λ b q. DoesTape b (TryClose n a) q) e.world x.world d = record {
        before = chain.before;
        later = chain.later;
        there = chain.there;
        did = chain_one d a (Some n) chain.before chain.later chain.did n refl no_more;
        others = chain.others;
      } in
      let one = one_call e.world x.world d out.now (TryClose n a) out.between.there r in
      let once : handle_count_of out.now.handle_counts n ≡ 1 = ap (λ (hs : List ℕ). handle_count_of hs n) out.holds ∙ waits.once in
      -- what the release is, since nothing is due
      let let_it_go : one.now ≡ record (record (without_handle out.now n a) { due = parent_to_release out.now.below.spans.made n }) { below = one.now.below } =
      one.is ∙ ap (λ (b : Bool). let y : TapeValue = record (record (if b then out.now else without_handle out.now n a) { due = parent_to_release out.now.below.spans.made n }) { below = one.now.below } in y) (ap (λ (o : Option ℕ). is_due o n) out.between.no_due) in
      let spans_now : one.now.below.spans.made ≡ without_hold out.now.below.spans.made n = ap (λ (y : Spans). y.made) one.spans_are in (
        one.now,
        subst (λ (y : TaskScene TapeValue). BetweenPolls d sites (k + 1) y one.now) (sym last) (record {
          there = one.there;
          sites_are = one.sites ∙ out.between.sites_are;
          cached = λ i less. ap (λ c. cached_at c d i) one.cached ∙ out.between.cached i less;
          no_due = ap (λ (y : TapeValue). y.due) let_it_go ∙ no_next out.now.below.spans.made n t.site lone;
          no_entries = ap (λ (y : TapeValue). y.entries) let_it_go ∙ out.between.no_entries;
          guards = ap (λ (y : TapeValue). y.made_guard_count) let_it_go ∙ out.between.guards;
          guard_count = ap (λ (gs : List HeldSpan). length gs) drop.guards ∙ out.between.guard_count;
          none_open = ap (λ (l : Lane). entries_on l.id one.now.below.spans.lanes) drop.did.0 ∙ ap (λ (y : Spans). entries_on e.lane.id y.lanes) one.spans_are ∙ out.between.none_open;
        }),
        ap (λ (y : TapeValue). y.requests) let_it_go ∙ ap (λ (h : ℕ). out.now.requests ++ drop_requests a n h) once ∙ ap (λ (qs : List Request). qs ++ on_first_lane a (call.Drop n) ∷ []) out.spells ∙ append_assoc tape.requests rs (on_first_lane a (call.Drop n) ∷ []),
        ap (λ (y : TaskScene TapeValue). y.handles) last ∙ drop.handles ∙ out.table,
        (λ i apart. (
          ap (λ (made : List Span). span_at made i) spans_now ∙ others_stay out.now.below.spans.made n i apart ∙ ap (λ (made : List Span). span_at made i) out.made,
          ap (λ (y : TapeValue). handle_count_of y.handle_counts i) let_it_go ∙ handles_other out.now.handle_counts n i (handle_count_of out.now.handle_counts n - 1) apart ∙ ap (λ (hs : List ℕ). handle_count_of hs i) out.holds,
        )),
        (λ rest is. absurd (cc is)),
      ) where
        the_now : (p q : TapeValue) → ◌≡◌ {A = Option TapeValue} (Some p) (Some q) → p ≡ q
        the_now p q e = cc e

  pub poll_spells : (s m : TaskScene TapeValue) (tape : TapeValue) → BetweenPolls d sites k s tape → HeldOnce d s tape t → CarriesTape d (poll_requests sites k t) s m → Polled d sites k t s m tape
  poll_spells s m tape between waits (e, enter, rest) =
      let a : ℕ = moment_of k in
      let first : List Request = on_first_lane a (call.Enter t.number) ∷ [] in
      let steps : List Request = map (λ x. on_first_lane a (step_call sites t x)) (steps_now t.steps) in
      let last : List Request = drop_at_end k t.number (steps_left t.steps) in
      let parts = split d steps (on_first_lane a (call.Exit k) ∷ last) e m rest in
      let inside = enters s e tape between waits enter in
      let acted = acts s e parts.0 tape between waits first inside parts.1 in
      let out = leaves s parts.0 parts.2.0 tape between waits (first ++ steps) acted parts.2.1 in
      let end = finishes s parts.2.0 m tape waits ((first ++ steps) ++ on_first_lane a (call.Exit k) ∷ []) out (steps_left t.steps) refl parts.2.2 in
      record {
        now = end.0;
        between = end.1;
        requests = end.2 ∙ ap (λ (qs : List Request). tape.requests ++ qs) (append_assoc (first ++ steps) (on_first_lane a (call.Exit k) ∷ []) last);
        handles = end.3;
        others = end.4;
        left = end.5;
      }
