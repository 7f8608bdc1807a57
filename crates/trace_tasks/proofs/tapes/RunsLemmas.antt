-- Tasks that wait on a tape, and what the makings of tasks spell.
use Rattle.std.proofs.Common.{◌≡◌, ℕ, zero, suc, ◌+◌, ◌<◌, ◌^◌, List, [], ◌∷◌, ◌++◌, length, Bool, true, Option, Some, None, refl, sym, ap, subst, ◌∙◌, arith, slice_get, append_assoc, slice_index_or}
use Rattle.std.proofs.lemmas.List.{append-nil, length_push}
use Rattle.std.proofs.lemmas.Option.{slice_get_within}
use Rattle.trace_tasks.proofs.Common.{list_all, option_map_or, Callsite, Lane, SubscriberCall, NewSpan, with_new_span, WorldValue, cached_at, gate, Span, Spans, no_span, span_at, entries_on, parent_on, Replaced, spans_in, no_spans, Handle, handle_of, Request, TapeValue, DoesTape, on_first_lane, named_values, handle_count_of, TouchesTape, Step, steps_left, TaskScene, MakesGated, CarriesNew, Fields, declares, values_of, UnfinishedTask, requeue, tasks_at_first, makings, tape_spans, CarriesTape, IsDeclared, StepsAreDeclared, TasksAreDeclared, IsNewTape, ReadyToPoll, root_of_one_handle, dispatch_serving, Task, Instrumented, TaskFuture, AreBegun}
use Rattle.std.specs.Option.{option_map}
use Rattle.trace_base.specs.declared.span.Parent.TheVariants as parent
use Rattle.span_script.specs.declared.request.Call.TheVariants as call
use Rattle.span_script.specs.declared.request.RequestParent.TheVariants as request_parent
use Rattle.trace_tasks.specs.declared.script.Step.TheVariants as step
use Rattle.trace_tasks.specs.TapeTurns.{BetweenPolls, CanBePolled, HasOwnNumber, AllCanBePolled}
use Rattle.trace_tasks.proofs.tapes.PollsLemmas.{Polled}
use Rattle.trace_tasks.proofs.polls.EntryLemmas.{get_push, get_before}
use Rattle.trace_tasks.proofs.tapes.SpelledLemmas.{named_back, one_call}

the_rest : (a b : List Step) → ◌≡◌ {A = Option (List Step)} (Some a) (Some b) → a ≡ b
the_rest a b e = cc e

tested_left : (sites : List Callsite) (steps rest : List Step) → StepsAreDeclared sites steps → steps_left steps ≡ Some rest → StepsAreDeclared sites rest
tested_left sites [] rest tested is = absurd (cc is)
tested_left sites (step.Yield ∷ steps) rest tested is = subst (λ (xs : List Step). StepsAreDeclared sites xs) (the_rest steps rest is) tested
tested_left sites (step.Event site fields ∷ steps) rest tested is = tested_left sites steps rest tested.1 is
tested_left sites (step.Record fields ∷ steps) rest tested is = tested_left sites steps rest tested is
tested_left sites (step.SetAttribute key value ∷ steps) rest tested is = tested_left sites steps rest tested is

own_number_push : (t : UnfinishedTask) (ts : List UnfinishedTask) (u : UnfinishedTask) → HasOwnNumber t ts → (u.number ≡ t.number → ⊥) → HasOwnNumber t (ts ++ u ∷ [])
own_number_push t [] u all one = (one, tt)
own_number_push t (x ∷ ts) u all one = (all.0, own_number_push t ts u all.1 one)

task_pushed : (d : ℕ) (sites : List Callsite) (s : TaskScene TapeValue) (tape : TapeValue) (ts : List UnfinishedTask) (u : UnfinishedTask) → AllCanBePolled d sites s tape ts → HasOwnNumber u ts → CanBePolled d sites s tape u → AllCanBePolled d sites s tape (ts ++ u ∷ [])
task_pushed d sites s tape [] u all own one = (one, tt, tt)
task_pushed d sites s tape (t ∷ ts) u all own one = (all.0, own_number_push t ts u all.1 (λ e. own.0 (sym e)), task_pushed d sites s tape ts u all.2 own.1 one)

-- a poll of another task leaves a task as it is
other_tasks : (d : ℕ) (sites : List Callsite) (k : ℕ) (t : UnfinishedTask) (s m : TaskScene TapeValue) (tape : TapeValue) (p : Polled d sites k t s m tape) (ts : List UnfinishedTask) → HasOwnNumber t ts → AllCanBePolled d sites s tape ts → AllCanBePolled d sites m p.now ts
other_tasks d sites k t s m tape p [] own all = tt
other_tasks d sites k t s m tape p (u ∷ ts) own all = (
  record {
    waits = record {
      handle = ap (λ (hs : List Handle). slice_get hs u.number) p.handles ∙ all.0.waits.handle;
      lone = (p.others u.number own.0).0 ∙ all.0.waits.lone;
      once = (p.others u.number own.0).1 ∙ all.0.waits.once;
    };
    callsite = all.0.callsite;
    is = all.0.is;
    tested = all.0.tested;
  },
  all.1,
  other_tasks d sites k t s m tape p ts own.1 all.2,
)

pub tasks_after : (d : ℕ) (sites : List Callsite) (k : ℕ) (t : UnfinishedTask) (s m : TaskScene TapeValue) (tape : TapeValue) (p : Polled d sites k t s m tape) (ts : List UnfinishedTask) → AllCanBePolled d sites s tape (t ∷ ts) → (o : Option (List Step)) → steps_left t.steps ≡ o
    → AllCanBePolled d sites m p.now (requeue ts (option_map (λ steps. record t { steps = steps }) o))
tasks_after d sites k t s m tape p ts all None is = other_tasks d sites k t s m tape p ts all.1 all.2
tasks_after d sites k t s m tape p ts all (Some rest) is =
    let u : UnfinishedTask = record t { steps = rest } in
    let same = p.left rest is in
    task_pushed d sites m p.now ts u (other_tasks d sites k t s m tape p ts all.1 all.2) all.1 (record {
      waits = record {
        handle = ap (λ (hs : List Handle). slice_get hs t.number) p.handles ∙ all.0.waits.handle;
        lone = ap (λ (made : List Span). span_at made t.number) same.0 ∙ all.0.waits.lone;
        once = ap (λ (hs : List ℕ). handle_count_of hs t.number) same.1 ∙ all.0.waits.once;
      };
      callsite = all.0.callsite;
      is = all.0.is;
      tested = tested_left sites t.steps rest all.0.tested is;
    })

-- ---- the makings

-- a tape on which some spans were made and nothing else
pub record OnlySpansMade (d : ℕ) (sites : List Callsite) (i : ℕ) (s : TaskScene TapeValue) (tape : TapeValue) : Type 0 where
  pub between : BetweenPolls d sites 0 s tape
  pub made : length tape.below.spans.made ≡ i
  pub handles : length tape.handle_counts ≡ i
  pub table : length s.handles ≡ i

at_push : {X : Type 0} (xs : List X) (x d : X) (n : ℕ) → length xs ≡ n → slice_index_or (xs ++ x ∷ []) n d ≡ x
at_push [] x d zero is = refl
at_push [] x d (suc n) is = absurd (omega (arith, is))
at_push (y ∷ xs) x d zero is = absurd (omega (arith, is))
at_push (y ∷ xs) x d (suc n) is = at_push xs x d n (omega (arith, is))

at_before : {X : Type 0} (xs : List X) (x d : X) (n : ℕ) → n < length xs → slice_index_or (xs ++ x ∷ []) n d ≡ slice_index_or xs n d
at_before [] x d n less = absurd (omega (arith, less))
at_before (y ∷ xs) x d zero less = refl
at_before (y ∷ xs) x d (suc n) less = at_before xs x d n (omega (arith, less))

-- one making
pub record MadeOne (d : ℕ) (sites : List Callsite) (i site : ℕ) (fields : Fields) (s m : TaskScene TapeValue) (tape : TapeValue) : Type 0 where
  pub now : TapeValue
  pub making : OnlySpansMade d sites (i + 1) m now
  pub requests : now.requests ≡ tape.requests ++ on_first_lane 0 (call.New site request_parent.Contextual fields) ∷ []
  pub handle : slice_get m.handles i ≡ Some (handle_of d i site)
  pub lone : span_at now.below.spans.made i ≡ root_of_one_handle site
  pub once : handle_count_of now.handle_counts i ≡ 1
  pub earlier : (n : ℕ) → n < i → (span_at now.below.spans.made n ≡ span_at tape.below.spans.made n) × (handle_count_of now.handle_counts n ≡ handle_count_of tape.handle_counts n)
  pub before : (n : ℕ) (h : Handle) → slice_get s.handles n ≡ Some h → slice_get m.handles n ≡ Some h

make_spells : (d : ℕ) (sites : List Callsite) (i site : ℕ) (fields : Fields) (s m : TaskScene TapeValue) (tape : TapeValue) → OnlySpansMade d sites i s tape → IsDeclared (slice_get sites site) fields
    → CarriesNew tape_spans (λ x. None) (λ x lane c. true) DoesTape TouchesTape d 0 site fields s m → MadeOne d sites i site fields s m tape
make_spells d sites i site fields s m tape making declared new =
    let between = making.between in
    let c : Callsite = new.callsite in
    let found : slice_get sites site ≡ Some c = ap (λ (xs : List Callsite). slice_get xs site) (sym between.sites_are) ∙ new.is in
    let through : new.admitted ≡ true = new.gate tape c between.there new.is ∙ ap (λ i. gate i None true c.level) (between.cached site (slice_get_within sites site c found)) in
    let one_made : MakesGated tape_spans (λ x. None) (λ x lane c. true) DoesTape TouchesTape d true s.world m.world s.lane 0 site c fields new.handle = subst (λ (b : Bool). MakesGated tape_spans (λ x. None) (λ x lane c. true) DoesTape TouchesTape d b s.world m.world s.lane 0 site c fields new.handle) through new.made in
    let r = one_made.made in
    let sc : SubscriberCall = NewSpan s.lane 0 parent.Current site one_made.callsite (values_of c fields) in
    let q : Replaced (λ x y. DoesTape x sc y) s.world m.world d = record { before = r.before; later = r.later; there = r.there; did = r.did.1; others = r.others } in
    let one = one_call s.world m.world d tape sc between.there q in
    let same_site : one_made.callsite ≡ c = the_callsite one_made.callsite c (sym one_made.is ∙ new.is) in
    let before_is : r.before ≡ tape = the_tape r.before tape (sym r.there ∙ between.there) in
    let id_is : one_made.id ≡ i = r.did.0 ∙ ap (λ (x : TapeValue). length x.below.spans.made) before_is ∙ making.made in
    let grown : one.now.below.spans ≡ record tape.below.spans { made = tape.below.spans.made ++ root_of_one_handle site ∷ [] } = one.spans_are ∙ ap (λ (ids : List ℕ). with_new_span tape.below.spans (parent_on ids parent.Current) site) between.none_open in
    let made_is : one.now.below.spans.made ≡ tape.below.spans.made ++ root_of_one_handle site ∷ [] = ap (λ (x : Spans). x.made) grown in
    let held_is : one.now.handle_counts ≡ tape.handle_counts ++ 1 ∷ [] = ap (λ (x : TapeValue). x.handle_counts) one.is in
    let handle_is : new.handle ≡ handle_of d i site = one_made.handle_is ∙ ap (λ (n : ℕ). handle_of d n site) id_is in
    record {
      now = one.now;
      making = record {
        between = record {
          there = one.there;
          sites_are = one.sites ∙ between.sites_are;
          cached = λ n less. ap (λ x. cached_at x d n) one.cached ∙ between.cached n less;
          no_due = ap (λ (x : TapeValue). x.due) one.is ∙ between.no_due;
          no_entries = ap (λ (x : TapeValue). x.entries) one.is ∙ between.no_entries;
          guards = ap (λ (x : TapeValue). x.made_guard_count) one.is ∙ between.guards;
          guard_count = ap (λ gs. length gs) new.guards ∙ between.guard_count;
          none_open = ap (λ (l : Lane). entries_on l.id one.now.below.spans.lanes) new.lane ∙ ap (λ (x : Spans). entries_on s.lane.id x.lanes) grown ∙ between.none_open;
        };
        made = ap (λ (xs : List Span). length xs) made_is ∙ length_push tape.below.spans.made (root_of_one_handle site) ∙ ap (λ (n : ℕ). n + 1) making.made;
        handles = ap (λ (xs : List ℕ). length xs) held_is ∙ length_push tape.handle_counts 1 ∙ ap (λ (n : ℕ). n + 1) making.handles;
        table = ap (λ (xs : List Handle). length xs) new.handles ∙ length_push s.handles new.handle ∙ ap (λ (n : ℕ). n + 1) making.table;
      };
      requests = ap (λ (x : TapeValue). x.requests) one.is ∙ ap (λ (fs : Fields). tape.requests ++ on_first_lane 0 (call.New site request_parent.Contextual fs) ∷ []) (ap (λ (x : Callsite). named_values x (values_of c fields)) same_site ∙ named_back c fields (declared_by_it declared));
      handle = ap (λ (hs : List Handle). slice_get hs i) new.handles ∙ get_push s.handles new.handle i making.table ∙ ap (λ (h : Handle). Some h) handle_is;
      lone = ap (λ (xs : List Span). span_at xs i) made_is ∙ at_push tape.below.spans.made (root_of_one_handle site) no_span i making.made;
      once = ap (λ (xs : List ℕ). handle_count_of xs i) held_is ∙ at_push tape.handle_counts 1 0 i making.handles;
      earlier = λ n less. (
        ap (λ (xs : List Span). span_at xs n) made_is ∙ at_before tape.below.spans.made (root_of_one_handle site) no_span n (let e = making.made in omega (arith, e, less)),
        ap (λ (xs : List ℕ). handle_count_of xs n) held_is ∙ at_before tape.handle_counts 1 0 n (let e = making.handles in omega (arith, e, less)),
      );
      before = λ n h is. ap (λ (hs : List Handle). slice_get hs n) new.handles ∙ get_before s.handles new.handle h n is;
    } where
      the_callsite : (a b : Callsite) → ◌≡◌ {A = Option Callsite} (Some a) (Some b) → a ≡ b
      the_callsite a b e = cc e

      the_tape : (a b : TapeValue) → ◌≡◌ {A = Option TapeValue} (Some a) (Some b) → a ≡ b
      the_tape a b e = cc e

      declared_by_it : IsDeclared (slice_get sites site) fields → list_all (λ field. declares new.callsite field.0) fields ≡ true
      declared_by_it declared = subst (λ (o : Option Callsite). IsDeclared o fields) (ap (λ (xs : List Callsite). slice_get xs site) (sym making.between.sites_are) ∙ new.is) declared

-- the makings of tasks that were tested
pub record MadeAll (d : ℕ) (sites : List Callsite) (i : ℕ) (tasks : List Task) (s m : TaskScene TapeValue) (tape : TapeValue) : Type 0 where
  pub now : TapeValue
  pub between : BetweenPolls d sites 0 m now
  pub requests : now.requests ≡ tape.requests ++ makings tasks
  pub waiting : AllCanBePolled d sites m now (tasks_at_first i tasks)
  pub earlier : (n : ℕ) → n < i → (span_at now.below.spans.made n ≡ span_at tape.below.spans.made n) × (handle_count_of now.handle_counts n ≡ handle_count_of tape.handle_counts n)
  pub before : (n : ℕ) (h : Handle) → slice_get s.handles n ≡ Some h → slice_get m.handles n ≡ Some h

later_numbers : (j i : ℕ) (tasks : List Task) (t : UnfinishedTask) → t.number ≡ j → j < i → HasOwnNumber t (tasks_at_first i tasks)
later_numbers j i [] t is less = tt
later_numbers j i (x ∷ tasks) t is less = ((λ e. absurd (omega (arith, e, is, less))), later_numbers j (i + 1) tasks t is (omega (arith, less)))

pub makings_spell : (d : ℕ) (sites : List Callsite) (i : ℕ) (tasks : List Task) (s m : TaskScene TapeValue) (tape : TapeValue) → OnlySpansMade d sites i s tape → TasksAreDeclared sites tasks → CarriesTape d (makings tasks) s m → MadeAll d sites i tasks s m tape
makings_spell d sites i [] s m tape making tested did = record {
  now = tape;
  between = subst (λ (x : TaskScene TapeValue). BetweenPolls d sites 0 x tape) (sym did) making.between;
  requests = sym (append-nil tape.requests);
  waiting = tt;
  earlier = λ n less. (refl, refl);
  before = λ n h is. ap (λ (x : TaskScene TapeValue). slice_get x.handles n) did ∙ is;
}
makings_spell d sites i (t ∷ tasks) s m tape making tested (x, new, rest) =
    let one = make_spells d sites i t.site t.fields s x tape making tested.0 new in
    let all = makings_spell d sites (i + 1) tasks x m one.now one.making tested.2 rest in
    let u : UnfinishedTask = record { number = i; site = t.site; steps = t.steps } in
    let here : i < i + 1 = omega arith in
    record {
      now = all.now;
      between = all.between;
      requests = all.requests ∙ ap (λ (qs : List Request). qs ++ makings tasks) one.requests ∙ append_assoc tape.requests (on_first_lane 0 (call.New t.site request_parent.Contextual t.fields) ∷ []) (makings tasks);
      waiting = (
        record {
          waits = record {
            handle = all.before i (handle_of d i t.site) one.handle;
            lone = (all.earlier i here).0 ∙ one.lone;
            once = (all.earlier i here).1 ∙ one.once;
          };
          callsite = new.callsite;
          is = ap (λ (xs : List Callsite). slice_get xs t.site) (sym making.between.sites_are) ∙ new.is;
          tested = tested.1;
        },
        later_numbers i (i + 1) tasks u refl here,
        all.waiting,
      );
      earlier = λ n less. (let more : n < i + 1 = omega (arith, less) in ((all.earlier n more).0 ∙ (one.earlier n less).0, (all.earlier n more).1 ∙ (one.earlier n less).1));
      before = λ n h is. all.before n h (one.before n h is);
    }

-- ---- begun tasks

spans_there : (world : WorldValue TapeValue) (d : ℕ) (tape : TapeValue) → IsNewTape world d tape → spans_in tape_spans world d ≡ tape.below.spans
spans_there world d tape new = ap (λ (o : Option TapeValue). option_map_or tape_spans o no_spans) new.there

pub few_new : (world : WorldValue TapeValue) (d n : ℕ) (tape : TapeValue) → IsNewTape world d tape → n < 2 ^ 63 → length (spans_in tape_spans world d).made + n < 2 ^ 63
few_new world d n tape new few = (let e = ap (λ (x : Spans). length x.made) (spans_there world d tape new) in let z = ap (λ (xs : List Span). length xs) new.no_spans in omega (arith, e, z, few))

-- before the makings
pub none_made : (d : ℕ) (old : WorldValue TapeValue) (lane : Lane) (tape : TapeValue) → dispatch_serving lane ≡ d → IsNewTape old d tape → ReadyToPoll tape_spans (λ s lane number. 0) (λ s. Unit {0}) old lane → OnlySpansMade d old.sites 0 (record { world = old; lane = lane; handles = []; guards = [] }) tape
none_made d old lane tape serves new ready = record {
  between = record {
    there = new.there;
    sites_are = refl;
    cached = new.cached;
    no_due = new.no_due;
    no_entries = new.no_entries;
    guards = new.no_guards;
    guard_count = refl;
    none_open = sym (ap (λ (x : Spans). entries_on lane.id x.lanes) (spans_there old d tape new)) ∙ subst (λ (n : ℕ). entries_on lane.id (spans_in tape_spans old n).lanes ≡ []) serves ready.none_open;
  };
  made = ap (λ (xs : List Span). length xs) new.no_spans;
  handles = ap (λ (xs : List ℕ). length xs) new.no_handles;
  table = refl;
}

-- tasks that were begun over a new tape spelled their makings
pub begun_spells : (d : ℕ) (tasks : List Task) (old world : WorldValue TapeValue) (lane : Lane) (tape : TapeValue) (fs : List (Instrumented TaskFuture)) → dispatch_serving lane ≡ d → IsNewTape old d tape → ReadyToPoll tape_spans (λ s lane number. 0) (λ s. Unit {0}) old lane → TasksAreDeclared old.sites tasks
    → (b : AreBegun tape_spans (λ s. None) (λ s lane c. true) (λ s lane number. 0) (λ s. Unit {0}) DoesTape TouchesTape tasks lane old world fs)
    → MadeAll d old.sites 0 tasks (record { world = old; lane = lane; handles = []; guards = [] }) (record { world = world; lane = lane; handles = b.handles; guards = [] }) tape
begun_spells d tasks old world lane tape fs serves new ready tested b =
    let s : TaskScene TapeValue = record { world = old; lane = lane; handles = []; guards = [] } in
    let m : TaskScene TapeValue = record { world = world; lane = lane; handles = b.handles; guards = [] } in
    makings_spell d old.sites 0 tasks s m tape (none_made d old lane tape serves new ready) tested (subst (λ (n : ℕ). CarriesTape n (makings tasks) s m) serves b.carried)
