-- What a request sees of a span's own context is that of the span's record.
use Rattle.span_laws.proofs.Common.{AllByRecursion, Bool, Context, EachRecord, Effect, HasContextOf, History, IsHistory, List, MadeSpan, None, Ok, Option, Record, Request, RequestParent, Scope, SeesContextOf, Setup, Some, SpanContext, SpanData, Tables, TimedOp, [], after_effect, all_ops, ap, append_assoc, ap₂, arith, before_start, cons_option, context_of_lane, context_span, current_of, data_at, deed, effect_of, false, filter, filter_map, flat_map, flat_map-append, fold, fold-append, here_at, ids_of, ids_of_start, if◌then◌else◌, is_drop, is_in, is_open, is_some, is_start, last_or, made_span_at, map, no_tables, not, occurrences, ops_from, ops_in, ops_of, own_context_or, own_is, parent_context, parent_is, parent_source, parent_under, place_in, recorder_ids, records_of_history, refl, slice_get, start_in, starting_order, starts_of, subst, sym, tables, true, with_start, with_started, ℕ, ◌&&◌, ◌++◌, ◌<◌, ◌==◌, ◌∙◌, ◌∷◌, ◌≡◌}
use Rattle.std.specs.Option.{option_to_list}
use Rattle.otel_base.specs.Stack.{empty_context}
use Rattle.otel_state.specs.declared.op.Op.TheVariants as ops
use Rattle.span_script.specs.declared.request.RequestParent.TheVariants as request_parent
use Rattle.span_laws.proofs.records.HistoriesLemmas.{IsClosed, begun, done_in, fits, open_made, ops_parts, whole}
use Rattle.span_laws.proofs.records.MadeRecordsLemmas.{legal_step, made_stays}
use Rattle.span_laws.proofs.spans.MakingsLemmas.{first_of}
use Rattle.span_laws.proofs.spans.RequestedSpansLemmas.{starts_before}
use Rattle.span_laws.proofs.records.PairsLemmas.{each_map}
use Rattle.span_laws.proofs.spans.PlacesLemmas.{places_stay, present}
use Rattle.span_laws.proofs.records.RecordingLemmas.{begun_by}
use Rattle.span_laws.proofs.spans.StartsLemmas.{in_started}
use Rattle.span_laws.proofs.steps.StepsLemmas.{step_of}
use Rattle.span_laws.proofs.records.StoriesLemmas.{HasId, IsOwn, IsStory, stamp}
use Rattle.span_laws.proofs.steps.EntriesLemmas.{guards_of}

-- ---- what ops write of a parent, whatever ids a start gives

abbrev Alike : List TimedOp → List TimedOp → Type 0
Alike [] [] = Unit {0}
Alike (x ∷ xs) (y ∷ ys) = (is_start x ≡ is_start y) × ((deed x.op).parent ≡ (deed y.op).parent) × Alike xs ys
Alike [] (y ∷ ys) = ⊥
Alike (x ∷ xs) [] = ⊥

alike_all : (xs : List TimedOp) → Alike xs xs
alike_all [] = tt
alike_all (x ∷ xs) = (refl, refl, alike_all xs)

alike_append : (xs ys us vs : List TimedOp) → Alike xs ys → Alike us vs → Alike (xs ++ us) (ys ++ vs)
alike_append [] [] us vs one two = two
alike_append [] (y ∷ ys) us vs one two = absurd one
alike_append (x ∷ xs) [] us vs one two = absurd one
alike_append (x ∷ xs) (y ∷ ys) us vs one two = (one.0, one.1, alike_append xs ys us vs one.2 two)

abbrev written : List TimedOp → List Context
written ops = filter_map (λ op. (deed op.op).parent) ops

alike_written : (xs ys : List TimedOp) → Alike xs ys → written (before_start xs) ≡ written (before_start ys)
alike_written [] [] alike = refl
alike_written [] (y ∷ ys) alike = absurd alike
alike_written (x ∷ xs) [] alike = absurd alike
alike_written (x ∷ xs) (y ∷ ys) alike =
    ap (λ (b : Bool). written (if b then [] else x ∷ before_start xs)) alike.0 ∙ by_start (alike_written xs ys alike.2) (is_start y)
  where
    by_start : written (before_start xs) ≡ written (before_start ys) → (b : Bool) → written (if b then [] else x ∷ before_start xs) ≡ written (if b then [] else y ∷ before_start ys)
    by_start rest true = refl
    by_start rest false = ap (λ (o : Option Context). cons_option o (written (before_start xs))) alike.1 ∙ ap (λ (contexts : List Context). cons_option (deed y.op).parent contexts) rest

module _ (one other : SpanContext) (s : ℕ) where
  start_alike : (at : ℕ) (order ids : List ℕ) → Alike (start_in one at s order ids) (start_in other at s order ids)
  start_alike at order ids = by_test (is_in s ids && not (is_in s order))
    where
      by_test : (b : Bool) → Alike (if b then stamp at (ops.Start one) ∷ [] else []) (if b then stamp at (ops.Start other) ∷ [] else [])
      by_test true = (refl, refl, tt)
      by_test false = tt

  effect_alike : (order : List ℕ) (e : Effect) → Alike (ops_in one s order e) (ops_in other s order e)
  effect_alike order e =
      let before = fold with_started order e.starts in
      let begun = fold with_started before (option_to_list e.new_span_start) in
      let done = map (λ d. stamp e.at d.op) (filter (λ d. d.span == s) e.ops) in
      let first = start_in one e.at s order e.starts in
      let first_too = start_in other e.at s order e.starts in
      let early = start_in one e.at s before (option_to_list e.new_span_start) in
      let early_too = start_in other e.at s before (option_to_list e.new_span_start) in
      alike_append (first ++ early ++ done) (first_too ++ early_too ++ done) (start_in one e.at s begun e.closes) (start_in other e.at s begun e.closes)
      (alike_append (first ++ early) (first_too ++ early_too) done done
      (alike_append first first_too early early_too (start_alike e.at order e.starts) (start_alike e.at before (option_to_list e.new_span_start))) (alike_all done))
      (start_alike e.at begun e.closes)

  ops_alike : (order : List ℕ) (h : History) → Alike (ops_from one s order h) (ops_from other s order h)
  ops_alike order [] = tt
  ops_alike order (e ∷ h) = alike_append (ops_in one s order e) (ops_in other s order e) _ _ (effect_alike order e) (ops_alike (fold with_started order (starts_of e)) h)

-- what stands behind a start doesn't count
cut : (xs ys : List TimedOp) → is_some (ids_of_start xs) ≡ true → before_start (xs ++ ys) ≡ before_start xs
cut [] ys has = absurd (cc has)
cut (x ∷ xs) ys has = by_start (cut xs ys) (deed x.op).own has
  where
    by_start : (is_some (ids_of_start xs) ≡ true → before_start (xs ++ ys) ≡ before_start xs) → (given : Option SpanContext)
        → is_some (slice_get (cons_option given (filter_map (λ o. (deed o.op).own) xs)) 0) ≡ true
        → (if is_some given then [] else x ∷ before_start (xs ++ ys)) ≡ (if is_some given then [] else x ∷ before_start xs)
    by_start same None has = ap (λ (rest : List TimedOp). x ∷ rest) (same has)
    by_start same (Some own) has = refl

-- ---- a span that an effect starts, unless it has started, and its record

module _ (setup : Setup) (fore rest : History) (e : Effect) (legal : IsHistory setup fore) (request : Request) (effect : effect_of setup (tables setup fore) request ≡ Ok e) (p : ℕ) (starts : e.starts ≡ p ∷ []) (r : Record)
    (c : IsClosed setup (tables setup (fore ++ e ∷ rest)).spans (fore ++ e ∷ rest) p r) where
  abbrev t : Tables
  t = tables setup fore

  abbrev h : History
  h = fore ++ e ∷ rest

  abbrev order : List ℕ
  order = fold with_started (starting_order fore) e.starts

  is_held : is_open t.handles p ≡ true
  is_held = (subst (AllByRecursion (λ s. is_open t.handles s ≡ true)) starts (step_of setup t (fits setup fore (whole setup fore legal)) request e effect).1.starts).0

  story : IsStory setup (data_at p (fold (λ r s. with_start s e.at r) t.recording e.starts).spans) (first_of t.spans p) (place_in order p) (begun_by e.at (starting_order fore) e.starts (done_in fore) p) (guards_of t.guards p) e.at
  story =
      let now = whole setup fore legal in
      let step = step_of setup t (fits setup fore now) request e effect in
      (begun setup fore now request.at (is_drop request.call) e step.0 step.1).each p is_held

  placed : 0 < place_in order p
  placed =
      let there : is_in p order ≡ true = ap (λ (ids : List ℕ). is_in p (fold with_started (starting_order fore) ids)) starts ∙ in_started (starting_order fore) p in
      let some = present 1 order p there in
      omega (arith, some)

  same_place : place_in (starting_order h) p ≡ place_in order p
  same_place =
      let others = option_to_list e.new_span_start ++ e.closes ++ flat_map starts_of rest in
      ap (λ (o : List ℕ). place_in o p)
      (ap (fold with_started []) (flat_map-append starts_of fore (e ∷ rest)) ∙ fold-append with_started [] (flat_map starts_of fore) (flat_map starts_of (e ∷ rest))
      ∙ ap (fold with_started (starting_order fore)) (regroup e.starts (option_to_list e.new_span_start) e.closes (flat_map starts_of rest)) ∙ fold-append with_started (starting_order fore) e.starts others)
      ∙ places_stay order others p placed
    where
      regroup : (a b c d : List ℕ) → ((a ++ b) ++ c) ++ d ≡ a ++ (b ++ c ++ d)
      regroup a b c d = simp append_assoc

  same_first : made_span_at t.spans p ≡ made_span_at (tables setup h).spans p
  same_first =
      sym (made_stays (e ∷ rest) t p (open_made t.handles t.spans t.closed (whole setup fore legal).stands.sound p is_held))
      ∙ ap (λ (u : Tables). made_span_at u.spans p) (sym (fold-append after_effect (no_tables setup) fore (e ∷ rest)))

  same_parent : story.making.parent ≡ c.making.parent
  same_parent = sym (ap (λ (told : SpanData). told.parent) story.began.is) ∙ ap (λ (m : MadeSpan). m.made_with.parent) same_first ∙ ap (λ (told : SpanData). told.parent) c.began.is

  module _ (own : SpanContext) (is : story.told.own ≡ Some own) where
    abbrev so_far : List TimedOp
    so_far = begun_by e.at (starting_order fore) e.starts (done_in fore) p own

    abbrev early : List TimedOp
    early = start_in own e.at p order (option_to_list e.new_span_start)

    abbrev done : List TimedOp
    done = map (λ d. stamp e.at d.op) (filter (λ d. d.span == p) e.ops)

    abbrev at_close : List TimedOp
    at_close = start_in own e.at p (fold with_started order (option_to_list e.new_span_start)) e.closes

    abbrev behind : List TimedOp
    behind = ops_from own p (fold with_started (starting_order fore) (starts_of e)) rest

    all_parts : ops_of own h p ≡ so_far ++ (early ++ done ++ at_close ++ behind)
    all_parts = ops_parts own p [] fore (e ∷ rest) ∙ regroup (ops_of own fore p) (start_in own e.at p (starting_order fore) e.starts) early done at_close behind
      where
        regroup : (a b c d x y : List TimedOp) → a ++ ((((b ++ c) ++ d) ++ x) ++ y) ≡ (a ++ b) ++ (c ++ d ++ x ++ y)
        regroup a b c d x y = simp append_assoc

    later_is : story.later ≡ so_far
    later_is = story.rest own (subst (λ (o : Option SpanContext). IsOwn o own) (sym is) refl)

    has_start : is_some (ids_of_start so_far) ≡ true
    has_start =
        ap (λ (xs : List TimedOp). is_some (ids_of_start xs)) (sym later_is)
        ∙ sym (ap (λ (o : Option SpanContext). is_some o) (own_is story.told story.making (all_ops story.making story.began.update story.later) story.stands))
        ∙ ap (λ (o : Option SpanContext). is_some o) is

    abbrev under : Context → List TimedOp → Context
    under parent xs = last_or parent (written (before_start xs))

    parent_settled : story.told.parent ≡ under c.making.parent (ops_of r.context h p)
    parent_settled =
        parent_is story.told story.making (all_ops story.making story.began.update story.later) story.stands
        ∙ ap (under story.making.parent) later_is
        ∙ ap (λ (xs : List TimedOp). last_or story.making.parent (written xs)) (sym (cut so_far (early ++ done ++ at_close ++ behind) has_start))
        ∙ ap (under story.making.parent) (sym all_parts)
        ∙ ap (λ (contexts : List Context). last_or story.making.parent contexts) (alike_written (ops_of own h p) (ops_of r.context h p) (ops_alike own r.context p [] h))
        ∙ ap (λ (parent : Context). under parent (ops_of r.context h p)) same_parent

  own_recorded : (own : Option SpanContext) → story.told.own ≡ own → HasId own (place_in order p) story.told.parent → story.told.own ≡ Some r.context
  own_recorded None is unplaced = absurd (let some = placed in omega (arith, unplaced, some))
  own_recorded (Some own) is has =
      is ∙ ap Some (has.0 ∙ ap₂ (λ (k : ℕ) (parent : Context). recorder_ids k (ids_of parent)) (sym same_place) (parent_settled own is) ∙ sym c.ends.own)

  pub own_seen : (told : SpanData) × (data_at p (with_start p e.at t.recording).spans ≡ Some told) × (told.own ≡ Some r.context)
  own_seen = (
    story.told,
    ap (λ (ids : List ℕ). data_at p (fold (λ r s. with_start s e.at r) t.recording ids).spans) (sym starts) ∙ story.is,
    own_recorded story.told.own refl story.has_id,
  )

-- ---- what requests see of the own contexts of spans that are recorded

abbrev with_ids : Option SpanContext → Context
with_ids ids = record { span = ids }

pub sees_own : (setup : Setup) (h : History) → IsHistory setup h → EachRecord (SeesContextOf setup h) (tables setup h).closed (records_of_history setup h)
sees_own setup h legal = each_map (IsClosed setup (tables setup h).spans h) (SeesContextOf setup h) (tables setup h).closed (records_of_history setup h) seen (whole setup h legal).each
  where
    seen : (p : ℕ) (r : Record) → 0 < occurrences p (tables setup h).closed → IsClosed setup (tables setup h).spans h p r → SeesContextOf setup h p r
    seen p r some c fore rest e up is starts =
        let step = legal_step setup h legal fore rest e is in
        let own = own_seen setup fore rest e step.2 step.0 step.3 p starts r (subst (λ (x : History). IsClosed setup (tables setup x).spans x p r) is c) in
        ap (own_context_or empty_context) own.1 ∙ ap with_ids own.2

above_is : (activation : Bool) (under : RequestParent) (up : Scope) (current : Option ℕ) → parent_source activation (parent_under under up) current ≡ context_span activation under up current
above_is activation request_parent.Root up current = refl
above_is activation (request_parent.Under handle) [] current = refl
above_is activation (request_parent.Under handle) (s ∷ up) current = refl
above_is true request_parent.Contextual up current = refl
above_is false request_parent.Contextual up current = refl

-- the context that a new span is put under, where it is the own one of a span
context_is_own : (activation : Bool) (current : Option ℕ) (setup : Setup) (t : Tables) (at id : ℕ) (under : RequestParent) (up : Scope) (p : ℕ) (told : SpanData) → setup.layer.activation ≡ activation → current_of (t.entries id) ≡ current
    → context_span activation under up current ≡ Some p → data_at p (with_start p at t.recording).spans ≡ Some told → parent_context setup t at id under up ≡ with_ids told.own
context_is_own activation current setup t at id request_parent.Root up p told active now is seen = absurd (cc is)
context_is_own activation current setup t at id (request_parent.Under handle) [] p told active now is seen = absurd (cc is)
context_is_own activation current setup t at id (request_parent.Under handle) (s ∷ up) p told active now is seen =
    let same : s ≡ p = cc is in
    ap (λ (q : ℕ). own_context_or empty_context (data_at q (with_start q at t.recording).spans)) same ∙ ap (own_context_or empty_context) seen
context_is_own true current setup t at id request_parent.Contextual up p told active now is seen = absurd (cc is)
context_is_own false current setup t at id request_parent.Contextual up p told active now is seen =
    ap (λ (b : Bool). context_of_lane t at id (if b then None else current_of (t.entries id))) active ∙ ap (context_of_lane t at id) (now ∙ is) ∙ ap (own_context_or _) seen

pub is_under : (setup : Setup) (h : History) → IsHistory setup h → EachRecord (HasContextOf setup h) (tables setup h).closed (records_of_history setup h)
is_under setup h legal = each_map (IsClosed setup (tables setup h).spans h) (HasContextOf setup h) (tables setup h).closed (records_of_history setup h) put (whole setup h legal).each
  where
    put : (p : ℕ) (r : Record) → 0 < occurrences p (tables setup h).closed → IsClosed setup (tables setup h).spans h p r → HasContextOf setup h p r
    put p r some c s fore request made is =
        let t = tables setup fore in
        let id = (here_at setup t request.at request.lane_place).lane in
        let current = current_of (t.entries id) in
        let before = (legal_step setup h legal fore made.rest made.e made.is).2 in
        let fit = fits setup fore (whole setup fore before) in
        let starts = starts_before setup t fit request made.e made.m made.effect made.made made.by ∙ ap option_to_list (above_is setup.layer.activation made.by.under made.by.up current ∙ is) in
        let own = own_seen setup fore made.rest made.e before request made.effect p starts r (subst (λ (x : History). IsClosed setup (tables setup x).spans x p r) made.is c) in
        let seen = ap (λ (at : ℕ). data_at p (with_start p at t.recording).spans) (sym (step_of setup t fit request made.e made.effect).1.moment) ∙ own.1 in
        made.by.context ∙ context_is_own setup.layer.activation current setup t request.at id made.by.under made.by.up p own.0 refl refl is seen ∙ ap with_ids own.2
