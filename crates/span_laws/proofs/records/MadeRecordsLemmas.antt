-- Each record is that of a span which a request of the history made, by what that says.
use Rattle.span_laws.proofs.Common.{Context, EachRecord, Effect, History, IsHistory, IsMadeWith, IsRecord, IsRecordOf, List, MadeSpan, Making, MomentsRise, None, Ok, Option, Record, Represents, Request, Setup, Some, SpanContext, SpanData, Tables, TimedOp, [], after_effect, after_op, after_stamped, all_ops, ap, arith, cases_eq, closed_at, content_is, data_at_making, effect_of, fold, get_or_push, ids_of, inl, inr, length, length_push, made_span_at, more, nat_tests, no_made_span, no_tables, none, occurrences, parent_is, place_in, recorder_ids, records_of_history, refl, starting_order, subst, sym, tables, with_item, ℕ, ◌++◌, ◌+◌, ◌<◌, ◌∙◌, ◌∷◌, ◌≡◌, ◌≤◌}
use Rattle.std.proofs.lemmas.List.{append-nil}
use Rattle.otel_state.specs.declared.op.Op.TheVariants as ops
use Rattle.span_laws.proofs.records.HistoriesLemmas.{IsClosed, done_in, whole}
use Rattle.span_laws.proofs.spans.RequestedSpansLemmas.{made_by}
use Rattle.span_laws.proofs.spans.OccurrencesLemmas.{get_push_other}
use Rattle.span_laws.proofs.records.PairsLemmas.{each_map}
use Rattle.span_laws.proofs.steps.PartsLemmas.{no_item, parted}
use Rattle.span_laws.proofs.records.StoriesLemmas.{IsEnding}

-- ---- a record from one making is that from another which came to the same

module _ (setup : Setup) (first : SpanData) (began_at : ℕ) (one other : Making) (a : IsMadeWith setup first.made_at first one) (b : IsMadeWith setup began_at first other) (done : SpanContext → List TimedOp) (place at : ℕ) (r : Record)
    (ends : IsRecord one a.update done place at r) where
  abbrev own_ops : List TimedOp
  own_ops = done r.context

  abbrev last : SpanData
  last = fold after_stamped first own_ops

  one_stands : Represents one (all_ops one a.update own_ops) last
  one_stands = ap (λ (t : SpanData). fold after_stamped t own_ops) (a.is ∙ ap (λ n. after_op (data_at_making one) n (ops.Update a.update)) (sym a.made_at))

  other_stands : Represents other (all_ops other b.update own_ops) last
  other_stands = ap (λ (t : SpanData). fold after_stamped t own_ops) (b.is ∙ ap (λ n. after_op (data_at_making other) n (ops.Update b.update)) (sym b.made_at))

  same_moment : one.made_at ≡ other.made_at
  same_moment = a.made_at ∙ ap (λ (t : SpanData). t.made_at) b.is

  in_order : MomentsRise other.made_at (all_ops other b.update own_ops)
  in_order = (omega arith, subst (λ n. MomentsRise n own_ops) same_moment ends.in_order.1)

  remade : IsRecord other b.update done place at r
  remade = record {
    in_order = in_order;
    shut = ends.shut;
    is = ends.is ∙ sym (content_is one (all_ops one a.update own_ops) last at one_stands ends.in_order) ∙ content_is other (all_ops other b.update own_ops) last at other_stands in_order;
    started = ends.started;
    own = ends.own ∙ ap (λ (c : Context). recorder_ids place (ids_of c)) (sym (parent_is last one (all_ops one a.update own_ops) one_stands) ∙ parent_is last other (all_ops other b.update own_ops) other_stands);
  }

-- ---- which effect made a span

made_more : (ms : List MadeSpan) (o : Option MadeSpan) → length ms ≤ length (with_item ms o)
made_more ms None = omega arith
made_more ms (Some m) = let longer = length_push ms m in omega (arith, longer)

made_kept : (ms : List MadeSpan) (o : Option MadeSpan) (s : ℕ) → s < length ms → made_span_at (with_item ms o) s ≡ made_span_at ms s
made_kept ms None s old = refl
made_kept ms (Some m) s old = get_push_other ms m no_made_span s (λ same. absurd (omega (arith, same, old)))

pub made_stays : (h : History) (t : Tables) (s : ℕ) → s < length t.spans → made_span_at (fold after_effect t h).spans s ≡ made_span_at t.spans s
made_stays [] t s old = refl
made_stays (e ∷ h) t s old = made_stays h (after_effect t e) s (let longer = made_more t.spans e.new_span in omega (arith, longer, old)) ∙ made_kept t.spans e.new_span s old

-- the effect in a history that made the span of a number, and what it made
record IsMadeIn (h : History) (t : Tables) (s : ℕ) : Type 0 where
  fore : History
  rest : History
  e : Effect
  m : MadeSpan
  is : h ≡ fore ++ e ∷ rest
  made : e.new_span ≡ Some m
  number : length (fold after_effect t fore).spans ≡ s
  stays : made_span_at (fold after_effect t h).spans s ≡ m

made_in : (h : History) (t : Tables) (s : ℕ) → length t.spans ≤ s → s < length (fold after_effect t h).spans → IsMadeIn h t s
made_in [] t s from below = absurd (omega (arith, from, below))
made_in (e ∷ h) t s from below = by_made e.new_span refl (λ later. made_in h (after_effect t e) s later below)
  where
    behind : IsMadeIn h (after_effect t e) s → IsMadeIn (e ∷ h) t s
    behind found = record { fore = e ∷ found.fore; rest = found.rest; e = found.e; m = found.m; is = ap (λ (x : History). e ∷ x) found.is; made = found.made; number = found.number; stays = found.stays }

    by_made : (o : Option MadeSpan) → e.new_span ≡ o → (length (after_effect t e).spans ≤ s → IsMadeIn h (after_effect t e) s) → IsMadeIn (e ∷ h) t s
    by_made None is later = behind (later (let same = ap (λ (o : Option MadeSpan). length (with_item t.spans o)) is in omega (arith, same, from)))
    by_made (Some m) is later =
        let many : length (after_effect t e).spans ≡ length t.spans + 1 = ap (λ (o : Option MadeSpan). length (with_item t.spans o)) is ∙ length_push t.spans m in
        elim (cases_eq s (length t.spans)) [
          | inl same ↦ record {
            fore = [];
            rest = h;
            e = e;
            m = m;
            is = refl;
            made = is;
            number = sym same;
            stays = made_stays h (after_effect t e) s (omega (arith, many, same)) ∙ ap (λ (o : Option MadeSpan). made_span_at (with_item t.spans o) s) is ∙ get_or_push t.spans m no_made_span s (sym same);
          }
          | inr other ↦ behind (later (omega (arith, many, from, other)))
        ]

-- an effect of a legal history is that of some request, behind a legal front
abbrev pub IsStepOf : Setup → History → Effect → (History → Request → Type 0) → Type 0
IsStepOf setup fore e Known = (request : Request) × Known fore request × IsHistory setup fore × (effect_of setup (tables setup fore) request ≡ Ok e)

abbrev any_request : History → Request → Type 0
any_request fore request = Unit {0}

pub legal_step : (setup : Setup) (h : History) → IsHistory setup h → (fore rest : History) (e : Effect) → h ≡ fore ++ e ∷ rest → IsStepOf setup fore e any_request
legal_step setup _ none fore rest e is = absurd (no_item e fore rest is)
legal_step setup _ (more h request x legal at) fore rest e is = elim (parted e rest h (x ∷ []) fore is) [
  | inl found ↦ legal_step setup h legal fore found.0 e found.1
  | inr found ↦ by_front found.0 found.1 found.2
]
  where
    by_front : (f : History) → fore ≡ h ++ f → ◌≡◌ {A = History} (x ∷ []) (f ++ e ∷ rest) → IsStepOf setup fore e any_request
    by_front (y ∷ f) front last = absurd (no_item e f rest (cc last))
    by_front [] front last =
        let same : h ≡ fore = sym (front ∙ append-nil h) in
        let effect : x ≡ e = cc last in
        (request, tt, subst (IsHistory setup) same legal, ap (λ (y : History). effect_of setup (tables setup y) request) (sym same) ∙ at ∙ ap Ok effect)

-- ---- the records of a history, where something is known of the request of each effect

closed_made : (setup : Setup) (h : History) (s : ℕ) → IsHistory setup h → 0 < occurrences s (tables setup h).closed → s < length (tables setup h).spans
closed_made setup h s legal some = let ended = (whole setup h legal).stands.sound.ended s in grind (arith, nat_tests, ended, some)

module _ (setup : Setup) (h : History) (legal : IsHistory setup h) (Known : History → Request → Type 0) (step : (fore rest : History) (e : Effect) → h ≡ fore ++ e ∷ rest → IsStepOf setup fore e Known) where
  abbrev IsKnown : ℕ → Record → Type 0
  IsKnown s r = (of : IsRecordOf setup h s r) × Known of.fore of.request

  record_of : (s : ℕ) (r : Record) → s < length (tables setup h).spans → IsClosed setup (tables setup h).spans h s r → IsKnown s r
  record_of s r below c =
      let there = made_in h (no_tables setup) s (omega arith) below in
      let found = step there.fore there.rest there.e there.is in
      let by = made_by setup there.fore found.0 there.e there.m found.2 found.3 there.made in
      let same : IsEnding setup there.m.made_with (done_in h s) (place_in (starting_order h) s) (closed_at h s) r =
      subst (λ (m : MadeSpan). IsEnding setup m.made_with (done_in h s) (place_in (starting_order h) s) (closed_at h s) r) there.stays c in (
        record {
          fore = there.fore;
          request = found.0;
          made = record { e = there.e; rest = there.rest; m = there.m; is = there.is; effect = found.3; made = there.made; number = there.number; by = by };
          told = remade setup there.m.made_with found.0.at same.making by.making same.began by.began (done_in h s) (place_in (starting_order h) s) (closed_at h s) r same.ends;
        },
        found.1,
      )

  pub each_known : EachRecord IsKnown (tables setup h).closed (records_of_history setup h)
  each_known = each_map (IsClosed setup (tables setup h).spans h) IsKnown (tables setup h).closed (records_of_history setup h) (λ s r some c. record_of s r (closed_made setup h s legal some) c) (whole setup h legal).each

pub contents : (setup : Setup) (h : History) → IsHistory setup h → EachRecord (IsRecordOf setup h) (tables setup h).closed (records_of_history setup h)
contents setup h legal =
    each_map (λ s r. (of : IsRecordOf setup h s r) × any_request of.fore of.request) (IsRecordOf setup h) (tables setup h).closed (records_of_history setup h) (λ s r some known. known.0) (each_known setup h legal any_request (legal_step setup h legal))
