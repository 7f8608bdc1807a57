-- What is recorded of the open spans, as an effect starts spans, makes one, does ops and closes spans.
use Rattle.span_laws.proofs.Common.{AllByRecursion, Bool, Context, EachRecord, Effect, GREATEST, List, MadeSpan, MomentsRise, None, Op, Option, Record, Recording, Setup, Some, SpanContext, SpanData, SpanOp, TimedOp, [], all_ops, ap, append_assoc, arith, cases_Bool, cases_eq, cond, cond-false, cond-true, content, context_unless_started, data_after, data_at, deed, false, fold, ids_of, if◌then◌else◌, inl, inr, is_in, is_some, length, length_push, nat_tests, not, occurrences, open_after_ops, parent_context_of, place_in, record_of, recorder_ids, refl, start_context, start_in, subst, sym, told_at_op, told_at_removed, true, with_applied, with_close, with_span_finished, with_span_made, with_start, with_start_if_some, with_start_under, with_started, ℕ, ◌&&◌, ◌++◌, ◌+◌, ◌<◌, ◌==◌, ◌||◌, ◌∙◌, ◌∷◌, ◌≡◌, ◌≤◌}
use Rattle.std.proofs.lemmas.List.{append-nil}
use Rattle.std.proofs.lemmas.Bool.{eq-eqb, ne_eqb, true≢false}
use Rattle.otel_state.specs.declared.op.Op.TheVariants as ops
use Rattle.span_script.specs.Tables as table
use Rattle.span_laws.proofs.spans.OccurrencesLemmas.{occurs_cons}
use Rattle.span_laws.proofs.records.PairsLemmas.{each_map}
use Rattle.span_laws.proofs.spans.PlacesLemmas.{present, placed, place_new, place_other, places_stay}
use Rattle.span_laws.proofs.spans.StartsLemmas.{in_started, starts_here, starts_other, starts_not, starts_cons}
use Rattle.span_laws.proofs.records.StoriesLemmas.{IsEnding, IsStory, HasId, stamp, turned, op_story, start_story, record_is, later_story}

-- Each open span has its story, no span above a number is recorded, and so many have started.
pub record AreStories (setup : Setup) (first : ℕ → SpanData) (order : List ℕ) (done : ℕ → SpanContext → List TimedOp) (opened : ℕ → ℕ) (now : ℕ) (is_known : ℕ → Bool) (n : ℕ) (r : Recording) : Type 0 where
  pub each : (s : ℕ) → is_known s ≡ true → IsStory setup (data_at s r.spans) (first s) (place_in order s) (done s) (opened s) now
  pub fresh : (s : ℕ) → n ≤ s → data_at s r.spans ≡ None
  pub count : r.started ≡ length order
  pub settings_are : r.settings ≡ setup.layer
  pub counting_is : r.counting ≡ is_some setup.counting

-- starts are the last of a span's ops
abbrev pub begun_by : ℕ → List ℕ → List ℕ → (ℕ → SpanContext → List TimedOp) → ℕ → SpanContext → List TimedOp
begun_by at order ids done s own = done s own ++ start_in own at s order ids

-- so is an op on the span, which may turn an entry
abbrev pub done_by : ℕ → SpanOp → (ℕ → SpanContext → List TimedOp) → ℕ → SpanContext → List TimedOp
done_by at d done s own = if d.span == s then done s own ++ stamp at d.op ∷ [] else done s own

abbrev pub turned_by : SpanOp → (ℕ → ℕ) → ℕ → ℕ
turned_by d opened s = if d.span == s then turned (deed d.op) (opened s) else opened s

none_after : (b : Bool) (at : ℕ) (op : Op) (o : Option SpanData) → o ≡ None → data_after b at op o ≡ None
none_after true at op o is = ap (data_after true at op) is
none_after false at op o is = is

same_bound : (n m : ℕ) → n ≡ m → n ≤ m
same_bound n m is = omega (arith, is)

begun_cons : (at : ℕ) (order : List ℕ) (id : ℕ) (ids : List ℕ) (done : ℕ → SpanContext → List TimedOp) (s : ℕ) (own : SpanContext) → begun_by at (with_started order id) ids (begun_by at order (id ∷ []) done) s own ≡ begun_by at order (id ∷ ids) done s own
begun_cons at order id ids done s own =
    append_assoc (done s own) (start_in own at s order (id ∷ [])) (start_in own at s (with_started order id) ids) ∙ ap (λ (xs : List TimedOp). done s own ++ xs) (sym (starts_cons own at s order id ids))

-- the same record, told otherwise
pub same_record : (setup : Setup) (first : SpanData) (done same : SpanContext → List TimedOp) (place there at : ℕ) (r : Record) → ((own : SpanContext) → done own ≡ same own) → place ≡ there → IsEnding setup first done place at r → IsEnding setup first same there at r
same_record setup first done same place there at r alike is c =
    let all = ap (all_ops c.making c.began.update) (alike r.context) in
    record {
      making = c.making;
      began = c.began;
      ends = record {
        in_order = subst (MomentsRise c.making.made_at) all c.ends.in_order;
        shut = sym (ap (open_after_ops 0) all) ∙ c.ends.shut;
        is = c.ends.is ∙ ap (λ (xs : List TimedOp). content c.making xs at) all;
        started = subst (λ (p : ℕ). 0 < p) is c.ends.started;
        own = c.ends.own ∙ ap (λ (xs : List TimedOp). recorder_ids place (ids_of (parent_context_of c.making.parent xs))) all ∙ ap (λ (p : ℕ). recorder_ids p (ids_of (parent_context_of c.making.parent (all_ops c.making c.began.update (same r.context))))) is;
      };
    }

start_finished : (under : Option Context) (id at : ℕ) (r : Recording) → (with_start_under under id at r).finished ≡ r.finished
start_finished None id at r = refl
start_finished (Some context) id at r = refl

module _ (setup : Setup) (first : ℕ → SpanData) (now : ℕ) (most : now ≤ GREATEST) where
  -- ---- fewer spans, and the same told otherwise

  pub same_stories : (order : List ℕ) (done same : ℕ → SpanContext → List TimedOp) (opened : ℕ → ℕ) (k few : ℕ → Bool) (n : ℕ) (r : Recording) → ((s : ℕ) (own : SpanContext) → done s own ≡ same s own) → ((s : ℕ) → few s ≡ true → k s ≡ true)
      → AreStories setup first order done opened now k n r → AreStories setup first order same opened now few n r
  same_stories order done same opened k few n r alike known stories = record {
    each = λ s is. later_story setup (first s) (data_at s r.spans) (place_in order s) (done s) (opened s) now (stories.each s (known s is)) (same s) (opened s) now (alike s) (omega arith) (omega arith);
    fresh = stories.fresh;
    count = stories.count;
    settings_are = stories.settings_are;
    counting_is = stories.counting_is;
  }

  -- ---- a start

  module _ (opened : ℕ → ℕ) (is_known : ℕ → Bool) (n : ℕ) where
    abbrev Now : List ℕ → (ℕ → SpanContext → List TimedOp) → Recording → Type 0
    Now order done r = AreStories setup first order done opened now is_known n r

    start_first : (order : List ℕ) (done : ℕ → SpanContext → List TimedOp) (r : Recording) (id : ℕ) → Now order done r → (f : IsStory setup (data_at id r.spans) (first id) (place_in order id) (done id) (opened id) now) → f.told.own ≡ None → is_in id order ≡ false
        → Now (order ++ id ∷ []) (begun_by now order (id ∷ []) done) (with_start_under (Some f.told.parent) id now r)
    start_first order done r id stories f unstarted out =
        let own : SpanContext = recorder_ids (r.started + 1) (ids_of f.told.parent) in
        let op : Op = ops.Start own in
        record {
          each = λ s is. elim (cases_eq s id) [
            | inl same ↦ (
                let place : place_in (order ++ id ∷ []) s ≡ r.started + 1 = ap (place_in (order ++ id ∷ [])) same ∙ place_new 1 order id out ∙ (let count = stories.count in omega (arith, count)) in
                let mine = start_story setup (first id) (data_at id r.spans) (place_in order id) (done id) (opened id) now f most (r.started + 1) unstarted (omega arith) in
                let here = subst (λ (t : ℕ). IsStory setup (data_after true now op (data_at id r.spans)) (first t) (r.started + 1) (λ own. done t own ++ stamp now (ops.Start own) ∷ []) (opened t) now) (sym same) mine in
                let read = told_at_op id s now op r.spans ∙ ap (λ (b : Bool). data_after b now op (data_at s r.spans)) (eq-eqb s id same) ∙ ap (λ (t : ℕ). data_after true now op (data_at t r.spans)) same in
                rw (read, place)
                (later_story setup (first s) (data_after true now op (data_at id r.spans)) (r.started + 1) (λ own. done s own ++ stamp now (ops.Start own) ∷ []) (opened s) now here (begun_by now order (id ∷ []) done s) (opened s) now
                (λ own. ap (λ (xs : List TimedOp). done s own ++ xs) (sym (starts_here own now s order id same out))) (omega arith) (omega arith)))
            | inr other ↦ (
                let read = told_at_op id s now op r.spans ∙ ap (λ (b : Bool). data_after b now op (data_at s r.spans)) (ne_eqb s id other) in
                rw (read, place_other 1 order id s other)
                (later_story setup (first s) (data_at s r.spans) (place_in order s) (done s) (opened s) now (stories.each s is) (begun_by now order (id ∷ []) done s) (opened s) now
                (λ own. sym (append-nil (done s own)) ∙ ap (λ (xs : List TimedOp). done s own ++ xs) (sym (starts_other own now s order id other))) (omega arith) (omega arith)))
          ];
          fresh = λ s above. told_at_op id s now op r.spans ∙ none_after (s == id) now op (data_at s r.spans) (stories.fresh s above);
          count = let count = stories.count in let more = length_push order id in omega (arith, count, more);
          settings_are = stories.settings_are;
          counting_is = stories.counting_is;
        }

    -- a span that has started stays as it is
    not_twice : (order : List ℕ) (id : ℕ) (done : ℕ → SpanContext → List TimedOp) → is_in id order ≡ true → (s : ℕ) (own : SpanContext) → done s own ≡ begun_by now order (id ∷ []) done s own
    not_twice order id done there s own =
        let none : start_in own now s order (id ∷ []) ≡ [] = elim (cases_eq s id) [
          | inl same ↦ starts_not own now s order (id ∷ []) (ap (λ (q : ℕ). is_in q order) same ∙ there)
          | inr other ↦ starts_other own now s order id other
        ] in
        sym (append-nil (done s own)) ∙ ap (λ (xs : List TimedOp). done s own ++ xs) (sym none)

    start_by : (order : List ℕ) (done : ℕ → SpanContext → List TimedOp) (r : Recording) (id : ℕ) → Now order done r → (f : IsStory setup (data_at id r.spans) (first id) (place_in order id) (done id) (opened id) now)
        → (own : Option SpanContext) → f.told.own ≡ own → HasId own (place_in order id) f.told.parent → Now (with_started order id) (begun_by now order (id ∷ []) done) (with_start id now r)
    start_by order done r id stories f None unstarted none =
        let out : is_in id order ≡ false = elim (cases_Bool (is_in id order)) [
          | inl there ↦ absurd (let some = present 1 order id there in omega (arith, some, none))
          | inr out ↦ out
        ] in
        let under = ap start_context f.is ∙ ap (λ (o : Option SpanContext). context_unless_started o f.told.parent) unstarted in
        subst (λ (u : Option Context). Now (with_started order id) (begun_by now order (id ∷ []) done) (with_start_under u id now r)) (sym under)
        (subst (λ (o : List ℕ). Now o (begun_by now order (id ∷ []) done) (with_start_under (Some f.told.parent) id now r)) (sym (cond-false {A = List ℕ} (is_in id order) order (order ++ id ∷ []) out))
        (start_first order done r id stories f unstarted out))
    start_by order done r id stories f (Some own) started is =
        let there = placed order id is.1 in
        let under = ap start_context f.is ∙ ap (λ (o : Option SpanContext). context_unless_started o f.told.parent) started in
        subst (λ (u : Option Context). Now (with_started order id) (begun_by now order (id ∷ []) done) (with_start_under u id now r)) (sym under)
        (subst (λ (o : List ℕ). Now o (begun_by now order (id ∷ []) done) r) (sym (cond-true {A = List ℕ} (is_in id order) order (order ++ id ∷ []) there))
        (same_stories order done (begun_by now order (id ∷ []) done) opened is_known is_known n r (not_twice order id done there) (λ s is. is) stories))

    pub start_stories : (order : List ℕ) (done : ℕ → SpanContext → List TimedOp) (r : Recording) (id : ℕ) → Now order done r → is_known id ≡ true → Now (with_started order id) (begun_by now order (id ∷ []) done) (with_start id now r)
    start_stories order done r id stories known = let f = stories.each id known in start_by order done r id stories f f.told.own refl f.has_id

    pub starts_stories : (order : List ℕ) (done : ℕ → SpanContext → List TimedOp) (r : Recording) (ids : List ℕ) → Now order done r → AllByRecursion (λ s. is_known s ≡ true) ids
        → Now (fold with_started order ids) (begun_by now order ids done) (fold (λ r s. with_start s now r) r ids)
    starts_stories order done r [] stories known = same_stories order done (begun_by now order [] done) opened is_known is_known n r (λ s own. sym (append-nil (done s own))) (λ s is. is) stories
    starts_stories order done r (id ∷ ids) stories known =
        same_stories (fold with_started order (id ∷ ids)) (begun_by now (with_started order id) ids (begun_by now order (id ∷ []) done)) (begun_by now order (id ∷ ids) done) opened is_known is_known n (fold (λ r s. with_start s now r) r (id ∷ ids))
        (begun_cons now order id ids done) (λ s is. is)
        (starts_stories (with_started order id) (begun_by now order (id ∷ []) done) (with_start id now r) ids (start_stories order done r id stories known.0) known.1)

  -- ---- an op

  module _ (order : List ℕ) (is_known : ℕ → Bool) (n : ℕ) where
    pub op_stories : (done : ℕ → SpanContext → List TimedOp) (opened : ℕ → ℕ) (r : Recording) (d : SpanOp) → AreStories setup first order done opened now is_known n r → (deed d.op).own ≡ None
        → AreStories setup first order (done_by now d done) (turned_by d opened) now is_known n (with_applied d.span now d.op r)
    op_stories done opened r d stories unstarted = record {
      each = λ s is. elim (cases_eq s d.span) [
        | inl same ↦ (
            let here = eq-eqb d.span s (sym same) in
            let read = told_at_op d.span s now d.op r.spans ∙ ap (λ (b : Bool). data_after b now d.op (data_at s r.spans)) (eq-eqb s d.span same) in
            let turn = cond-true {A = ℕ} (d.span == s) (turned (deed d.op) (opened s)) (opened s) here in
            let mine = op_story setup (first s) (data_at s r.spans) (place_in order s) (done s) (opened s) now (stories.each s is) most d.op unstarted in
            rw read
            (later_story setup (first s) (data_after true now d.op (data_at s r.spans)) (place_in order s) (λ own. done s own ++ stamp now d.op ∷ []) (turned (deed d.op) (opened s)) now mine (done_by now d done s) (turned_by d opened s) now
            (λ own. sym (cond-true {A = List TimedOp} (d.span == s) (done s own ++ stamp now d.op ∷ []) (done s own) here)) (same_bound (turned (deed d.op) (opened s)) (turned_by d opened s) (sym turn)) (omega arith)))
        | inr other ↦ (
            let apart = ne_eqb d.span s (λ e. other (sym e)) in
            let read = told_at_op d.span s now d.op r.spans ∙ ap (λ (b : Bool). data_after b now d.op (data_at s r.spans)) (ne_eqb s d.span other) in
            let turn = cond-false {A = ℕ} (d.span == s) (turned (deed d.op) (opened s)) (opened s) apart in
            rw read
            (later_story setup (first s) (data_at s r.spans) (place_in order s) (done s) (opened s) now (stories.each s is) (done_by now d done s) (turned_by d opened s) now
            (λ own. sym (cond-false {A = List TimedOp} (d.span == s) (done s own ++ stamp now d.op ∷ []) (done s own) apart)) (same_bound (opened s) (turned_by d opened s) (sym turn)) (omega arith)))
      ];
      fresh = λ s above. told_at_op d.span s now d.op r.spans ∙ none_after (s == d.span) now d.op (data_at s r.spans) (stories.fresh s above);
      count = stories.count;
      settings_are = stories.settings_are;
      counting_is = stories.counting_is;
    }

    pub ops_stories : (done : ℕ → SpanContext → List TimedOp) (opened : ℕ → ℕ) (r : Recording) (ds : List SpanOp) → AreStories setup first order done opened now is_known n r → AllByRecursion (λ d. (deed d.op).own ≡ None) ds
        → AreStories setup first order (fold (λ f d. done_by now d f) done ds) (fold (λ f d. turned_by d f) opened ds) now is_known n (fold (λ r d. with_applied d.span now d.op r) r ds)
    ops_stories done opened r [] stories unstarted = stories
    ops_stories done opened r (d ∷ ds) stories unstarted = ops_stories (done_by now d done) (turned_by d opened) (with_applied d.span now d.op r) ds (op_stories done opened r d stories unstarted.0) unstarted.1

  -- ---- a close

  abbrev pub Closed : List ℕ → (ℕ → SpanContext → List TimedOp) → ℕ → Record → Type 0
  Closed order done s r = IsEnding setup (first s) (done s) (place_in order s) now r

  pub record Closes (order : List ℕ) (done : ℕ → SpanContext → List TimedOp) (opened : ℕ → ℕ) (is_known : ℕ → Bool) (n : ℕ) (r : Recording) (spans : List ℕ) (later : Recording) : Type 0 where
    pub after : AreStories setup first (fold with_started order spans) (begun_by now order spans done) opened now (λ s. is_known s && not (is_in s spans)) n later
    pub records : List Record
    pub finished : later.finished ≡ r.finished ++ records
    pub each : EachRecord (Closed (fold with_started order spans) (begun_by now order spans done)) spans records

  both : (a b : Bool) → (a && not b) ≡ true → (a ≡ true) × (b ≡ false)
  both true false is = (refl, refl)
  both true true is = absurd (cc is)
  both false b is = absurd (cc is)

  parted : (k a b : Bool) → (k && not (a || b)) ≡ true → ((k && not a) && not b) ≡ true
  parted true false false is = refl
  parted true false true is = absurd (cc is)
  parted true true b is = absurd (cc is)
  parted false a b is = absurd (cc is)

  module _ (opened : ℕ → ℕ) (n : ℕ) where
    abbrev One : List ℕ → (ℕ → SpanContext → List TimedOp) → (ℕ → Bool) → Recording → ℕ → Type 0
    One order done is_known r id =
        (last : Record) × AreStories setup first (with_started order id) (begun_by now order (id ∷ []) done) opened now (λ s. is_known s && not (id == s)) n (with_close id now r) × ((with_close id now r).finished ≡ r.finished ++ last ∷ [])
        × Closed (with_started order id) (begun_by now order (id ∷ []) done) id last

    close_by : (order : List ℕ) (done : ℕ → SpanContext → List TimedOp) (is_known : ℕ → Bool) (r : Recording) (id : ℕ) → AreStories setup first (with_started order id) (begun_by now order (id ∷ []) done) opened now is_known n (with_start id now r)
        → (f : IsStory setup (data_at id (with_start id now r).spans) (first id) (place_in (with_started order id) id) (begun_by now order (id ∷ []) done id) (opened id) now) → opened id ≡ 0 → One order done is_known r id
    close_by order done is_known r id j f none =
        let s : Recording = with_start id now r in
        let is : with_close id now r ≡ with_span_finished (Some f.told) id now s = ap (λ (o : Option SpanData). with_span_finished o id now s) f.is in
        let some : 0 < place_in (with_started order id) id = (let there = present 1 (with_started order id) id (in_started order id) in omega (arith, there)) in (
          record_of f.told now,
          subst (λ (t : Recording). AreStories setup first (with_started order id) (begun_by now order (id ∷ []) done) opened now (λ s. is_known s && not (id == s)) n t) (sym is) (record {
            each = λ q is.
                let parts = both (is_known q) (id == q) is in
                let other : (q ≡ id → ⊥) = λ e. true≢false (sym (eq-eqb id q (sym e)) ∙ parts.1) in
                subst (λ (o : Option SpanData). IsStory setup o (first q) (place_in (with_started order id) q) (begun_by now order (id ∷ []) done q) (opened q) now) (sym (told_at_removed id q s.spans other)) (j.each q parts.0);
            fresh = λ q above. elim (cases_eq q id) [
              | inl same ↦ absurd (cc (sym (ap (λ (t : ℕ). data_at t s.spans) same ∙ f.is) ∙ j.fresh q above))
              | inr other ↦ told_at_removed id q s.spans other ∙ j.fresh q above
            ];
            count = j.count;
            settings_are = j.settings_are;
            counting_is = j.counting_is;
          }),
          ap (λ (t : Recording). t.finished) is ∙ ap (λ (rs : List Record). rs ++ record_of f.told now ∷ []) (start_finished (start_context (data_at id r.spans)) id now r),
          record_is setup (first id) (data_at id s.spans) (place_in (with_started order id) id) (begun_by now order (id ∷ []) done id) (opened id) now f none some,
        )

    pub close_story : (order : List ℕ) (done : ℕ → SpanContext → List TimedOp) (is_known : ℕ → Bool) (r : Recording) (id : ℕ) → AreStories setup first order done opened now is_known n r → is_known id ≡ true → opened id ≡ 0 → One order done is_known r id
    close_story order done is_known r id stories known none =
        let j = start_stories opened is_known n order done r id stories known in close_by order done is_known r id j (j.each id known) none

    -- what closed stays so
    first_stays : (order : List ℕ) (done : ℕ → SpanContext → List TimedOp) (id : ℕ) (spans : List ℕ) (last : Record) → Closed (with_started order id) (begun_by now order (id ∷ []) done) id last → Closed (fold with_started order (id ∷ spans)) (begun_by now order (id ∷ spans) done) id last
    first_stays order done id spans last c =
        same_record setup (first id) (begun_by now order (id ∷ []) done id) (begun_by now order (id ∷ spans) done id) (place_in (with_started order id) id) (place_in (fold with_started order (id ∷ spans)) id) now last
        (λ own. sym (append-nil (begun_by now order (id ∷ []) done id own)) ∙ ap (λ (xs : List TimedOp). begun_by now order (id ∷ []) done id own ++ xs) (sym (starts_not own now id (with_started order id) spans (in_started order id))) ∙ begun_cons now order id spans done id own)
        (sym (places_stay (with_started order id) spans id c.ends.started)) c

    closes_on : (order : List ℕ) (done : ℕ → SpanContext → List TimedOp) (is_known : ℕ → Bool) (r : Recording) (id : ℕ) (spans : List ℕ) → One order done is_known r id
        → Closes (with_started order id) (begun_by now order (id ∷ []) done) opened (λ s. is_known s && not (id == s)) n (with_close id now r) spans (fold (λ r s. with_close s now r) (with_close id now r) spans)
        → Closes order done opened is_known n r (id ∷ spans) (fold (λ r s. with_close s now r) r (id ∷ spans))
    closes_on order done is_known r id spans one rest = record {
      after = same_stories (fold with_started order (id ∷ spans)) (begun_by now (with_started order id) spans (begun_by now order (id ∷ []) done)) (begun_by now order (id ∷ spans) done) opened (λ s. (is_known s && not (id == s)) && not (is_in s spans))
          (λ s. is_known s && not (is_in s (id ∷ spans))) n (fold (λ r s. with_close s now r) (with_close id now r) spans) (begun_cons now order id spans done) (λ s is. parted (is_known s) (id == s) (is_in s spans) is) rest.after;
      records = one.0 ∷ rest.records;
      finished = rest.finished ∙ ap (λ (rs : List Record). rs ++ rest.records) one.2 ∙ append_assoc r.finished (one.0 ∷ []) rest.records;
      each = (
        first_stays order done id spans one.0 one.3,
        each_map (Closed (fold with_started order (id ∷ spans)) (begun_by now (with_started order id) spans (begun_by now order (id ∷ []) done))) (Closed (fold with_started order (id ∷ spans)) (begun_by now order (id ∷ spans) done)) spans rest.records
            (λ s last some c. same_record setup (first s) (begun_by now (with_started order id) spans (begun_by now order (id ∷ []) done) s) (begun_by now order (id ∷ spans) done s) (place_in (fold with_started order (id ∷ spans)) s) (place_in (fold with_started order (id ∷ spans)) s) now last
            (begun_cons now order id spans done s) refl c) rest.each,
      );
    }

    pub closes_stories : (order : List ℕ) (done : ℕ → SpanContext → List TimedOp) (is_known : ℕ → Bool) (r : Recording) (spans : List ℕ) → AreStories setup first order done opened now is_known n r → ((s : ℕ) → occurrences s spans ≤ cond (is_known s) 1 0)
        → ((s : ℕ) → 0 < occurrences s spans → opened s ≡ 0) → Closes order done opened is_known n r spans (fold (λ r s. with_close s now r) r spans)
    closes_stories order done is_known r [] stories once shut = record {
      after = same_stories order done (begun_by now order [] done) opened is_known (λ s. is_known s && not (is_in s [])) n r (λ s own. sym (append-nil (done s own))) (λ s is. (both (is_known s) false is).0) stories;
      records = [];
      finished = sym (append-nil r.finished);
      each = tt;
    }
    closes_stories order done is_known r (id ∷ spans) stories once shut =
        let one = close_story order done is_known r id stories (known_id (is_known id) refl) (shut id here) in
        closes_on order done is_known r id spans one
        (closes_stories (with_started order id) (begun_by now order (id ∷ []) done) (λ s. is_known s && not (id == s)) (with_close id now r) spans one.1 once_left (λ s some. shut s (let c = occurs_cons s id spans in omega (arith, c, some))))
      where
        here : 0 < occurrences id (id ∷ spans)
        here = let c = occurs_cons id id spans in grind (arith, nat_tests, c)

        known_id : (b : Bool) → is_known id ≡ b → is_known id ≡ true
        known_id true is = is
        known_id false is = absurd (let c = once id in let some = here in grind (arith, nat_tests, c, is, some))

        once_left : (s : ℕ) → occurrences s spans ≤ cond (is_known s && not (id == s)) 1 0
        once_left s = let c = occurs_cons s id spans in let o = once s in grind (arith, nat_tests, c, o)

-- ---- what is finished before closes

starts_finished : (at : ℕ) (r : Recording) (ids : List ℕ) → (fold (λ r s. with_start s at r) r ids).finished ≡ r.finished
starts_finished at r [] = refl
starts_finished at r (id ∷ ids) = starts_finished at (with_start id at r) ids ∙ start_finished (start_context (data_at id r.spans)) id at r

begins_finished : (o : Option ℕ) (at : ℕ) (r : Recording) → (with_start_if_some o at r).finished ≡ r.finished
begins_finished None at r = refl
begins_finished (Some id) at r = start_finished (start_context (data_at id r.spans)) id at r

ops_finished : (at : ℕ) (r : Recording) (ds : List SpanOp) → (fold (λ r d. with_applied d.span at d.op r) r ds).finished ≡ r.finished
ops_finished at r [] = refl
ops_finished at r (d ∷ ds) = ops_finished at (with_applied d.span at d.op r) ds

made_finished : (n : ℕ) (o : Option MadeSpan) (r : Recording) → (with_span_made n o r).finished ≡ r.finished
made_finished n None r = refl
made_finished n (Some m) r = refl

-- what stands before an effect's closes
abbrev pub before_closes : ℕ → Effect → Recording → Recording
before_closes n e r = table.with_ops_of n e r

pub before_finished : (n : ℕ) (e : Effect) (r : Recording) → (before_closes n e r).finished ≡ r.finished
before_finished n e r =
    let started = fold (λ r s. with_start s e.at r) r e.starts in
    ops_finished e.at (table.with_starts_of n e r) e.ops ∙ begins_finished e.new_span_start e.at (with_span_made n e.new_span started) ∙ made_finished n e.new_span started ∙ starts_finished e.at r e.starts
