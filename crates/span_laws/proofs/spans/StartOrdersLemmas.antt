-- Which spans start, in which order, read off what is recorded.
use Rattle.span_laws.proofs.Common.{AllByRecursion, Bool, Context, Effect, GREATEST, History, IsHistory, List, None, Ok, Option, Recording, Request, Setup, Some, SpanContext, SpanData, Tables, TimedOp, [], ap, append_assoc, arith, cases_Bool, cond, cond-false, cond-true, context_unless_started, data_at, effect_of, false, fold, inl, inr, is_drop, is_in, length, nat_tests, not, occurrences, place_in, refl, start_context, starting_order, sym, tables, true, with_close, with_ops_of, with_start, with_started, ℕ, ◌&&◌, ◌++◌, ◌<◌, ◌==◌, ◌∙◌, ◌∷◌, ◌≡◌, ◌≤◌}
use Rattle.std.specs.Option.{option_to_list}
use Rattle.std.proofs.lemmas.List.{append-nil}
use Rattle.span_laws.proofs.records.HistoriesLemmas.{closing_once, did, done_in, fits, moved, shut, started_push, whole}
use Rattle.span_laws.proofs.spans.MakingsLemmas.{first_of}
use Rattle.span_laws.proofs.spans.OccurrencesLemmas.{occurs_cons}
use Rattle.span_laws.proofs.spans.PlacesLemmas.{present, placed}
use Rattle.span_laws.proofs.records.RecordingLemmas.{AreStories, begun_by, close_story, start_stories}
use Rattle.span_laws.proofs.steps.StepsLemmas.{step_of}
use Rattle.span_laws.proofs.steps.EntriesLemmas.{guards_of}
use Rattle.span_laws.proofs.records.StoriesLemmas.{HasId, IsStory}

-- the span, where a start would start it: it is known and hasn't started
abbrev pub if_waiting : Option Context → ℕ → List ℕ
if_waiting None s = []
if_waiting (Some under) s = s ∷ []

abbrev pub starting : ℕ → Recording → List ℕ
starting s r = if_waiting (start_context (data_at s r.spans)) s

-- those of some spans that start, one after the other, and those that start as they close
abbrev pub starts_from : ℕ → Recording → List ℕ → List ℕ
starts_from at r [] = []
starts_from at r (s ∷ ss) = starting s r ++ starts_from at (with_start s at r) ss

abbrev pub closes_from : ℕ → Recording → List ℕ → List ℕ
closes_from at r [] = []
closes_from at r (s ∷ ss) = starting s r ++ closes_from at (with_close s at r) ss

module _ (setup : Setup) (first : ℕ → SpanData) (now : ℕ) (most : now ≤ GREATEST) (opened : ℕ → ℕ) (n : ℕ) where
  abbrev Now : List ℕ → (ℕ → SpanContext → List TimedOp) → (ℕ → Bool) → Recording → Type 0
  Now order done is_known r = AreStories setup first order done opened now is_known n r

  start_by : (order : List ℕ) (done : ℕ → SpanContext → List TimedOp) (r : Recording) (id : ℕ) → (f : IsStory setup (data_at id r.spans) (first id) (place_in order id) (done id) (opened id) now)
      → (own : Option SpanContext) → f.told.own ≡ own → HasId own (place_in order id) f.told.parent → with_started order id ≡ order ++ starting id r
  start_by order done r id f None unstarted none =
      let out : is_in id order ≡ false = elim (cases_Bool (is_in id order)) [
        | inl there ↦ absurd (let some = present 1 order id there in omega (arith, some, none))
        | inr out ↦ out
      ] in
      let under = ap start_context f.is ∙ ap (λ (o : Option SpanContext). context_unless_started o f.told.parent) unstarted in
      cond-false {A = List ℕ} (is_in id order) order (order ++ id ∷ []) out ∙ ap (λ (u : Option Context). order ++ if_waiting u id) (sym under)
  start_by order done r id f (Some own) started is =
      let there = placed order id is.1 in
      let under = ap start_context f.is ∙ ap (λ (o : Option SpanContext). context_unless_started o f.told.parent) started in
      cond-true {A = List ℕ} (is_in id order) order (order ++ id ∷ []) there ∙ sym (append-nil order) ∙ ap (λ (u : Option Context). order ++ if_waiting u id) (sym under)

  start_order : (order : List ℕ) (done : ℕ → SpanContext → List TimedOp) (is_known : ℕ → Bool) (r : Recording) (id : ℕ) → Now order done is_known r → is_known id ≡ true → with_started order id ≡ order ++ starting id r
  start_order order done is_known r id stories known = let f = stories.each id known in start_by order done r id f f.told.own refl f.has_id

  pub starts_order : (order : List ℕ) (done : ℕ → SpanContext → List TimedOp) (is_known : ℕ → Bool) (r : Recording) (ids : List ℕ) → Now order done is_known r → AllByRecursion (λ s. is_known s ≡ true) ids
      → fold with_started order ids ≡ order ++ starts_from now r ids
  starts_order order done is_known r [] stories known = sym (append-nil order)
  starts_order order done is_known r (id ∷ ids) stories known =
      starts_order (with_started order id) (begun_by now order (id ∷ []) done) is_known (with_start id now r) ids (start_stories setup first now most opened is_known n order done r id stories known.0) known.1
      ∙ ap (λ (o : List ℕ). o ++ starts_from now (with_start id now r) ids) (start_order order done is_known r id stories known.0)
      ∙ append_assoc order (starting id r) (starts_from now (with_start id now r) ids)

  pub closes_order : (order : List ℕ) (done : ℕ → SpanContext → List TimedOp) (is_known : ℕ → Bool) (r : Recording) (ids : List ℕ) → Now order done is_known r → ((s : ℕ) → occurrences s ids ≤ cond (is_known s) 1 0)
      → ((s : ℕ) → 0 < occurrences s ids → opened s ≡ 0) → fold with_started order ids ≡ order ++ closes_from now r ids
  closes_order order done is_known r [] stories once shut = sym (append-nil order)
  closes_order order done is_known r (id ∷ ids) stories once shut =
      let one = close_story setup first now most opened n order done is_known r id stories (known_id (is_known id) refl) (shut id here) in
      closes_order (with_started order id) (begun_by now order (id ∷ []) done) (λ s. is_known s && not (id == s)) (with_close id now r) ids one.1 once_left (λ s some. shut s (let c = occurs_cons s id ids in omega (arith, c, some)))
      ∙ ap (λ (o : List ℕ). o ++ closes_from now (with_close id now r) ids) (start_order order done is_known r id stories (known_id (is_known id) refl))
      ∙ append_assoc order (starting id r) (closes_from now (with_close id now r) ids)
    where
      here : 0 < occurrences id (id ∷ ids)
      here = let c = occurs_cons id id ids in grind (arith, nat_tests, c)

      known_id : (b : Bool) → is_known id ≡ b → is_known id ≡ true
      known_id true is = is
      known_id false is = absurd (let c = once id in let some = here in grind (arith, nat_tests, c, is, some))

      once_left : (s : ℕ) → occurrences s ids ≤ cond (is_known s && not (id == s)) 1 0
      once_left s = let c = occurs_cons s id ids in let o = once s in grind (arith, nat_tests, c, o)

-- the spans that an effect starts, beside the one that it makes
abbrev pub order_in : Tables → Effect → List ℕ
order_in t e = starts_from e.at t.recording e.starts ++ closes_from e.at (with_ops_of (length t.spans) e t.recording) e.closes

pub effect_order : (setup : Setup) (h : History) (request : Request) (e : Effect) → IsHistory setup h → effect_of setup (tables setup h) request ≡ Ok e → e.new_span_start ≡ None
    → starting_order (h ++ e ∷ []) ≡ starting_order h ++ order_in (tables setup h) e
effect_order setup h request e legal is none =
    let t : Tables = tables setup h in
    let now = whole setup h legal in
    let step = step_of setup t (fits setup h now) request e is in
    let before = fold with_started (starting_order h) e.starts in
    let closing = closes_from e.at (with_ops_of (length t.spans) e t.recording) e.closes in
    started_push h e
    ∙ closes_order setup _ e.at step.0.most _ _ (fold with_started before (option_to_list e.new_span_start)) _ _ (with_ops_of (length t.spans) e t.recording) e.closes (did setup h now request.at (is_drop request.call) e step.0 step.1)
    (closing_once setup h now request.at (is_drop request.call) e step.0 step.1) (shut setup h now request.at (is_drop request.call) e step.0 step.1)
    ∙ ap (λ (o : List ℕ). o ++ closing) (
    ap (λ (b : Option ℕ). fold with_started before (option_to_list b)) none
    ∙ starts_order setup (first_of t.spans) e.at step.0.most (guards_of t.guards) (length t.spans) (starting_order h) (done_in h) _ t.recording e.starts (moved setup h now request.at (is_drop request.call) e step.0 step.1) step.1.starts
    )
    ∙ append_assoc (starting_order h) (starts_from e.at t.recording e.starts) closing
