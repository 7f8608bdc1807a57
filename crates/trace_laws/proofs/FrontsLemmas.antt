-- Fronts of a history are legal, and answers are parted as the spans that requests closed.
use Rattle.std.proofs.Common.{◌≡◌, ℕ, List, [], ◌∷◌, ◌++◌, length, map, flat_map, fold, Some, Ok, Err, refl, sym, ap, subst, ◌∙◌, arith, append_assoc, append-nil, slice_get, IsErr}
use Rattle.trace_laws.proofs.Common.{fold_push, Record, Reply, Request, Resolved, effect_of, with_effects_behind, history_from, records_from, Setup, Effect, History, Tables, after_effect, no_tables, records_of, tables, answers_from, IsHistory, more, EachRecord, AnswersEach, closed_spans}
use Rattle.span_laws.proofs.records.RecordsLemmas.{as_many_as_close}

-- the closed spans of the tables behind a history
pub closed_is : (t : Tables) (h : History) → (fold after_effect t h).closed ≡ t.closed ++ closed_spans h
closed_is t [] = sym (append-nil t.closed)
closed_is t (e ∷ h) = closed_is (after_effect t e) h ∙ append_assoc t.closed e.closes (closed_spans h)

-- the replies and the records of answers
pub replies_are : (t : Tables) (h : History) → map (λ (answer : Reply × List Record). answer.0) (answers_from t h) ≡ map (λ e. e.reply) h
replies_are t [] = refl
replies_are t (e ∷ h) = ap (λ (rs : List Reply). e.reply ∷ rs) (replies_are (after_effect t e) h)

pub records_are : (t : Tables) (h : History) → flat_map (λ (answer : Reply × List Record). answer.1) (answers_from t h) ≡ records_from t h
records_are t [] = refl
records_are t (e ∷ h) = ap (λ (rs : List Record). records_of t e ++ rs) (records_are (after_effect t e) h)

-- two lists beside each other, cut at the same place
each_parts : (P : ℕ → Record → Type 0) (xs ys : List ℕ) (rs qs : List Record) → length rs ≡ length xs → EachRecord P (xs ++ ys) (rs ++ qs) → EachRecord P xs rs × EachRecord P ys qs
each_parts P [] ys [] qs same each = (tt, each)
each_parts P [] ys (r ∷ rs) qs same each = absurd (omega (arith, same))
each_parts P (x ∷ xs) ys [] qs same each = absurd (omega (arith, same))
each_parts P (x ∷ xs) ys (r ∷ rs) qs same each =
    let rest = each_parts P xs ys rs qs (omega (arith, same)) each.1 in
    ((each.0, rest.0), rest.1)

module _ (setup : Setup) where
  pushed : (h : History) (e : Effect) → tables setup (h ++ e ∷ []) ≡ after_effect (tables setup h) e
  pushed h e = fold_push after_effect (no_tables setup) h e

  -- the answers of requests, whose records are beside the spans that were closed
  pub answers_each : (P : ℕ → Record → Type 0) (requests : List Request) (h : History) (t : Tables) → tables setup h ≡ t → IsHistory setup h
      → EachRecord P (closed_spans (history_from setup t requests)) (records_from t (history_from setup t requests))
      → AnswersEach P (history_from setup t requests) (answers_from t (history_from setup t requests))
  answers_each P [] h t now legal each = tt
  answers_each P (request ∷ requests) h t now legal each =
      by_effect (effect_of setup t request) refl (λ e behind. answers_each P requests (h ++ e ∷ []) (after_effect t e) (pushed h e ∙ ap (λ (u : Tables). after_effect u e) now) behind) each
    where
      by_effect : (r : Resolved) → effect_of setup t request ≡ r
          → ((e : Effect) → IsHistory setup (h ++ e ∷ []) → EachRecord P (closed_spans (history_from setup (after_effect t e) requests)) (records_from (after_effect t e) (history_from setup (after_effect t e) requests))
          → AnswersEach P (history_from setup (after_effect t e) requests) (answers_from (after_effect t e) (history_from setup (after_effect t e) requests)))
          → EachRecord P (closed_spans (with_effects_behind r (λ e. history_from setup (after_effect t e) requests))) (records_from t (with_effects_behind r (λ e. history_from setup (after_effect t e) requests)))
          → AnswersEach P (with_effects_behind r (λ e. history_from setup (after_effect t e) requests)) (answers_from t (with_effects_behind r (λ e. history_from setup (after_effect t e) requests)))
      by_effect (Err why) is behind each = tt
      by_effect (Ok e) is behind each =
          let here = ap (λ (u : Tables). effect_of setup u request) now ∙ is in
          let many = ap (λ (u : Tables). length (records_of u e)) (sym now) ∙ as_many_as_close setup h request e legal here in
          let parts = each_parts P e.closes (closed_spans (history_from setup (after_effect t e) requests)) (records_of t e) (records_from (after_effect t e) (history_from setup (after_effect t e) requests)) many each in
          (refl, parts.0, behind e (more h request e legal here) parts.1)

  -- a front of a history is legal
  heads : (e x : Effect) (h rest : History) → e ∷ h ≡ x ∷ rest → (e ≡ x) × (h ≡ rest)
  heads e x h rest is = (cc is, cc is)

  pub front_legal : (requests : List Request) (h : History) (t : Tables) → tables setup h ≡ t → IsHistory setup h
      → (fore rest : History) → history_from setup t requests ≡ fore ++ rest → IsHistory setup (h ++ fore)
  front_legal requests h t now legal [] rest is = subst (IsHistory setup) (sym (append-nil h)) legal
  front_legal [] h t now legal (x ∷ fore) rest is = absurd (cc is)
  front_legal (request ∷ requests) h t now legal (x ∷ fore) rest is =
      by_effect (effect_of setup t request) refl (λ e longer. front_legal requests (h ++ e ∷ []) (after_effect t e) (pushed h e ∙ ap (λ (u : Tables). after_effect u e) now) longer fore rest) is
    where
      by_effect : (r : Resolved) → effect_of setup t request ≡ r
          → ((e : Effect) → IsHistory setup (h ++ e ∷ []) → history_from setup (after_effect t e) requests ≡ fore ++ rest → IsHistory setup ((h ++ e ∷ []) ++ fore))
          → with_effects_behind r (λ e. history_from setup (after_effect t e) requests) ≡ x ∷ (fore ++ rest) → IsHistory setup (h ++ x ∷ fore)
      by_effect (Err why) is behind same = absurd (cc same)
      by_effect (Ok e) is behind same =
          let parts = heads e x (history_from setup (after_effect t e) requests) (fore ++ rest) same in
          let here = ap (λ (u : Tables). effect_of setup u request) now ∙ is in
          subst (λ (y : Effect). IsHistory setup (h ++ y ∷ fore)) parts.0 (subst (IsHistory setup) (append_assoc h (e ∷ []) fore) (behind e (more h request e legal here) parts.1))

  -- an effect behind a front is that of the request at its place
  pub front_step : (requests : List Request) (t : Tables) (fore rest : History) (e : Effect) → history_from setup t requests ≡ fore ++ e ∷ rest
      → (request : Request) × (slice_get requests (length fore) ≡ Some request) × (effect_of setup (fold after_effect t fore) request ≡ Ok e)
  front_step [] t [] rest e is = absurd (cc is)
  front_step [] t (x ∷ fore) rest e is = absurd (cc is)
  front_step (request ∷ requests) t fore rest e is = by_effect (effect_of setup t request) refl (λ made more same. front_step requests (after_effect t made) more rest e same) fore is
    where
      by_effect : (r : Resolved) → effect_of setup t request ≡ r
          → ((made : Effect) (more : History) → history_from setup (after_effect t made) requests ≡ more ++ e ∷ rest
          → (found : Request) × (slice_get requests (length more) ≡ Some found) × (effect_of setup (fold after_effect (after_effect t made) more) found ≡ Ok e))
          → (fore : History) → with_effects_behind r (λ e. history_from setup (after_effect t e) requests) ≡ fore ++ e ∷ rest
          → (found : Request) × (slice_get (request ∷ requests) (length fore) ≡ Some found) × (effect_of setup (fold after_effect t fore) found ≡ Ok e)
      by_effect (Err why) here behind [] same = absurd (cc same)
      by_effect (Err why) here behind (x ∷ fore) same = absurd (cc same)
      by_effect (Ok made) here behind [] same = (request, refl, here ∙ ap Ok (heads made e (history_from setup (after_effect t made) requests) rest same).0)
      by_effect (Ok made) here behind (x ∷ fore) same =
          let parts = heads made x (history_from setup (after_effect t made) requests) (fore ++ e ∷ rest) same in
          let later = behind made fore parts.1 in
          (later.0, later.1, ap (λ (y : Effect). effect_of setup (fold after_effect (after_effect t y) fore) later.0) (sym parts.0) ∙ later.2)

  -- the request behind the history that requests give is refused
  pub is_refused : (requests : List Request) (t : Tables) (request : Request) → slice_get requests (length (history_from setup t requests)) ≡ Some request
      → IsErr (effect_of setup (fold after_effect t (history_from setup t requests)) request)
  is_refused [] t request there = absurd (cc there)
  is_refused (first ∷ requests) t request there = by_effect (effect_of setup t first) refl (λ e. is_refused requests (after_effect t e) request) there
    where
      by_effect : (r : Resolved) → effect_of setup t first ≡ r
          → ((e : Effect) → slice_get requests (length (history_from setup (after_effect t e) requests)) ≡ Some request
          → IsErr (effect_of setup (fold after_effect (after_effect t e) (history_from setup (after_effect t e) requests)) request))
          → slice_get (first ∷ requests) (length (with_effects_behind r (λ e. history_from setup (after_effect t e) requests))) ≡ Some request
          → IsErr (effect_of setup (fold after_effect t (with_effects_behind r (λ e. history_from setup (after_effect t e) requests))) request)
      by_effect (Err why) is behind there =
          let same : first ≡ request = cc there in
          subst (λ (q : Request). IsErr (effect_of setup t q)) same (subst (λ (r : Resolved). IsErr r) (sym is) refl)
      by_effect (Ok e) is behind there = behind e there
