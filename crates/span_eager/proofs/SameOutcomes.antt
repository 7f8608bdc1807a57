-- An early start changes ids alone.
use Rattle.std.proofs.Common.{◌≡◌, ℕ, zero, suc, ◌+◌, ◌≤◌, List, [], ◌∷◌, ◌++◌, length, map, true, Option, Some, None, refl, ap, ◌∙◌, arith, slice_get, count_by}
use Rattle.span_eager.proofs.Common.{option_map_or, range_with_len, nat_tests, length-map, slice_get_past, Reply, Request, Setup, Effect, History, Tables, no_tables, nothing_recorded, tables, after_effect, is_open, open_spans, history_of, outcome_of, none, starting_order, lazy_setup, eager_id, answers, is_no_span_id, MayStartEarly, id_by_making, renamed_reply, renamed_answer, renamed_outcome}
use Rattle.span_laws.proofs.spans.AllSpansLemmas.{started_few}
use Rattle.span_laws.proofs.steps.LegalLemmas.{scripts_are_legal}
use Rattle.span_eager.proofs.SameSpan.{Ids}
use Rattle.span_eager.proofs.RenamedTables.{made_by}
use Rattle.span_eager.proofs.LazyHistories.{goes_on}
use Rattle.span_eager.proofs.SameScripts.{history_by, refused_from, Beside, along}

-- ---- new ids

ids_some : (order : List ℕ) (k : ℕ) → id_by_making order (suc k) ≡ 0 → ⊥
ids_some order k is = by_slot (slice_get order k) is
  where
    by_slot : (o : Option ℕ) → option_map_or suc o (suc k) ≡ 0 → ⊥
    by_slot None is = absurd (omega (arith, is))
    by_slot (Some s) is = absurd (omega (arith, is))

slot_behind : (front rest : List ℕ) (s : ℕ) → slice_get (front ++ s ∷ rest) (length front) ≡ Some s
slot_behind [] rest s = refl
slot_behind (x ∷ front) rest s = slot_behind front rest s

ids_placed : (order front rest : List ℕ) (s : ℕ) → order ≡ front ++ s ∷ rest → id_by_making order (length front + 1) ≡ suc s
ids_placed order front rest s is =
    let next : length front + 1 ≡ suc (length front) = omega arith in
    ap (id_by_making order) next ∙ ap (λ (o : Option ℕ). option_map_or suc o (suc (length front))) (ap (λ (xs : List ℕ). slice_get xs (length front)) is ∙ slot_behind front rest s)

ids_far : (order : List ℕ) (many : ℕ) → length order ≤ many → (id : ℕ) → is_no_span_id many id ≡ true → id_by_making order id ≡ id
ids_far order many few zero far = refl
ids_far order many few (suc k) far =
    let past : length order ≤ k = grind (arith, nat_tests, far, few) in
    ap (λ (o : Option ℕ). option_map_or suc o (suc k)) (slice_get_past order k past)

-- ---- the outcome

replies_by : (f : ℕ → ℕ) (t : Tables) (h : History) → map (λ (e : Effect). e.reply) (history_by f t h) ≡ map (renamed_reply f) (map (λ (e : Effect). e.reply) h)
replies_by f t [] = refl
replies_by f t (e ∷ h) = ap (λ (rs : List Reply). renamed_reply f e.reply ∷ rs) (replies_by f (after_effect t e) h)

as_many : (f : ℕ → ℕ) (t : Tables) (h : History) → length (history_by f t h) ≡ length h
as_many f t [] = refl
as_many f t (e ∷ h) = ap suc (as_many f (after_effect t e) h)

-- both scripts from their beginnings
beside : (setup : Setup) (requests : List Request) → setup.layer.eager ≡ true → MayStartEarly (lazy_setup setup) requests
    → Beside (eager_id (lazy_setup setup) requests) setup (no_tables setup) (no_tables (lazy_setup setup)) requests (history_of setup requests) (history_of (lazy_setup setup) requests)
beside setup requests eager may =
    let t = no_tables (lazy_setup setup) in
    let h = history_of (lazy_setup setup) requests in
    let order = starting_order h in
    let many = length (tables (lazy_setup setup) h).spans in
    let on = goes_on (lazy_setup setup) refl requests [] none in
    let f : Ids = record {
      new = id_by_making order;
      order = order;
      many = many;
      none = refl;
      some = ids_some order;
      placed = ids_placed order;
      far = ids_far order many (started_few (lazy_setup setup) h (scripts_are_legal (lazy_setup setup) requests));
    } in
    along f setup eager requests t (nothing_recorded setup) may.far
    (record { spans = tt; below = tt; made = refl; front = []; order_is = on.1; count = refl; finished = refl; e_settings = refl; l_settings = refl; counting = refl })
    may.settled on.0

pub each_early_is_late : (setup : Setup) (requests : List Request) → setup.layer.eager ≡ true → MayStartEarly (lazy_setup setup) requests
    → answers setup requests ≡ map (renamed_answer (eager_id (lazy_setup setup) requests)) (answers (lazy_setup setup) requests)
each_early_is_late setup requests eager may = (beside setup requests eager may).answers

pub early_is_late : (setup : Setup) (requests : List Request) → setup.layer.eager ≡ true → MayStartEarly (lazy_setup setup) requests
    → outcome_of setup requests ≡ renamed_outcome (eager_id (lazy_setup setup) requests) (outcome_of (lazy_setup setup) requests)
early_is_late setup requests eager may =
    let t = no_tables (lazy_setup setup) in
    let f = eager_id (lazy_setup setup) requests in
    let h = history_of (lazy_setup setup) requests in
    let early = history_of setup requests in
    let both = beside setup requests eager may in
    λ i. record {
      replies = (ap (map (λ (e : Effect). e.reply)) both.history ∙ replies_by f t h) i;
      records = both.records i;
      refused = (both.refused (length early) ∙ ap (λ (place : ℕ). refused_from (lazy_setup setup) t place requests h) (ap length both.history ∙ as_many f t h)) i;
      left_open = (ap open_spans both.final ∙ ap (λ (n : ℕ). count_by (is_open (tables (lazy_setup setup) h).handles) (range_with_len 0 n)) (length-map (tables (lazy_setup setup) h).spans (made_by f))) i;
    }
