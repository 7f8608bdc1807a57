-- A script that is run at once, request after request.
use Rattle.std.proofs.Common.{◌≡◌, ℕ, suc, ◌+◌, List, [], ◌∷◌, ◌++◌, length, map, fold, Option, Some, Ok, Err, refl, sym, ap, subst, ◌∙◌, append_assoc, slice_get, add-one, arith, inl, inr, option_and_then, Result, IfOk, MatchOption, MatchResult, is_ok, ◌⊎◌}
use Rattle.std.proofs.lemmas.Bool.{true≢false}
use Rattle.std.proofs.lemmas.Option.{slice_get_past}
use Rattle.span_script.proofs.Common.{map-append, length-map, length_push, fold_push, Record, Reply, Refusal, Request, Setup, Effect, History, Tables, no_tables, tables, after_effect, records_of, Resolved, effect_of, open_spans, PipelineState, StandsFor, IsServedByHistory}
use Rattle.std.proofs.lemmas.List.{append-nil}
use Rattle.std.proofs.Math.Nat.{add-zero}
use Rattle.span_script.specs.declared.outcome.Outcome.{Outcome}
use Rattle.span_script.specs.Outcomes.{with_effects_behind, history_from, history_of, records_from, records_of_history, refusal_at, refusal_behind, outcome_of, HasReplies, HasRun}

-- where a script stands: the history so far, which goes on with what is left of its requests
pub record Reached (setup : Setup) (requests left : List Request) (now : PipelineState) (replies : List Reply) : Type 0 where
  pub history : History
  pub setup_is : now.setup ≡ setup
  pub stands : StandsFor now (tables setup history)
  pub replies_are : replies ≡ map (λ (e : Effect). e.reply) history
  pub records_are : now.recording.finished ≡ records_of_history setup history
  pub goes_on : history_of setup requests ≡ history ++ history_from setup (tables setup history) left
  pub places : (n : ℕ) → slice_get requests (length history + n) ≡ slice_get left n

-- the records of one effect more
pub records_push : (t : Tables) (h : History) (e : Effect) → records_from t (h ++ e ∷ []) ≡ records_from t h ++ records_of (fold after_effect t h) e
records_push t [] e = append-nil (records_of t e)
records_push t (x ∷ h) e = ap (λ (rs : List Record). records_of t x ++ rs) (records_push (after_effect t x) h e) ∙ sym (append_assoc (records_of t x) (records_from (after_effect t x) h) (records_of (fold after_effect (after_effect t x) h) e))

-- the history with the effect of the next request, and where it has none
pub goes_on_with : (setup : Setup) (h : History) (request : Request) (left : List Request) (e : Effect) → effect_of setup (tables setup h) request ≡ Ok e
    → h ++ history_from setup (tables setup h) (request ∷ left) ≡ (h ++ e ∷ []) ++ history_from setup (tables setup (h ++ e ∷ [])) left
goes_on_with setup h request left e is =
    ap (λ (r : Resolved). h ++ with_effects_behind r (λ effect. history_from setup (after_effect (tables setup h) effect) left)) is
    ∙ ap (λ (t : Tables). h ++ e ∷ history_from setup t left) (sym (fold_push after_effect (no_tables setup) h e))
    ∙ sym (append_assoc h (e ∷ []) (history_from setup (tables setup (h ++ e ∷ [])) left))

pub stays_with : (setup : Setup) (h : History) (request : Request) (left : List Request) (refusal : Refusal) → effect_of setup (tables setup h) request ≡ Err refusal
    → h ++ history_from setup (tables setup h) (request ∷ left) ≡ h
stays_with setup h request left refusal is =
    ap (λ (r : Resolved). h ++ with_effects_behind r (λ effect. history_from setup (after_effect (tables setup h) effect) left)) is ∙ append-nil h

-- a request that is served
served_own : (requests left : List Request) (request : Request) (old new : PipelineState) (replies : List Reply) (answer : Reply)
    → (r : Reached old.setup requests (request ∷ left) old replies) → IsServedByHistory (effect_of old.setup (tables old.setup r.history) request) r.history old new answer
    → Reached old.setup requests left new (replies ++ answer ∷ [])
served_own requests left request old new replies answer r did = record {
  history = r.history ++ did.effect ∷ [];
  setup_is = did.setup;
  stands = did.stands;
  replies_are = ap (λ (rs : List Reply). rs ++ answer ∷ []) r.replies_are ∙ ap (λ (x : Reply). map (λ (e : Effect). e.reply) r.history ++ x ∷ []) did.reply_is ∙ sym (map-append (λ (e : Effect). e.reply) r.history (did.effect ∷ []));
  records_are = did.records ∙ ap (λ (rs : List Record). rs ++ records_of (tables old.setup r.history) did.effect) r.records_are ∙ sym (records_push (no_tables old.setup) r.history did.effect);
  goes_on = r.goes_on ∙ goes_on_with old.setup r.history request left did.effect did.is;
  places = λ n. ap (slice_get requests) (place n) ∙ r.places (n + 1) ∙ ap (slice_get (request ∷ left)) (add-one n);
}
  where
    place : (n : ℕ) → length (r.history ++ did.effect ∷ []) + n ≡ length r.history + (n + 1)
    place n = let e = length_push r.history did.effect in omega (arith, e)

pub reached_next : (setup : Setup) (requests left rest : List Request) (request : Request) (old new : PipelineState) (replies later : List Reply) (answer : Reply)
    → rest ≡ request ∷ left → later ≡ replies ++ answer ∷ []
    → ((h : History) → StandsFor old (tables old.setup h) → IsServedByHistory (effect_of old.setup (tables old.setup h) request) h old new answer)
    → Reached setup requests rest old replies → Reached setup requests left new later
reached_next setup requests left rest request old new replies later answer rest_is later_is steps reached =
    let here : Reached old.setup requests rest old replies = subst (λ (s : Setup). Reached s requests rest old replies) (sym reached.setup_is) reached in
    let r : Reached old.setup requests (request ∷ left) old replies = subst (λ (rs : List Request). Reached old.setup requests rs old replies) rest_is here in
    subst (λ (s : Setup). Reached s requests left new later) reached.setup_is
    (subst (λ (rs : List Reply). Reached old.setup requests left new rs) (sym later_is) (served_own requests left request old new replies answer r (steps r.history r.stands)))

-- the request behind the history
behind : (setup : Setup) (requests left : List Request) (now : PipelineState) (replies : List Reply) (r : Reached setup requests left now replies) → slice_get requests (length r.history) ≡ slice_get left 0
behind setup requests left now replies r = ap (slice_get requests) (sym (add-zero (length r.history))) ∙ r.places 0

-- why it is refused, if it is there and has no effect
abbrev why : (setup : Setup) (h : History) (found : Option Request) → Option (ℕ × Refusal)
why setup h found = option_and_then (λ request. refusal_at (length h) (effect_of setup (tables setup h) request)) found

-- what was run, as an outcome
pub outcome_is : (setup : Setup) (requests given : List Request) (now : PipelineState) (replies told : List Reply) (finished : List Record) (refused : Option (ℕ × Refusal)) (left : ℕ)
    → given ≡ requests → told ≡ replies → finished ≡ now.recording.finished → ((t : Tables) → StandsFor now t → left ≡ open_spans t) → HasRun setup given now replies refused
    → record { replies = told; records = finished; refused = refused; left_open = left } ≡ outcome_of setup requests
outcome_is setup requests given now replies told finished refused left given_is told_is finished_is counts ran =
    cc (told_is ∙ ran.replies_are, finished_is ∙ ran.records_are, ran.refused_is, counts (tables setup (history_of setup given)) ran.stands)

-- ---- where a script stops

-- behind the history of requests on some tables none is left, or the first is refused
abbrev Stops : Setup → Tables → List Request → History → Type 0
Stops setup t requests made = (length made ≡ length requests)
    ⊎ ((request : Request) × (refusal : Refusal) × (slice_get requests (length made) ≡ Some request) × (effect_of setup (fold after_effect t made) request ≡ Err refusal))

stops_by : (setup : Setup) (t : Tables) (request : Request) (requests : List Request) (r : Resolved) → effect_of setup t request ≡ r
    → ((e : Effect) → Stops setup (after_effect t e) requests (history_from setup (after_effect t e) requests)) → Stops setup t (request ∷ requests) (with_effects_behind r (λ effect. history_from setup (after_effect t effect) requests))
stops_by setup t request requests (Ok e) is behind = one_more (behind e)
  where
    one_more : Stops setup (after_effect t e) requests (history_from setup (after_effect t e) requests) → Stops setup t (request ∷ requests) (e ∷ history_from setup (after_effect t e) requests)
    one_more (inl all) = inl (ap suc all)
    one_more (inr refused) = inr refused
stops_by setup t request requests (Err refusal) is behind = inr (request, refusal, refl, is)

stops : (setup : Setup) (t : Tables) (requests : List Request) → Stops setup t requests (history_from setup t requests)
stops setup t [] = inl refl
stops setup t (request ∷ requests) = stops_by setup t request requests (effect_of setup t request) refl (λ e. stops setup (after_effect t e) requests)

has_replies : (setup : Setup) (requests : List Request) → HasReplies requests (outcome_of setup requests)
has_replies setup requests = by_stop (stops setup (no_tables setup) requests)
  where
    h : History
    h = history_of setup requests

    replies : ℕ
    replies = length (map (λ (e : Effect). e.reply) h)

    Told : Option (ℕ × Refusal) → Type 0
    Told refused = MatchOption refused (replies ≡ length requests) (λ r. replies ≡ r.0)

    counted : replies ≡ length h
    counted = length-map h (λ (e : Effect). e.reply)

    by_stop : Stops setup (no_tables setup) requests h → Told (refusal_behind setup requests h)
    by_stop (inl all) = subst Told (sym (ap (why setup h) (slice_get_past requests (length h) (omega (arith, all))))) (counted ∙ all)
    by_stop (inr (request, refusal, there, is)) = subst Told (sym (ap (why setup h) there ∙ ap (refusal_at (length h)) is)) counted

-- what holds of a value holds where its error alone is told otherwise
on_ok : {A E F : Type 0} (P : A → Type 0) (given : Result A E) (result : Result A F) (Why : E → Type 0)
    → MatchResult given (λ x. result ≡ Ok x) Why → is_ok result ≡ is_ok given → IfOk given P → IfOk result P
on_ok P (Ok x) result Why is same holds = subst (λ (r : Result _ _). IfOk r P) (sym is) holds
on_ok P (Err error) (Ok x) Why is same holds = absurd (true≢false same)
on_ok P (Err error) (Err other) Why is same holds = tt

replies_are : {E : Type 0} (given : Result Outcome E) (setup : Setup) (requests : List Request) → IfOk given (λ outcome. outcome ≡ outcome_of setup requests) → IfOk given (HasReplies requests)
replies_are (Ok outcome) setup requests is = subst (HasReplies requests) (sym is) (has_replies setup requests)
replies_are (Err error) setup requests is = tt

-- the replies of what is run on a pipeline that was just opened
pub opened_replies : {E F : Type 0} (k : PipelineState) (setup : Setup) (requests : List Request) (given : Result Outcome E) (result : Result Outcome F) (Why : E → Type 0)
    → k.setup ≡ setup → StandsFor k (tables setup []) → k.recording.finished ≡ []
    → (StandsFor k (tables k.setup []) → k.recording.finished ≡ [] → IfOk given (λ outcome. outcome ≡ outcome_of k.setup requests))
    → MatchResult given (λ x. result ≡ Ok x) Why → is_ok result ≡ is_ok given → IfOk result (HasReplies requests)
opened_replies k setup requests given result Why setup_is stands none runs cases same =
    on_ok (HasReplies requests) given result Why cases same
    (replies_are given k.setup requests (runs (subst (λ (s : Setup). StandsFor k (tables s [])) (sym setup_is) stands) none))

-- what it comes to is the outcome of its requests
pub opened_outcome : {E F : Type 0} (k : PipelineState) (setup : Setup) (requests : List Request) (given : Result Outcome E) (result : Result Outcome F) (Why : E → Type 0)
    → k.setup ≡ setup → StandsFor k (tables setup []) → k.recording.finished ≡ []
    → (StandsFor k (tables k.setup []) → k.recording.finished ≡ [] → IfOk given (λ outcome. outcome ≡ outcome_of k.setup requests))
    → MatchResult given (λ x. result ≡ Ok x) Why → is_ok result ≡ is_ok given → IfOk result (λ outcome. outcome ≡ outcome_of setup requests)
opened_outcome k setup requests given result Why setup_is stands none runs cases same =
    on_ok (λ outcome. outcome ≡ outcome_of setup requests) given result Why cases same
    (subst (λ (s : Setup). IfOk given (λ outcome. outcome ≡ outcome_of s requests)) setup_is
    (runs (subst (λ (s : Setup). StandsFor k (tables s [])) (sym setup_is) stands) none))
