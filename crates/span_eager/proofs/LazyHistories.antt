-- What stands of the history of a script whose spans don't start at their making: no entry is open of a span that closes, and
-- the order of starts is read off what is recorded.
use Rattle.std.proofs.Common.{◌≡◌, ℕ, ◌≤◌, List, [], ◌∷◌, ◌++◌, length, Bool, false, Option, Some, None, Ok, Err, refl, sym, ap, subst, ◌∙◌, arith, append_assoc}
use Rattle.span_eager.proofs.Common.{nat_tests, SpanData, data_at, Request, Setup, MadeSpan, Effect, History, Tables, no_tables, tables, with_ops_of, after_effect, Resolved, effect_of, with_effects_behind, history_from, IsHistory, more, occurrences, span_starting_at_making, starting_order, order_in, effect_order}
use Rattle.std.proofs.lemmas.Bool.{le-ltb}
use Rattle.std.proofs.lemmas.List.{append-nil}
use Rattle.std.proofs.lemmas.List.Sums.{fold_push}
use Rattle.span_laws.specs.Closes.{is_drop}
use Rattle.span_laws.proofs.records.HistoriesLemmas.{closing_once, closing_shut, fits, whole}
use Rattle.span_laws.proofs.spans.OccurrencesLemmas.{is_in_counted, occurs_cons}
use Rattle.span_laws.proofs.steps.StepsLemmas.{step_of}
use Rattle.span_eager.proofs.SameRecordings.{AreOnce, Shut, entries_in}

-- the spans of a history that goes on from some tables, in the order in which they start
abbrev pub order_from : Tables → History → List ℕ
order_from t [] = []
order_from t (e ∷ h) = order_in t e ++ order_from (after_effect t e) h

-- the spans that close do so once, and no entry of theirs is open
pub record Ends (t : Tables) (e : Effect) : Type 0 where
  pub once : AreOnce e.closes
  pub shut : Shut e.closes (with_ops_of (length t.spans) e t.recording).spans

abbrev pub AreShut : Tables → History → Type 0
AreShut t [] = Unit {0}
AreShut t (e ∷ h) = Ends t e × AreShut (after_effect t e) h

-- ---- one effect

once_by : (ss : List ℕ) → ((s : ℕ) → occurrences s ss ≤ 1) → AreOnce ss
once_by [] once = tt
once_by (s ∷ ss) once = (
  (let here = occurs_cons s s ss in let most = once s in let counted = is_in_counted s ss in counted ∙ le-ltb 0 (occurrences s ss) (grind (arith, nat_tests, here, most))),
  once_by ss (λ q. (let c = occurs_cons q s ss in let o = once q in omega (arith, c, o))),
)

no_entries : (o : Option SpanData) → ((t : SpanData) → o ≡ Some t → t.entries ≡ 0) → entries_in o ≡ 0
no_entries None shut = refl
no_entries (Some t) shut = shut t refl

module _ (setup : Setup) (lazily : setup.layer.eager ≡ false) where
  ends : (h : History) (request : Request) (e : Effect) → IsHistory setup h → effect_of setup (tables setup h) request ≡ Ok e → Ends (tables setup h) e
  ends h request e legal is =
      let t : Tables = tables setup h in
      let now = whole setup h legal in
      let step = step_of setup t (fits setup h now) request e is in
      record {
        once = once_by e.closes (λ s. (let once = closing_once setup h now request.at (is_drop request.call) e step.0 step.1 s in grind (arith, nat_tests, once)));
        shut = λ s there. no_entries (data_at s (with_ops_of (length t.spans) e t.recording).spans)
            (closing_shut setup h now request.at (is_drop request.call) e step.0 step.1 s (let counted = is_in_counted s e.closes in grind (arith, nat_tests, counted, there)));
      }

  none_begins : (h : History) (request : Request) (e : Effect) → IsHistory setup h → effect_of setup (tables setup h) request ≡ Ok e → e.new_span_start ≡ None
  none_begins h request e legal is =
      let t : Tables = tables setup h in
      (step_of setup t (fits setup h (whole setup h legal)) request e is).1.early ∙ ap (λ (b : Bool). span_starting_at_making b (length t.spans) e.new_span) lazily ∙ by_made (length t.spans) e.new_span
    where
      by_made : (n : ℕ) (o : Option MadeSpan) → span_starting_at_making false n o ≡ None
      by_made n None = refl
      by_made n (Some m) = refl

  -- ---- what goes on from a history

  abbrev GoesOn : History → Tables → History → Type 0
  GoesOn h t rest = AreShut t rest × (starting_order (h ++ rest) ≡ starting_order h ++ order_from t rest)

  by_effect : (requests : List Request) (h : History) (request : Request) (r : Resolved) → effect_of setup (tables setup h) request ≡ r → IsHistory setup h
      → ((e : Effect) → IsHistory setup (h ++ e ∷ []) → GoesOn (h ++ e ∷ []) (tables setup (h ++ e ∷ [])) (history_from setup (tables setup (h ++ e ∷ [])) requests))
      → GoesOn h (tables setup h) (with_effects_behind r (λ e. history_from setup (after_effect (tables setup h) e) requests))
  by_effect requests h request (Err refusal) is legal behind = (tt, ap starting_order (append-nil h) ∙ sym (append-nil (starting_order h)))
  by_effect requests h request (Ok e) is legal behind =
      let t : Tables = tables setup h in
      let rest = history_from setup (after_effect t e) requests in
      let next = subst (λ (u : Tables). GoesOn (h ++ e ∷ []) u (history_from setup u requests)) (fold_push after_effect (no_tables setup) h e) (behind e (more h request e legal is)) in (
        (ends h request e legal is, next.0),
        ap starting_order (sym (append_assoc h (e ∷ []) rest)) ∙ next.1
            ∙ ap (λ (o : List ℕ). o ++ order_from (after_effect t e) rest) (effect_order setup h request e legal is (none_begins h request e legal is))
            ∙ append_assoc (starting_order h) (order_in t e) (order_from (after_effect t e) rest),
      )

  pub goes_on : (requests : List Request) (h : History) → IsHistory setup h → GoesOn h (tables setup h) (history_from setup (tables setup h) requests)
  goes_on [] h legal = (tt, ap starting_order (append-nil h) ∙ sym (append-nil (starting_order h)))
  goes_on (request ∷ requests) h legal = by_effect requests h request (effect_of setup (tables setup h) request) refl legal (λ e. goes_on requests (h ++ e ∷ []))
