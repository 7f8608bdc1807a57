-- The opening text stays the first.
use Rattle.std.proofs.Common.{◌≡◌, ℕ, List, [], ◌∷◌, Some, slice_get, All, refl, ap, sym, subst, ◌∙◌}
use Rattle.atomic_table.specs.Seated.{TableId}
use Rattle.value_reader.specs.Knowing.{ReaderValue, IsNewReader}
use Rattle.trace_base.specs.declared.callsite.Callsite.{Callsite}
use Rattle.event_gate.specs.declared.levels.Admission.{Admission}
use Rattle.event_gate.specs.declared.levels.Levels.{Levels}
use Rattle.event_gate.specs.Rules.{fixed_text_filter, gate_rule, levels_of_reload}
use Rattle.shared_gate.specs.Order.{Texts, opening_of}
use Rattle.shared_gate.specs.Gates.{GateValue, IsNewGate, AnswersByText}

pub opening_same : (xs ys : Texts) → slice_get ys 0 ≡ slice_get xs 0 → opening_of ys ≡ opening_of xs
opening_same [] [] same = refl
opening_same [] (y ∷ ys) same = absurd (cc same)
opening_same (x ∷ xs) [] same = absurd (cc same)
opening_same (x ∷ xs) (y ∷ ys) same = cc same

first_is : (texts : Texts) (text : List ℕ) → slice_get texts 0 ≡ Some text → opening_of texts ≡ text
first_is [] text h = absurd cc
first_is (t ∷ ts) text h = cc h

pub answers_opening : (texts : Texts) (opening : List ℕ) (answer : Admission) (c : Callsite) (levels : Levels)
    → opening_of texts ≡ opening → AnswersByText texts answer c levels → answer.reload ≡ 0 → answer.yes ≡ gate_rule (fixed_text_filter opening) (levels_of_reload 0 levels) c
answers_opening texts opening answer c levels same answers none =
    let first : answers.text ≡ opening = sym (first_is texts answers.text (subst (λ (n : ℕ). slice_get texts n ≡ Some answers.text) none answers.put)) ∙ same in
    answers.is ∙ (ap (λ (t : List ℕ). gate_rule (fixed_text_filter t) (levels_of_reload answer.reload levels) c) first
    ∙ ap (λ (n : ℕ). gate_rule (fixed_text_filter opening) (levels_of_reload n levels) c) none)

-- gates of readers that were made with a filter of this text
pub opened_by : (table : TableId) (text filter : List ℕ) (readers : List (ReaderValue (List ℕ))) (gates : List GateValue) → filter ≡ text → All (IsNewReader table filter) readers
    → ((table : TableId) (text : List ℕ) → All (IsNewReader table text) readers → All (IsNewGate table text) gates) → All (IsNewGate table text) gates
opened_by table text filter readers gates is all each = each table text (subst (λ (t : List ℕ). All (IsNewReader table t) readers) is all)
