-- What contracts see of gates, of their writer and of its notes.
use Rattle.std.specs.Prelude.{◌≡◌, ℕ, ◌≤◌, List, [], ◌∷◌, slice_get, Some}
use Rattle.atomic_table.specs.Seated.{TableId}
use Rattle.trace_base.specs.declared.callsite.Callsite.{Callsite}
use Rattle.event_gate.specs.declared.levels.Admission.{Admission}
use Rattle.event_gate.specs.declared.levels.Levels.{Levels}
use Rattle.event_gate.specs.Rules.{fixed_text_filter, gate_rule, levels_of_reload}
use Rattle.shared_gate.specs.Order.{Texts}

-- A gate: whose it is, the texts that it has seen put in force, and the number of the one that it answers by.
pub record GateValue : Type 0 where
  pub table : TableId
  pub texts : Texts
  pub number : ℕ

-- A writer, or a note of it: whose it is, and all texts that were put in force until then.
pub record GateWriterValue : Type 0 where
  pub table : TableId
  pub texts : Texts

-- An answer by the text of the number that it names, which was put in force: the rule of the gate for that text, with the
-- levels where they have that number too.
pub record AnswersByText (texts : Texts) (answer : Admission) (c : Callsite) (levels : Levels) : Type 0 where
  pub text : List ℕ
  pub put : slice_get texts answer.reload ≡ Some text
  pub is : answer.yes ≡ gate_rule (fixed_text_filter text) (levels_of_reload answer.reload levels) c

-- a new gate of this writer, which has seen the opening text
abbrev pub IsNewGate : TableId → List ℕ → GateValue → Type 0
IsNewGate table text g = (g.table ≡ table) × (g.texts ≡ text ∷ []) × (g.number ≡ 0)

-- from now on a gate answers by texts from a number on, and under that number by this text
pub record WillAnswerFrom (number : ℕ) (text : List ℕ) (g : GateValue) : Type 0 where
  pub later : number ≤ g.number
  pub same : g.number ≡ number → slice_get g.texts number ≡ Some text

-- an answer by a text from a number on, and under that number by this text
pub record AnswersFrom (number : ℕ) (text : List ℕ) (answer : Admission) (c : Callsite) (levels : Levels) : Type 0 where
  pub later : number ≤ answer.reload
  pub same : answer.reload ≡ number → answer.yes ≡ gate_rule (fixed_text_filter text) (levels_of_reload number levels) c
