-- What is seen of a buffer of text.
use Rattle.std.specs.Prelude.{List, ℕ, refl}
use Rattle.std.specs.Coded.{Coded, code_by, coded_list, coded_ℕ}

-- the bytes that are written
pub record WrittenText : Type 0 where
  pub items : List ℕ

-- it is stored as their list
abbrev pub written_code : Coded WrittenText
written_code = code_by (List ℕ) (coded_list coded_ℕ) (λ w. w.items) (λ items. record { items = items }) (λ _. refl)
