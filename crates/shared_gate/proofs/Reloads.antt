-- What a gate answers by once it has learnt of a reload.
use Rattle.std.proofs.Common.{◌≡◌, ℕ, ◌+◌, ◌<◌, ◌≤◌, List, [], ◌∷◌, ◌++◌, length, Some, slice_get, ap, sym, subst, ◌∙◌, arith, length-append}
use Rattle.shared_value.proofs.Lists.{get_last}
use Rattle.shared_gate.specs.Order.{Texts}
use Rattle.shared_gate.specs.Gates.{GateValue, WillAnswerFrom}

pub from_note : (before note : Texts) (text : List ℕ) (number : ℕ) (g h : GateValue) → number ≡ length before → note ≡ before ++ text ∷ []
    → g.number ≤ h.number → length note ≤ h.number + 1 → (g.number < length note → h.texts ≡ note) → WillAnswerFrom number text h
from_note before note text number g h is told later past begins =
    let long : length note ≡ length before + 1 = ap length told ∙ length-append before (text ∷ []) in
    record {
      later = omega (arith, is, long, past);
      same = λ at.
          let texts : h.texts ≡ before ++ text ∷ [] = begins (omega (arith, is, long, later, at)) ∙ told in
          let stands : slice_get (before ++ text ∷ []) number ≡ Some text = subst (λ (k : ℕ). slice_get (before ++ text ∷ []) k ≡ Some text) (sym is) (get_last before text) in
          subst (λ (xs : Texts). slice_get xs number ≡ Some text) (sym texts) stands;
    }
