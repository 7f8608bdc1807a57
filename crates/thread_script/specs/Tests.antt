-- What workers take for granted of a script and of their gates.
use Rattle.std.specs.Prelude.{◌≡◌, ℕ, ◌<◌, List, [], ◌∷◌, length, true}
use Rattle.thread_script.specs.declared.plan.Plan.{Plan}
use Rattle.thread_script.specs.declared.script.WorkerOp.{WorkerOp}
use Rattle.thread_script.specs.Asks.{is_balanced}
use Rattle.thread_script.specs.Plans.{MomentsInRange, asks_on}

-- No call is made too late. On no span does a worker close an entry that it hasn't opened there, and it leaves none open.
pub record IsValidWork (plan : Plan) (ops : List WorkerOp) : Type 0 where
  pub timed : MomentsInRange ops
  pub closed : (s : ℕ) → s < length plan.shared → is_balanced (asks_on plan s 0 ops) 0 ≡ true

abbrev pub AllValidWork : Plan → List (List WorkerOp) → Type 0
AllValidWork plan [] = Unit {0}
AllValidWork plan (ops ∷ workers) = IsValidWork plan ops × AllValidWork plan workers

-- each worker has a gate, whose opening text is this
abbrev pub AllAtOpening : {G : Type 0} → (G → List ℕ) → List ℕ → List (List WorkerOp) → List G → Type 0
AllAtOpening opening text [] [] = Unit {0}
AllAtOpening opening text [] (g ∷ gates) = ⊥
AllAtOpening opening text (ops ∷ workers) [] = ⊥
AllAtOpening opening text (ops ∷ workers) (g ∷ gates) = (opening g ≡ text) × AllAtOpening opening text workers gates
