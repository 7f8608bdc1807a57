-- The history of a script is legal.
use Rattle.std.proofs.lemmas.List.{append-nil}
use Rattle.span_laws.proofs.Common.{Effect, Err, History, IsHistory, List, Ok, Request, Resolved, Setup, [], effect_of, goes_on_with, more, none, refl, stays_with, subst, sym, tables, ◌++◌, ◌∷◌, ◌≡◌}
use Rattle.span_script.specs.Outcomes.{history_from, history_of}

legal_by : (setup : Setup) (h : History) (request : Request) (requests : List Request) (r : Resolved) → effect_of setup (tables setup h) request ≡ r → IsHistory setup h
    → ((e : Effect) → IsHistory setup (h ++ e ∷ []) → IsHistory setup ((h ++ e ∷ []) ++ history_from setup (tables setup (h ++ e ∷ [])) requests))
    → IsHistory setup (h ++ history_from setup (tables setup h) (request ∷ requests))
legal_by setup h request requests (Ok e) is legal behind = subst (IsHistory setup) (sym (goes_on_with setup h request requests e is)) (behind e (more h request e legal is))
legal_by setup h request requests (Err refusal) is legal behind = subst (IsHistory setup) (sym (stays_with setup h request requests refusal is)) legal

legal_from : (setup : Setup) (requests : List Request) (h : History) → IsHistory setup h → IsHistory setup (h ++ history_from setup (tables setup h) requests)
legal_from setup [] h legal = subst (IsHistory setup) (sym (append-nil h)) legal
legal_from setup (request ∷ requests) h legal = legal_by setup h request requests (effect_of setup (tables setup h) request) refl legal (λ e. legal_from setup requests (h ++ e ∷ []))

pub scripts_are_legal : (setup : Setup) (requests : List Request) → IsHistory setup (history_of setup requests)
scripts_are_legal setup requests = legal_from setup requests [] none
