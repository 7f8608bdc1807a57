use Rattle.std.proofs.lemmas.List.{append-nil}
use Rattle.span_laws.proofs.Common.{Here, History, IsHistory, List, Setup, Some, Tables, [], after_effect, ap, fold_push, more, no_tables, none, refl, reload_effect, subst, sym, tables, ℕ, ◌≡◌}
use Rattle.span_laws.proofs.filters.reloads.Goals as goal

pub returns-clause-gate : goal.returns-clause-gate
returns-clause-gate c = λ setup t here lane text site. refl

-- nothing is recorded of closed spans between two effects
others : (setup : Setup) (h : History) (here : Here) (text : List ℕ) → IsHistory setup h → after_effect (tables setup h) (reload_effect here text) ≡ record (tables setup h) { filter = Some text; hooks = []; moment = here.at }
others setup _ here text none = refl
others setup _ here text (more h request e before is) =
    let t = after_effect (tables setup h) e in
    subst (λ (x : Tables). after_effect x (reload_effect here text) ≡ record x { filter = Some text; hooks = []; moment = here.at }) (sym (fold_push after_effect (no_tables setup) h e))
    (ap (λ (ids : List ℕ). record t { closed = ids; filter = Some text; hooks = []; moment = here.at }) (append-nil t.closed))

pub returns-clause-others : goal.returns-clause-others
returns-clause-others c = others
