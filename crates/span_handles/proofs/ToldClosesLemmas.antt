-- What a layer makes of a chain of closes: of each span that closes, in their order, and of no other.
use Rattle.std.proofs.Common.{◌≡◌, ℕ, List, [], ◌∷◌, Option, Some, None, refl, sym, ap, subst, ◌∙◌, inl, inr, ◌==◌, fold}
use Rattle.span_handles.proofs.Common.{cases_eq, cond-true, cond-false, WorldValue, Spans, parent_to_release, span_at, SubscriberCall, TryClose, spans_after_call, Allowed, Replaced, read_subscriber, Chain, ended, closes, all_released, releases, closed_in, no_spans, ChainChangesRead, ChangesByCloses}
use Rattle.std.proofs.lemmas.Bool.{eq-eqb, ne_eqb}
use Rattle.span_handles.proofs.ChangedSubscriberLemmas.{seen_before, seen_later}

module _ {S A : Type 0} (spans : S → Spans) (does : S → SubscriberCall → S → Type 0)
    (allowed : (s : S) (call : SubscriberCall) (t : S) → does s call t → Allowed (spans s) call) (shows : (s : S) (call : SubscriberCall) (t : S) → does s call t → spans t ≡ spans_after_call (spans s) call)
    (read : S → A) (none : A) (close : A → ℕ → A)
    (tells : ChangesByCloses spans does read close) (at : ℕ) where
  told_chain : (next : Option ℕ) (s t : S) → Chain spans does at next s t → (x : Spans) → x ≡ spans s → ChainChangesRead close next x (spans t) (read s) (read t)
  told_chain _ _ _ (ended s) x is = subst (λ (z : Spans). ChainChangesRead close None z (spans s) (read s) (read s)) (sym is) (record { chain = all_released (spans s); told = refl })
  told_chain _ _ _ (closes id s m t did rest) x is =
      subst (λ (z : Spans). ChainChangesRead close (Some id) z (spans t) (read s) (read t)) (sym is)
      (let next = parent_to_release (spans s).made id in
      let x' = spans_after_call (spans s) (TryClose id at) in
      let more = told_chain next m t rest x' (sym (shows s (TryClose id at) m did)) in
      let says = tells s id at m did in
      let holds = (span_at (spans s).made id).holds in
      let those = closed_in next x' (spans t) more.chain in
      record {
        chain = releases id at (spans s) (spans t) (allowed s (TryClose id at) m did) more.chain;
        told = elim (cases_eq holds 1) [
          | inl last ↦ more.told ∙ ap (λ (l : A). fold close l those) (says.0 last) ∙ ap (λ (ids : List ℕ). fold close (read s) ids) (sym (cond-true {A = List ℕ} (holds == 1) (id ∷ those) those (eq-eqb holds 1 last)))
          | inr several ↦ more.told ∙ ap (λ (l : A). fold close l those) (says.1 several) ∙ ap (λ (ids : List ℕ). fold close (read s) ids) (sym (cond-false {A = List ℕ} (holds == 1) (id ∷ those) those (ne_eqb holds 1 several)))
        ];
      })

  pub told_world : (old new : WorldValue S) (dispatch id : ℕ) → Replaced (λ s t. Chain spans does at (Some id) s t) old new dispatch
      → ChainChangesRead close (Some id) (read_subscriber spans no_spans old dispatch) (read_subscriber spans no_spans new dispatch) (read_subscriber read none old dispatch) (read_subscriber read none new dispatch)
  told_world old new dispatch id r =
      let R : S → S → Type 0 = λ s t. Chain spans does at (Some id) s t in
      rw (seen_before R old new dispatch r spans no_spans, seen_later R old new dispatch r spans no_spans, seen_before R old new dispatch r read none, seen_later R old new dispatch r read none) (told_chain (Some id) r.before r.later r.did (spans r.before) refl)
