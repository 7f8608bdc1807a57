-- A span that is made begins its story.
use Rattle.span_laws.proofs.Common.{AllByRecursion, Bool, GREATEST, IsMadeWith, List, MadeSpan, Making, None, Option, Recording, Setup, Some, SpanContext, SpanData, TimedOp, [], after_op, ap, arith, cases_eq, cond-false, cond-true, data_at, data_at_making, fold, get_or_push, inl, inr, length, length_push, made_span_at, no_made_span, place_in, refl, subst, sym, told_at_made, true, with_item, with_span_data, with_span_made, with_started, ℕ, ◌++◌, ◌<◌, ◌==◌, ◌∙◌, ◌∷◌, ◌≡◌, ◌≤◌}
use Rattle.std.proofs.lemmas.Bool.{eq-eqb, ne_eqb}
use Rattle.otel_state.specs.declared.op.Op.TheVariants as ops
use Rattle.span_laws.proofs.spans.OccurrencesLemmas.{get_push_other}
use Rattle.span_laws.proofs.spans.PlacesLemmas.{place_none}
use Rattle.span_laws.proofs.records.RecordingLemmas.{AreStories}
use Rattle.span_laws.proofs.steps.StepsLemmas.{Begins}
use Rattle.span_laws.proofs.records.StoriesLemmas.{IsStory, HasId}

-- what spans were made with
abbrev pub first_of : List MadeSpan → ℕ → SpanData
first_of ms s = (made_span_at ms s).made_with

-- the story of a span that was just made
begins : (setup : Setup) (told : SpanData) (done : SpanContext → List TimedOp) (opened at : ℕ) (making : Making) → IsMadeWith setup at told making → ((own : SpanContext) → done own ≡ []) → at ≤ GREATEST → IsStory setup (Some told) told 0 done opened at
begins setup told done opened at making b undone most = record {
  told = told;
  is = refl;
  making = making;
  began = record { update = b.update; is = at_making ∙ ap (λ n. after_op (data_at_making making) n (ops.Update b.update)) (sym moment); made_at = sym moment; tracked = b.tracked; counting_is = b.counting_is };
  later = [];
  stands = at_making;
  in_order = (omega arith, let same = b.made_at in omega (arith, same, most));
  last = let same = b.made_at in omega (arith, same);
  rest = λ own mine. sym (undone own);
  has_id = subst (λ (t : SpanData). HasId t.own 0 t.parent) (sym b.is) refl;
  within = subst (λ (t : SpanData). t.entries ≤ opened) (sym b.is) (omega arith);
}
  where
    moment : told.made_at ≡ making.made_at
    moment = ap (λ (t : SpanData). t.made_at) b.is

    at_making : told ≡ after_op (data_at_making making) making.made_at (ops.Update b.update)
    at_making = b.is ∙ ap (λ n. after_op (data_at_making making) n (ops.Update b.update)) (sym b.made_at)

-- starts of other spans give no place
pub starts_spare : (order ids : List ℕ) (n : ℕ) → AllByRecursion (λ s. s < n) ids → place_in (fold with_started order ids) n ≡ place_in order n
starts_spare order [] n below = refl
starts_spare order (id ∷ ids) n below =
    let less : id < n = below.0 in
    starts_spare (with_started order id) ids n below.1 ∙ place_none order id n (λ e. absurd (omega (arith, e, less)))

module _ (setup : Setup) (order : List ℕ) (done : ℕ → SpanContext → List TimedOp) (opened : ℕ → ℕ) (at : ℕ) (most : at ≤ GREATEST) (ms : List MadeSpan) (r : Recording) (k : ℕ → Bool) (stories : AreStories setup (first_of ms) order done opened at k (length ms) r)
    (unplaced : place_in order (length ms) ≡ 0) (undone : (own : SpanContext) → done (length ms) own ≡ []) where
  pub made_stories : (o : Option MadeSpan) → Begins setup at o → (later : ℕ → Bool) → ((s : ℕ) → later s ≡ true → s < length (with_item ms o)) → ((s : ℕ) → later s ≡ true → s < length ms → k s ≡ true)
      → AreStories setup (first_of (with_item ms o)) order done opened at later (length (with_item ms o)) (with_span_made (length ms) o r)
  made_stories None begun later below known = record {
    each = λ s is. stories.each s (known s is (below s is));
    fresh = stories.fresh;
    count = stories.count;
    settings_are = stories.settings_are;
    counting_is = stories.counting_is;
  }
  made_stories (Some m) begun later below known = record {
    each = λ s is. elim (cases_eq s (length ms)) [
      | inl same ↦ subst (λ (q : ℕ). IsStory setup (data_at q (with_span_data (length ms) m.made_with r.spans)) (first_of (ms ++ m ∷ []) q) (place_in order q) (done q) (opened q) at) (sym same) mine
      | inr other ↦ (
          let count = length_push ms m in
          let within = below s is in
          let old : s < length ms = omega (arith, count, within, other) in
          let read = told_at_made (length ms) s m.made_with r.spans fresh ∙ cond-false {A = Option SpanData} (s == length ms) (Some m.made_with) (data_at s r.spans) (ne_eqb s (length ms) other) in
          let first = ap (λ (made : MadeSpan). made.made_with) (get_push_other ms m no_made_span s other) in
          rw (read, first) (stories.each s (known s is old)))
    ];
    fresh = λ s above.
        let count = length_push ms m in
        let other : (s ≡ length ms → ⊥) = λ e. absurd (omega (arith, count, above, e)) in
        told_at_made (length ms) s m.made_with r.spans fresh ∙ cond-false {A = Option SpanData} (s == length ms) (Some m.made_with) (data_at s r.spans) (ne_eqb s (length ms) other)
        ∙ stories.fresh s (omega (arith, count, above));
    count = stories.count;
    settings_are = stories.settings_are;
    counting_is = stories.counting_is;
  }
    where
      fresh : data_at (length ms) r.spans ≡ None
      fresh = stories.fresh (length ms) (omega arith)

      mine : IsStory setup (data_at (length ms) (with_span_data (length ms) m.made_with r.spans)) (first_of (ms ++ m ∷ []) (length ms)) (place_in order (length ms)) (done (length ms)) (opened (length ms)) at
      mine =
          let read = told_at_made (length ms) (length ms) m.made_with r.spans fresh ∙ cond-true {A = Option SpanData} (length ms == length ms) (Some m.made_with) (data_at (length ms) r.spans) (eq-eqb (length ms) (length ms) refl) in
          let first = ap (λ (made : MadeSpan). made.made_with) (get_or_push ms m no_made_span (length ms) refl) in
          rw (read, first, unplaced) (begins setup m.made_with (done (length ms)) (opened (length ms)) at begun.0 begun.1 undone most)
