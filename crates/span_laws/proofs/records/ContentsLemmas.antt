-- What a span's record tells, by its ops in the history.
use Rattle.std.proofs.lemmas.List.{append-nil}
use Rattle.span_laws.proofs.Common.{Bool, IsTrue, List, Record, Setup, SpanContext, SpanData, TellsAttributes, TellsStartAndEnd, TellsTimes, TimedOp, [], all_ops, ap, append_assoc, attributes_of, busy_of, closing_count_attributes, closing_times_attributes, counted_of, idle_of, is_some, last_exit, refl, subst, sym, was_entered, with_all, ℕ, ◌++◌, ◌∙◌, ◌∷◌, ◌≡◌}
use Rattle.otel_base.specs.declared.value.KeyValue.{KeyValue}
use Rattle.otel_state.proofs.AddingUp.{tells_times}
use Rattle.span_laws.proofs.records.StoriesLemmas.{IsEnding}

with_all_is : {A : Type 0} (xs ys : List A) → with_all xs ys ≡ xs ++ ys
with_all_is xs [] = sym (append-nil xs)
with_all_is xs (y ∷ ys) = refl

module _ (setup : Setup) (first : SpanData) (done : SpanContext → List TimedOp) (place at : ℕ) (r : Record) (rec : IsEnding setup first done place at r) where
  abbrev all : List TimedOp
  all = all_ops rec.making rec.began.update (done r.context)

  pub span_told : TellsStartAndEnd first.made_at (last_exit (done r.context)) at r
  span_told = record {
    start = ap (λ (r : Record). r.start) rec.ends.is ∙ sym (ap (λ (t : SpanData). t.made_at) rec.began.is);
    end = ap (λ (r : Record). r.end) rec.ends.is;
  }

  pub times_told : IsTrue setup.layer.inactivity → TellsTimes (was_entered (done r.context)) (last_exit (done r.context)) r
  times_told tracked =
      let times = tells_times rec.making all at (subst IsTrue (sym rec.began.tracked) tracked) rec.ends.in_order rec.ends.shut in
      subst (λ (x : Record). TellsTimes (was_entered (done r.context)) (last_exit (done r.context)) x) (sym rec.ends.is) times

  first_attributes_are : first.attributes ≡ rec.making.first ++ rec.began.update.attributes
  first_attributes_are = ap (λ (t : SpanData). t.attributes) rec.began.is ∙ with_all_is rec.making.first rec.began.update.attributes

  regroup : (a b c d e : List KeyValue) → a ++ (b ++ c) ++ d ++ e ≡ (a ++ b) ++ c ++ d ++ e
  regroup a b c d e = simp append_assoc

  pub attributes_told : TellsAttributes setup first.attributes (attributes_of (done r.context)) (counted_of (done r.context)) r
  attributes_told =
      let busy = busy_of rec.making.made_at all in
      let idle = idle_of (last_exit all) rec.making.made_at busy in
      let count = closing_count_attributes (is_some setup.counting) (counted_of (done r.context)) in
      let closing = closing_times_attributes setup.layer.inactivity busy idle in
      record {
        busy = busy;
        idle = idle;
        told =
            ap (λ (r : Record). r.attributes) rec.ends.is
            ∙ ap (λ (counting : Bool). rec.making.first ++ attributes_of all ++ closing_count_attributes counting (counted_of all) ++ closing_times_attributes rec.making.inactivity busy idle) rec.began.counting_is
            ∙ ap (λ (tracked : Bool). rec.making.first ++ attributes_of all ++ count ++ closing_times_attributes tracked busy idle) rec.began.tracked
            ∙ regroup rec.making.first rec.began.update.attributes (attributes_of (done r.context)) count closing
            ∙ ap (λ (xs : List KeyValue). xs ++ attributes_of (done r.context) ++ count ++ closing) (sym first_attributes_are);
      }
