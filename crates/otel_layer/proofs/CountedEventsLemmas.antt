-- An event that is counted, and told where it is taken.
use Rattle.std.proofs.Common.{◌≡◌, ℕ, List, [], ◌∷◌, Bool, refl, sym, ap, ◌∙◌, inl, inr, ◌==◌}
use Rattle.otel_layer.proofs.Common.{cases_Bool, cond-true, cond-false, Op, SpanData, Core, after_counted, update}

pub update_twice : (id : ℕ) (f g : SpanData → SpanData) (spans : List (ℕ × SpanData)) → update id g (update id f spans) ≡ update id (λ span_data. g (f span_data)) spans
update_twice id f g [] = refl
update_twice id f g (e ∷ es) =
    let Spans : Type 0 = List (ℕ × SpanData) in
    let h : SpanData → SpanData = λ span_data. g (f span_data) in
    elim (cases_Bool (e.0 == id)) [
      | inl here ↦ (
          ap (update id g) (cond-true {A = Spans} (e.0 == id) ((e.0, f e.1) ∷ es) (e ∷ update id f es) here)
          ∙ cond-true {A = Spans} (e.0 == id) ((e.0, h e.1) ∷ es) ((e.0, f e.1) ∷ update id g es) here
          ∙ sym (cond-true {A = Spans} (e.0 == id) ((e.0, h e.1) ∷ es) (e ∷ update id h es) here))
      | inr off ↦ (
          ap (update id g) (cond-false {A = Spans} (e.0 == id) ((e.0, f e.1) ∷ es) (e ∷ update id f es) off)
          ∙ cond-false {A = Spans} (e.0 == id) ((e.0, g e.1) ∷ update id f es) (e ∷ update id g (update id f es)) off
          ∙ ap (λ (xs : Spans). e ∷ xs) (update_twice id f g es)
          ∙ sym (cond-false {A = Spans} (e.0 == id) ((e.0, h e.1) ∷ es) (e ∷ update id h es) off))
    ]

pub counted_is : {T : Type 0} (c d : Core T) (id at : ℕ) (op wanted : Op) (is_taken takes : Bool) → op ≡ wanted → is_taken ≡ takes → d ≡ record c { spans = update id (after_counted is_taken at op) c.spans }
    → d ≡ record c { spans = update id (after_counted takes at wanted) c.spans }
counted_is {T} c d id at op wanted is_taken takes is_op is_it rest =
    rest ∙ ap (λ (o : Op). let x : Core T = record c { spans = update id (after_counted is_taken at o) c.spans } in x) is_op
    ∙ ap (λ (b : Bool). let x : Core T = record c { spans = update id (after_counted b at wanted) c.spans } in x) is_it
