-- How many entries of a table aren't gaps, and what is left once the gaps are closed.
use Rattle.std.proofs.Common.{◌≡◌, ℕ, suc, ◌≤◌, List, [], ◌∷◌, ◌++◌, length, Bool, true, cond, Option, Some, None, refl, sym, ap, ◌∙◌, arith, inl, inr, Result, Ok, Err, filter, is_some, ◌||◌, ◌==◌}
use Rattle.otel_layer.proofs.Common.{remove_entry, cases_Bool, cond-true, cond-false, Memory, Entry, Op, OpReply, SpanData, StateValue, after_op, AppliesTo, with_entry_read, read_off, is_id, knows_span, update}
use Rattle.std.proofs.lemmas.Bool.{true≢false}

abbrev pub is_kept : Entry → Bool
is_kept e = is_some e.state

closed_one : {A : Type 0} (f : StateValue → A) (x : Entry) (o : Option StateValue) (xs ys : List Entry) → x.state ≡ o → read_off f xs ≡ read_off f ys → read_off f (cond (is_kept x) (x ∷ xs) xs) ≡ with_entry_read x.id f x.state (read_off f ys)
closed_one {A} f x None xs ys is h =
    ap (λ (o : Option StateValue). read_off f (cond (is_some o) (x ∷ xs) xs)) is ∙ h ∙ sym (ap (λ (o : Option StateValue). with_entry_read x.id f o (read_off f ys)) is)
closed_one {A} f x (Some s) xs ys is h =
    ap (λ (o : Option StateValue). read_off f (cond (is_some o) (x ∷ xs) xs)) is ∙ ap (λ (es : List (ℕ × A)). with_entry_read x.id f x.state es) h

-- without the gaps the same is read off
pub closed_read : {A : Type 0} (f : StateValue → A) (xs : List Entry) → read_off f (filter is_kept xs) ≡ read_off f xs
closed_read f [] = refl
closed_read f (x ∷ xs) = closed_one f x x.state (filter is_kept xs) xs refl (closed_read f xs)

read_one : {A : Type 0} (f : StateValue → A) (i : ℕ) (o : Option StateValue) (xs ys : List (ℕ × A)) → with_entry_read i f o (xs ++ ys) ≡ with_entry_read i f o xs ++ ys
read_one f i None xs ys = refl
read_one f i (Some s) xs ys = refl

pub read_added : {A : Type 0} (f : StateValue → A) (xs : List Entry) (e : Entry) → read_off f (xs ++ e ∷ []) ≡ read_off f xs ++ with_entry_read e.id f e.state []
read_added f [] e = refl
read_added {A} f (x ∷ xs) e =
    ap (λ (es : List (ℕ × A)). with_entry_read x.id f x.state es) (read_added f xs e) ∙ read_one f x.id x.state (read_off f xs) (with_entry_read e.id f e.state [])

-- ---- how many there are

within_one : {A : Type 0} (f : StateValue → A) (i : ℕ) (o : Option StateValue) (xs : List (ℕ × A)) → length (with_entry_read i f o xs) ≤ suc (length xs)
within_one f i None xs = omega arith
within_one f i (Some s) xs = omega arith

pub within : {A : Type 0} (f : StateValue → A) (xs : List Entry) → length (read_off f xs) ≤ length xs
within f [] = omega arith
within f (x ∷ xs) = (let a = within_one f x.id x.state (read_off f xs) in let b = within f xs in omega (arith, a, b))

pub updated_count : (id : ℕ) (g : SpanData → SpanData) (es : List (ℕ × SpanData)) → length (update id g es) ≡ length es
updated_count id g [] = refl
updated_count id g (e ∷ es) =
    elim (cases_Bool (e.0 == id)) [
      | inl here ↦ ap (λ (xs : List (ℕ × SpanData)). length xs) (cond-true {A = List (ℕ × SpanData)} (e.0 == id) ((e.0, g e.1) ∷ es) (e ∷ update id g es) here)
      | inr off ↦ (
          let a = ap (λ (xs : List (ℕ × SpanData)). length xs) (cond-false {A = List (ℕ × SpanData)} (e.0 == id) ((e.0, g e.1) ∷ es) (e ∷ update id g es) off) in
          let b = updated_count id g es in
          omega (arith, a, b))
    ]

pub applied_count : (o : Option SpanData) (old new : List (ℕ × SpanData)) (id at : ℕ) (op : Op) (answer : Option (Result OpReply Memory)) → AppliesTo o old id at op answer new → length new ≡ length old
applied_count None old new id at op answer a = ap (λ (es : List (ℕ × SpanData)). length es) a.1
applied_count (Some span_data) old new id at op None a = absurd a
applied_count (Some span_data) old new id at op (Some (Ok r)) a = ap (λ (es : List (ℕ × SpanData)). length es) a.1 ∙ updated_count id (λ t. after_op t at op) old
applied_count (Some span_data) old new id at op (Some (Err memory)) a = ap (λ (es : List (ℕ × SpanData)). length es) a.1

pub removed_count : (id : ℕ) (es : List (ℕ × SpanData)) → knows_span id es ≡ true → suc (length (remove_entry (is_id id) es)) ≡ length es
removed_count id [] known = absurd (true≢false (sym known))
removed_count id (e ∷ es) known =
    elim (cases_Bool (e.0 == id)) [
      | inl here ↦ (let a = ap (λ (xs : List (ℕ × SpanData)). length xs) (cond-true {A = List (ℕ × SpanData)} (e.0 == id) es (e ∷ remove_entry (is_id id) es) here) in omega (arith, a))
      | inr off ↦ (
          let a = ap (λ (xs : List (ℕ × SpanData)). length xs) (cond-false {A = List (ℕ × SpanData)} (e.0 == id) es (e ∷ remove_entry (is_id id) es) off) in
          let b = removed_count id es (sym (ap (λ b. b || knows_span id es) off) ∙ known) in
          omega (arith, a, b))
    ]
