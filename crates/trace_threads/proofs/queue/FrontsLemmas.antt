-- Beginnings of one list of turns, and of their entries.
use Rattle.std.proofs.Common.{◌≡◌, ◌⊎◌, inl, inr, ⊎_elim, List, [], ◌∷◌, ◌++◌, refl, ap, sym, ◌∙◌, append_assoc, None, Some}
use Rattle.trace_threads.proofs.Common.{IsPrefix, Turn, entries, OneBeginsTheOther}

pub prefix_trans : {A : Type 0} (xs ys zs : List A) → IsPrefix xs ys → IsPrefix ys zs → IsPrefix xs zs
prefix_trans xs ys zs p q = (p.0 ++ q.0, sym (append_assoc xs p.0 q.0) ∙ ap (λ l. l ++ q.0) p.1 ∙ q.1)

abbrev head_or : {A : Type 0} → A → List A → A
head_or d [] = d
head_or d (x ∷ xs) = x

abbrev tail_of : {A : Type 0} → List A → List A
tail_of [] = []
tail_of (x ∷ xs) = xs

-- of two beginnings of one list, one begins the other
pub comparable : {A : Type 0} (xs ys zs : List A) → IsPrefix xs zs → IsPrefix ys zs → IsPrefix xs ys ⊎ IsPrefix ys xs
comparable [] ys zs p q = inl (ys, refl)
comparable (x ∷ xs) [] zs p q = inr (x ∷ xs, refl)
comparable (x ∷ xs) (y ∷ ys) [] p q = absurd (let e = p.1 in cc)
comparable {A} (x ∷ xs) (y ∷ ys) (z ∷ zs) p q =
    let a : x ≡ z = ap (head_or x) p.1 in
    let b : y ≡ z = ap (head_or x) q.1 in
    let same : x ≡ y = a ∙ sym b in
    ⊎_elim
    (λ (r : IsPrefix xs ys). inl (r.0, (λ i. same i ∷ r.1 i)))
    (λ (r : IsPrefix ys xs). inr (r.0, (λ i. sym same i ∷ r.1 i)))
    (comparable xs ys zs (p.0, ap tail_of p.1) (q.0, ap tail_of q.1))

pub entries_append : (ts us : List Turn) → entries (ts ++ us) ≡ entries ts ++ entries us
entries_append [] us = refl
entries_append (None ∷ ts) us = entries_append ts us
entries_append (Some e ∷ ts) us = ap (λ l. e ∷ l) (entries_append ts us)

pub prefix_entries : (ts us : List Turn) → IsPrefix ts us → IsPrefix (entries ts) (entries us)
prefix_entries ts us p = (entries p.0, sym (entries_append ts p.0) ∙ ap entries p.1)

pub one_begins_the_other : OneBeginsTheOther
one_begins_the_other xs ys turns p q =
    ⊎_elim
    (λ (r : IsPrefix xs ys). inl (r, prefix_entries xs ys r))
    (λ (r : IsPrefix ys xs). inr (r, prefix_entries ys xs r))
    (comparable xs ys turns p q)
