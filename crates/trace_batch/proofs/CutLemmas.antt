-- One item more, cut into batches.
use Rattle.std.proofs.Common.{◌≡◌, ℕ, zero, suc, ◌+◌, ◌<◌, ◌≤◌, List, [], ◌∷◌, ◌++◌, length, get_or, refl, ap, sym, ◌∙◌, subst, arith, append_assoc, ⊎_elim}
use mathlib.Core.Logic.{◌⊎◌}
use Rattle.std.proofs.lemmas.List.{append-nil}
use Rattle.trace_batch.specs.declared.item.Sent.{Sent}
use Rattle.trace_batch.specs.Cuts.{all_items, IsCut, AllFull, IsParted}

pub joined_more : (bs : List (List Sent)) (b : List Sent) → all_items (bs ++ b ∷ []) ≡ all_items bs ++ b
joined_more [] b = append-nil b
joined_more (x ∷ bs) b = ap (λ (ys : List Sent). x ++ ys) (joined_more bs b) ∙ sym (append_assoc x (all_items bs) b)

pub full_more : (n : ℕ) (bs : List (List Sent)) (b : List Sent) → AllFull n bs → length b ≡ n → AllFull n (bs ++ b ∷ [])
full_more n [] b a e = (e, tt)
full_more n (x ∷ bs) b a e = (a.0, full_more n bs b a.1 e)

full_at : (n : ℕ) (bs : List (List Sent)) → AllFull n bs → (k : ℕ) → k < length bs → length (get_or bs k []) ≡ n
full_at n [] a k less = absurd (omega arith)
full_at n (x ∷ bs) a zero less = a.0
full_at n (x ∷ bs) a (suc k) less = full_at n bs a.1 k (omega arith)

pub cut_full : (n : ℕ) (items : List Sent) (bs : List (List Sent)) → 0 < n → AllFull n bs → all_items bs ≡ items → IsCut n items bs
cut_full n items bs some a e = record {
  whole = e;
  full = λ k less. full_at n bs a k (omega arith);
  sized = λ k less. let f = full_at n bs a k less in (omega arith, omega arith);
}

last_at : (n : ℕ) (bs : List (List Sent)) (b : List Sent) → AllFull n bs → 0 < length b → length b ≤ n → (k : ℕ) → k < length (bs ++ b ∷ [])
    → (0 < length (get_or (bs ++ b ∷ []) k [])) × (length (get_or (bs ++ b ∷ []) k []) ≤ n)
last_at n [] b a low high zero less = (low, high)
last_at n [] b a low high (suc k) less = absurd (omega arith)
last_at n (x ∷ bs) b a low high zero less = let e = a.0 in (omega arith, omega arith)
last_at n (x ∷ bs) b a low high (suc k) less = last_at n bs b a.1 low high k (omega arith)

before_last : (n : ℕ) (bs : List (List Sent)) (b : List Sent) → AllFull n bs → (k : ℕ) → k + 1 < length (bs ++ b ∷ []) → length (get_or (bs ++ b ∷ []) k []) ≡ n
before_last n [] b a k less = absurd (omega arith)
before_last n (x ∷ bs) b a zero less = a.0
before_last n (x ∷ bs) b a (suc k) less = before_last n bs b a.1 k (omega arith)

pub cut_last : (n : ℕ) (items : List Sent) (bs : List (List Sent)) (b : List Sent) → 0 < n → AllFull n bs → 0 < length b → length b ≤ n → all_items bs ++ b ≡ items → IsCut n items (bs ++ b ∷ [])
cut_last n items bs b some a low high e = record {
  whole = joined_more bs b ∙ e;
  full = λ k less. before_last n bs b a k less;
  sized = λ k less. last_at n bs b a low high k less;
}

pub full_step : (n : ℕ) (bs cs : List (List Sent)) (part full rest ys : List Sent) (x : Sent) → 0 < n → AllFull n bs → all_items bs ++ part ≡ ys → full ≡ part ++ x ∷ [] → length full ≡ n → cs ≡ bs ++ full ∷ [] → rest ≡ []
    → (all_items cs ++ rest ≡ ys ++ x ∷ []) × AllFull n cs × (length rest < n)
full_step n bs cs part full rest ys x some a whole is len more none = (
  ap (λ (l : List Sent). all_items cs ++ l) none
      ∙ append-nil (all_items cs)
      ∙ ap all_items more
      ∙ joined_more bs full
      ∙ ap (λ (l : List Sent). all_items bs ++ l) is
      ∙ sym (append_assoc (all_items bs) part (x ∷ []))
      ∙ ap (λ (l : List Sent). l ++ x ∷ []) whole,
  subst (AllFull n) (sym more) (full_more n bs full a len),
  (let e = ap length none in omega arith),
)

-- what is left is one more batch, or nothing
pub cut_parted : (n : ℕ) (items : List Sent) (bs cs : List (List Sent)) (last : List Sent) → 0 < n → IsParted n items bs last → (0 < length last) × (cs ≡ bs ++ last ∷ []) ⊎ (length last ≤ 0) × (cs ≡ bs) → IsCut n items cs
cut_parted n items bs cs last some p h =
    ⊎_elim
    (λ (x : (0 < length last) × (cs ≡ bs ++ last ∷ [])). subst (IsCut n items) (sym x.1) (cut_last n items bs last some p.full x.0 (let f = p.fewer in omega arith) p.whole))
    (λ (x : (length last ≤ 0) × (cs ≡ bs)). subst (IsCut n items) (sym x.1) (cut_full n items bs some p.full (sym (append-nil (all_items bs)) ∙ ap (λ (l : List Sent). all_items bs ++ l) (sym (none_left last x.0)) ∙ p.whole)))
    h
  where
    none_left : (l : List Sent) → length l ≤ 0 → l ≡ []
    none_left [] e = refl
    none_left (x ∷ l) e = absurd (omega arith)
