-- Where a member stands.
use Rattle.std.proofs.Math.Seq.{drop-cons}
use Rattle.std.proofs.lemmas.List.{get_or-drop, length-drop}
use Rattle.trace_lines.proofs.Common.{Bool, Data, Equal, FindsMember, FitsIn, Greater, Less, List, Members, None, Ordering, Some, [], ap, arith, bytes_eq, bytes_eq-Decides, drop, false, get_member, get_or, is_eq, length, match_ordering, member, nat_cmp, nat_list_cmp_total, no_members, plain_data, put, refl, remove, slice_cmp, subst, suc, sym, take, tied_itself, true, true≢false, with_members_first, without_member, zero, ℕ, ◌++◌, ◌+◌, ◌<◌, ◌∙◌, ◌∷◌, ◌≡◌, ◌≤◌}
use Rattle.std.proofs.lemmas.Map.Text.{is_eq-slice_cmp}
use Rattle.trace_lines.proofs.readings.CompactLemmas.{Entry, onto_push}

abbrev pub Passed : List ℕ → List Entry → ℕ → Type 0
Passed name es at = (get_member name (with_members_first es no_members) ≡ get_member name (with_members_first (drop at es) no_members)) × (without_member name (with_members_first es no_members) ≡ with_members_first (take at es) (without_member name (with_members_first (drop at es) no_members)))

same_text : (xs : List ℕ) → slice_cmp nat_cmp xs xs ≡ Equal
same_text xs = tied_itself nat_list_cmp_total xs

get_here : (name k : List ℕ) (d : Data) (ms : Members) → k ≡ name → get_member name (member k d ms) ≡ Some d
get_here name k d ms is = rw (is, same_text) refl

without_here : (name k : List ℕ) (d : Data) (ms : Members) → k ≡ name → without_member name (member k d ms) ≡ ms
without_here name k d ms is = rw (is, same_text) refl

either : {A : Type 0} (o : Ordering) (a b : A) → is_eq o ≡ false → match_ordering o a b a ≡ a
either Less a b e = refl
either Equal a b e = absurd (true≢false e)
either Greater a b e = refl

differ : (xs ys : List ℕ) (b : Bool) → bytes_eq xs ys ≡ b → (xs ≡ ys → ⊥) → b ≡ false
differ xs ys true e other = absurd (other ((bytes_eq-Decides xs ys).0 e))
differ xs ys false e other = refl

unlike : (name k : List ℕ) → (k ≡ name → ⊥) → is_eq (slice_cmp nat_cmp name k) ≡ false
unlike name k other = is_eq-slice_cmp name k ∙ differ name k _ refl (λ e. other (sym e))

onto_append : (xs ys : List Entry) (ms : Members) → with_members_first (xs ++ ys) ms ≡ with_members_first xs (with_members_first ys ms)
onto_append [] ys ms = refl
onto_append (x ∷ xs) ys ms = ap (member x.0.now (plain_data x.1)) (onto_append xs ys ms)

take_more : (es : List Entry) (at : ℕ) (d : Entry) → at < length es → take (suc at) es ≡ take at es ++ get_or es at d ∷ []
take_more [] at d within = absurd (omega arith)
take_more (e ∷ es) zero d within = refl
take_more (e ∷ es) (suc at) d within = ap (λ xs. e ∷ xs) (take_more es at d (omega arith))

pub passed_first : (name : List ℕ) (es : List Entry) → Passed name es 0
passed_first name es = (refl, refl)

pub passed_more : (name : List ℕ) (es : List Entry) (at : ℕ) (d : Entry) → at < length es → ((get_or es at d).0.now ≡ name → ⊥) → Passed name es at → Passed name es (at + 1)
passed_more name es at d within other passed =
    let e = get_or es at d in
    let seam = drop-cons es at d within in
    let next : suc at ≡ at + 1 = omega arith in
    let left = with_members_first (drop (suc at) es) no_members in
    let one : Passed name es (suc at) = (
      passed.0 ∙ ap (λ xs. get_member name (with_members_first xs no_members)) seam ∙ either (slice_cmp nat_cmp name e.0.now) (get_member name left) (Some (plain_data e.1)) (unlike name e.0.now other),
      passed.1 ∙ ap (λ xs. with_members_first (take at es) (without_member name (with_members_first xs no_members))) seam
          ∙ ap (with_members_first (take at es)) (either (slice_cmp nat_cmp name e.0.now) (member e.0.now (plain_data e.1) (without_member name left)) left (unlike name e.0.now other))
          ∙ sym (onto_push (take at es) e (without_member name left))
          ∙ ap (λ xs. with_members_first xs (without_member name left)) (sym (take_more es at d within)),
    ) in
    subst (Passed name es) next one

pub is_found : (name : List ℕ) (es : List Entry) (at : ℕ) (d : Entry) → at < length es → (get_or es at d).0.now ≡ name → Passed name es at → FindsMember name es (Some at)
is_found name es at d within same passed =
    let seam = λ (x : Entry). drop-cons es at x within in
    let e = get_or es at d in (
      within,
      λ x. passed.0 ∙ ap (λ xs. get_member name (with_members_first xs no_members)) (seam x) ∙ get_here name (get_or es at x).0.now _ _ (ap (λ (y : Entry). y.0.now) (get_or-any es at x d within) ∙ same),
      passed.1 ∙ ap (λ xs. with_members_first (take at es) (without_member name (with_members_first xs no_members))) (seam d)
          ∙ ap (with_members_first (take at es)) (without_here name e.0.now (plain_data e.1) (with_members_first (drop (suc at) es) no_members) same)
          ∙ sym (onto_append (take at es) (drop (suc at) es) no_members),
    )
  where
    get_or-any : (es : List Entry) (at : ℕ) (x d : Entry) → at < length es → get_or es at x ≡ get_or es at d
    get_or-any [] at x d h = absurd (omega arith)
    get_or-any (e ∷ es) zero x d h = refl
    get_or-any (e ∷ es) (suc at) x d h = get_or-any es at x d (omega arith)

pub not_found : (name : List ℕ) (es : List Entry) (at : ℕ) → length es ≤ at → Passed name es at → FindsMember name es None
not_found name es at past passed = (
  passed.0 ∙ ap (λ xs. get_member name (with_members_first xs no_members)) (drop_of_length-le es at past),
  passed.1 ∙ ap (λ xs. with_members_first (take at es) (without_member name (with_members_first xs no_members))) (drop_of_length-le es at past) ∙ ap (λ xs. with_members_first xs no_members) (take_all es at past),
)
  where
    take_all : (es : List Entry) (at : ℕ) → length es ≤ at → take at es ≡ es
    take_all [] zero h = refl
    take_all [] (suc at) h = refl
    take_all (e ∷ es) zero h = absurd (omega arith)
    take_all (e ∷ es) (suc at) h = ap (λ xs. e ∷ xs) (take_all es at (omega arith))

    drop_of_length-le : (es : List Entry) (at : ℕ) → length es ≤ at → drop at es ≡ []
    drop_of_length-le [] zero h = refl
    drop_of_length-le [] (suc at) h = refl
    drop_of_length-le (e ∷ es) zero h = absurd (omega arith)
    drop_of_length-le (e ∷ es) (suc at) h = drop_of_length-le es at (omega arith)

-- ---- what is left behind the first members

drop_one : (n : ℕ) (es : List Entry) → n < length es → drop (n + 1) es ≡ drop 1 (drop n es)
drop_one zero es within = refl
drop_one (suc n) [] within = absurd (omega arith)
drop_one (suc n) (e ∷ es) within =
    let next : suc n + 1 ≡ suc (n + 1) = omega arith in
    ap (λ (k : ℕ). drop k (e ∷ es)) next ∙ drop_one n es (omega arith)

drop_remove : (n at : ℕ) (es : List Entry) → n + at < length es → drop n (remove es (n + at)) ≡ remove (drop n es) at
drop_remove zero at es within =
    let same : 0 + at ≡ at = omega arith in
    ap (λ (k : ℕ). remove es k) same
drop_remove (suc n) at [] within = absurd (omega arith)
drop_remove (suc n) at (e ∷ es) within =
    let next : suc n + at ≡ suc (n + at) = omega arith in
    ap (λ (k : ℕ). drop (suc n) (remove (e ∷ es) k)) next ∙ drop_remove n at es (omega arith)

-- the first of those left, in the whole list
pub first_left : (es : List Entry) (taken : ℕ) → 0 < length (drop taken es)
    → (taken < length es) × ((e : Entry) → get_or es taken e ≡ get_or (drop taken es) 0 e) × (drop (taken + 1) es ≡ drop 1 (drop taken es))
first_left es taken some =
    let within : taken < length es = omega (arith, length-drop taken es) in (
      within,
      λ e. ap (λ (i : ℕ). get_or es i e) (omega arith) ∙ sym (get_or-drop taken es 0 e),
      drop_one taken es within,
    )

-- another one of those left, in the whole list
pub other_left : (es : List Entry) (taken at : ℕ) → at < length (drop taken es)
    → (taken + at < length es) × ((e : Entry) → get_or es (taken + at) e ≡ get_or (drop taken es) at e) × (drop taken (remove es (taken + at)) ≡ remove (drop taken es) at)
other_left es taken at some =
    let within : taken + at < length es = omega (arith, length-drop taken es) in (
      within,
      λ e. sym (get_or-drop taken es at e),
      drop_remove taken at es within,
    )

-- ---- where a member goes

abbrev pub Puts : List ℕ → List Entry → ℕ → Type 0
Puts name es at = (d : Data) → put name d (with_members_first es no_members) ≡ with_members_first (take at es) (put name d (with_members_first (drop at es) no_members))

pub puts_more : (name : List ℕ) (es : List Entry) (at : ℕ) (x : Entry) → at < length es → Greater ≡ slice_cmp nat_cmp name (get_or es at x).0.now → Puts name es at → Puts name es (at + 1)
puts_more name es at x within is puts =
    let e = get_or es at x in
    let next : suc at ≡ at + 1 = omega arith in
    let left = with_members_first (drop (suc at) es) no_members in
    let one : Puts name es (suc at) = λ d. puts d ∙ ap (λ xs. with_members_first (take at es) (put name d (with_members_first xs no_members))) (drop-cons es at x within)
    ∙ ap (λ o. with_members_first (take at es) (match_ordering o (member name d (member e.0.now (plain_data e.1) left)) (member e.0.now d left) (member e.0.now (plain_data e.1) (put name d left)))) (sym is)
    ∙ sym (onto_push (take at es) e (put name d left)) ∙ ap (λ xs. with_members_first xs (put name d left)) (sym (take_more es at x within)) in
    subst (Puts name es) next one

pub puts_before : (name : List ℕ) (es : List Entry) (at : ℕ) (x : Entry) → at < length es → Less ≡ slice_cmp nat_cmp name (get_or es at x).0.now → Puts name es at → FitsIn name es at
puts_before name es at x within is puts = (
  omega arith,
  λ n same.
      let e = get_or es at x in
      let d = plain_data n.1 in
      let left = with_members_first (drop (suc at) es) no_members in
      puts d ∙ ap (λ xs. with_members_first (take at es) (put name d (with_members_first xs no_members))) (drop-cons es at x within)
      ∙ ap (λ o. with_members_first (take at es) (match_ordering o (member name d (member e.0.now (plain_data e.1) left)) (member e.0.now d left) (member e.0.now (plain_data e.1) (put name d left)))) (sym is)
      ∙ ap (λ xs. with_members_first (take at es) (member name d (with_members_first xs no_members))) (sym (drop-cons es at x within))
      ∙ ap (λ k. with_members_first (take at es) (member k d (with_members_first (drop at es) no_members))) (sym same)
      ∙ sym (onto_append (take at es) (n ∷ drop at es) no_members),
)

pub puts_last : (name : List ℕ) (es : List Entry) (at : ℕ) → at ≡ length es → Puts name es at → FitsIn name es at
puts_last name es at past puts = (
  omega arith,
  λ n same.
      let d = plain_data n.1 in
      puts d ∙ ap (λ xs. with_members_first (take at es) (put name d (with_members_first xs no_members))) (none_left es at past)
      ∙ ap (λ k. with_members_first (take at es) (member k d no_members)) (sym same)
      ∙ ap (λ xs. with_members_first (take at es) (member n.0.now d (with_members_first xs no_members))) (sym (none_left es at past))
      ∙ sym (onto_append (take at es) (n ∷ drop at es) no_members),
)
  where
    none_left : (es : List Entry) (at : ℕ) → at ≡ length es → drop at es ≡ []
    none_left [] zero h = refl
    none_left [] (suc at) h = refl
    none_left (e ∷ es) zero h = absurd (omega arith)
    none_left (e ∷ es) (suc at) h = none_left es at (omega arith)
