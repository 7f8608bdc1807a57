-- The contexts of a lane, and who attached each.
use Rattle.span_script.proofs.Common.{list_any, cases_Bool, cond-true, cond-false, or_parts, or_cases, Context, has_number, without_number, last_context, last_passing, without_last, Token, is_token, Owner, EntryOf, GuardOf, Attached, is_same_owner, is_attached_by, last_attached, live_numbers_of, token_numbers_of, HaveDistinctNumbers, ContextsFit}
use Rattle.std.proofs.Common.{◌≡◌, ℕ, List, [], ◌∷◌, ◌++◌, Bool, true, false, Option, Some, None, map, refl, sym, ap, subst, ◌∙◌, inl, inr, ◌||◌, if◌then◌else◌, filter, eqb}
use Rattle.std.proofs.lemmas.Bool.{eq-eqb, eqb-true, ne_eqb, true≢false}
use Rattle.span_script.proofs.steps.SlotsLemmas.{some_is}

-- ---- owners

same_owner : (o : Owner) → is_same_owner o o ≡ true
same_owner (EntryOf s) = eq-eqb s s refl
same_owner (GuardOf n) = eq-eqb n n refl

pub owner_is : (a o : Owner) → is_same_owner a o ≡ true → a ≡ o
owner_is (EntryOf s) (EntryOf q) e = ap EntryOf (eqb-true s q e)
owner_is (EntryOf s) (GuardOf m) e = absurd (true≢false (sym e))
owner_is (GuardOf n) (EntryOf q) e = absurd (true≢false (sym e))
owner_is (GuardOf n) (GuardOf m) e = ap GuardOf (eqb-true n m e)

pub other_owner : (a o : Owner) → (a ≡ o → ⊥) → is_same_owner a o ≡ false
other_owner a o apart = elim (cases_Bool (is_same_owner a o)) [ inl e ↦ absurd (apart (owner_is a o e)) | inr e ↦ e ]

-- ---- one context more

has_push : (n : ℕ) (live : List (ℕ × Context)) (x : ℕ × Context) → has_number n live ≡ false → (x.0 ≡ n → ⊥) → has_number n (live ++ x ∷ []) ≡ false
has_push n [] x none other = ap (λ b. b || false) (ne_eqb x.0 n other)
has_push n (y ∷ live) x none other =
    let parts = or_parts (eqb y.0 n) (has_number n live) none in
    ap (λ b. b || has_number n (live ++ x ∷ [])) parts.0 ∙ has_push n live x parts.1 other

distinct_push : (live : List (ℕ × Context)) (x : ℕ × Context) → HaveDistinctNumbers live → has_number x.0 live ≡ false → HaveDistinctNumbers (live ++ x ∷ [])
distinct_push [] x distinct fresh = (refl, tt)
distinct_push (y ∷ live) x distinct fresh =
    let parts = or_parts (eqb y.0 x.0) (has_number x.0 live) fresh in
    (has_push y.0 live x distinct.0 (λ e. true≢false (sym (eq-eqb y.0 x.0 (sym e)) ∙ parts.0)), distinct_push live x distinct.1 parts.1)

pub map_more : {A B : Type 0} (f : A → B) (xs : List A) (x : A) → map f (xs ++ x ∷ []) ≡ map f xs ++ f x ∷ []
map_more f [] x = refl
map_more f (y ∷ xs) x = ap (λ ys. f y ∷ ys) (map_more f xs x)

numbers_push : (s : Owner) (live : List (ℕ × Context)) (items : List Attached) (x : ℕ × Context) (a : Attached) → map (λ y. y.1) live ≡ map (λ b. b.context) items
    → live_numbers_of s (live ++ x ∷ []) (items ++ a ∷ []) ≡ live_numbers_of s live items ++ (if is_attached_by s a then Some x.0 ∷ [] else [])
numbers_push s [] [] x a same = refl
numbers_push s [] (b ∷ items) x a same = absurd (cc same)
numbers_push s (y ∷ live) [] x a same = absurd (cc same)
numbers_push s (y ∷ live) (b ∷ items) x a same = elim (cases_Bool (is_attached_by s b)) [
  | inl e ↦ rw e (ap (λ ns. Some y.0 ∷ ns) (numbers_push s live items x a (cc same)))
  | inr e ↦ rw e (numbers_push s live items x a (cc same))
]

pub tokens_push : (lane s : ℕ) (tokens : List Token) (k : Token) → token_numbers_of lane s (tokens ++ k ∷ []) ≡ token_numbers_of lane s tokens ++ (if is_token lane s k then k.attached ∷ [] else [])
tokens_push lane s [] k = elim (cases_Bool (is_token lane s k)) [ inl e ↦ rw e refl | inr e ↦ rw e refl ]
tokens_push lane s (y ∷ tokens) k = elim (cases_Bool (is_token lane s y)) [ inl e ↦ rw e (ap (λ ys. y.attached ∷ ys) (tokens_push lane s tokens k)) | inr e ↦ rw e (tokens_push lane s tokens k) ]

-- a context more, whose number its owner keeps
pub contexts_push : (owner : Owner) (live now : List (ℕ × Context)) (items : List Attached) (number : ℕ) (context : Context) (numbers later : Owner → List (Option ℕ)) → ContextsFit numbers live items → has_number number live ≡ false → now ≡ live ++ (number, context) ∷ []
    → ((o : Owner) → later o ≡ numbers o ++ (if is_same_owner owner o then Some number ∷ [] else [])) → ContextsFit later now (items ++ record { owner = owner; context = context } ∷ [])
contexts_push owner live now items number context numbers later fit fresh is more = subst (λ (xs : List (ℕ × Context)). ContextsFit later xs (items ++ record { owner = owner; context = context } ∷ [])) (sym is) (record {
  contexts = map_more (λ (y : ℕ × Context). y.1) live (number, context) ∙ ap (λ cs. cs ++ context ∷ []) fit.contexts ∙ sym (map_more (λ (b : Attached). b.context) items (record { owner = owner; context = context }));
  distinct = distinct_push live (number, context) fit.distinct fresh;
  numbers_are = λ o. numbers_push o live items (number, context) (record { owner = owner; context = context }) fit.contexts ∙ ap (λ ns. ns ++ (if is_same_owner owner o then Some number ∷ [] else [])) (fit.numbers_are o) ∙ sym (more o);
})

-- where each owner keeps what it kept
pub contexts_same : (live : List (ℕ × Context)) (items : List Attached) (numbers later : Owner → List (Option ℕ)) → ((o : Owner) → later o ≡ numbers o) → ContextsFit numbers live items → ContextsFit later live items
contexts_same live items numbers later same fit = record { contexts = fit.contexts; distinct = fit.distinct; numbers_are = λ o. fit.numbers_are o ∙ sym (same o) }

-- ---- one context less

pub without_other : {A : Type 0} (p q : A → Bool) (xs : List A) → ((x : A) → p x ≡ true → q x ≡ false) → filter q (without_last p xs) ≡ filter q xs
without_other p q [] apart = refl
without_other p q (x ∷ xs) apart = elim (cases_Bool (list_any p xs)) [
  | inl later ↦ rw later (elim (cases_Bool (q x)) [ inl e ↦ rw e (ap (λ ys. x ∷ ys) (without_other p q xs apart)) | inr e ↦ rw e (without_other p q xs apart) ])
  | inr none ↦ rw none (elim (cases_Bool (p x)) [ inl here ↦ rw (here, apart x here) refl | inr not ↦ rw not refl ])
]

none_filtered : {A : Type 0} (p : A → Bool) (xs : List A) → list_any p xs ≡ false → filter p xs ≡ []
none_filtered p [] none = refl
none_filtered p (x ∷ xs) none = let parts = or_parts (p x) (list_any p xs) none in rw parts.0 (none_filtered p xs parts.1)

pub without_same : {A : Type 0} (p : A → Bool) (xs : List A) (x : A) → last_passing p xs ≡ Some x → filter p (without_last p xs) ++ x ∷ [] ≡ filter p xs
without_same p [] x last = absurd (cc last)
without_same p (y ∷ xs) x last = elim (cases_Bool (list_any p xs)) [
  | inl later ↦ (
      let rest = without_same p xs x (sym (cond-true {A = Option _} (list_any p xs) (last_passing p xs) (if p y then Some y else None) later) ∙ last) in
      rw later (elim (cases_Bool (p y)) [ inl e ↦ rw e (ap (λ ys. y ∷ ys) rest) | inr e ↦ rw e rest ]))
  | inr none ↦ (
      let last2 = sym (cond-false {A = Option _} (list_any p xs) (last_passing p xs) (if p y then Some y else None) none) ∙ last in
      elim (cases_Bool (p y)) [
        | inl e ↦ (
            let is : y ≡ x = some_is y x (sym (cond-true {A = Option _} (p y) (Some y) None e) ∙ last2) in
            let empty = none_filtered p xs none in
            rw (none, e, empty) (ap (λ z. z ∷ []) (sym is)))
        | inr e ↦ absurd (let no = sym (cond-false {A = Option _} (p y) (Some y) None e) ∙ last2 in cc no)
      ])
]

has_without : (m n : ℕ) (live : List (ℕ × Context)) → has_number m live ≡ false → has_number m (without_number n live) ≡ false
has_without m n [] none = refl
has_without m n (x ∷ live) none =
    let parts = or_parts (eqb x.0 m) (has_number m live) none in
    elim (cases_Bool (eqb x.0 n)) [
      | inl here ↦ rw here parts.1
      | inr apart ↦ rw apart (ap (λ b. b || has_number m (without_number n live)) parts.0 ∙ has_without m n live parts.1)
    ]

none_numbers : (s : Owner) (live : List (ℕ × Context)) (items : List Attached) → list_any (is_attached_by s) items ≡ false → live_numbers_of s live items ≡ []
none_numbers s [] items none = refl
none_numbers s (x ∷ live) [] none = refl
none_numbers s (x ∷ live) (a ∷ items) none = let parts = or_parts (is_attached_by s a) (list_any (is_attached_by s) items) none in rw parts.0 (none_numbers s live items parts.1)

no_end : {A : Type 0} (ys : List A) (o : A) → [] ≡ ys ++ o ∷ [] → ⊥
no_end [] o e = cc e
no_end (y ∷ ys) o e = cc e

some_numbers : (s : Owner) (live : List (ℕ × Context)) (items : List Attached) → map (λ x. x.1) live ≡ map (λ a. a.context) items → list_any (is_attached_by s) items ≡ true → live_numbers_of s live items ≡ [] → ⊥
some_numbers s [] [] same some none = absurd (true≢false (sym some))
some_numbers s [] (a ∷ items) same some none = absurd (cc same)
some_numbers s (x ∷ live) [] same some none = absurd (cc same)
some_numbers s (x ∷ live) (a ∷ items) same some none = elim (cases_Bool (is_attached_by s a)) [
  | inl here ↦ absurd (let no = sym (cond-true {A = List (Option ℕ)} (is_attached_by s a) (Some x.0 ∷ live_numbers_of s live items) (live_numbers_of s live items) here) ∙ none in cc no)
  | inr apart ↦ some_numbers s live items (cc same) (elim (or_cases (is_attached_by s a) (list_any (is_attached_by s) items) some) [ inl here ↦ absurd (true≢false (sym here ∙ apart)) | inr later ↦ later ])
      (sym (cond-false {A = List (Option ℕ)} (is_attached_by s a) (Some x.0 ∷ live_numbers_of s live items) (live_numbers_of s live items) apart) ∙ none)
]

-- the last context of a span, taken off
record TakenOff (s : Owner) (live : List (ℕ × Context)) (items : List Attached) (ys : List (Option ℕ)) (o : Option ℕ) : Type 0 where
  number : ℕ
  is : o ≡ Some number
  there : has_number number live ≡ true
  contexts : map (λ x. x.1) (without_number number live) ≡ map (λ a. a.context) (without_last (is_attached_by s) items)
  distinct : HaveDistinctNumbers (without_number number live)
  own : live_numbers_of s (without_number number live) (without_last (is_attached_by s) items) ≡ ys
  others : (r : Owner) → (r ≡ s → ⊥) → live_numbers_of r (without_number number live) (without_last (is_attached_by s) items) ≡ live_numbers_of r live items

pub head_is : {A : Type 0} (a b : A) (xs ys : List A) → (a ∷ xs) ≡ (b ∷ ys) → (a ≡ b) × (xs ≡ ys)
head_is a b xs ys e = (cc e, cc e)

-- one that stands before it
taken_after : (s : Owner) (x : ℕ × Context) (a : Attached) (live : List (ℕ × Context)) (items : List Attached) (ys zs : List (Option ℕ)) (o : Option ℕ) → (x.1 ≡ a.context) → has_number x.0 live ≡ false → list_any (is_attached_by s) items ≡ true
    → TakenOff s live items ys o → zs ≡ (if is_attached_by s a then Some x.0 ∷ ys else ys) → TakenOff s (x ∷ live) (a ∷ items) zs o
taken_after s x a live items ys zs o context fresh later t zs_are =
    let apart : eqb x.0 t.number ≡ false = ne_eqb x.0 t.number (λ e. true≢false (sym t.there ∙ ap (λ (n : ℕ). has_number n live) (sym e) ∙ fresh)) in
    let left : without_number t.number (x ∷ live) ≡ x ∷ without_number t.number live = cond-false {A = List (ℕ × Context)} (eqb x.0 t.number) live (x ∷ without_number t.number live) apart in
    let rest : without_last (is_attached_by s) (a ∷ items) ≡ a ∷ without_last (is_attached_by s) items = cond-true {A = List Attached} (list_any (is_attached_by s) items) (a ∷ without_last (is_attached_by s) items) (if is_attached_by s a then items else a ∷ items) later in
    let both : (r : Owner) → live_numbers_of r (without_number t.number (x ∷ live)) (without_last (is_attached_by s) (a ∷ items)) ≡ (if is_attached_by r a then Some x.0 ∷ live_numbers_of r (without_number t.number live) (without_last (is_attached_by s) items) else live_numbers_of r (without_number t.number live) (without_last (is_attached_by s) items))
    = λ r. ap (λ (xs : List (ℕ × Context)). live_numbers_of r xs (without_last (is_attached_by s) (a ∷ items))) left ∙ ap (λ (is : List Attached). live_numbers_of r (x ∷ without_number t.number live) is) rest in
    record {
      number = t.number;
      is = t.is;
      there = ap (λ b. b || has_number t.number live) apart ∙ t.there;
      contexts = ap (λ (xs : List (ℕ × Context)). map (λ y. y.1) xs) left ∙ ap (λ c. c ∷ map (λ y. y.1) (without_number t.number live)) context ∙ ap (λ cs. a.context ∷ cs) t.contexts ∙ ap (λ (is : List Attached). map (λ b. b.context) is) (sym rest);
      distinct = subst HaveDistinctNumbers (sym left) (has_without x.0 t.number live fresh, t.distinct);
      own = both s ∙ ap (λ ns. if is_attached_by s a then Some x.0 ∷ ns else ns) t.own ∙ sym zs_are;
      others = λ r other. both r ∙ ap (λ ns. if is_attached_by r a then Some x.0 ∷ ns else ns) (t.others r other);
    }

take_off : (s : Owner) (live : List (ℕ × Context)) (items : List Attached) (ys : List (Option ℕ)) (o : Option ℕ) → map (λ x. x.1) live ≡ map (λ a. a.context) items → HaveDistinctNumbers live → live_numbers_of s live items ≡ ys ++ o ∷ [] → TakenOff s live items ys o
take_off s [] items ys o same distinct are = absurd (no_end ys o are)
take_off s (x ∷ live) [] ys o same distinct are = absurd (no_end ys o are)
take_off s (x ∷ live) (a ∷ items) ys o same distinct are =
    let heads = head_is x.1 a.context (map (λ (y : ℕ × Context). y.1) live) (map (λ (b : Attached). b.context) items) same in
    elim (cases_Bool (list_any (is_attached_by s) items)) [
      | inl later ↦ elim (cases_Bool (is_attached_by s a)) [
        | inl here ↦ by_list ys (sym (cond-true {A = List (Option ℕ)} (is_attached_by s a) (Some x.0 ∷ live_numbers_of s live items) (live_numbers_of s live items) here) ∙ are) heads.0 heads.1 later here (λ zs e. take_off s live items zs o heads.1 distinct.1 e)
        | inr apart ↦ (
            let t = take_off s live items ys o heads.1 distinct.1 (sym (cond-false {A = List (Option ℕ)} (is_attached_by s a) (Some x.0 ∷ live_numbers_of s live items) (live_numbers_of s live items) apart) ∙ are) in
            taken_after s x a live items ys ys o heads.0 distinct.0 later t (sym (cond-false {A = List (Option ℕ)} (is_attached_by s a) (Some x.0 ∷ ys) ys apart)))
      ]
      | inr none ↦ elim (cases_Bool (is_attached_by s a)) [
        | inl here ↦ last_one ys (sym (cond-true {A = List (Option ℕ)} (is_attached_by s a) (Some x.0 ∷ live_numbers_of s live items) (live_numbers_of s live items) here) ∙ are) heads.1 none here
        | inr apart ↦ absurd (no_end ys o (sym (none_numbers s live items none) ∙ sym (cond-false {A = List (Option ℕ)} (is_attached_by s a) (Some x.0 ∷ live_numbers_of s live items) (live_numbers_of s live items) apart) ∙ are))
      ]
    ]
  where
    by_list : (ys : List (Option ℕ)) → (Some x.0 ∷ live_numbers_of s live items) ≡ ys ++ o ∷ [] → x.1 ≡ a.context → map (λ x. x.1) live ≡ map (λ a. a.context) items → list_any (is_attached_by s) items ≡ true → (is_attached_by s a) ≡ true
        → ((zs : List (Option ℕ)) → live_numbers_of s live items ≡ zs ++ o ∷ [] → TakenOff s live items zs o) → TakenOff s (x ∷ live) (a ∷ items) ys o
    by_list [] e context rest later here more = absurd (some_numbers s live items rest later (head_is (Some x.0) o (live_numbers_of s live items) [] e).1)
    by_list (y ∷ zs) e context rest later here more =
        let parts = head_is (Some x.0) y (live_numbers_of s live items) (zs ++ o ∷ []) e in
        let t = more zs parts.1 in
        taken_after s x a live items zs (y ∷ zs) o context distinct.0 later t (ap (λ n. n ∷ zs) (sym parts.0) ∙ sym (cond-true {A = List (Option ℕ)} (is_attached_by s a) (Some x.0 ∷ zs) zs here))

    last_one : (ys : List (Option ℕ)) → (Some x.0 ∷ live_numbers_of s live items) ≡ ys ++ o ∷ [] → map (λ x. x.1) live ≡ map (λ a. a.context) items → list_any (is_attached_by s) items ≡ false → (is_attached_by s a) ≡ true → TakenOff s (x ∷ live) (a ∷ items) ys o
    last_one (y ∷ zs) e rest none here = absurd (no_end zs o (sym (none_numbers s live items none) ∙ (head_is (Some x.0) y (live_numbers_of s live items) (zs ++ o ∷ []) e).1))
    last_one [] e rest none here =
        let left : without_number x.0 (x ∷ live) ≡ live = cond-true {A = List (ℕ × Context)} (eqb x.0 x.0) live (x ∷ without_number x.0 live) (eq-eqb x.0 x.0 refl) in
        let gone : without_last (is_attached_by s) (a ∷ items) ≡ items = cond-false {A = List Attached} (list_any (is_attached_by s) items) (a ∷ without_last (is_attached_by s) items) (if is_attached_by s a then items else a ∷ items) none ∙ cond-true {A = List Attached} (is_attached_by s a) items (a ∷ items) here in
        record {
          number = x.0;
          is = sym (head_is (Some x.0) o (live_numbers_of s live items) [] e).0;
          there = ap (λ b. b || has_number x.0 live) (eq-eqb x.0 x.0 refl);
          contexts = ap (λ (xs : List (ℕ × Context)). map (λ y. y.1) xs) left ∙ rest ∙ ap (λ (is : List Attached). map (λ b. b.context) is) (sym gone);
          distinct = subst HaveDistinctNumbers (sym left) distinct.1;
          own = ap (λ (xs : List (ℕ × Context)). live_numbers_of s xs (without_last (is_attached_by s) (a ∷ items))) left ∙ ap (live_numbers_of s live) gone ∙ none_numbers s live items none;
          others = λ r other. ap (λ (xs : List (ℕ × Context)). live_numbers_of r xs (without_last (is_attached_by s) (a ∷ items))) left ∙ ap (live_numbers_of r live) gone
              ∙ sym (cond-false {A = List (Option ℕ)} (is_attached_by r a) (Some x.0 ∷ live_numbers_of r live items) (live_numbers_of r live items) (other_owner a.owner r (λ e. other (sym e ∙ owner_is a.owner s here))));
        }

-- a context less, whose number its owner kept last
pub contexts_take : (owner : Owner) (live now : List (ℕ × Context)) (items : List Attached) (attached : Option ℕ) (numbers later : Owner → List (Option ℕ)) → ContextsFit numbers live items → numbers owner ≡ later owner ++ attached ∷ []
    → ((o : Owner) → (o ≡ owner → ⊥) → later o ≡ numbers o) → ((number : ℕ) → attached ≡ Some number → now ≡ without_number number live) → ContextsFit later now (without_last (is_attached_by owner) items)
contexts_take owner live now items attached numbers later fit mine others is =
    let t = take_off owner live items (later owner) attached fit.contexts fit.distinct (fit.numbers_are owner ∙ mine) in
    subst (λ (xs : List (ℕ × Context)). ContextsFit later xs (without_last (is_attached_by owner) items)) (sym (is t.number t.is)) (record {
      contexts = t.contexts;
      distinct = t.distinct;
      numbers_are = λ o. elim (cases_Bool (is_same_owner o owner)) [
        | inl here ↦ ap (λ (k : Owner). live_numbers_of k (without_number t.number live) (without_last (is_attached_by owner) items)) (owner_is o owner here) ∙ t.own ∙ ap later (sym (owner_is o owner here))
        | inr apart ↦ (
            let other : o ≡ owner → ⊥ = λ e. true≢false (sym (ap (λ k. is_same_owner k owner) e ∙ same_owner owner) ∙ apart) in
            t.others o other ∙ fit.numbers_are o ∙ sym (others o other))
      ];
    })

-- what its owner keeps is live
pub owned_has : (owner : Owner) (live : List (ℕ × Context)) (items : List Attached) (number : ℕ) (numbers : Owner → List (Option ℕ)) → ContextsFit numbers live items → numbers owner ≡ Some number ∷ [] → has_number number live ≡ true
owned_has owner live items number numbers fit mine =
    let t = take_off owner live items [] (Some number) fit.contexts fit.distinct (fit.numbers_are owner ∙ mine) in
    subst (λ (n : ℕ). has_number n live ≡ true) (the_number t.number number (sym t.is)) t.there
  where
    the_number : (a b : ℕ) → Some a ≡ Some b → a ≡ b
    the_number a b e = cc e

-- the context that was attached last
pub last_is : (context : Context) (live : List (ℕ × Context)) (items : List Attached) → map (λ x. x.1) live ≡ map (λ a. a.context) items → last_context context live ≡ last_attached context items
last_is context [] [] same = refl
last_is context [] (a ∷ items) same = absurd (cc same)
last_is context (x ∷ live) [] same = absurd (cc same)
last_is context (x ∷ live) (a ∷ items) same =
    let heads = head_is x.1 a.context (map (λ (y : ℕ × Context). y.1) live) (map (λ (b : Attached). b.context) items) same in
    ap (λ (c : Context). last_context c live) heads.0 ∙ last_is a.context live items heads.1
