-- A table of states, seen as the list of what its spans have come to.
use Rattle.std.proofs.Common.{◌≡◌, ℕ, suc, zero, ◌+◌, ◌<◌, ◌≤◌, List, [], ◌∷◌, length, Bool, true, false, cond, get_or, Option, Some, None, refl, sym, ap, ◌∙◌, arith, inl, inr, Result, Ok, Err, OnOk, OnErr, IfOk, IsTrue, unwrap_or, is_some, ◌||◌, ◌&&◌, ◌==◌, nat_lt, slice_set}
use Rattle.otel_layer.proofs.Common.{Memory, Op, OpReply, reply, is_growing, with_op, AppliesTo, position_or_len, list_any, remove_entry, lookup, and_parts, or_parts, cases_Bool, cond-true, cond-false, Entry, SpanData, StateValue, is_of_id, with_entry_read, read_off, all_data, entry_ids, is_id, knows_span, update}
use Rattle.std.specs.List.{position}
use Rattle.std.proofs.lemmas.Bool.{ltb-false, true≢false}
use Rattle.std.proofs.lemmas.List.Quantifiers.{position-Some}
use Rattle.std.proofs.lemmas.List.Recursion.{is_position_or_len}

-- ---- one entry

and_none : (b : Bool) → (b && true) ≡ false → b ≡ false
and_none true h = h
and_none false h = refl

lookup_off : {A : Type 0} (id i : ℕ) (f : StateValue → A) (o : Option StateValue) (others : List (ℕ × A)) → ((i == id) && is_some o) ≡ false → lookup (is_id id) (with_entry_read i f o others) ≡ lookup (is_id id) others
lookup_off id i f None others off = refl
lookup_off {A} id i f (Some s) others off = cond-false {A = Option A} (i == id) (Some (f s)) (lookup (is_id id) others) (and_none (i == id) off)

lookup_on : {A : Type 0} (id i : ℕ) (f : StateValue → A) (o : Option StateValue) (s : StateValue) (others : List (ℕ × A)) → o ≡ Some s → (i == id) ≡ true → lookup (is_id id) (with_entry_read i f o others) ≡ Some (f s)
lookup_on {A} id i f o s others is here = ap (λ (x : Option StateValue). lookup (is_id id) (with_entry_read i f x others)) is ∙ cond-true {A = Option A} (i == id) (Some (f s)) (lookup (is_id id) others) here

update_off : (id i : ℕ) (g : SpanData → SpanData) (o : Option StateValue) (others : List (ℕ × SpanData)) → ((i == id) && is_some o) ≡ false → update id g (with_entry_read i (λ s. s.span_data) o others) ≡ with_entry_read i (λ s. s.span_data) o (update id g others)
update_off id i g None others off = refl
update_off id i g (Some s) others off = cond-false {A = List (ℕ × SpanData)} (i == id) ((i, g s.span_data) ∷ others) ((i, s.span_data) ∷ update id g others) (and_none (i == id) off)

update_on : (id i : ℕ) (g : SpanData → SpanData) (o : Option StateValue) (s : StateValue) (others : List (ℕ × SpanData)) → o ≡ Some s → (i == id) ≡ true → update id g (with_entry_read i (λ s. s.span_data) o others) ≡ (i, g s.span_data) ∷ others
update_on id i g o s others is here =
    ap (λ (x : Option StateValue). update id g (with_entry_read i (λ s. s.span_data) x others)) is ∙ cond-true {A = List (ℕ × SpanData)} (i == id) ((i, g s.span_data) ∷ others) ((i, s.span_data) ∷ update id g others) here

remove_off : {A : Type 0} (id i : ℕ) (f : StateValue → A) (o : Option StateValue) (others : List (ℕ × A)) → ((i == id) && is_some o) ≡ false → remove_entry (is_id id) (with_entry_read i f o others) ≡ with_entry_read i f o (remove_entry (is_id id) others)
remove_off id i f None others off = refl
remove_off {A} id i f (Some s) others off = cond-false {A = List (ℕ × A)} (i == id) others ((i, f s) ∷ remove_entry (is_id id) others) (and_none (i == id) off)

remove_on : {A : Type 0} (id i : ℕ) (f : StateValue → A) (o : Option StateValue) (s : StateValue) (others : List (ℕ × A)) → o ≡ Some s → (i == id) ≡ true → remove_entry (is_id id) (with_entry_read i f o others) ≡ others
remove_on {A} id i f o s others is here =
    ap (λ (x : Option StateValue). remove_entry (is_id id) (with_entry_read i f x others)) is ∙ cond-true {A = List (ℕ × A)} (i == id) others ((i, f s) ∷ remove_entry (is_id id) others) here

with_some : {A : Type 0} (f : StateValue → A) (i j : ℕ) (o : Option StateValue) (s : StateValue) (others : List (ℕ × A)) → i ≡ j → o ≡ Some s → with_entry_read i f o others ≡ (j, f s) ∷ others
with_some f i j o s others same is = ap (λ (n : ℕ). with_entry_read n f o others) same ∙ ap (λ (x : Option StateValue). with_entry_read j f x others) is

known_with : (id i : ℕ) (o : Option StateValue) (others : List (ℕ × SpanData)) → knows_span id (with_entry_read i (λ s. s.span_data) o others) ≡ (((i == id) && is_some o) || knows_span id others)
known_with id i None others = gap (i == id) (knows_span id others)
  where
    gap : (b k : Bool) → k ≡ ((b && false) || k)
    gap true k = refl
    gap false k = refl
known_with id i (Some s) others = entry (i == id) (knows_span id others)
  where
    entry : (b k : Bool) → (b || k) ≡ ((b && true) || k)
    entry true k = refl
    entry false k = refl

-- ---- by the facts of a place

read_there : {A : Type 0} (f : StateValue → A) (id : ℕ) (xs : List Entry) (n : ℕ) (d : Entry) (s : StateValue) → n < length xs → is_of_id id (get_or xs n d) ≡ true → ((k : ℕ) → k < n → is_of_id id (get_or xs k d) ≡ false) → (get_or xs n d).state ≡ Some s
    → lookup (is_id id) (read_off f xs) ≡ Some (f s)
read_there f id [] n d s within here before is = absurd (omega (arith, within))
read_there f id (x ∷ xs) zero d s within here before is = lookup_on id x.id f x.state s (read_off f xs) is (and_parts (x.id == id) (is_some x.state) here).0
read_there f id (x ∷ xs) (suc n) d s within here before is =
    lookup_off id x.id f x.state (read_off f xs) (before zero (omega arith))
    ∙ read_there f id xs n d s (omega (arith, within)) here (λ k less. before (suc k) (omega (arith, less))) is

update_there : (id : ℕ) (g : SpanData → SpanData) (xs : List Entry) (n : ℕ) (d e : Entry) (s t : StateValue) → n < length xs → is_of_id id (get_or xs n d) ≡ true → ((k : ℕ) → k < n → is_of_id id (get_or xs k d) ≡ false)
    → (get_or xs n d).state ≡ Some s → e.id ≡ (get_or xs n d).id → e.state ≡ Some t → t.span_data ≡ g s.span_data → all_data (slice_set xs n e) ≡ update id g (all_data xs)
update_there id g [] n d e s t within here before was same now span_data = absurd (omega (arith, within))
update_there id g (x ∷ xs) zero d e s t within here before was same now span_data =
    with_some (λ s. s.span_data) e.id x.id e.state t (all_data xs) same now ∙ ap (λ (u : SpanData). (x.id, u) ∷ all_data xs) span_data
    ∙ sym (update_on id x.id g x.state s (all_data xs) was (and_parts (x.id == id) (is_some x.state) here).0)
update_there id g (x ∷ xs) (suc n) d e s t within here before was same now span_data =
    ap (λ (es : List (ℕ × SpanData)). with_entry_read x.id (λ s. s.span_data) x.state es) (update_there id g xs n d e s t (omega (arith, within)) here (λ k less. before (suc k) (omega (arith, less))) was same now span_data)
    ∙ sym (update_off id x.id g x.state (all_data xs) (before zero (omega arith)))

same_there : {A : Type 0} (f : StateValue → A) (xs : List Entry) (n : ℕ) (d e : Entry) (s t : StateValue) → n < length xs → (get_or xs n d).state ≡ Some s → e.id ≡ (get_or xs n d).id → e.state ≡ Some t → f t ≡ f s → read_off f (slice_set xs n e) ≡ read_off f xs
same_there f [] n d e s t within was same now read = absurd (omega (arith, within))
same_there {A} f (x ∷ xs) zero d e s t within was same now read =
    with_some f e.id x.id e.state t (read_off f xs) same now ∙ ap (λ (a : A). (x.id, a) ∷ read_off f xs) read ∙ sym (with_some f x.id x.id x.state s (read_off f xs) refl was)
same_there {A} f (x ∷ xs) (suc n) d e s t within was same now read = ap (λ (es : List (ℕ × A)). with_entry_read x.id f x.state es) (same_there f xs n d e s t (omega (arith, within)) was same now read)

removed_there : {A : Type 0} (f : StateValue → A) (id : ℕ) (xs : List Entry) (n : ℕ) (d e : Entry) (s : StateValue) → n < length xs → is_of_id id (get_or xs n d) ≡ true → ((k : ℕ) → k < n → is_of_id id (get_or xs k d) ≡ false)
    → (get_or xs n d).state ≡ Some s → e.state ≡ None → read_off f (slice_set xs n e) ≡ remove_entry (is_id id) (read_off f xs)
removed_there f id [] n d e s within here before was now = absurd (omega (arith, within))
removed_there f id (x ∷ xs) zero d e s within here before was now =
    ap (λ (o : Option StateValue). with_entry_read e.id f o (read_off f xs)) now ∙ sym (remove_on id x.id f x.state s (read_off f xs) was (and_parts (x.id == id) (is_some x.state) here).0)
removed_there {A} f id (x ∷ xs) (suc n) d e s within here before was now =
    ap (λ (es : List (ℕ × A)). with_entry_read x.id f x.state es) (removed_there f id xs n d e s (omega (arith, within)) here (λ k less. before (suc k) (omega (arith, less))) was now)
    ∙ sym (remove_off id x.id f x.state (read_off f xs) (before zero (omega arith)))

set_there : {A : Type 0} (f : StateValue → A) (id : ℕ) (xs : List Entry) (n : ℕ) (d e : Entry) (t : StateValue) → n < length xs → is_of_id id (get_or xs n d) ≡ true → ((k : ℕ) → k < n → is_of_id id (get_or xs k d) ≡ false)
    → e.id ≡ (get_or xs n d).id → e.state ≡ Some t → lookup (is_id id) (read_off f (slice_set xs n e)) ≡ Some (f t)
set_there f id [] n d e t within here before same now = absurd (omega (arith, within))
set_there f id (x ∷ xs) zero d e t within here before same now = lookup_on id e.id f e.state t (read_off f xs) now (ap (λ (i : ℕ). i == id) same ∙ (and_parts (x.id == id) (is_some x.state) here).0)
set_there f id (x ∷ xs) (suc n) d e t within here before same now =
    lookup_off id x.id f x.state (read_off f (slice_set xs n e)) (before zero (omega arith))
    ∙ set_there f id xs n d e t (omega (arith, within)) here (λ k less. before (suc k) (omega (arith, less))) same now

ids_there : (xs : List Entry) (n : ℕ) (d e : Entry) → n < length xs → e.id ≡ (get_or xs n d).id → entry_ids (slice_set xs n e) ≡ entry_ids xs
ids_there [] n d e within same = absurd (omega (arith, within))
ids_there (x ∷ xs) zero d e within same = ap (λ (i : ℕ). i ∷ entry_ids xs) same
ids_there (x ∷ xs) (suc n) d e within same = ap (λ (is : List ℕ). x.id ∷ is) (ids_there xs n d e (omega (arith, within)) same)

-- ---- where nothing is found

first_place : ℕ → List Entry → ℕ
first_place id [] = 0
first_place id (x ∷ xs) = cond (is_of_id id x) 0 (1 + first_place id xs)

first_is : (id : ℕ) (xs : List Entry) → first_place id xs ≡ position_or_len (is_of_id id) xs
unfolding first_place
first_is id xs = is_position_or_len (first_place id) (is_of_id id) refl (λ x ys. refl) xs

past_end : (id : ℕ) (xs : List Entry) → length xs ≤ first_place id xs → list_any (is_of_id id) xs ≡ false
unfolding first_place
past_end id [] h = refl
past_end id (x ∷ xs) h =
    elim (cases_Bool (is_of_id id x)) [
      | inl here ↦ (let e = cond-true {A = ℕ} (is_of_id id x) 0 (1 + first_place id xs) here in absurd (omega (arith, e, h)))
      | inr apart ↦ (
          let e = cond-false {A = ℕ} (is_of_id id x) 0 (1 + first_place id xs) apart in
          let rest = past_end id xs (omega (arith, e, h)) in
          ap (λ b. b || list_any (is_of_id id) xs) apart ∙ rest)
    ]

some_isnt_none : {A : Type 0} (a : A) → Some a ≡ None → ⊥
some_isnt_none a h = cc

none_found : (id : ℕ) (xs : List Entry) → position (is_of_id id) xs ≡ None → list_any (is_of_id id) xs ≡ false
none_found id xs h =
    let place = position_or_len (is_of_id id) xs in
    elim (cases_Bool (nat_lt place (length xs))) [
      | inl less ↦ absurd (some_isnt_none place (sym (cond-true {A = Option ℕ} (nat_lt place (length xs)) (Some place) None less) ∙ h))
      | inr not ↦ (let e = first_is id xs in let l = ltb-false place (length xs) not in past_end id xs (omega (arith, e, l)))
    ]

none_read : {A : Type 0} (f : StateValue → A) (id : ℕ) (xs : List Entry) → list_any (is_of_id id) xs ≡ false → lookup (is_id id) (read_off f xs) ≡ None
none_read f id [] h = refl
none_read f id (x ∷ xs) h =
    let parts = or_parts (is_of_id id x) (list_any (is_of_id id) xs) h in
    lookup_off id x.id f x.state (read_off f xs) parts.0 ∙ none_read f id xs parts.1

none_update : (id : ℕ) (g : SpanData → SpanData) (xs : List Entry) → list_any (is_of_id id) xs ≡ false → update id g (all_data xs) ≡ all_data xs
none_update id g [] h = refl
none_update id g (x ∷ xs) h =
    let parts = or_parts (is_of_id id x) (list_any (is_of_id id) xs) h in
    update_off id x.id g x.state (all_data xs) parts.0 ∙ ap (λ (es : List (ℕ × SpanData)). with_entry_read x.id (λ s. s.span_data) x.state es) (none_update id g xs parts.1)

knows_is : (id : ℕ) (xs : List Entry) → knows_span id (all_data xs) ≡ list_any (is_of_id id) xs
knows_is id [] = refl
knows_is id (x ∷ xs) = known_with id x.id x.state (all_data xs) ∙ ap (λ b. is_of_id id x || b) (knows_is id xs)

-- ---- by the place that was found

pub no_gap : (id : ℕ) (xs : List Entry) (n : ℕ) (d : Entry) → position (is_of_id id) xs ≡ Some n → (get_or xs n d).state ≡ None → ⊥
no_gap id xs n d h gap =
    let p = position-Some (is_of_id id) xs n d h in
    true≢false (sym (and_parts ((get_or xs n d).id == id) (is_some (get_or xs n d).state) p.1).1 ∙ ap (λ (o : Option StateValue). is_some o) gap)

pub found_read : {A : Type 0} (f : StateValue → A) (id : ℕ) (xs : List Entry) (n : ℕ) (d : Entry) (s : StateValue) → position (is_of_id id) xs ≡ Some n → (get_or xs n d).state ≡ Some s → lookup (is_id id) (read_off f xs) ≡ Some (f s)
found_read f id xs n d s h is = (let p = position-Some (is_of_id id) xs n d h in read_there f id xs n d s p.0 p.1 p.2 is)

pub found_update : (id : ℕ) (g : SpanData → SpanData) (xs : List Entry) (n : ℕ) (d e : Entry) (s t : StateValue) → position (is_of_id id) xs ≡ Some n → (get_or xs n d).state ≡ Some s → e.id ≡ (get_or xs n d).id → e.state ≡ Some t → t.span_data ≡ g s.span_data
    → all_data (slice_set xs n e) ≡ update id g (all_data xs)
found_update id g xs n d e s t h was same now span_data = (let p = position-Some (is_of_id id) xs n d h in update_there id g xs n d e s t p.0 p.1 p.2 was same now span_data)

pub found_same : {A : Type 0} (f : StateValue → A) (id : ℕ) (xs : List Entry) (n : ℕ) (d e : Entry) (s t : StateValue) → position (is_of_id id) xs ≡ Some n → (get_or xs n d).state ≡ Some s → e.id ≡ (get_or xs n d).id → e.state ≡ Some t → f t ≡ f s
    → read_off f (slice_set xs n e) ≡ read_off f xs
found_same f id xs n d e s t h was same now read = (let p = position-Some (is_of_id id) xs n d h in same_there f xs n d e s t p.0 was same now read)

pub found_removed : {A : Type 0} (f : StateValue → A) (id : ℕ) (xs : List Entry) (n : ℕ) (d e : Entry) (s : StateValue) → position (is_of_id id) xs ≡ Some n → (get_or xs n d).state ≡ Some s → e.state ≡ None → read_off f (slice_set xs n e) ≡ remove_entry (is_id id) (read_off f xs)
found_removed f id xs n d e s h was now = (let p = position-Some (is_of_id id) xs n d h in removed_there f id xs n d e s p.0 p.1 p.2 was now)

pub found_ids : (id : ℕ) (xs : List Entry) (n : ℕ) (d e : Entry) → position (is_of_id id) xs ≡ Some n → e.id ≡ (get_or xs n d).id → entry_ids (slice_set xs n e) ≡ entry_ids xs
found_ids id xs n d e h same = (let p = position-Some (is_of_id id) xs n d h in ids_there xs n d e p.0 same)

pub read_set : {A : Type 0} (f : StateValue → A) (id : ℕ) (xs : List Entry) (n : ℕ) (d e : Entry) (t : StateValue) → position (is_of_id id) xs ≡ Some n → e.id ≡ (get_or xs n d).id → e.state ≡ Some t → (a : A) → lookup (is_id id) (read_off f (slice_set xs n e)) ≡ Some a → f t ≡ a
read_set {A} f id xs n d e t h same now a is =
    let p = position-Some (is_of_id id) xs n d h in
    ap (λ (o : Option A). unwrap_or o a) (sym (set_there f id xs n d e t p.0 p.1 p.2 same now) ∙ is)

pub not_read : {A : Type 0} (f : StateValue → A) (id : ℕ) (xs : List Entry) → position (is_of_id id) xs ≡ None → lookup (is_id id) (read_off f xs) ≡ None
not_read f id xs h = none_read f id xs (none_found id xs h)

pub none_at : {A : Type 0} (f : StateValue → A) (id : ℕ) (xs ys : List Entry) → ys ≡ xs → position (is_of_id id) ys ≡ None → lookup (is_id id) (read_off f xs) ≡ None
none_at f id xs ys same h = ap (λ (zs : List Entry). lookup (is_id id) (read_off f zs)) (sym same) ∙ not_read f id ys h

pub nothing_read : {A : Type 0} (f : StateValue → A) (id : ℕ) (xs : List Entry) → position (is_of_id id) xs ≡ None → (a : A) → lookup (is_id id) (read_off f xs) ≡ Some a → ⊥
nothing_read f id xs h a is = some_isnt_none a (sym is ∙ not_read f id xs h)

pub not_updated : (id : ℕ) (g : SpanData → SpanData) (xs : List Entry) → position (is_of_id id) xs ≡ None → update id g (all_data xs) ≡ all_data xs
not_updated id g xs h = none_update id g xs (none_found id xs h)

any_there : (id : ℕ) (xs : List Entry) (n : ℕ) (d : Entry) → n < length xs → is_of_id id (get_or xs n d) ≡ true → list_any (is_of_id id) xs ≡ true
any_there id [] n d within here = absurd (omega (arith, within))
any_there id (x ∷ xs) zero d within here = ap (λ b. b || list_any (is_of_id id) xs) here
any_there id (x ∷ xs) (suc n) d within here = ap (λ b. is_of_id id x || b) (any_there id xs n d (omega (arith, within)) here) ∙ or_true (is_of_id id x)
  where
    or_true : (b : Bool) → (b || true) ≡ true
    or_true true = refl
    or_true false = refl

found_any : (id : ℕ) (xs : List Entry) (o : Option ℕ) → o ≡ position (is_of_id id) xs → is_some o ≡ list_any (is_of_id id) xs
found_any id [] o is = ap (λ (p : Option ℕ). is_some p) is
found_any id (x ∷ xs) None is = sym (none_found id (x ∷ xs) (sym is))
found_any id (x ∷ xs) (Some n) is = (let p = position-Some (is_of_id id) (x ∷ xs) n x (sym is) in sym (any_there id (x ∷ xs) n x p.0 p.1))

-- a span is known where a place is found
pub found_known : (id : ℕ) (xs : List Entry) (o : Option ℕ) → o ≡ position (is_of_id id) xs → is_some o ≡ knows_span id (all_data xs)
found_known id xs o is = found_any id xs o is ∙ sym (knows_is id xs)

pub on_ok : {A B : Type 0} (r : Result A B) (P Q : Type 0) → (P → Q) → OnOk r P → OnOk r Q
on_ok (Ok a) P Q f h = f h
on_ok (Err b) P Q f h = h

pub on_err : {A B : Type 0} (r : Result A B) (P Q : Type 0) → (P → Q) → OnErr r P → OnErr r Q
on_err (Ok a) P Q f h = h
on_err (Err b) P Q f h = f h

-- ---- an op that is applied to a span, and the context that one shows

pub applies_found : (o : Option SpanData) (span_data : SpanData) (spans now : List (ℕ × SpanData)) (id at : ℕ) (op : Op) (r : Result OpReply Memory) → o ≡ Some span_data → OnOk r (now ≡ with_op id at op spans) → IfOk r (λ x. x ≡ reply span_data op) → OnErr r (now ≡ spans) → OnErr r (IsTrue (is_growing op))
    → AppliesTo o spans id at op (Some r) now
applies_found None span_data spans now id at op r is did answer leaves growing = absurd (some_isnt_none span_data (sym is))
applies_found (Some u) span_data spans now id at op (Ok x) is did answer leaves growing = (answer ∙ ap (λ (t : SpanData). reply t op) (sym (ap (λ (y : Option SpanData). unwrap_or y span_data) is)), did)
applies_found (Some u) span_data spans now id at op (Err x) is did answer leaves growing = (growing, leaves)

pub applies_none : (o : Option SpanData) (spans : List (ℕ × SpanData)) (id at : ℕ) (op : Op) → o ≡ None → AppliesTo o spans id at op None spans
applies_none None spans id at op h = (refl, refl)
applies_none (Some span_data) spans id at op h = absurd (some_isnt_none span_data h)
