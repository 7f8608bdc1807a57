-- What requests that are carried out over a tape spell.
use Rattle.std.proofs.Common.{◌≡◌, ℕ, List, [], ◌∷◌, map, Bool, true, false, Option, Some, None, refl, sym, ap, ◌∙◌, slice_get, ◌&&◌, if◌then◌else◌, filter_map, is_some, position, bytes_eq, slice_index_or}
use Rattle.trace_tasks.proofs.Common.{list_all, cons_option, Callsite, SubscriberCall, spans_after_call, place_of, WorldValue, Replaced, now_there, TapeValue, DoesTape, tape_after, field_name_at, named_values, Fields, declared_value, declares, values_of, declared_ones}
use Rattle.std.specs.Option.{option_map}
use Rattle.std.proofs.lemmas.Bool.{true≢false}
use Rattle.std.specs.Cmp.Lexicographic.{same_text}
use Rattle.std.proofs.lemmas.List.Quantifiers.{position-Some}

-- ---- names

-- the field at the first place of a name has that name
named_at : (name : List ℕ) (fields : List (List ℕ)) (n : ℕ) → position (λ field. bytes_eq field name) fields ≡ Some n → slice_index_or fields n [] ≡ name
named_at name fields n is = same_text (slice_index_or fields n []) name (sym (position-Some (λ (field : List ℕ). bytes_eq field name) fields n [] is).1)

module _ (c : Callsite) where
  name_back : (name : List ℕ) (n : ℕ) → place_of name c ≡ Some n → field_name_at c n ≡ name
  name_back name n is = named_at name c.fields n is

  -- fields that are declared are spelled as they were given
  pub named_back : (fields : Fields) → list_all (λ field. declares c field.0) fields ≡ true → named_values c (values_of c fields) ≡ fields
  named_back [] all = refl
  named_back (f ∷ fs) all = by_place (λ rest. named_back fs rest) (place_of f.0 c) refl where
    by_place : (list_all (λ field. declares c field.0) fs ≡ true → named_values c (values_of c fs) ≡ fs) → (p : Option ℕ) → place_of f.0 c ≡ p → map (λ pair. (field_name_at c pair.0, pair.1)) (cons_option (option_map (λ place. (place, f.1)) (place_of f.0 c)) (filter_map (declared_value c) fs)) ≡ f ∷ fs
    by_place back None is = absurd (true≢false (sym all ∙ ap (λ (p : Option ℕ). is_some p && list_all (λ field. declares c field.0) fs) is))
    by_place back (Some n) is =
        let rest : list_all (λ field. declares c field.0) fs ≡ true = sym (ap (λ (p : Option ℕ). is_some p && list_all (λ field. declares c field.0) fs) is) ∙ all in
        ap (λ (p : Option ℕ). map (λ pair. (field_name_at c pair.0, pair.1)) (cons_option (option_map (λ place. (place, f.1)) p) (filter_map (declared_value c) fs))) is
        ∙ ap (λ (name : List ℕ). (name, f.1) ∷ map (λ pair. (field_name_at c pair.0, pair.1)) (filter_map (declared_value c) fs)) (name_back f.0 n is)
        ∙ ap (λ (xs : Fields). f ∷ xs) (back rest)

  -- the declared ones are declared
  pub all_declared : (fields : Fields) → list_all (λ field. declares c field.0) (declared_ones (Some c) fields) ≡ true
  all_declared [] = refl
  all_declared (f ∷ fs) = by_place (all_declared fs) (declares c f.0) refl where
    by_place : list_all (λ field. declares c field.0) (declared_ones (Some c) fs) ≡ true → (b : Bool) → declares c f.0 ≡ b → list_all (λ field. declares c field.0) (cons_option (if declares c f.0 then Some f else None) (declared_ones (Some c) fs)) ≡ true
    by_place rest true is =
        ap (λ (b : Bool). list_all (λ field. declares c field.0) (cons_option (if b then Some f else None) (declared_ones (Some c) fs))) is
        ∙ ap (λ (b : Bool). b && list_all (λ field. declares c field.0) (declared_ones (Some c) fs)) is ∙ rest
    by_place rest false is =
        ap (λ (b : Bool). list_all (λ field. declares c field.0) (cons_option (if b then Some f else None) (declared_ones (Some c) fs))) is ∙ rest

-- ---- one call

-- the tape after a call, in its world
pub record After (old new : WorldValue TapeValue) (d : ℕ) (tape : TapeValue) (call : SubscriberCall) : Type 0 where
  pub now : TapeValue
  pub there : slice_get new.subscribers d ≡ Some now
  pub spans_are : now.below.spans ≡ spans_after_call tape.below.spans call
  pub is : now ≡ record (tape_after tape call) { below = now.below }
  pub sites : new.sites ≡ old.sites
  pub cached : new.cached ≡ old.cached

the_tape : (a b : TapeValue) → ◌≡◌ {A = Option TapeValue} (Some a) (Some b) → a ≡ b
the_tape a b e = cc e

pub one_call : (old new : WorldValue TapeValue) (d : ℕ) (tape : TapeValue) (call : SubscriberCall) → slice_get old.subscribers d ≡ Some tape → Replaced (λ s t. DoesTape s call t) old new d → After old new d tape call
one_call old new d tape call there r =
    let same : r.before ≡ tape = the_tape r.before tape (sym r.there ∙ there) in
    record {
      now = r.later;
      there = now_there (λ (s t : TapeValue). DoesTape s call t) old new d r;
      spans_are = r.did.below.shows ∙ ap (λ (x : TapeValue). spans_after_call x.below.spans call) same;
      is = r.did.tape ∙ ap (λ (x : TapeValue). let y : TapeValue = record (tape_after x call) { below = r.later.below } in y) same;
      sites = ap (λ (w : WorldValue TapeValue). w.sites) r.others;
      cached = ap (λ (w : WorldValue TapeValue). w.cached) r.others;
    }
