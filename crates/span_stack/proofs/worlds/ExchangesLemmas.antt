-- Another filter over the same subscriber, in a world whose other subscribers take room at most.
use Rattle.std.proofs.Common.{◌≡◌, ℕ, zero, suc, ◌+◌, ◌<◌, List, [], ◌∷◌, length, Bool, true, false, Option, Some, None, refl, sym, ap, subst, ◌∙◌, inl, inr, arith, slice_get, slice_set, get_or, ◌||◌, if◌then◌else◌, is_some}
use Rattle.std.specs.Option.{option_map}
use Rattle.span_stack.proofs.Common.{cases_eq, slice_get_within, slice_get-get_or, WorldValue, AreSame, Spans, entries_on, times_in, KnownSpans, no_known_spans, Layered, InStep, IsWholeBoth, KnowsNone, Replaced, KeepsPlainData, read_subscriber, no_spans, now_there, as_many, seen_before, StaysStack, Layer, FilterState, FilterWithRoom, plain_filter, IsWholeFilter, IsNewFilter, layer_or, HoldsIfThere, BothOrNeither, both_refl, Swaps, none_kept, same_in_place, filter_in_place}
use Rattle.std.proofs.lemmas.Bool.{true≢false}
use Rattle.env_filter.specs.Filtering.{seen_in}
use Rattle.span_stack.proofs.worlds.ViewsLemmas.{the_one, see}

-- ---- what stands at a place

get_other : {X : Type 0} (xs : List X) (n k : ℕ) (y : X) → (k ≡ n → ⊥) → slice_get (slice_set xs n y) k ≡ slice_get xs k
get_other [] n k y apart = refl
get_other (x ∷ xs) zero zero y apart = absurd (apart refl)
get_other (x ∷ xs) zero (suc k) y apart = refl
get_other (x ∷ xs) (suc n) zero y apart = refl
get_other (x ∷ xs) (suc n) (suc k) y apart = get_other xs n k y (λ e. apart (ap suc e))

pub other_there : {S : Type 0} (R : S → S → Type 0) (old new : WorldValue S) (dispatch : ℕ) → Replaced R old new dispatch → (other : ℕ) → (other ≡ dispatch → ⊥) → slice_get new.subscribers other ≡ slice_get old.subscribers other
other_there {S} R old new dispatch r other apart = ap (λ (w : WorldValue S). slice_get w.subscribers other) r.others ∙ get_other old.subscribers dispatch other r.later apart

-- what is the same as the subscriber of a place
pub record SameThere {S : Type 0} (same : S → S → Type 0) (s : S) (later : List S) (dispatch : ℕ) : Type 0 where
  pub now : S
  pub there : slice_get later dispatch ≡ Some now
  pub is_same : same s now

pub same_there : {S : Type 0} (same : S → S → Type 0) (xs ys : List S) (dispatch : ℕ) (s : S) → AreSame same xs ys → slice_get xs dispatch ≡ Some s → SameThere same s ys dispatch
same_there same xs ys dispatch s all there =
    let within : dispatch < length ys = (let e = all.count in let w = slice_get_within xs dispatch s there in omega (arith, e, w)) in
    let at = slice_get-get_or ys dispatch s within in
    record { now = get_or ys dispatch s; there = at; is_same = all.each dispatch s (get_or ys dispatch s) there at }

-- ---- plain data

pub stays_both : {S : Type 0} (spans : S → Spans) (kept : S → ℕ → ℕ → ℕ) (attaches : S → Bool) (is_whole : S → Type 0) (s m t : S) → StaysStack spans kept attaches is_whole s m → StaysStack spans kept attaches is_whole m t → StaysStack spans kept attaches is_whole s t
stays_both spans kept attaches is_whole s m t f g = record {
  spans_same = g.spans_same ∙ f.spans_same;
  kept_same = g.kept_same ∙ f.kept_same;
  attaches_same = g.attaches_same ∙ f.attaches_same;
  whole = λ w. g.whole (f.whole w);
}

pub alike_there : {S : Type 0} (spans : S → Spans) (kept : S → ℕ → ℕ → ℕ) (attaches : S → Bool) (is_whole : S → Type 0) (old new : WorldValue S) (dispatch : ℕ) (s t : S) → slice_get old.subscribers dispatch ≡ Some s → slice_get new.subscribers dispatch ≡ Some t
    → length new.subscribers ≡ length old.subscribers → StaysStack spans kept attaches is_whole s t → KeepsPlainData spans attaches kept is_whole old new dispatch
alike_there spans kept attaches is_whole old new dispatch s t before later count stays = record {
  spans_same = see spans no_spans new dispatch t later ∙ stays.spans_same ∙ sym (see spans no_spans old dispatch s before);
  attaches_same = see attaches false new dispatch t later ∙ stays.attaches_same ∙ sym (see attaches false old dispatch s before);
  kept_same = see kept (λ lane number. 0) new dispatch t later ∙ stays.kept_same ∙ sym (see kept (λ lane number. 0) old dispatch s before);
  count = count;
  whole = λ has x there. subst is_whole (the_one t x (sym later ∙ there)) (stays.whole (has s before));
}

-- ---- a filter that was just made over a subscriber that stays

keeps_zero : (o : Option FilterWithRoom) → layer_or none_kept (λ _ lane number. 0) o ≡ none_kept
keeps_zero None = refl
keeps_zero (Some f) = refl

attaches_zero : (o : Option FilterWithRoom) → layer_or false (λ _. false) o ≡ false
attaches_zero None = refl
attaches_zero (Some f) = refl

-- a layer that knows no span is in step with any subscriber that another was in step with
step_anew : (spans : Spans) (before later : KnownSpans) → KnowsNone later → InStep spans before → InStep spans later
step_anew spans before later none step = record {
  made = λ id known. absurd (true≢false (sym known ∙ none.none id));
  entries = λ lane id. none.no_entries lane id ∙ ap (λ (b : Bool). if b then times_in id (entries_on lane spans.lanes) else 0) (sym (none.none id));
  below = step.below;
}

abbrev pub Over : Type 0 → Type 0
Over S = Layered (Layer FilterWithRoom) S

abbrev pub spans_over : {S : Type 0} → (S → Spans) → Over S → Spans
spans_over spans = λ p. spans p.inner

abbrev pub kept_over : {S : Type 0} → (S → ℕ → ℕ → ℕ) → Over S → ℕ → ℕ → ℕ
kept_over kept = λ p lane number. layer_or none_kept (λ _ lane number. 0) p.layer.inner lane number + kept p.inner lane number

abbrev pub attaches_over : {S : Type 0} → (S → Bool) → Over S → Bool
attaches_over attaches = λ p. layer_or false (λ _. false) p.layer.inner || attaches p.inner

abbrev pub whole_over : {S : Type 0} → (S → Spans) → (S → Bool) → (S → Type 0) → Option FilterWithRoom → S → Type 0
whole_over spans attaches is_whole o below =
    IsWholeBoth (is_whole below) (HoldsIfThere (λ f. IsWholeFilter (plain_filter f)) o) (spans below) (layer_or no_known_spans (λ f. seen_in (plain_filter f)) o) (attaches below) (layer_or false (λ _. false) o)

abbrev pub is_whole_over : {S : Type 0} → (S → Spans) → (S → Bool) → (S → Type 0) → Over S → Type 0
is_whole_over spans attaches is_whole = λ p. whole_over spans attaches is_whole p.layer.inner p.inner

module _ {S : Type 0} (spans : S → Spans) (kept : S → ℕ → ℕ → ℕ) (attaches : S → Bool) (is_whole : S → Type 0) where
  anew : (o : Option FilterWithRoom) (below : S) (f : FilterWithRoom) → IsNewFilter (plain_filter f) → whole_over spans attaches is_whole o below → whole_over spans attaches is_whole (Some f) below
  anew o below f new w = record { inner = w.inner; outer = new.whole; in_step = step_anew (spans below) (layer_or no_known_spans (λ f. seen_in (plain_filter f)) o) (seen_in (plain_filter f)) new.none w.in_step; one_attaches = refl }

  pub stays_under : (s t : Over S) (f : FilterWithRoom) → IsNewFilter (plain_filter f) → t.inner ≡ s.inner → t.layer.inner ≡ Some f → StaysStack (spans_over spans) (kept_over kept) (attaches_over attaches) (is_whole_over spans attaches is_whole) s t
  stays_under s t f new below is =
      let beside : (ℕ → ℕ → ℕ) → ℕ → ℕ → ℕ = λ k lane number. k lane number + kept t.inner lane number in
      let over_it : S → ℕ → ℕ → ℕ = λ b lane number. layer_or none_kept (λ _ lane number. 0) s.layer.inner lane number + kept b lane number in
      record {
        spans_same = ap spans below;
        kept_same = ap beside (keeps_zero t.layer.inner ∙ sym (keeps_zero s.layer.inner)) ∙ ap over_it below;
        attaches_same = ap (λ (k : Bool). k || attaches t.inner) (attaches_zero t.layer.inner ∙ sym (attaches_zero s.layer.inner)) ∙ ap (λ (b : S). layer_or false (λ _. false) s.layer.inner || attaches b) below;
        whole = λ w. subst (λ (o : Option FilterWithRoom). whole_over spans attaches is_whole o t.inner) (sym is) (subst (λ (b : S). whole_over spans attaches is_whole (Some f) b) (sym below) (anew s.layer.inner s.inner f new w));
      }

-- ---- a filter that is put in, and put back

pub swapped_in : (o p : Option FilterWithRoom) (f out : FilterWithRoom) → is_some (option_map plain_filter o) ≡ true → Swaps o f p out → p ≡ Some f
swapped_in None p f out there h = absurd (true≢false (sym there))
swapped_in (Some l) p f out there h = h.0

swapped_back : (o p q u : Option FilterWithRoom) (f out last : FilterWithRoom) → Swaps o f p out → BothOrNeither (λ (a b : FilterWithRoom). plain_filter b ≡ plain_filter a) (Unit {0}) p q → Swaps q out u last → u ≡ o
swapped_back None p None u f out last h b k = k.0
swapped_back None p (Some m) u f out last h b k = absurd (subst (λ (x : Option FilterWithRoom). BothOrNeither (λ (a b : FilterWithRoom). plain_filter b ≡ plain_filter a) (Unit {0}) x (Some m)) h.0 b)
swapped_back (Some l) p None u f out last h b k = absurd (subst (λ (x : Option FilterWithRoom). BothOrNeither (λ (a b : FilterWithRoom). plain_filter b ≡ plain_filter a) (Unit {0}) x None) h.0 b)
swapped_back (Some l) p (Some m) u f out last h b k = k.0 ∙ ap (λ (x : FilterWithRoom). Some x) h.1

abbrev pub room_over : {S : Type 0} → (S → S → Type 0) → Over S → Over S → Type 0
room_over same = λ p q. same p.inner q.inner × BothOrNeither (λ (a b : FilterWithRoom). plain_filter b ≡ plain_filter a) (Unit {0}) p.layer.inner q.layer.inner

abbrev pub swap : {S : Type 0} → FilterWithRoom → FilterWithRoom → Over S → Over S → Type 0
swap f out = λ p q. (q.inner ≡ p.inner) × Swaps p.layer.inner f q.layer.inner out

module _ {S : Type 0} (same : S → S → Type 0) where
  back : (s m t u : Over S) (f out last : FilterWithRoom) → swap f out s m → (room_over same) m t → swap out last t u → (room_over same) s u
  back s m t u f out last first room second = (
    subst (λ (x : S). same s.inner x) (sym second.0) (subst (λ (x : S). same x t.inner) first.0 room.0),
    subst (λ (o : Option FilterWithRoom). BothOrNeither (λ (a b : FilterWithRoom). plain_filter b ≡ plain_filter a) (Unit {0}) s.layer.inner o) (sym (swapped_back s.layer.inner m.layer.inner t.layer.inner u.layer.inner f out last first.1 room.1 second.1)) (both_refl (λ (a b : FilterWithRoom). plain_filter b ≡ plain_filter a) (λ l. refl) s.layer.inner),
  )

  -- put in, room taken, and put back: nothing but room changed
  pub put_back : (w v x y : WorldValue (Over S)) (dispatch : ℕ) (f out last : FilterWithRoom) → Replaced (swap f out) w v dispatch → AreSame (room_over same) v.subscribers x.subscribers → Replaced (swap out last) x y dispatch → AreSame (room_over same) w.subscribers y.subscribers
  put_back w v x y dispatch f out last first all second = record {
    count = as_many (swap out last) x y dispatch second ∙ all.count ∙ as_many (swap f out) w v dispatch first;
    each = λ k p q hp hq. elim (cases_eq k dispatch) [
      | inl here ↦ (
          let at_first = now_there (swap f out) w v dispatch first in
          let at_last = now_there (swap out last) x y dispatch second in
          let is_p : first.before ≡ p = the_one first.before p (sym first.there ∙ ap (λ (n : ℕ). slice_get w.subscribers n) (sym here) ∙ hp) in
          let is_q : second.later ≡ q = the_one second.later q (sym at_last ∙ ap (λ (n : ℕ). slice_get y.subscribers n) (sym here) ∙ hq) in
          let between = all.each dispatch first.later second.before at_first second.there in
          subst (λ (a : Over S). (room_over same) a q) is_p (subst (λ (a : Over S). (room_over same) first.before a) is_q (back first.before first.later second.before second.later f out last first.did between second.did)))
      | inr apart ↦ all.each k p q (other_there (swap f out) w v dispatch first k apart ∙ hp) (sym (other_there (swap out last) x y dispatch second k apart) ∙ hq)
    ];
  }

  -- what is read of the subscriber below, where its room alone changed
  module _ (w v x : WorldValue (Over S)) (dispatch : ℕ) (f out : FilterWithRoom) (first : Replaced (swap f out) w v dispatch) (all : AreSame (room_over same) v.subscribers x.subscribers) where
    now : SameThere (room_over same) first.later x.subscribers dispatch
    now = same_there (room_over same) v.subscribers x.subscribers dispatch first.later all (now_there (swap f out) w v dispatch first)

    is_put : is_some (read_subscriber filter_in_place None w dispatch) ≡ true → first.later.layer.inner ≡ Some f
    is_put there = swapped_in first.before.layer.inner first.later.layer.inner f out (subst (λ (o : Option FilterState). is_some o ≡ true) (seen_before (swap f out) w v dispatch first filter_in_place None) there) first.did.1

    pub filter_put : is_some (read_subscriber filter_in_place None w dispatch) ≡ true → read_subscriber filter_in_place None x dispatch ≡ Some (plain_filter f)
    filter_put there =
        see filter_in_place None x dispatch now.now now.there ∙ same_in_place (Unit {0}) first.later.layer.inner now.now.layer.inner now.is_same.1
        ∙ ap (λ (o : Option FilterWithRoom). option_map plain_filter o) (is_put there)

    pub read_put : {A : Type 0} (read : S → A) (none : A) → ((s t : S) → same s t → read t ≡ read s) → read_subscriber (λ (p : Over S). read p.inner) none x dispatch ≡ read_subscriber (λ (p : Over S). read p.inner) none w dispatch
    read_put read none reads =
        see (λ (p : Over S). read p.inner) none x dispatch now.now now.there ∙ reads first.later.inner now.now.inner now.is_same.0 ∙ ap read first.did.0
        ∙ sym (seen_before (swap f out) w v dispatch first (λ (p : Over S). read p.inner) none)

    pub rest_put : (other : ℕ) (s t : Over S) → (other ≡ dispatch → ⊥) → slice_get w.subscribers other ≡ Some s → slice_get x.subscribers other ≡ Some t → (room_over same) s t
    rest_put other s t apart before later = all.each other s t (other_there (swap f out) w v dispatch first other apart ∙ before) later

    module _ (spans : S → Spans) (kept : S → ℕ → ℕ → ℕ) (attaches : S → Bool) (is_whole : S → Type 0) where
      pub alike_put : ((s t : Over S) → (room_over same) s t → StaysStack (spans_over spans) (kept_over kept) (attaches_over attaches) (is_whole_over spans attaches is_whole) s t) → IsNewFilter (plain_filter f) → is_some (read_subscriber filter_in_place None w dispatch) ≡ true
          → KeepsPlainData (spans_over spans) (attaches_over attaches) (kept_over kept) (is_whole_over spans attaches is_whole) w x dispatch
      alike_put room new there =
          let whole : Over S → Type 0 = is_whole_over spans attaches is_whole in
          let stays = stays_both (spans_over spans) (kept_over kept) (attaches_over attaches) whole first.before first.later now.now
          (stays_under spans kept attaches is_whole first.before first.later f new first.did.0 (is_put there)) (room first.later now.now now.is_same) in
          alike_there (spans_over spans) (kept_over kept) (attaches_over attaches) whole w x dispatch first.before now.now first.there now.there (all.count ∙ as_many (swap f out) w v dispatch first) stays

-- ---- subscribers that are the same but for room

module _ {S : Type 0} (same : S → S → Type 0) (w y : WorldValue S) (dispatch : ℕ) (s : S) (there : slice_get w.subscribers dispatch ≡ Some s) (all : AreSame same w.subscribers y.subscribers) where
  left : SameThere same s y.subscribers dispatch
  left = same_there same w.subscribers y.subscribers dispatch s all there

  pub read_left : {A : Type 0} (read : S → A) (none : A) → ((s t : S) → same s t → read t ≡ read s) → read_subscriber read none y dispatch ≡ read_subscriber read none w dispatch
  read_left read none reads = see read none y dispatch left.now left.there ∙ reads s left.now left.is_same ∙ sym (see read none w dispatch s there)

  pub alike_left : (spans : S → Spans) (kept : S → ℕ → ℕ → ℕ) (attaches : S → Bool) (is_whole : S → Type 0) → ((s t : S) → same s t → StaysStack spans kept attaches is_whole s t) → KeepsPlainData spans attaches kept is_whole w y dispatch
  alike_left spans kept attaches is_whole room = alike_there spans kept attaches is_whole w y dispatch s left.now there left.there all.count (room s left.now left.is_same)
