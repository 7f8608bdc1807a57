-- What a filter hears of an effect: the making of the next span, or of spans that are open.
use Rattle.span_laws.proofs.Common.{AllByRecursion, AreInOrder, Bool, Callsite, Each, Fields, FilterHook, Hook, HookClose, HookEnter, HookExit, HookNew, HookRecord, IsBefore, List, MadeSpan, MayComeNext, None, Option, Scope, Some, ValueSet, [], ap, arith, closed_of, hook_of, hooks_of_span, hooks_of_values, is_in, is_open, map, nat_tests, not, or_right, refl, slice_set, slot_at, slot_open, true, ℕ, ◌++◌, ◌<◌, ◌==◌, ◌||◌, ◌∷◌, ◌≡◌}
use Rattle.std.proofs.lemmas.Bool.{eq-eqb}
use Rattle.span_laws.proofs.spans.OccurrencesLemmas.{is_in_counted, occurs_filter}

-- what is heard of an open span and makes none; it closes one only where the effect does
abbrev pub IsHeard : List (Option Scope) → List ℕ → FilterHook → Type 0
IsHeard hs closes (HookNew s callsite values) = ⊥
IsHeard hs closes (HookRecord s callsite values) = is_open hs s ≡ true
IsHeard hs closes (HookEnter s lane) = Unit {0}
IsHeard hs closes (HookExit s lane) = Unit {0}
IsHeard hs closes (HookClose s) = (is_open hs s ≡ true) × (is_in s closes ≡ true)

-- what is heard of an effect that makes a span or none, and closes some
pub data Hears (hs : List (Option Scope)) (next : ℕ) (closes : List ℕ) : Option MadeSpan → List FilterHook → Type 0 where
  of_making : (m : MadeSpan) (callsite : Callsite) (values : ValueSet) → Hears hs next closes (Some m) (HookNew next callsite values ∷ [])
  of_open : (o : Option MadeSpan) (heard : List FilterHook) → AllByRecursion (IsHeard hs closes) heard → Hears hs next closes o heard

-- ---- what each request tells

pub heard_entry : (hs : List (Option Scope)) (closes : List ℕ) (scope : Scope) (lane : ℕ) → AllByRecursion (IsHeard hs closes) (hooks_of_span scope (λ s. HookEnter s lane))
heard_entry hs closes [] lane = tt
heard_entry hs closes (s ∷ up) lane = (tt, tt)

pub heard_exit : (hs : List (Option Scope)) (closes : List ℕ) (scope : Scope) (lane : ℕ) → AllByRecursion (IsHeard hs closes) (hooks_of_span scope (λ s. HookExit s lane))
heard_exit hs closes [] lane = tt
heard_exit hs closes (s ∷ up) lane = (tt, tt)

pub heard_record : (hs : List (Option Scope)) (closes : List ℕ) (scope : Scope) (fields : Fields) (callsite : Option Callsite) → ((s : ℕ) (up : Scope) → scope ≡ s ∷ up → is_open hs s ≡ true) → AllByRecursion (IsHeard hs closes) (hooks_of_values scope fields callsite)
heard_record hs closes scope fields None own = tt
heard_record hs closes [] fields (Some callsite) own = tt
heard_record hs closes (s ∷ up) fields (Some callsite) own = (own s up refl, tt)

each_in : (P : ℕ → Type 0) (xs : List ℕ) → ((s : ℕ) → is_in s xs ≡ true → P s) → AllByRecursion P xs
each_in P [] all = tt
each_in P (x ∷ xs) all = (
  all x (ap (λ (b : Bool). b || is_in x xs) (eq-eqb x x refl)),
  each_in P xs (λ s inside. all s (or_right (x == s) (is_in s xs) inside)),
)

heard_ends : (hs : List (Option Scope)) (closes spans : List ℕ) → AllByRecursion (λ s. (is_open hs s ≡ true) × (is_in s closes ≡ true)) spans → AllByRecursion (IsHeard hs closes) (map HookClose spans)
heard_ends hs closes [] all = tt
heard_ends hs closes (s ∷ spans) all = (all.0, heard_ends hs closes spans all.1)

-- those of a handle's spans that close were open
pub heard_close : (hs : List (Option Scope)) (handle : ℕ) (scope : Scope) → slot_at hs handle ≡ Some scope
    → AllByRecursion (IsHeard hs (closed_of (slice_set hs handle None) scope)) (map HookClose (closed_of (slice_set hs handle None) scope))
heard_close hs handle scope there =
    let closes = closed_of (slice_set hs handle None) scope in
    heard_ends hs closes closes (each_in (λ s. (is_open hs s ≡ true) × (is_in s closes ≡ true)) closes (λ s inside. (slot_open hs handle s scope there (of_scope s inside), inside)))
  where
    of_scope : (s : ℕ) → is_in s (closed_of (slice_set hs handle None) scope) ≡ true → is_in s scope ≡ true
    of_scope s inside =
        let kept = occurs_filter (λ t. not (is_open (slice_set hs handle None) t)) s scope in
        let counted = is_in_counted s (closed_of (slice_set hs handle None) scope) in
        let all = is_in_counted s scope in
        grind (arith, nat_tests, kept, counted, all, inside)

-- ---- and what that means for all that was heard

-- the span whose close is heard is closed
abbrev pub IsEndIn : List ℕ → FilterHook → Type 0
IsEndIn closed (HookClose s) = is_in s closed ≡ true
IsEndIn closed (HookNew s callsite values) = Unit {0}
IsEndIn closed (HookRecord s callsite values) = Unit {0}
IsEndIn closed (HookEnter s lane) = Unit {0}
IsEndIn closed (HookExit s lane) = Unit {0}

module _ (hs : List (Option Scope)) (closes : List ℕ) where
  heard_next : (past : List Hook) (heard : FilterHook) → IsHeard hs closes heard → MayComeNext past (hook_of heard)
  heard_next past (HookNew s callsite values) is = absurd is
  heard_next past (HookRecord s callsite values) is = tt
  heard_next past (HookEnter s lane) is = tt
  heard_next past (HookExit s lane) is = tt
  heard_next past (HookClose s) is = tt

  pub heard_in_order : (past : List Hook) (all : List FilterHook) → AllByRecursion (IsHeard hs closes) all → AreInOrder past (map hook_of all)
  heard_in_order past [] is = tt
  heard_in_order past (heard ∷ all) is = (heard_next past heard is.0, heard_in_order (past ++ hook_of heard ∷ []) all is.1)

  heard_one_before : (n : ℕ) → ((s : ℕ) → is_open hs s ≡ true → s < n) → (heard : FilterHook) → IsHeard hs closes heard → IsBefore n (hook_of heard)
  heard_one_before n below (HookNew s callsite values) is = absurd is
  heard_one_before n below (HookRecord s callsite values) is = below s is
  heard_one_before n below (HookEnter s lane) is = tt
  heard_one_before n below (HookExit s lane) is = tt
  heard_one_before n below (HookClose s) is = below s is.0

  pub heard_before : (n : ℕ) → ((s : ℕ) → is_open hs s ≡ true → s < n) → (all : List FilterHook) → AllByRecursion (IsHeard hs closes) all → Each (IsBefore n) (map hook_of all)
  heard_before n below [] is = tt
  heard_before n below (heard ∷ all) is = (heard_one_before n below heard is.0, heard_before n below all is.1)

  heard_one_end : (heard : FilterHook) → IsHeard hs closes heard → IsEndIn closes heard
  heard_one_end (HookNew s callsite values) is = tt
  heard_one_end (HookRecord s callsite values) is = tt
  heard_one_end (HookEnter s lane) is = tt
  heard_one_end (HookExit s lane) is = tt
  heard_one_end (HookClose s) is = is.1

  pub heard_closed : (all : List FilterHook) → AllByRecursion (IsHeard hs closes) all → Each (IsEndIn closes) all
  heard_closed [] is = tt
  heard_closed (heard ∷ all) is = (heard_one_end heard is.0, heard_closed all is.1)
