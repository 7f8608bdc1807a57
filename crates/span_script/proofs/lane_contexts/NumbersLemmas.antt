-- The numbers that owners keep, after an entry, an exit, an attach and a detach.
use Rattle.span_script.proofs.Common.{list_any, cases_Bool, cases_eq, cond-true, cond-false, or_parts, and_parts, Context, has_number, last_passing, without_last, count_cons, Token, is_token, is_attached_as, keeps_as, kept_by, AttachGuard, Owner, EntryOf, GuardOf, Attached, is_same_owner, is_attached_by, slot_at, live_numbers_of, token_numbers_of, attach_numbers_on, owner_numbers, HaveDistinctNumbers, ContextsFit}
use Rattle.std.proofs.Common.{◌≡◌, ℕ, zero, suc, List, [], ◌∷◌, ◌++◌, length, Bool, true, false, Option, Some, None, map, count_by, refl, sym, ap, ◌∙◌, arith, inl, inr, ◌==◌, ◌&&◌, ◌||◌, if◌then◌else◌, filter, slice_set}
use Rattle.std.proofs.lemmas.Bool.{eq-eqb, eqb-true, ne_eqb, true≢false}
use Rattle.std.proofs.lemmas.List.{append-nil, get_or-set_same, get_or-set_other}
use Rattle.span_script.proofs.lane_contexts.OwnersLemmas.{other_owner, owner_is, map_more, tokens_push, without_other, without_same}
use Rattle.span_script.proofs.steps.SlotsLemmas.{named_within}

-- ---- slots

-- a number that is passed over
pub slot_skip : {A : Type 0} (xs : List (Option A)) (n : ℕ) → slot_at (xs ++ None ∷ []) n ≡ slot_at xs n
slot_skip [] zero = refl
slot_skip [] (suc n) = refl
slot_skip (x ∷ xs) zero = refl
slot_skip (x ∷ xs) (suc n) = slot_skip xs n

slot_last : {A : Type 0} (xs : List (Option A)) (o : Option A) → slot_at (xs ++ o ∷ []) (length xs) ≡ o
slot_last [] o = refl
slot_last (x ∷ xs) o = slot_last xs o

slot_past : {A : Type 0} (xs : List (Option A)) → slot_at xs (length xs) ≡ None
slot_past [] = refl
slot_past (x ∷ xs) = slot_past xs

slot_before : {A : Type 0} (xs : List (Option A)) (o : Option A) (n : ℕ) → (length xs ≡ n → ⊥) → slot_at (xs ++ o ∷ []) n ≡ slot_at xs n
slot_before [] o zero apart = absurd (apart refl)
slot_before [] o (suc n) apart = refl
slot_before (x ∷ xs) o zero apart = refl
slot_before (x ∷ xs) o (suc n) apart = slot_before xs o n (λ e. apart (ap suc e))

-- ---- an entry, whose guard takes a number

and_no : (b : Bool) → (b && false) ≡ false
and_no true = refl
and_no false = refl

skipped : (place : ℕ) (attaches : List (Option AttachGuard)) (n : ℕ) → attach_numbers_on place (slot_at (attaches ++ None ∷ []) n) ≡ attach_numbers_on place (slot_at attaches n)
skipped place attaches n = ap (attach_numbers_on place) (slot_skip attaches n)

pub entry_same : (activation : Bool) (place lane : ℕ) (tokens : List Token) (attaches : List (Option AttachGuard)) (o : Owner) → owner_numbers activation place lane tokens (attaches ++ None ∷ []) o ≡ owner_numbers activation place lane tokens attaches o
entry_same activation place lane tokens attaches (EntryOf q) = refl
entry_same activation place lane tokens attaches (GuardOf n) = skipped place attaches n

pub entry_own : (place lane s number : ℕ) (tokens : List Token) (attaches : List (Option AttachGuard)) (o : Owner)
    → owner_numbers true place lane (tokens ++ record { lane = lane; id = s; attached = Some number } ∷ []) (attaches ++ None ∷ []) o ≡ owner_numbers true place lane tokens attaches o ++ (if is_same_owner (EntryOf s) o then Some number ∷ [] else [])
entry_own place lane s number tokens attaches (EntryOf q) =
    tokens_push lane q tokens (record { lane = lane; id = s; attached = Some number })
    ∙ ap (λ b. token_numbers_of lane q tokens ++ (if (b && s == q) then Some number ∷ [] else [])) (eq-eqb lane lane refl)
entry_own place lane s number tokens attaches (GuardOf n) = skipped place attaches n ∙ sym (append-nil (attach_numbers_on place (slot_at attaches n)))

pub entry_other : (activation : Bool) (place lane other s : ℕ) (attached : Option ℕ) (tokens : List Token) (attaches : List (Option AttachGuard)) → (lane ≡ other → ⊥) → (o : Owner)
    → owner_numbers activation place other (tokens ++ record { lane = lane; id = s; attached = attached } ∷ []) (attaches ++ None ∷ []) o ≡ owner_numbers activation place other tokens attaches o
entry_other false place lane other s attached tokens attaches apart (EntryOf q) = refl
entry_other true place lane other s attached tokens attaches apart (EntryOf q) =
    tokens_push other q tokens (record { lane = lane; id = s; attached = attached })
    ∙ ap (λ b. token_numbers_of other q tokens ++ (if (b && s == q) then attached ∷ [] else [])) (ne_eqb lane other apart) ∙ append-nil (token_numbers_of other q tokens)
entry_other activation place lane other s attached tokens attaches apart (GuardOf n) = skipped place attaches n

pub entry_quiet : (place lane : ℕ) (tokens later : List Token) (attaches : List (Option AttachGuard)) (o : Owner) → owner_numbers false place lane later (attaches ++ None ∷ []) o ≡ owner_numbers false place lane tokens attaches o
entry_quiet place lane tokens later attaches (EntryOf q) = refl
entry_quiet place lane tokens later attaches (GuardOf n) = skipped place attaches n

-- ---- an exit

pub exit_own : (place lane s : ℕ) (tokens : List Token) (attaches : List (Option AttachGuard)) (token : Token) → last_passing (is_token lane s) tokens ≡ Some token
    → owner_numbers true place lane tokens attaches (EntryOf s) ≡ owner_numbers true place lane (without_last (is_token lane s) tokens) attaches (EntryOf s) ++ token.attached ∷ []
exit_own place lane s tokens attaches token last =
    ap (λ (ks : List Token). map (λ k. k.attached) ks) (sym (without_same (is_token lane s) tokens token last)) ∙ map_more (λ (k : Token). k.attached) (filter (is_token lane s) (without_last (is_token lane s) tokens)) token

apart_ids : (lane other s q : ℕ) (k : Token) → is_token lane s k ≡ true → (s ≡ q → ⊥) → is_token other q k ≡ false
apart_ids lane other s q k passes apart =
    let id = eqb-true k.id s (and_parts (k.lane == lane) (k.id == s) passes).1 in
    ap (λ b. (k.lane == other) && b) (ne_eqb k.id q (λ e. apart (sym id ∙ e))) ∙ and_no (k.lane == other)

pub exit_others : (activation : Bool) (place lane s : ℕ) (tokens : List Token) (attaches : List (Option AttachGuard)) (o : Owner) → (o ≡ EntryOf s → ⊥)
    → owner_numbers activation place lane (without_last (is_token lane s) tokens) attaches o ≡ owner_numbers activation place lane tokens attaches o
exit_others false place lane s tokens attaches (EntryOf q) apart = refl
exit_others true place lane s tokens attaches (EntryOf q) apart =
    ap (λ (ks : List Token). map (λ k. k.attached) ks) (without_other (is_token lane s) (is_token lane q) tokens (λ k passes. apart_ids lane lane s q k passes (λ e. apart (ap EntryOf (sym e)))))
exit_others activation place lane s tokens attaches (GuardOf n) apart = refl

pub exit_other : (activation : Bool) (place lane other s : ℕ) (tokens : List Token) (attaches : List (Option AttachGuard)) → (lane ≡ other → ⊥) → (o : Owner)
    → owner_numbers activation place other (without_last (is_token lane s) tokens) attaches o ≡ owner_numbers activation place other tokens attaches o
exit_other false place lane other s tokens attaches apart (EntryOf q) = refl
exit_other true place lane other s tokens attaches apart (EntryOf q) =
    ap (λ (ks : List Token). map (λ k. k.attached) ks) (without_other (is_token lane s) (is_token other q) tokens (λ k passes.
    ap (λ b. b && (k.id == q)) (ne_eqb k.lane other (λ e. apart (sym (eqb-true k.lane lane (and_parts (k.lane == lane) (k.id == s) passes).0) ∙ e)))))
exit_other activation place lane other s tokens attaches apart (GuardOf n) = refl

pub exit_quiet : (place lane : ℕ) (tokens later : List Token) (attaches : List (Option AttachGuard)) (o : Owner) → owner_numbers false place lane later attaches o ≡ owner_numbers false place lane tokens attaches o
exit_quiet place lane tokens later attaches (EntryOf q) = refl
exit_quiet place lane tokens later attaches (GuardOf n) = refl

-- ---- an attach

pub attach_own : (activation : Bool) (place lane number : ℕ) (tokens : List Token) (attaches : List (Option AttachGuard)) (o : Owner)
    → owner_numbers activation place lane tokens (attaches ++ Some (record { place = place; attached = number }) ∷ []) o ≡ owner_numbers activation place lane tokens attaches o ++ (if is_same_owner (GuardOf (length attaches)) o then Some number ∷ [] else [])
attach_own activation place lane number tokens attaches (EntryOf q) = sym (append-nil (owner_numbers activation place lane tokens attaches (EntryOf q)))
attach_own activation place lane number tokens attaches (GuardOf n) =
    let a : Option AttachGuard = Some (record { place = place; attached = number }) in
    elim (cases_eq (length attaches) n) [
      | inl here ↦ (
          let now : attach_numbers_on place (slot_at (attaches ++ a ∷ []) n) ≡ Some number ∷ [] = ap (λ (k : ℕ). attach_numbers_on place (slot_at (attaches ++ a ∷ []) k)) (sym here) ∙ ap (attach_numbers_on place) (slot_last attaches a) ∙ cond-true {A = List (Option ℕ)} (place == place) (Some number ∷ []) [] (eq-eqb place place refl) in
          let was : attach_numbers_on place (slot_at attaches n) ≡ [] = ap (λ (k : ℕ). attach_numbers_on place (slot_at attaches k)) (sym here) ∙ ap (attach_numbers_on place) (slot_past attaches) in
          now ∙ sym (cond-true {A = List (Option ℕ)} (length attaches == n) (Some number ∷ []) [] (eq-eqb (length attaches) n here)) ∙ ap (λ (ns : List (Option ℕ)). ns ++ (if length attaches == n then Some number ∷ [] else [])) (sym was))
      | inr apart ↦ ap (attach_numbers_on place) (slot_before attaches a n apart) ∙ sym (append-nil (attach_numbers_on place (slot_at attaches n)))
          ∙ ap (λ (ns : List (Option ℕ)). attach_numbers_on place (slot_at attaches n) ++ ns) (sym (cond-false {A = List (Option ℕ)} (length attaches == n) (Some number ∷ []) [] (ne_eqb (length attaches) n apart)))
    ]

pub attach_other : (activation : Bool) (place other lane number : ℕ) (tokens : List Token) (attaches : List (Option AttachGuard)) → (other ≡ place → ⊥) → (o : Owner)
    → owner_numbers activation other lane tokens (attaches ++ Some (record { place = place; attached = number }) ∷ []) o ≡ owner_numbers activation other lane tokens attaches o
attach_other activation place other lane number tokens attaches apart (EntryOf q) = refl
attach_other activation place other lane number tokens attaches apart (GuardOf n) =
    let a : Option AttachGuard = Some (record { place = place; attached = number }) in
    elim (cases_eq (length attaches) n) [
      | inl here ↦ ap (λ (k : ℕ). attach_numbers_on other (slot_at (attaches ++ a ∷ []) k)) (sym here) ∙ ap (attach_numbers_on other) (slot_last attaches a) ∙ cond-false {A = List (Option ℕ)} (place == other) (Some number ∷ []) [] (ne_eqb place other (λ e. apart (sym e)))
          ∙ sym (ap (λ (k : ℕ). attach_numbers_on other (slot_at attaches k)) (sym here) ∙ ap (attach_numbers_on other) (slot_past attaches))
      | inr before ↦ ap (attach_numbers_on other) (slot_before attaches a n before)
    ]

-- ---- a detach

pub guard_keeps : (activation : Bool) (place lane : ℕ) (tokens : List Token) (attaches : List (Option AttachGuard)) (n : ℕ) (a : AttachGuard) → slot_at attaches n ≡ Some a → a.place ≡ place
    → owner_numbers activation place lane tokens attaches (GuardOf n) ≡ Some a.attached ∷ []
guard_keeps activation place lane tokens attaches n a there on = ap (attach_numbers_on place) there ∙ cond-true {A = List (Option ℕ)} (a.place == place) (Some a.attached ∷ []) [] (eq-eqb a.place place on)

pub detach_own : (activation : Bool) (place lane : ℕ) (tokens : List Token) (attaches : List (Option AttachGuard)) (n : ℕ) (a : AttachGuard) → slot_at attaches n ≡ Some a → a.place ≡ place
    → owner_numbers activation place lane tokens attaches (GuardOf n) ≡ owner_numbers activation place lane tokens (slice_set attaches n None) (GuardOf n) ++ Some a.attached ∷ []
detach_own activation place lane tokens attaches n a there on =
    guard_keeps activation place lane tokens attaches n a there on
    ∙ ap (λ (ns : List (Option ℕ)). ns ++ Some a.attached ∷ []) (sym (ap (attach_numbers_on place) (get_or-set_same attaches n None None (named_within attaches n a there))))

pub detach_others : (activation : Bool) (place lane : ℕ) (tokens : List Token) (attaches : List (Option AttachGuard)) (n : ℕ) (o : Owner) → (o ≡ GuardOf n → ⊥)
    → owner_numbers activation place lane tokens (slice_set attaches n None) o ≡ owner_numbers activation place lane tokens attaches o
detach_others activation place lane tokens attaches n (EntryOf q) apart = refl
detach_others activation place lane tokens attaches n (GuardOf m) apart = ap (attach_numbers_on place) (get_or-set_other attaches n m None None (λ e. apart (ap GuardOf e)))

-- a guard keeps nothing on other lanes
pub detach_other : (activation : Bool) (place other lane : ℕ) (tokens : List Token) (attaches : List (Option AttachGuard)) (n : ℕ) (a : AttachGuard) → slot_at attaches n ≡ Some a → a.place ≡ place → (other ≡ place → ⊥) → (o : Owner)
    → owner_numbers activation other lane tokens (slice_set attaches n None) o ≡ owner_numbers activation other lane tokens attaches o
detach_other activation place other lane tokens attaches n a there on apart (EntryOf q) = refl
detach_other activation place other lane tokens attaches n a there on apart (GuardOf m) = elim (cases_eq m n) [
  | inl here ↦ ap (λ (k : ℕ). attach_numbers_on other (slot_at (slice_set attaches n None) k)) here ∙ ap (attach_numbers_on other) (get_or-set_same attaches n None None (named_within attaches n a there))
      ∙ sym (ap (λ (k : ℕ). attach_numbers_on other (slot_at attaches k)) here ∙ ap (attach_numbers_on other) there ∙ cond-false {A = List (Option ℕ)} (a.place == other) (Some a.attached ∷ []) [] (ne_eqb a.place other (λ e. apart (sym e ∙ on))))
  | inr before ↦ ap (attach_numbers_on other) (get_or-set_other attaches n m None None before)
]

-- ---- what a guard keeps no entry keeps

none_has : (o : Owner) (live : List (ℕ × Context)) (items : List Attached) (number : ℕ) → has_number number live ≡ false → list_any (is_attached_as number) (live_numbers_of o live items) ≡ false
none_has o [] items number none = refl
none_has o (x ∷ live) [] number none = refl
none_has o (x ∷ live) (a ∷ items) number none =
    let parts = or_parts (x.0 == number) (has_number number live) none in
    elim (cases_Bool (is_attached_by o a)) [
      | inl here ↦ rw (here, parts.0) (none_has o live items number parts.1)
      | inr apart ↦ rw apart (none_has o live items number parts.1)
    ]

once : (o r : Owner) → (o ≡ r → ⊥) → (live : List (ℕ × Context)) (items : List Attached) → HaveDistinctNumbers live → (number : ℕ) → list_any (is_attached_as number) (live_numbers_of o live items) ≡ true → list_any (is_attached_as number) (live_numbers_of r live items) ≡ false
once o r apart [] items distinct number some = refl
once o r apart (x ∷ live) [] distinct number some = refl
once o r apart (x ∷ live) (a ∷ items) distinct number some = elim (cases_Bool (x.0 == number)) [
  | inl this ↦ (
      let fresh : has_number number live ≡ false = ap (λ (n : ℕ). has_number n live) (sym (eqb-true x.0 number this)) ∙ distinct.0 in
      elim (cases_Bool (is_attached_by o a)) [
        | inl mine ↦ (
            let other : is_attached_by r a ≡ false = other_owner a.owner r (λ e. apart (sym (owner_is a.owner o mine) ∙ e)) in
            rw other (none_has r live items number fresh))
        | inr fails ↦ absurd (let none : list_any (is_attached_as number) (live_numbers_of o live items) ≡ true = (ap (λ (ns : List (Option ℕ)). list_any (is_attached_as number) ns) (sym (cond-false {A = List (Option ℕ)} (is_attached_by o a) (Some x.0 ∷ live_numbers_of o live items) (live_numbers_of o live items) fails)) ∙ some) in
            true≢false (sym none ∙ none_has o live items number fresh))
      ])
  | inr next ↦ (
      let below : list_any (is_attached_as number) (live_numbers_of o live items) ≡ true = elim (cases_Bool (is_attached_by o a)) [
        | inl mine ↦ ap (λ b. b || list_any (is_attached_as number) (live_numbers_of o live items)) (sym next) ∙ ap (λ (ns : List (Option ℕ)). list_any (is_attached_as number) ns) (sym (cond-true {A = List (Option ℕ)} (is_attached_by o a) (Some x.0 ∷ live_numbers_of o live items) (live_numbers_of o live items) mine)) ∙ some
        | inr fails ↦ ap (λ (ns : List (Option ℕ)). list_any (is_attached_as number) ns) (sym (cond-false {A = List (Option ℕ)} (is_attached_by o a) (Some x.0 ∷ live_numbers_of o live items) (live_numbers_of o live items) fails)) ∙ some
      ] in
      let rest = once o r apart live items distinct.1 number below in
      elim (cases_Bool (is_attached_by r a)) [
        | inl theirs ↦ rw (theirs, next) rest
        | inr fails ↦ rw fails rest
      ])
]

-- no open entry keeps a number that is in none of their lists
none_keeps : (lane number : ℕ) (tokens : List Token) → ((s : ℕ) → list_any (is_attached_as number) (token_numbers_of lane s tokens) ≡ false) → count_by (keeps_as lane number) tokens ≡ 0
none_keeps lane number [] none = refl
none_keeps lane number (k ∷ tokens) none =
    let tail = none_keeps lane number tokens (λ s. shorter s (none s)) in
    let count = count_cons (keeps_as lane number) k tokens in
    let here = cond-false {A = ℕ} (keeps_as lane number k) 1 0 first in
    omega (arith, tail, count, here)
  where
    shorter : (s : ℕ) → list_any (is_attached_as number) (token_numbers_of lane s (k ∷ tokens)) ≡ false → list_any (is_attached_as number) (token_numbers_of lane s tokens) ≡ false
    shorter s is = elim (cases_Bool (is_token lane s k)) [
      | inl passes ↦ (or_parts (is_attached_as number k.attached) (list_any (is_attached_as number) (token_numbers_of lane s tokens))
          (ap (λ (ks : List Token). list_any (is_attached_as number) (map (λ k. k.attached) ks)) (sym (cond-true {A = List Token} (is_token lane s k) (k ∷ filter (is_token lane s) tokens) (filter (is_token lane s) tokens) passes)) ∙ is)).1
      | inr fails ↦ ap (λ (ks : List Token). list_any (is_attached_as number) (map (λ k. k.attached) ks)) (sym (cond-false {A = List Token} (is_token lane s k) (k ∷ filter (is_token lane s) tokens) (filter (is_token lane s) tokens) fails)) ∙ is
    ]

    first : keeps_as lane number k ≡ false
    first = elim (cases_Bool (k.lane == lane)) [
      | inl on ↦ (
          let passes : is_token lane k.id k ≡ true = ap (λ b. b && (k.id == k.id)) on ∙ eq-eqb k.id k.id refl in
          let any = ap (λ (ks : List Token). list_any (is_attached_as number) (map (λ k. k.attached) ks)) (sym (cond-true {A = List Token} (is_token lane k.id k) (k ∷ filter (is_token lane k.id) tokens) (filter (is_token lane k.id) tokens) passes)) ∙ none k.id in
          ap (λ b. b && is_attached_as number k.attached) on ∙ (or_parts (is_attached_as number k.attached) (list_any (is_attached_as number) (token_numbers_of lane k.id tokens)) any).0)
      | inr off ↦ ap (λ b. b && is_attached_as number k.attached) off
    ]

pub guard_alone : (activation : Bool) (place lane : ℕ) (tokens : List Token) (attaches : List (Option AttachGuard)) (live : List (ℕ × Context)) (items : List Attached) (n number : ℕ) → ContextsFit (owner_numbers activation place lane tokens attaches) live items
    → owner_numbers activation place lane tokens attaches (GuardOf n) ≡ Some number ∷ [] → kept_by activation tokens lane number ≡ 0
guard_alone false place lane tokens attaches live items n number fit mine = refl
guard_alone true place lane tokens attaches live items n number fit mine = none_keeps lane number tokens (λ s.
    ap (λ (ns : List (Option ℕ)). list_any (is_attached_as number) ns) (sym (fit.numbers_are (EntryOf s)))
    ∙ once (GuardOf n) (EntryOf s) (λ e. absurd (cc e)) live items fit.distinct number
    (ap (λ (ns : List (Option ℕ)). list_any (is_attached_as number) ns) (fit.numbers_are (GuardOf n) ∙ mine) ∙ ap (λ b. b || false) (eq-eqb number number refl)))
