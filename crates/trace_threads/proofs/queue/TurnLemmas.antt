-- The begin and the end of a turn.
use Rattle.std.proofs.Common.{◌≡◌, ℕ, ◌+◌, ◌%◌, ◌^◌, true, false, List, [], ◌∷◌, ◌++◌, refl, ap, sym, ◌∙◌, subst, true≢false, Some, None, Option, IsSome}
use mathlib.Core.Option as core
use Rattle.trace_threads.proofs.Common.{Step, step, Allows, rest, Making, Entry, Waits, IsHeld, has, SharedSpanValue, shared_of, some_making, Turn, Slot, SeatValue, entries, home_of, Known, KeepsWords, with_stage, HasTurn, view_after, PassedOn, Closed, MayFinish}
use Rattle.trace_threads.specs.History.{state_of_history, is_empty}
use Rattle.trace_threads.proofs.queue.PassesLemmas.{passes_on}

-- a held handle finds the slot full
held_some : (k : ℕ) (h : List ℕ) → has k h ≡ true → is_empty h ≡ false
held_some k [] e = absurd cc
held_some k (x ∷ h) e = refl

pub home_held : (making : Making) (k : ℕ) (log : List Entry) → IsHeld making.made_at k log → home_of making log ≡ Some (shared_of making log)
home_held making k log h = rw (held_some k (state_of_history making.made_at log).held h) refl

home_known : (making : Making) (log mine : List Entry) (num : Option ℕ) → IsSome num → Known making log mine num → home_of making log ≡ Some (shared_of making log)
home_known making log mine None s k = absurd (true≢false (sym s))
home_known making log mine (Some n) s k = home_held making n log k.1

abbrev value_in : List (ℕ × Slot) → Slot
value_in [] = None
value_in (x ∷ xs) = x.1

abbrev state_of : Slot → SharedSpanValue
state_of None = shared_of some_making []
state_of (Some l) = l

there_is : (m : SeatValue) (t : ℕ) (w : SeatValue) → IsSome m.0.number → HasTurn m t w → w.1 ≡ (0, Some (shared_of m.0.origin (entries w.0.seen))) ∷ m.1
there_is m t w s h = h.slot ∙ ap (λ (x : Slot). (0, x) ∷ m.1) (home_known m.0.origin (entries w.0.seen) m.0.mine m.0.number s h.own_entries)

pub finishes : (making : Making) (slots id : ℕ) (m me : SeatValue) (state : SharedSpanValue) → m.1 ≡ (0, None) ∷ [] → m.0.live ≡ true → me ≡ (m.0, (0, Some state) ∷ rest m.1) → MayFinish m.0 state
    → Allows (KeepsWords making) slots id me 0 (λ n. (n + 1) % 2 ^ 64) (PassedOn (step slots 0 1 0 core.none) me)
finishes making slots id m me state slot live after f =
    let out : (0, Some state) ∷ rest m.1 ≡ (0, Some (shared_of m.0.origin (entries (m.0.seen ++ f.1 ∷ [])))) ∷ [] = λ i. (0, Some (f.3 i)) ∷ rest (slot i) in
    subst (λ (x : SeatValue). Allows (KeepsWords making) slots id x 0 (λ n. (n + 1) % 2 ^ 64) (PassedOn (step slots 0 1 0 core.none) x)) (sym after)
    (passes_on making slots id f.0 (m.0, (0, Some state) ∷ rest m.1) f.1 f.2 live f.5 out f.4)

pub finished : (st : Step Slot) (n : ℕ) (m me w : SeatValue) (state : SharedSpanValue) → me ≡ (m.0, (0, Some state) ∷ rest m.1) → PassedOn st me n w
    → (turn : Turn) × (state ≡ shared_of m.0.origin (entries (m.0.seen ++ turn ∷ []))) × (w ≡ (view_after m.0 turn, []))
finished st n m me w state after p =
    let q : PassedOn st (m.0, (0, Some state) ∷ rest m.1) n w = subst (λ (x : SeatValue). PassedOn st x n w) after p in
    (q.0, ap (λ l. state_of (value_in l)) q.1, q.2)

module _ (o : SeatValue) (t : ℕ) (m w : SeatValue) (drew : m ≡ (with_stage (Waits t) o.0, o.1)) (some_number : IsSome o.0.number) (h : HasTurn m t w) where
  turn_of : HasTurn (with_stage (Waits t) o.0, o.1) t w
  turn_of = subst (λ (x : SeatValue). HasTurn x t w) drew h

  pub takes_out : (x : Slot) × (w.1 ≡ (0, x) ∷ rest w.1)
  takes_out = let full = there_is (with_stage (Waits t) o.0, o.1) t w some_number turn_of in (Some (shared_of o.0.origin (entries w.0.seen)), full ∙ ap (λ (l : List (ℕ × Slot)). (0, Some (shared_of o.0.origin (entries w.0.seen))) ∷ rest l) (sym full))

pub closed_as : (slots t : ℕ) (last : Slot) (n : ℕ) (me w : SeatValue) → Closed (step slots 0 t (t + 1) (core.some last)) me n w → (turn : Turn) × (last ≡ Some (shared_of me.0.origin (entries (me.0.seen ++ turn ∷ [])))) × (w ≡ (view_after me.0 turn, []))
closed_as slots t last n me w p = (p.0, core.some-injective last (Some (shared_of me.0.origin (entries (me.0.seen ++ p.0 ∷ [])))) p.1, p.2)
