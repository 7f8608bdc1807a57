-- Guards that are spent, or refused.
use Rattle.std.proofs.Common.{◌≡◌, ℕ, ◌+◌, ◌-◌, ◌<◌, arith, cond, count_by, length, slice_set, List, Bool, true, false, not, Option, Some, None, option_map, Ok, Err, Result, IfErr, is_some, if◌then◌else◌, refl, sym, ap, subst, ◌∙◌, inl, inr, ◌==◌, ◌&&◌, nat_lt, get_or}
use Rattle.std.proofs.Math.ListN.{get_or-map}
use Rattle.std.proofs.lemmas.Bool.{cases_eq, cases_lt, cond-true, cond-false, eq-eqb, ne_eqb}
use Rattle.std.proofs.lemmas.List.{get_or_past, get_or-set_same, get_or-set_other}
use Rattle.std.proofs.lemmas.List.Sums.{sum_by-set}
use Rattle.std.proofs.lemmas.Option.{none-some}
use Rattle.trace_pipeline.proofs.Common.{PipelineState, Tables, StandsFor, slot_at, id_at}
use Rattle.span_script.proofs.entries.EntriesLemmas.{refuses_shared, refuses_wrong_lane}
use Rattle.span_script.proofs.lane_contexts.DetachesLemmas.{attach_told}
use Rattle.span_script.specs.Slots.{is_shared_by, names_handle}
use Rattle.span_script.specs.Tables.{ScopeGuard}
use Rattle.span_script.specs.Effects.{effect_of_call}
use Rattle.span_script.specs.Fits.{guard_of, lane_place_of, is_for_memory}
use Rattle.span_script.specs.calls.Here.{here_at, Resolved, ◌>>=◌, need, refuse_if}
use Rattle.span_script.specs.calls.Entries.{exit_effect, is_shared, is_elsewhere}
use Rattle.span_script.specs.calls.Contexts.{detach_effect}
use Rattle.span_script.specs.declared.contexts.AttachGuard.{AttachGuard}
use Rattle.span_script.specs.declared.slots.Guard.{Guard}
use Rattle.span_script.specs.declared.reply.Refusal.{Refusal}
use Rattle.span_script.specs.declared.reply.Refusal.TheVariants as refusal
use Rattle.span_script.specs.declared.reply.What.TheVariants as what
use Rattle.span_script.specs.declared.request.Call.TheVariants as call
use Rattle.trace_pipeline.specs.Guards.{GuardsAreCounted}
use Rattle.trace_pipeline.specs.Spending.{lane_check, entry_check, value_if_passed, spending_result}

the_guard : {X : Type 0} (a b : X) → ◌≡◌ {A = Result X Refusal} (Ok a) (Ok b) → a ≡ b
the_guard a b e = cc e

-- an answer for one kind of guard is one for a request
abbrev refused : {X : Type 0} → Result X Refusal → Refusal → Type 0
refused result why = result ≡ Err why

same_refusal : {X : Type 0} (a why : Refusal) → refused {X = X} (Err a) why → (resolved : Resolved) → resolved ≡ Err a → resolved ≡ Err why
same_refusal {X} a why is resolved same = same ∙ ap (λ (r : Refusal). Err r) (let e : a ≡ why = cc is in e)

-- the guards that share a handle are those that were counted
pub counted_alike : (guards : List (Option Guard)) (counts : List ℕ) → GuardsAreCounted guards counts → (place : ℕ) (o : Option Guard)
    → spending_result (λ x. entry_check (x.owns && nat_lt 1 (get_or counts x.handle 0)) place x) o ≡ spending_result (λ x. entry_check (is_shared_by guards x) place x) o
counted_alike guards counts counted place None = refl
counted_alike guards counts counted place (Some x) = ap (λ (n : ℕ). value_if_passed x (entry_check (x.owns && nat_lt 1 n) place x)) (counted x.handle)

-- one guard less
slot_within : (guards : List (Option Guard)) (n : ℕ) (g : Guard) → slot_at guards n ≡ Some g → n < length guards
slot_within guards n g is = elim (cases_lt n (length guards)) [
  | inl l ↦ l
  | inr past ↦ absurd (none-some g (sym (get_or_past guards n None past) ∙ is))
]

less_counted : (guards : List (Option Guard)) (n : ℕ) (g : Guard) → slot_at guards n ≡ Some g → (handle : ℕ)
    → count_by (names_handle handle) (slice_set guards n None) + cond {A = ℕ} (g.handle == handle) 1 0 ≡ count_by (names_handle handle) guards
less_counted guards n g is handle =
    let set_one = sum_by-set (λ (o : Option Guard). cond {A = ℕ} (names_handle handle o) 1 0) guards n None None (slot_within guards n g is) in
    let here = ap (λ (o : Option Guard). cond {A = ℕ} (names_handle handle o) 1 0) is in
    omega (arith, set_one, here)

pub is_counted : (guards : List (Option Guard)) (counts : List ℕ) → GuardsAreCounted guards counts → (n : ℕ) (g : Guard) → slot_at guards n ≡ Some g → 0 < get_or counts g.handle 0
is_counted guards counts counted n g is =
    let less = less_counted guards n g is g.handle in
    let one = cond-true {A = ℕ} (g.handle == g.handle) 1 0 (eq-eqb g.handle g.handle refl) in
    let same = counted g.handle in
    omega (arith, less, one, same)

pub still_counted : (guards : List (Option Guard)) (counts : List ℕ) → GuardsAreCounted guards counts → (n : ℕ) (g : Guard) → slot_at guards n ≡ Some g
    → GuardsAreCounted (slice_set guards n None) (slice_set counts g.handle (get_or counts g.handle 0 - 1))
still_counted guards counts counted n g is handle =
    let less = less_counted guards n g is handle in
    let same = counted handle in
    elim (cases_eq handle g.handle) [
      | inl e ↦ (
          let some = is_counted guards counts counted n g is in
          let within : g.handle < length counts = elim (cases_lt g.handle (length counts)) [ inl l ↦ l | inr past ↦ absurd (let none = get_or_past counts g.handle 0 past in omega (arith, none, some)) ] in
          let one = cond-true {A = ℕ} (g.handle == handle) 1 0 (eq-eqb g.handle handle (sym e)) in
          let at = ap (λ (h : ℕ). get_or (slice_set counts g.handle (get_or counts g.handle 0 - 1)) h 0) e ∙ get_or-set_same counts g.handle (get_or counts g.handle 0 - 1) 0 within in
          let was = ap (λ (h : ℕ). get_or counts h 0) e in
          omega (arith, less, same, one, at, was))
      | inr other ↦ (
          let none = cond-false {A = ℕ} (g.handle == handle) 1 0 (ne_eqb g.handle handle (λ e. other (sym e))) in
          let at = get_or-set_other counts g.handle handle (get_or counts g.handle 0 - 1) 0 other in
          omega (arith, less, same, none, at))
    ]

-- ---- a guard that was spent

let_go_ok : {X : Type 0} (x g : X) (r : Result (Unit {0}) Refusal) → value_if_passed x r ≡ Ok g → (r ≡ Ok tt) × (x ≡ g)
let_go_ok x g (Ok done) is = (refl, the_guard x g is)
let_go_ok x g (Err why) is = absurd (cc is)

pub spent_ok : {X : Type 0} (test : X → Result (Unit {0}) Refusal) (o : Option X) (g : X) → spending_result test o ≡ Ok g → (o ≡ Some g) × (test g ≡ Ok tt)
spent_ok test None g is = absurd (cc is)
spent_ok test (Some x) g is = (let e = let_go_ok x g (test x) is in (ap Some e.1, subst (λ y. test y ≡ Ok tt) e.1 e.0))

-- it is of its own lane
of_lane : (place own : ℕ) → lane_check place own ≡ Ok tt → own ≡ place
of_lane place own is = elim (cases_eq own place) [
  | inl e ↦ e
  | inr other ↦ absurd (let e = sym (cond-false {A = Result (Unit {0}) Refusal} (own == place) (Ok tt) (Err (refusal.WrongLane own)) (ne_eqb own place other)) ∙ is in cc e)
]

-- and alone, if it owns a handle
alone : (shared : Bool) (place : ℕ) (g : Guard) → entry_check shared place g ≡ Ok tt → (shared ≡ false) × (g.place ≡ place)
alone true place g is = absurd (cc is)
alone false place g is = (refl, of_lane place g.place is)

pub spent_entry : (guards : List (Option Guard)) (n place : ℕ) (g : Guard) → Ok g ≡ spending_result (λ x. entry_check (is_shared_by guards x) place x) (slot_at guards n) → (slot_at guards n ≡ Some g) × (is_shared_by guards g ≡ false) × (g.place ≡ place)
spent_entry guards n place g is =
    let e = spent_ok (λ x. entry_check (is_shared_by guards x) place x) (slot_at guards n) g (sym is) in
    let own = alone (is_shared_by guards g) place g e.1 in
    (e.0, own.0, own.1)

pub spent_attach : (attaches : List (Option AttachGuard)) (n place : ℕ) (a : AttachGuard) → Ok a ≡ spending_result (λ x. lane_check place x.place) (slot_at attaches n) → (slot_at attaches n ≡ Some a) × (a.place ≡ place)
spent_attach attaches n place a is =
    let e = spent_ok (λ x. lane_check place x.place) (slot_at attaches n) a (sym is) in
    (e.0, of_lane place a.place e.1)

-- its handle is there
pub is_there : {X : Type 0} (o : Option X) → (o ≡ None → ⊥) → is_some o ≡ true
is_there None some = absurd (some refl)
is_there (Some x) some = refl

-- ---- one that is refused

off_lane : {X : Type 0} (x : X) (place own : ℕ) (why : Refusal) → value_if_passed x (lane_check place own) ≡ Err why → (own ≡ place → ⊥) × refused {X = X} (Err (refusal.WrongLane own)) why
off_lane {X} x place own why is = elim (cases_eq own place) [
  | inl e ↦ absurd (let w = sym (ap (value_if_passed x) (cond-true {A = Result (Unit {0}) Refusal} (own == place) (Ok tt) (Err (refusal.WrongLane own)) (eq-eqb own place e))) ∙ is in cc w)
  | inr other ↦ (other, sym (ap (value_if_passed x) (cond-false {A = Result (Unit {0}) Refusal} (own == place) (Ok tt) (Err (refusal.WrongLane own)) (ne_eqb own place other))) ∙ is)
]

-- not for want of memory
abbrev IsNamed : {X : Type 0} → Result X Refusal → Type 0
IsNamed result = IfErr result (λ why. is_for_memory why ≡ false)

named_by : {X : Type 0} (test : X → Result (Unit {0}) Refusal) → ((x : X) → IsNamed (test x)) → (o : Option X) → IsNamed (spending_result test o)
named_by test each None = refl
named_by {X} test each (Some x) = by_test (test x) (each x)
  where
    by_test : (r : Result (Unit {0}) Refusal) → IsNamed r → IsNamed (value_if_passed x r)
    by_test (Ok done) e = tt
    by_test (Err why) e = e

named_on : (place own : ℕ) → IsNamed (lane_check place own)
named_on place own = by_lane (own == place)
  where
    by_lane : (b : Bool) → IsNamed {X = Unit {0}} (if b then Ok tt else Err (refusal.WrongLane own))
    by_lane true = tt
    by_lane false = refl

named_entry : (shared : Bool) (place : ℕ) (g : Guard) → IsNamed (entry_check shared place g)
named_entry true place g = refl
named_entry false place g = named_on place g.place

given : {X : Type 0} (result : Result X Refusal) (why : Refusal) → Err why ≡ result → IsNamed result → is_for_memory why ≡ false
given result why is named = subst (λ r. IsNamed r) (sym is) named

pub exit_named : (guards : List (Option Guard)) (n place : ℕ) (why : Refusal) → Err why ≡ spending_result (λ x. entry_check (is_shared_by guards x) place x) (slot_at guards n) → is_for_memory why ≡ false
exit_named guards n place why is = given _ why is (named_by (λ x. entry_check (is_shared_by guards x) place x) (λ x. named_entry (is_shared_by guards x) place x) (slot_at guards n))

pub detach_named : (attaches : List (Option AttachGuard)) (n place : ℕ) (why : Refusal) → Err why ≡ spending_result (λ x. lane_check place x.place) (slot_at attaches n) → is_for_memory why ≡ false
detach_named attaches n place why is = given _ why is (named_by (λ x. lane_check place x.place) (λ x. named_on place x.place) (slot_at attaches n))

module _ (k : PipelineState) (n at place : ℕ) (t : Tables) (stands : StandsFor k t) (why : Refusal) where
  abbrev exit_of : Option ScopeGuard → Resolved
  exit_of o = need what.Guard o >>= (λ y. refuse_if (is_shared t.guards y) refusal.InUse (refuse_if (is_elsewhere (here_at k.setup t at place) y.place) (refusal.WrongLane y.place) (Ok (exit_effect (here_at k.setup t at place) n y.scope))))

  pub refuses_exit : Err why ≡ spending_result (λ x. entry_check (is_shared_by k.guards x) place x) (slot_at k.guards n) → effect_of_call k.setup t at place (call.Exit n) ≡ Err why
  refuses_exit is = by_slot (slot_at k.guards n) refl (sym is)
    where
      none : (o : Option ScopeGuard) → option_map (guard_of k.dispatch) o ≡ None → exit_of o ≡ Err (refusal.UnknownName what.Guard)
      none None e = refl
      none (Some g) e = absurd (cc e)

      by_shared : (g : Guard) → slot_at k.guards n ≡ Some g → (b : Bool) → is_shared_by k.guards g ≡ b → refused (value_if_passed g (entry_check b place g)) why → effect_of_call k.setup t at place (call.Exit n) ≡ Err why
      by_shared g e true shared is = same_refusal refusal.InUse why is _ (refuses_shared k n g e shared at place t stands)
      by_shared g e false single is = (let off = off_lane g place g.place why is in same_refusal (refusal.WrongLane g.place) why off.1 _ (refuses_wrong_lane k n g e single at place off.0 t stands))

      by_slot : (o : Option Guard) → slot_at k.guards n ≡ o → refused (spending_result (λ x. entry_check (is_shared_by k.guards x) place x) o) why → effect_of_call k.setup t at place (call.Exit n) ≡ Err why
      by_slot None e is = same_refusal (refusal.UnknownName what.Guard) why is _ (none (slot_at t.guards n) (sym (get_or-map (option_map (guard_of k.dispatch)) t.guards n None) ∙ ap (λ gs. slot_at gs n) (sym stands.fits.guard_slots) ∙ e))
      by_slot (Some g) e is = by_shared g e (is_shared_by k.guards g) refl is

  abbrev detach_of : Option ℕ → Resolved
  detach_of o = need what.Guard o >>= (λ mine. refuse_if (is_elsewhere (here_at k.setup t at place) mine) (refusal.WrongLane mine) (Ok (detach_effect (here_at k.setup t at place) n)))

  pub refuses_detach : Err why ≡ spending_result (λ x. lane_check place x.place) (slot_at k.contexts.attaches n) → effect_of_call k.setup t at place (call.Detach n) ≡ Err why
  refuses_detach is = by_slot (slot_at k.contexts.attaches n) refl (sym is)
    where
      by_slot : (o : Option AttachGuard) → slot_at k.contexts.attaches n ≡ o → refused (spending_result (λ x. lane_check place x.place) o) why → effect_of_call k.setup t at place (call.Detach n) ≡ Err why
      by_slot None e is = same_refusal (refusal.UnknownName what.Guard) why is _ (ap detach_of (attach_told k t stands.fits n ∙ ap (option_map lane_place_of) e))
      by_slot (Some a) e is =
          let off = off_lane a place a.place why is in
          same_refusal (refusal.WrongLane a.place) why off.1 _
          (ap detach_of (attach_told k t stands.fits n ∙ ap (option_map lane_place_of) e) ∙ cond-true {A = Resolved} (not (a.place == place)) _ _ (ap not (ne_eqb a.place place off.0)))
