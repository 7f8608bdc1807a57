-- The contexts of all lanes after an entry, an exit, an attach or a detach on one.
use Rattle.std.proofs.Common.{◌≡◌, ℕ, ◌<◌, List, [], ◌∷◌, ◌++◌, length, Bool, true, false, get_or, set, Option, Some, None, option_map, map, refl, sym, ap, subst, ◌∙◌, arith, inl, inr, ◌==◌, if◌then◌else◌, slice_set}
use Rattle.span_script.proofs.Common.{cases_eq, cond-true, cond-false, length-map, map-set, Context, has_number, without_number, last_passing, Lane, without_last, Token, is_token, AttachesOwnContext, Detaches, AttachGuard, Owner, EntryOf, GuardOf, Attached, is_same_owner, is_attached_by, slot_at, with_attached, with_detached, LaneValue, lane_value, no_lane_value, lane_at, owner_numbers, ContextsFit, AllContextsFit}
use Rattle.std.proofs.lemmas.Bool.{eq-eqb, ne_eqb}
use Rattle.std.proofs.lemmas.List.{length-set, get_or-set_same, get_or-set_other}
use Rattle.span_script.proofs.steps.LanesLemmas.{lane_seen}
use Rattle.span_script.proofs.lane_contexts.OwnersLemmas.{contexts_push, contexts_same, contexts_take}
use Rattle.span_script.proofs.lane_contexts.NumbersLemmas.{entry_same, entry_own, entry_other, entry_quiet, exit_own, exit_others, exit_other, exit_quiet, attach_own, attach_other, detach_own, detach_others, detach_other}

-- an entry's guard takes a number
pub all_skipped : (activation : Bool) (lanes : List LaneValue) (tokens : List Token) (attaches : List (Option AttachGuard)) (contexts : ℕ → List Attached) → AllContextsFit activation lanes tokens attaches contexts → AllContextsFit activation lanes tokens (attaches ++ None ∷ []) contexts
all_skipped activation lanes tokens attaches contexts fit n below = contexts_same _ _ _ _ (entry_same activation n (lane_at lanes n).id tokens attaches) (fit n below)

module _ (activation : Bool) (lanes : List Lane) (place : ℕ) (before later : Lane) (within : place < length lanes) (seen : before ≡ get_or lanes place before) (same : later.id ≡ before.id)
    (differ : (n m : ℕ) → n < length (map lane_value lanes) → m < length (map lane_value lanes) → (lane_at (map lane_value lanes) n).id ≡ (lane_at (map lane_value lanes) m).id → n ≡ m)
    (tokens : List Token) (attaches : List (Option AttachGuard)) (contexts : ℕ → List Attached) (fit : AllContextsFit activation (map lane_value lanes) tokens attaches contexts) where
  abbrev ls : List LaneValue
  ls = map lane_value lanes

  abbrev ls' : List LaneValue
  ls' = map lane_value (set lanes place later)

  inside : place < length ls
  inside = let k = length-map lanes lane_value in omega (arith, within, k)

  at_lane : lane_at ls place ≡ lane_value before
  at_lane = lane_seen lanes place before within seen

  pub own_fit : ContextsFit (owner_numbers activation place before.id tokens attaches) before.contexts.live (contexts before.id)
  own_fit = subst (λ (l : LaneValue). ContextsFit (owner_numbers activation place l.id tokens attaches) l.live (contexts l.id)) at_lane (fit place inside)

  -- each lane but the one that was written fits as it did
  all_after : (tokens' : List Token) (attaches' : List (Option AttachGuard)) (contexts' : ℕ → List Attached) → ContextsFit (owner_numbers activation place before.id tokens' attaches') later.contexts.live (contexts' before.id)
      → ((n other : ℕ) (live : List (ℕ × Context)) → (n ≡ place → ⊥) → (before.id ≡ other → ⊥) → ContextsFit (owner_numbers activation n other tokens attaches) live (contexts other) → ContextsFit (owner_numbers activation n other tokens' attaches') live (contexts' other))
      → AllContextsFit activation ls' tokens' attaches' contexts'
  all_after tokens' attaches' contexts' here there n below =
      let written = map-set lane_value lanes place later in
      let P : ℕ → LaneValue → Type 0 = λ m l. ContextsFit (owner_numbers activation m l.id tokens' attaches') l.live (contexts' l.id) in
      let counts : length ls' ≡ length ls = length-map (set lanes place later) lane_value ∙ length-set lanes place later ∙ sym (length-map lanes lane_value) in
      elim (cases_eq n place) [
        | inl e ↦ subst (P n) (sym (ap (λ (k : ℕ). lane_at ls' k) e ∙ ap (λ (xs : List LaneValue). lane_at xs place) written ∙ get_or-set_same ls place (lane_value later) no_lane_value inside))
            (subst (λ (i : ℕ). ContextsFit (owner_numbers activation n i tokens' attaches') later.contexts.live (contexts' i)) (sym same)
            (subst (λ (m : ℕ). ContextsFit (owner_numbers activation m before.id tokens' attaches') later.contexts.live (contexts' before.id)) (sym e) here))
        | inr other ↦ subst (P n) (sym (ap (λ (xs : List LaneValue). lane_at xs n) written ∙ get_or-set_other ls place n (lane_value later) no_lane_value other))
            (let below' : n < length ls = omega (arith, below, counts) in
            there n (lane_at ls n).id (lane_at ls n).live other (λ e. other (differ n place below' inside (sym e ∙ ap (λ (l : LaneValue). l.id) (sym at_lane)))) (fit n below'))
      ]

  -- the lane has one context more, whose number its owner keeps
  pub all_pushed : (tokens' : List Token) (attaches' : List (Option AttachGuard)) (owner : Owner) (number : ℕ) (context : Context) → has_number number before.contexts.live ≡ false → later.contexts.live ≡ before.contexts.live ++ (number, context) ∷ []
      → ((o : Owner) → owner_numbers activation place before.id tokens' attaches' o ≡ owner_numbers activation place before.id tokens attaches o ++ (if is_same_owner owner o then Some number ∷ [] else []))
      → ((n other : ℕ) → (n ≡ place → ⊥) → (before.id ≡ other → ⊥) → (o : Owner) → owner_numbers activation n other tokens' attaches' o ≡ owner_numbers activation n other tokens attaches o)
      → AllContextsFit activation ls' tokens' attaches' (with_attached contexts before.id (Some (record { owner = owner; context = context })))
  all_pushed tokens' attaches' owner number context fresh live own others =
      let a : Attached = record { owner = owner; context = context } in
      all_after tokens' attaches' (with_attached contexts before.id (Some a))
      (subst (λ (items : List Attached). ContextsFit (owner_numbers activation place before.id tokens' attaches') later.contexts.live items) (sym (cond-true {A = List Attached} (before.id == before.id) (contexts before.id ++ a ∷ []) (contexts before.id) (eq-eqb before.id before.id refl)))
      (contexts_push owner before.contexts.live later.contexts.live (contexts before.id) number context _ _ own_fit fresh live own))
      (λ n other live apart off was. subst (λ (items : List Attached). ContextsFit (owner_numbers activation n other tokens' attaches') live items) (sym (cond-false {A = List Attached} (before.id == other) (contexts before.id ++ a ∷ []) (contexts other) (ne_eqb before.id other off)))
      (contexts_same live (contexts other) _ _ (others n other apart off) was))

  -- the lane has one context less, whose number its owner kept last
  pub all_taken : (tokens' : List Token) (attaches' : List (Option AttachGuard)) (owner : Owner) (attached : Option ℕ) → ((number : ℕ) → attached ≡ Some number → later.contexts.live ≡ without_number number before.contexts.live)
      → owner_numbers activation place before.id tokens attaches owner ≡ owner_numbers activation place before.id tokens' attaches' owner ++ attached ∷ []
      → ((o : Owner) → (o ≡ owner → ⊥) → owner_numbers activation place before.id tokens' attaches' o ≡ owner_numbers activation place before.id tokens attaches o)
      → ((n other : ℕ) → (n ≡ place → ⊥) → (before.id ≡ other → ⊥) → (o : Owner) → owner_numbers activation n other tokens' attaches' o ≡ owner_numbers activation n other tokens attaches o)
      → AllContextsFit activation ls' tokens' attaches' (with_detached contexts before.id (Some owner))
  all_taken tokens' attaches' owner attached live own rest others =
      let less = without_last (is_attached_by owner) (contexts before.id) in
      all_after tokens' attaches' (with_detached contexts before.id (Some owner))
      (subst (λ (items : List Attached). ContextsFit (owner_numbers activation place before.id tokens' attaches') later.contexts.live items) (sym (cond-true {A = List Attached} (before.id == before.id) less (contexts before.id) (eq-eqb before.id before.id refl)))
      (contexts_take owner before.contexts.live later.contexts.live (contexts before.id) attached _ _ own_fit own rest live))
      (λ n other live apart off was. subst (λ (items : List Attached). ContextsFit (owner_numbers activation n other tokens' attaches') live items) (sym (cond-false {A = List Attached} (before.id == other) less (contexts other) (ne_eqb before.id other off)))
      (contexts_same live (contexts other) _ _ (others n other apart off) was))

  -- it has the same ones
  pub all_left : (tokens' : List Token) (attaches' : List (Option AttachGuard)) → later.contexts.live ≡ before.contexts.live
      → ((n other : ℕ) (o : Owner) → owner_numbers activation n other tokens' attaches' o ≡ owner_numbers activation n other tokens attaches o) → AllContextsFit activation ls' tokens' attaches' contexts
  all_left tokens' attaches' live each =
      all_after tokens' attaches' contexts
      (subst (λ (xs : List (ℕ × Context)). ContextsFit (owner_numbers activation place before.id tokens' attaches') xs (contexts before.id)) (sym live) (contexts_same _ _ _ _ (each place before.id) own_fit))
      (λ n other live apart off was. contexts_same live (contexts other) _ _ (each n other) was)

-- an entry, with activation or without
pub all_entered : (activation : Bool) (lanes : List Lane) (place : ℕ) (before later : Lane) → place < length lanes → before ≡ get_or lanes place before → later.id ≡ before.id
    → ((n m : ℕ) → n < length (map lane_value lanes) → m < length (map lane_value lanes) → (lane_at (map lane_value lanes) n).id ≡ (lane_at (map lane_value lanes) m).id → n ≡ m)
    → (tokens : List Token) (attaches : List (Option AttachGuard)) (contexts : ℕ → List Attached) → AllContextsFit activation (map lane_value lanes) tokens attaches contexts
    → (s : ℕ) (own : Context) (attached : Option ℕ) → AttachesOwnContext activation own before later attached
    → AllContextsFit activation (map lane_value (set lanes place later)) (tokens ++ record { lane = before.id; id = s; attached = attached } ∷ []) (attaches ++ None ∷ []) (with_attached contexts before.id (if activation then Some (record { owner = EntryOf s; context = own }) else None))
all_entered true lanes place before later within seen same differ tokens attaches contexts fit s own attached a =
    subst (λ (o : Option ℕ). AllContextsFit true (map lane_value (set lanes place later)) (tokens ++ record { lane = before.id; id = s; attached = o } ∷ []) (attaches ++ None ∷ []) (with_attached contexts before.id (Some (record { owner = EntryOf s; context = own })))) (sym a.is)
    (all_pushed true lanes place before later within seen same differ tokens attaches contexts fit (tokens ++ record { lane = before.id; id = s; attached = Some a.number } ∷ []) (attaches ++ None ∷ []) (EntryOf s) a.number own a.fresh a.live
    (entry_own place before.id s a.number tokens attaches)
    (λ n other apart off. entry_other true n before.id other s (Some a.number) tokens attaches off))
all_entered false lanes place before later within seen same differ tokens attaches contexts fit s own attached a =
    all_left false lanes place before later within seen same differ tokens attaches contexts fit (tokens ++ record { lane = before.id; id = s; attached = attached } ∷ []) (attaches ++ None ∷ []) a.0
    (λ n other. entry_quiet n other tokens (tokens ++ record { lane = before.id; id = s; attached = attached } ∷ []) attaches)

-- an exit
pub all_exited : (activation : Bool) (lanes : List Lane) (place : ℕ) (before later : Lane) → place < length lanes → before ≡ get_or lanes place before → later.id ≡ before.id
    → ((n m : ℕ) → n < length (map lane_value lanes) → m < length (map lane_value lanes) → (lane_at (map lane_value lanes) n).id ≡ (lane_at (map lane_value lanes) m).id → n ≡ m)
    → (tokens : List Token) (attaches : List (Option AttachGuard)) (contexts : ℕ → List Attached) → AllContextsFit activation (map lane_value lanes) tokens attaches contexts
    → (s : ℕ) (token : Token) → last_passing (is_token before.id s) tokens ≡ Some token → Detaches (if activation then token.attached else None) before later
    → AllContextsFit activation (map lane_value (set lanes place later)) (without_last (is_token before.id s) tokens) attaches (with_detached contexts before.id (option_map EntryOf (if activation then Some s else None)))
all_exited true lanes place before later within seen same differ tokens attaches contexts fit s token last leaves =
    all_taken true lanes place before later within seen same differ tokens attaches contexts fit (without_last (is_token before.id s) tokens) attaches (EntryOf s) token.attached (λ number is. subst (λ (o : Option ℕ). Detaches o before later) is leaves)
    (exit_own place before.id s tokens attaches token last) (exit_others true place before.id s tokens attaches) (λ n other apart off. exit_other true n before.id other s tokens attaches off)
all_exited false lanes place before later within seen same differ tokens attaches contexts fit s token last leaves =
    all_left false lanes place before later within seen same differ tokens attaches contexts fit (without_last (is_token before.id s) tokens) attaches leaves (λ n other. exit_quiet n other tokens (without_last (is_token before.id s) tokens) attaches)

-- an attach
pub all_attached : (activation : Bool) (lanes : List Lane) (place : ℕ) (before later : Lane) → place < length lanes → before ≡ get_or lanes place before → later.id ≡ before.id
    → ((n m : ℕ) → n < length (map lane_value lanes) → m < length (map lane_value lanes) → (lane_at (map lane_value lanes) n).id ≡ (lane_at (map lane_value lanes) m).id → n ≡ m)
    → (tokens : List Token) (attaches : List (Option AttachGuard)) (contexts : ℕ → List Attached) → AllContextsFit activation (map lane_value lanes) tokens attaches contexts
    → (number : ℕ) (context : Context) → has_number number before.contexts.live ≡ false → later.contexts.live ≡ before.contexts.live ++ (number, context) ∷ []
    → AllContextsFit activation (map lane_value (set lanes place later)) tokens (attaches ++ Some (record { place = place; attached = number }) ∷ []) (with_attached contexts before.id (Some (record { owner = GuardOf (length attaches); context = context })))
all_attached activation lanes place before later within seen same differ tokens attaches contexts fit number context fresh live =
    all_pushed activation lanes place before later within seen same differ tokens attaches contexts fit tokens (attaches ++ Some (record { place = place; attached = number }) ∷ []) (GuardOf (length attaches)) number context fresh live
    (attach_own activation place before.id number tokens attaches) (λ n other apart off. attach_other activation place n other number tokens attaches apart)

-- a detach
pub all_detached : (activation : Bool) (lanes : List Lane) (place : ℕ) (before later : Lane) → place < length lanes → before ≡ get_or lanes place before → later.id ≡ before.id
    → ((n m : ℕ) → n < length (map lane_value lanes) → m < length (map lane_value lanes) → (lane_at (map lane_value lanes) n).id ≡ (lane_at (map lane_value lanes) m).id → n ≡ m)
    → (tokens : List Token) (attaches : List (Option AttachGuard)) (contexts : ℕ → List Attached) → AllContextsFit activation (map lane_value lanes) tokens attaches contexts
    → (guard : ℕ) (a : AttachGuard) → slot_at attaches guard ≡ Some a → a.place ≡ place → later.contexts.live ≡ without_number a.attached before.contexts.live
    → AllContextsFit activation (map lane_value (set lanes place later)) tokens (slice_set attaches guard None) (with_detached contexts before.id (Some (GuardOf guard)))
all_detached activation lanes place before later within seen same differ tokens attaches contexts fit guard a there on live =
    all_taken activation lanes place before later within seen same differ tokens attaches contexts fit tokens (slice_set attaches guard None) (GuardOf guard) (Some a.attached)
    (λ number is. live ∙ ap (λ (k : ℕ). without_number k before.contexts.live) (the_number a.attached number is))
    (detach_own activation place before.id tokens attaches guard a there on) (detach_others activation place before.id tokens attaches guard) (λ n other apart off. detach_other activation place n other tokens attaches guard a there on apart)
  where
    the_number : (a b : ℕ) → Some a ≡ Some b → a ≡ b
    the_number a b e = cc e
