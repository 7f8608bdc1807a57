-- Each span closes once, when no handle holds it any more.
use Rattle.span_laws.proofs.Common.{Bool, Effect, List, MadeSpan, None, Option, Scope, ScopeGuard, Setup, Some, Tables, [], after_effect, any_counted, ap, arith, cases_eq, cases_lt, closed_of, cond, counted_if_any, current_in, current_of, current_scope, get_or_push, holds_span, inl, inr, is_in, is_open, is_some, length, length_push, made_span_at, named_push, named_set, nat_lt, nat_tests, no_made_span, no_tables, not, occurrences, option_map, refl, scope_of, slice_set, slot_at, slot_open, some_is, spend, subst, sym, true, with_item, ℕ, ◌&&◌, ◌++◌, ◌<◌, ◌==◌, ◌||◌, ◌∙◌, ◌∷◌, ◌≡◌, ◌≤◌}
use Rattle.std.proofs.lemmas.List.{append-nil}
use Rattle.std.proofs.lemmas.Bool.{eq-eqb, lt-ltb}
use Rattle.span_laws.proofs.steps.GuardsLemmas.{IsGuarded}
use Rattle.span_laws.proofs.steps.GuardsLemmas as guarding
use Rattle.span_laws.proofs.spans.OccurrencesLemmas.{occurs_cons, occurs_append, occurs_filter, is_in_counted, held_push, held_set, get_push_other}
use Rattle.span_laws.proofs.steps.StepsLemmas.{IsKnown, no_scope, of_handle, Names, no_name, another, new_span, Spends, no_spending, one_spent, IsFit, IsStep}

-- from each span of a scope on it is that span's own scope
abbrev pub AreMine : List MadeSpan → Scope → Type 0
AreMine ms [] = Unit {0}
AreMine ms (s ∷ up) = ((made_span_at ms s).scope ≡ s ∷ up) × AreMine ms up

-- A scope of made spans, each at most once, and of each span in it.
pub record IsLine (ms : List MadeSpan) (scope : Scope) : Type 0 where
  pub once : (s : ℕ) → occurrences s scope ≤ cond (nat_lt s (length ms)) 1 0
  pub mine : AreMine ms scope

-- What holds of handles, spans and what closed, of each legal history: a made span is closed once or open.
pub record IsSound (hs : List (Option Scope)) (ms : List MadeSpan) (cs : List ℕ) : Type 0 where
  pub lines : (k : ℕ) (scope : Scope) → slot_at hs k ≡ Some scope → IsLine ms scope
  pub ended : (s : ℕ) → occurrences s cs ≡ cond (nat_lt s (length ms) && not (is_open hs s)) 1 0

module _ (hs : List (Option Scope)) (ms : List MadeSpan) (cs : List ℕ) (sound : IsSound hs ms cs) where
  known_line : (scope : Scope) → IsKnown hs scope → IsLine ms scope
  known_line _ no_scope = record { once = λ s. omega arith; mine = tt }
  known_line _ (of_handle k scope there) = sound.lines k scope there

  pub known_open : (scope : Scope) → IsKnown hs scope → (s : ℕ) → 0 < occurrences s scope → is_open hs s ≡ true
  known_open _ no_scope s some = absurd (omega (arith, some))
  known_open _ (of_handle k scope there) s some = slot_open hs k s scope there (is_in_counted s scope ∙ lt-ltb 0 (occurrences s scope) some)

  -- a handle more of a known scope
  more_names : (scope : Scope) → IsKnown hs scope → IsSound (hs ++ Some scope ∷ []) ms cs
  more_names scope known = record {
    lines = named_push (IsLine ms) hs (Some scope) sound.lines (λ k is. subst (IsLine ms) (some_is scope k is) (known_line scope known));
    ended = λ s.
        let before = any_counted (holds_span s) hs in
        let later = any_counted (holds_span s) (hs ++ Some scope ∷ []) in
        let more_held = held_push hs (Some scope) s in
        let its = is_in_counted s scope in
        let closed_before = sound.ended s in
        elim (cases_lt 0 (occurrences s scope)) [
          | inl there ↦ (let open_before = known_open scope known s there in grind (arith, nat_tests, before, later, more_held, its, closed_before, there, open_before))
          | inr absent ↦ grind (arith, nat_tests, before, later, more_held, its, closed_before, absent)
        ];
  }

  -- a line stays one with a span more
  mine_stays : (m : MadeSpan) (scope : Scope) → ((s : ℕ) → 0 < occurrences s scope → s < length ms) → AreMine ms scope → AreMine (ms ++ m ∷ []) scope
  mine_stays m [] below mine = tt
  mine_stays m (s ∷ up) below mine =
      let some : 0 < occurrences s (s ∷ up) = (let c = occurs_cons s s up in grind (arith, nat_tests, c)) in
      let within = below s some in (
        ap (λ (made : MadeSpan). made.scope) (get_push_other ms m no_made_span s (λ e. absurd (omega (arith, e, within)))) ∙ mine.0,
        mine_stays m up (λ q there. below q (let c = occurs_cons q s up in omega (arith, c, there))) mine.1,
      )

  line_stays : (m : MadeSpan) (scope : Scope) → IsLine ms scope → IsLine (ms ++ m ∷ []) scope
  line_stays m scope line = record {
    once = λ s. (let count = length_push ms m in let one = line.once s in rw count (grind (arith, nat_tests, one)));
    mine = mine_stays m scope (λ s some. (let one = line.once s in grind (arith, nat_tests, one, some))) line.mine;
  }

  new_line : (m : MadeSpan) (up : Scope) → IsKnown hs up → m.scope ≡ length ms ∷ up → IsLine (ms ++ m ∷ []) m.scope
  new_line m up known is = record {
    once = λ s.
        (let count = length_push ms m in
        let all = ap (λ (l : Scope). occurrences s l) is ∙ occurs_cons s (length ms) up in
        let one = (known_line up known).once s in
        rw count (grind (arith, nat_tests, all, one)));
    mine = subst (AreMine (ms ++ m ∷ [])) (sym is) (
      ap (λ (made : MadeSpan). made.scope) (get_or_push ms m no_made_span (length ms) refl) ∙ is,
      (line_stays m up (known_line up known)).mine,
    );
  }

  -- a span more, and a handle of it
  more_spans : (m : MadeSpan) (up : Scope) → IsKnown hs up → m.scope ≡ length ms ∷ up → IsSound (hs ++ Some m.scope ∷ []) (ms ++ m ∷ []) cs
  more_spans m up known is = record {
    lines = named_push (IsLine (ms ++ m ∷ [])) hs (Some m.scope) (λ k l there. line_stays m l (sound.lines k l there)) (λ l e. subst (IsLine (ms ++ m ∷ [])) (some_is m.scope l e) (new_line m up known is));
    ended = λ s.
        let count = length_push ms m in
        let before = any_counted (holds_span s) hs in
        let later = any_counted (holds_span s) (hs ++ Some m.scope ∷ []) in
        let more_held = held_push hs (Some m.scope) s in
        let its = is_in_counted s m.scope in
        let all = ap (λ (l : Scope). occurrences s l) is ∙ occurs_cons s (length ms) up in
        let closed_before = sound.ended s in
        rw count (elim (cases_eq (length ms) s) [
          | inl same ↦ grind (arith, nat_tests, later, more_held, its, all, closed_before, same)
          | inr other ↦ elim (cases_lt 0 (occurrences s up)) [
            | inl there ↦ (let open_before = known_open up known s there in grind (arith, nat_tests, before, later, more_held, its, all, closed_before, other, there, open_before))
            | inr absent ↦ grind (arith, nat_tests, before, later, more_held, its, all, closed_before, other, absent)
          ]
        ]);
  }

  fewer_names : (handle : ℕ) (scope : Scope) (closes : List ℕ) → slot_at hs handle ≡ Some scope → closes ≡ closed_of (slice_set hs handle None) scope → IsSound (slice_set hs handle None) ms (cs ++ closes)
  fewer_names handle scope closes there same = record {
    lines = λ k l here. sound.lines k l (named_set hs handle k l here);
    ended = λ s.
        let before = any_counted (holds_span s) hs in
        let later = any_counted (holds_span s) (slice_set hs handle None) in
        let fewer = held_set hs handle scope s there in
        let its = is_in_counted s scope in
        let once = (sound.lines handle scope there).once s in
        let closed_before = sound.ended s in
        let more_closed = occurs_append s cs closes in
        let are = ap (λ (l : List ℕ). occurrences s l) same in
        let of_scope = occurs_filter (λ t. not (is_open (slice_set hs handle None) t)) s scope in
        grind (arith, nat_tests, before, later, fewer, its, once, closed_before, more_closed, are, of_scope);
  }

-- ---- each step

pub record Stands (ids : List ℕ) (t : Tables) : Type 0 where
  pub sound : IsSound t.handles t.spans t.closed
  pub guarded : IsGuarded ids t.handles t.guards t.entries

-- the scope of a lane's current span is known
current_known : (ids : List ℕ) (t : Tables) → Stands ids t → (lane : ℕ) → IsKnown t.handles (current_scope t lane)
current_known ids t now lane = by_current (current_of (t.entries lane)) refl
  where
    by_current : (o : Option ℕ) → current_of (t.entries lane) ≡ o → IsKnown t.handles (scope_of t.spans o)
    by_current None is = no_scope
    by_current (Some s) is = elim (current_in [] None (t.entries lane) s is) [
      | inl never ↦ absurd (cc never)
      | inr inside ↦ (
          let at = guarding.entry_named ids t.handles t.guards t.entries now.guarded lane s (counted_if_any (λ x. x == s) (t.entries lane) inside) in
          subst (IsKnown t.handles) (sym (now.sound.lines at.0 (s ∷ at.1) at.2).mine.0) (of_handle at.0 (s ∷ at.1) at.2))
    ]

-- and that span is open
current_open : (ids : List ℕ) (t : Tables) → Stands ids t → (lane s : ℕ) → current_of (t.entries lane) ≡ Some s → is_open t.handles s ≡ true
current_open ids t now lane s is = elim (current_in [] None (t.entries lane) s is) [
  | inl never ↦ absurd (cc never)
  | inr inside ↦ (
      let at = guarding.entry_named ids t.handles t.guards t.entries now.guarded lane s (counted_if_any (λ x. x == s) (t.entries lane) inside) in
      slot_open t.handles at.0 s (s ∷ at.1) at.2 (ap (λ b. b || is_in s at.1) (eq-eqb s s refl)))
]

-- what a request finds
pub fit_of : (setup : Setup) (ids : List ℕ) (t : Tables) → Stands ids t → t.recording.settings ≡ setup.layer → t.recording.counting ≡ is_some setup.counting → IsFit setup t
fit_of setup ids t now settings_are counting_is = record {
  currents = current_known ids t now;
  entered = current_open ids t now;
  still = now.guarded.still;
  settings_are = settings_are;
  counting_is = counting_is;
}

names_stand : (hs : List (Option Scope)) (ms : List MadeSpan) (cs : List ℕ) → IsSound hs ms cs → (o : Option Scope) (m : Option MadeSpan) → Names hs ms o m → IsSound (with_item hs (option_map Some o)) (with_item ms m) cs
names_stand hs ms cs sound _ _ no_name = sound
names_stand hs ms cs sound _ _ (another scope known) = more_names hs ms cs sound scope known
names_stand hs ms cs sound _ _ (new_span m up known is) = more_spans hs ms cs sound m up known is

spends_stand : (hs : List (Option Scope)) (gs : List (Option ScopeGuard)) (ms : List MadeSpan) (cs : List ℕ) → IsSound hs ms cs → (o : Option ℕ) (closes : List ℕ) → Spends hs gs o closes → IsSound (spend hs o) ms (cs ++ closes)
spends_stand hs gs ms cs sound _ _ no_spending = rw (append-nil cs) sound
spends_stand hs gs ms cs sound _ _ (one_spent k scope closes there free same) = fewer_names hs ms cs sound k scope closes there same

guards_stand : (ids : List ℕ) (hs : List (Option Scope)) (gs : List (Option ScopeGuard)) (es : ℕ → List ℕ) → IsGuarded ids hs gs es → (o : Option ℕ) (closes : List ℕ) → Spends hs gs o closes → IsGuarded ids (spend hs o) gs es
guards_stand ids hs gs es now _ _ no_spending = now
guards_stand ids hs gs es now _ _ (one_spent k scope closes there free same) = guarding.guarded_less ids hs gs es now k free

pub named : (setup : Setup) (t : Tables) (at : ℕ) (is_drop : Bool) (e : Effect) → Stands setup.ids t → IsStep setup t at is_drop e → IsSound (with_item t.handles (option_map Some e.new_handle)) (with_item t.spans e.new_span) t.closed
named setup t at is_drop e now step = names_stand t.handles t.spans t.closed now.sound e.new_handle e.new_span step.names

pub step_stands : (setup : Setup) (t : Tables) (at : ℕ) (is_drop : Bool) (e : Effect) → Stands setup.ids t → IsStep setup t at is_drop e → Stands setup.ids (after_effect t e)
step_stands setup t at is_drop e now step = record {
  sound = spends_stand _ _ _ t.closed (named setup t at is_drop e now step) e.spent_handle e.closes step.spends;
  guarded = guards_stand setup.ids _ _ _
      (guarding.guarded_more setup.ids t.handles _ _ (guarding.guarded_after setup.ids t.handles t.guards t.entries now.guarded e.lane e.new_guard e.new_attach e.spent_guard e.entry e.exit step.enters) e.new_handle)
      e.spent_handle e.closes step.spends;
}

pub none_stands : (ids : List ℕ) (setup : Setup) → Stands ids (no_tables setup)
none_stands ids setup = record {
  sound = record { lines = λ k scope there. absurd (cc there); ended = λ s. grind (arith, nat_tests) };
  guarded = record { still = λ n g there. absurd (cc there); counted = λ l s. refl };
}
