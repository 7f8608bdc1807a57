-- Interest, hint and `enabled` together.
use Rattle.std.proofs.Common.{◌≡◌, ℕ, List, [], ◌∷◌, length, Bool, true, false, refl, sym, ap, subst, ◌∙◌, arith, inl, inr, Option, Some}
use Rattle.std.specs.Prelude.{◌==◌, ◌||◌, ◌&&◌, not, if◌then◌else◌, nat_le}
use Rattle.std.proofs.lemmas.Bool.{true≢false, cases_Bool, cond-true, cond-false, eqb-true, and_right, or_cases, leb-true, leb-false, le-leb}
use Rattle.trace_base.specs.declared.callsite.Callsite.{Callsite}
use Rattle.trace_base.specs.declared.level.Level.{Level}
use Rattle.trace_base.specs.declared.level.Level.TheVariants as level
use Rattle.trace_base.specs.declared.level.LevelFilter.{LevelFilter}
use Rattle.trace_base.specs.declared.level.LevelFilter.TheVariants.{TRACE, OFF}
use Rattle.trace_base.specs.declared.subscriber.Interest.TheVariants as interests
use Rattle.trace_base.specs.words.Level.{is_within, greatest_verbosity, verbosity}
use Rattle.trace_base.specs.Gate.{gate}
use Rattle.env_directives.specs.declared.directive.StaticDirective.{StaticDirective}
use Rattle.env_directives.specs.Cares.{cares}
use Rattle.env_directives.specs.orders.Choice.{admits, lets_through}
use Rattle.env_directives.specs.orders.Table.{more_verbose}
use Rattle.env_filter.specs.spans.Levels.{OpenLevel}
use Rattle.env_filter.specs.Filtering.{FilterState, IsWholeFilter, Each, IsAtMostLevel, is_cared, has_dynamics, interest_in, asks_values, hint_in, levels_admit, enables_in, is_admitted}

within_below : (l : Level) (f most : LevelFilter) → is_within l f ≡ true → IsAtMostLevel most f → is_within l most ≡ true
within_below l f most is below = let e = leb-true (verbosity l) (greatest_verbosity f) is in le-leb (verbosity l) (greatest_verbosity most) (omega (arith, e, below))

within_trace : (l : Level) → is_within l TRACE ≡ true
within_trace level.ERROR = refl
within_trace level.WARN = refl
within_trace level.INFO = refl
within_trace level.DEBUG = refl
within_trace level.TRACE = refl

within_off : (l : Level) → is_within l OFF ≡ false
within_off level.ERROR = refl
within_off level.WARN = refl
within_off level.INFO = refl
within_off level.DEBUG = refl
within_off level.TRACE = refl

-- a level on a lane, and the level of the static directive that decides
open_within : (l : Level) (most : LevelFilter) (es : List OpenLevel) → Each (λ (e : OpenLevel). IsAtMostLevel most e.level) es → levels_admit l es ≡ true → is_within l most ≡ true
open_within l most [] all is = absurd (true≢false (sym is))
open_within l most (e ∷ es) all is = elim (or_cases (is_within l e.level) (levels_admit l es) is) [
  | inl here ↦ within_below l e.level most here all.0
  | inr later ↦ open_within l most es all.1 later
]

admitted_within : (c : Callsite) (most : LevelFilter) (ds : List StaticDirective) → Each (λ (d : StaticDirective). IsAtMostLevel most d.level) ds → admits ds c ≡ true → is_within c.level most ≡ true
admitted_within c most [] all is = absurd (true≢false (sym is))
admitted_within c most (d ∷ ds) all is = elim (cases_Bool (cares d c)) [
  | inl cared ↦ within_below c.level d.level most (sym (ap (λ (o : Option StaticDirective). lets_through c.level o) (cond-true {A = Option StaticDirective} (cares d c) _ _ cared)) ∙ is) all.0
  | inr passed ↦ admitted_within c most ds all.1 (sym (ap (λ (o : Option StaticDirective). lets_through c.level o) (cond-false {A = Option StaticDirective} (cares d c) _ _ passed)) ∙ is)
]

pub first_below : (f g : LevelFilter) → IsAtMostLevel (more_verbose f g) f
first_below f g = elim (cases_Bool (nat_le (greatest_verbosity g) (greatest_verbosity f))) [
  | inl less ↦ subst (λ (m : LevelFilter). IsAtMostLevel m f) (sym (cond-true {A = LevelFilter} (nat_le (greatest_verbosity g) (greatest_verbosity f)) f g less)) (omega arith)
  | inr more ↦ subst (λ (m : LevelFilter). IsAtMostLevel m f) (sym (cond-false {A = LevelFilter} (nat_le (greatest_verbosity g) (greatest_verbosity f)) f g more)) (let e = leb-false (greatest_verbosity g) (greatest_verbosity f) more in omega (arith, e))
]

pub second_below : (f g : LevelFilter) → IsAtMostLevel (more_verbose f g) g
second_below f g = elim (cases_Bool (nat_le (greatest_verbosity g) (greatest_verbosity f))) [
  | inl less ↦ subst (λ (m : LevelFilter). IsAtMostLevel m g) (sym (cond-true {A = LevelFilter} (nat_le (greatest_verbosity g) (greatest_verbosity f)) f g less)) (leb-true (greatest_verbosity g) (greatest_verbosity f) less)
  | inr more ↦ subst (λ (m : LevelFilter). IsAtMostLevel m g) (sym (cond-false {A = LevelFilter} (nat_le (greatest_verbosity g) (greatest_verbosity f)) f g more)) (omega arith)
]

within_hint : (f : FilterState) (l : Level) → is_within l (more_verbose f.statics.greatest f.dynamics.greatest) ≡ true → is_within l (hint_in f) ≡ true
within_hint f l is = elim (cases_Bool (asks_values f.dynamics.directives)) [
  | inl asks ↦ ap (λ (h : LevelFilter). is_within l h) (cond-true {A = LevelFilter} (asks_values f.dynamics.directives) _ _ asks) ∙ within_trace l
  | inr asks_none ↦ ap (λ (h : LevelFilter). is_within l h) (cond-false {A = LevelFilter} (asks_values f.dynamics.directives) _ _ asks_none) ∙ is
]

or_false : (b : Bool) → b ≡ (b || false)
or_false true = refl
or_false false = refl

gate_decides : (cared admitted some opens most_dynamic most_static : Bool) (hint : LevelFilter) (l : Level) → (admitted ≡ true → is_within l hint ≡ true) → (opens ≡ true → is_within l hint ≡ true) → (opens ≡ true → most_dynamic ≡ true)
    → (some ≡ false → opens ≡ false)
    → gate (if cared || admitted then interests.Always else if some then interests.Sometimes else interests.Never) (Some hint) ((some && (most_dynamic && (cared || opens))) || (most_static && admitted)) l
    ≡ (admitted || ((cared && is_within l hint) || opens))
gate_decides true true some opens d s hint l a o h n = a refl
gate_decides true false some true d s hint l a o h n = o refl ∙ sym (ap (λ (b : Bool). b || true) (o refl))
gate_decides true false some false d s hint l a o h n = or_false (is_within l hint)
gate_decides false true some opens d s hint l a o h n = a refl
gate_decides false false true true true true hint l a o h n = ap (λ (b : Bool). b && true) (o refl)
gate_decides false false true true true false hint l a o h n = ap (λ (b : Bool). b && true) (o refl)
gate_decides false false true true false s hint l a o h n = absurd (true≢false (sym (h refl)))
gate_decides false false true false true true hint l a o h n = and_right (is_within l hint) false refl
gate_decides false false true false true false hint l a o h n = and_right (is_within l hint) false refl
gate_decides false false true false false true hint l a o h n = and_right (is_within l hint) false refl
gate_decides false false true false false false hint l a o h n = and_right (is_within l hint) false refl
gate_decides false false false opens d s hint l a o h n = sym (n refl)

not_false : (b : Bool) → not b ≡ false → b ≡ true
not_false true e = refl
not_false false e = absurd (true≢false e)

none_open : (f : FilterState) (lane : ℕ) (l : Level) → IsWholeFilter f → has_dynamics f ≡ false → levels_admit l (f.lanes lane) ≡ false
none_open f lane l w none = elim (cases_Bool (levels_admit l (f.lanes lane))) [
  | inl opens ↦ (
      let empty = eqb-true (length f.dynamics.directives) 0 (not_false (length f.dynamics.directives == 0) none) in
      let most = ap (λ (m : LevelFilter). is_within l m) (w.none empty) ∙ within_off l in
      absurd (true≢false (sym (open_within l f.dynamics.greatest (f.lanes lane) (w.lanes lane) opens) ∙ most)))
  | inr shut ↦ shut
]

-- the rule of the gate
pub gate_is_admitted : (f : FilterState) (lane : ℕ) (c : Callsite) → IsWholeFilter f → gate (interest_in f c) (Some (hint_in f)) (enables_in f lane c) c.level ≡ is_admitted f lane c
gate_is_admitted f lane c w =
    gate_decides (is_cared f c) (admits f.statics.directives c) (has_dynamics f) (levels_admit c.level (f.lanes lane)) (is_within c.level f.dynamics.greatest) (is_within c.level f.statics.greatest) (hint_in f) c.level
    (λ is. within_hint f c.level (within_below c.level f.statics.greatest (more_verbose f.statics.greatest f.dynamics.greatest) (admitted_within c f.statics.greatest f.statics.directives w.statics is) (first_below f.statics.greatest f.dynamics.greatest)))
    (λ is. within_hint f c.level (within_below c.level f.dynamics.greatest (more_verbose f.statics.greatest f.dynamics.greatest) (open_within c.level f.dynamics.greatest (f.lanes lane) (w.lanes lane) is) (second_below f.statics.greatest f.dynamics.greatest)))
    (λ is. open_within c.level f.dynamics.greatest (f.lanes lane) (w.lanes lane) is)
    (λ none. none_open f lane c.level w none)
