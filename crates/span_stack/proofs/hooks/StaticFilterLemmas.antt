-- A filter without spans takes those events that its static directives let through.
use Rattle.std.proofs.Common.{◌≡◌, ℕ, List, [], ◌∷◌, Bool, true, false, Option, refl, sym, ap, ◌∙◌, arith, inl, inr, ◌&&◌, ◌||◌}
use Rattle.std.specs.List.{list_any}
use Rattle.span_stack.proofs.Common.{cases_Bool, cond-true, cond-false, Callsite, LevelFilter, FilterState, IsNewFilter, Each, IsAtMostLevel, has_dynamics, levels_admit, enables_in}
use Rattle.std.proofs.lemmas.Bool.{true≢false, leb-true, le-leb}
use Rattle.trace_base.specs.declared.callsite.Kind.{Kind}
use Rattle.trace_base.specs.declared.callsite.Kind.TheVariants as kind
use Rattle.trace_base.specs.words.Level.{is_within, greatest_verbosity, verbosity}
use Rattle.env_directives.specs.declared.directive.StaticDirective.{StaticDirective}
use Rattle.env_directives.specs.Cares.{cares, cares_for_span, is_span}
use Rattle.env_directives.specs.orders.Choice.{admits, lets_through}

-- what they let through is within the greatest level
admitted_within : (c : Callsite) (most : LevelFilter) (ds : List StaticDirective) → Each (λ (d : StaticDirective). IsAtMostLevel most d.level) ds → admits ds c ≡ true → is_within c.level most ≡ true
admitted_within c most [] all is = absurd (true≢false (sym is))
admitted_within c most (d ∷ ds) all is = elim (cases_Bool (cares d c)) [
  | inl cared ↦ (
      let let_through : is_within c.level d.level ≡ true = sym (ap (λ (o : Option StaticDirective). lets_through c.level o) (cond-true {A = Option StaticDirective} (cares d c) _ _ cared)) ∙ is in
      let e = leb-true (verbosity c.level) (greatest_verbosity d.level) let_through in
      let less = all.0 in
      le-leb (verbosity c.level) (greatest_verbosity most) (omega (arith, e, less)))
  | inr passed ↦ admitted_within c most ds all.1 (sym (ap (λ (o : Option StaticDirective). lets_through c.level o) (cond-false {A = Option StaticDirective} (cares d c) _ _ passed)) ∙ is)
]

by_statics : (some dynamic static admitted : Bool) → (admitted ≡ true → static ≡ true) → ((some && (dynamic && (false || false))) || (static && admitted)) ≡ admitted
by_statics true true true admitted is = refl
by_statics true false true admitted is = refl
by_statics false dynamic true admitted is = refl
by_statics true true false true is = is refl
by_statics true true false false is = refl
by_statics true false false true is = is refl
by_statics true false false false is = refl
by_statics false dynamic false true is = is refl
by_statics false dynamic false false is = refl

pub statics_decide : (f : FilterState) (lane : ℕ) (c : Callsite) → IsNewFilter f → c.kind ≡ kind.Event → enables_in f lane c ≡ admits f.statics.directives c
statics_decide f lane c new event =
    let some = has_dynamics f in
    let dynamic = is_within c.level f.dynamics.greatest in
    let static = is_within c.level f.statics.greatest in
    let admitted = admits f.statics.directives c in
    let cared = list_any (λ d. cares_for_span d c) f.dynamics.directives in
    ap (λ (k : Kind). (some && (dynamic && ((is_span k && cared) || levels_admit c.level (f.lanes lane)))) || (static && admitted)) event
    ∙ ap (λ (g : FilterState). (some && (dynamic && (false || levels_admit c.level (g.lanes lane)))) || (static && admitted)) new.alone
    ∙ by_statics some dynamic static admitted (admitted_within c f.statics.greatest f.statics.directives new.whole.statics)
