-- What is read of a directive behind its fields leaves their patterns as they are.
use Rattle.std.proofs.Common.{◌≡◌, ℕ, Bool, true, false, List, [], ◌∷◌, ◌++◌, Some, None, Option, Ok, Err, refl, sym, subst, if◌then◌else◌, codes, ◌==◌, IfOk, IfSome, ℤ}
use Rattle.env_directives.proofs.Common.{option_or, LevelFilter, level_filter_of, pieces_at, head_alone, level_behind, level_or_target, IsDirective, HasForm, AnswersRead, DirectiveRead, at_level, read_nothing_more, read_leveled, read_level, read_level_if_any, read_close, HavePatterns, IsPatternIfAny, plain_value, truth_of, u64_of, i64_of, Shape, Directive, Match, ValueMatch, U64, I64}
use Rattle.std.specs.Option.{option_map}
use Rattle.env_directives.specs.declared.env.field.ValueMatch.TheVariants.{Bool as Truth}

-- what was read has the fields of a directive
abbrev Keeps : Directive → DirectiveRead → Type 0
Keeps d read = IfOk read (λ (x : Directive). x.fields ≡ d.fields)

keeps_last : (d : Directive) (rest : List ℕ) → Keeps d (read_nothing_more d rest)
unfolding read_nothing_more
keeps_last d [] = refl
keeps_last d (b ∷ bs) = tt

keeps_level : (d : Directive) (text : List ℕ) → Keeps d (read_level d text)
unfolding read_level
keeps_level d text = by_level (level_behind (pieces_at (codes ",") text).front) (pieces_at (codes ",") text).stop (pieces_at (codes ",") text).rest
  where
    by_level : (found : Option LevelFilter) (stop : Option ℕ) (rest : List ℕ) → Keeps d (read_leveled d found stop rest)
    by_level None stop rest = tt
    by_level (Some level) None rest = refl
    by_level (Some level) (Some stop) rest = keeps_last (at_level d level) rest

keeps_end : (d : Directive) (rest : List ℕ) → Keeps d (read_level_if_any d rest)
unfolding read_level_if_any
keeps_end d [] = refl
keeps_end d (b ∷ rest) = by_byte (b == 61)
  where
    by_byte : (c : Bool) → Keeps d (if c then read_level d rest else Err Shape)
    by_byte true = keeps_level d rest
    by_byte false = tt

keeps_close : (d : Directive) (rest : List ℕ) → Keeps d (read_close d rest)
unfolding read_close
keeps_close d [] = tt
keeps_close d (b ∷ rest) = by_byte (b == 93)
  where
    by_byte : (c : Bool) → Keeps d (if c then read_level_if_any d rest else Err Shape)
    by_byte true = keeps_end d rest
    by_byte false = tt

-- so what is answered has patterns if the directive had
answered : (d : Directive) (patterns : Bool) (P : Type 0) (r read : DirectiveRead) → HavePatterns d.fields → Keeps d read → AnswersRead (λ x. x) patterns P r read → IfOk r (λ x. HavePatterns x.fields)
answered d patterns P (Ok x) read have keeps is = let same : x.fields ≡ d.fields = subst (Keeps d) is keeps in subst HavePatterns (sym same) have
answered d patterns P (Err e) read have keeps is = tt

pub last_patterned : (d : Directive) (rest : List ℕ) (r : DirectiveRead) → HavePatterns d.fields → AnswersRead (λ x. x) false ⊥ r (read_nothing_more d rest) → IfOk r (λ x. HavePatterns x.fields)
last_patterned d rest r have is = answered d false ⊥ r (read_nothing_more d rest) have (keeps_last d rest) is

pub level_patterned : (d : Directive) (text : List ℕ) (r : DirectiveRead) → HavePatterns d.fields → AnswersRead (λ x. x) false ⊥ r (read_level d text) → IfOk r (λ x. HavePatterns x.fields)
level_patterned d text r have is = answered d false ⊥ r (read_level d text) have (keeps_level d text) is

pub end_patterned : (d : Directive) (rest : List ℕ) (r : DirectiveRead) → HavePatterns d.fields → AnswersRead (λ x. x) false ⊥ r (read_level_if_any d rest) → IfOk r (λ x. HavePatterns x.fields)
end_patterned d rest r have is = answered d false ⊥ r (read_level_if_any d rest) have (keeps_end d rest) is

pub close_patterned : (d : Directive) (rest : List ℕ) (r : DirectiveRead) → HavePatterns d.fields → AnswersRead (λ x. x) false ⊥ r (read_close d rest) → IfOk r (λ x. HavePatterns x.fields)
close_patterned d rest r have is = answered d false ⊥ r (read_close d rest) have (keeps_close d rest) is

-- a head alone has no fields
pub head_patterned : (head : List ℕ) → HavePatterns (head_alone head).fields
head_patterned head = by_level (level_filter_of head)
  where
    by_level : (found : Option LevelFilter) → HavePatterns (level_or_target head found).fields
    by_level None = tt
    by_level (Some level) = tt

-- neither is a truth value or a number
pub plain_patterned : (text : List ℕ) (value : ValueMatch) → ◌≡◌ {A = Option ValueMatch} (Some value) (plain_value text) → IsPatternIfAny value
unfolding plain_value
plain_patterned text value is = subst (λ (read : Option ValueMatch). IfSome read IsPatternIfAny) (sym is) (by_kind (truth_of text) (u64_of text) (i64_of text))
  where
    by_kind : (truth : Option Bool) (u : Option ℕ) (i : Option ℤ) → IfSome (option_or (option_map Truth truth) (option_or (option_map U64 u) (option_map I64 i))) IsPatternIfAny
    by_kind (Some truth) u i = tt
    by_kind None (Some n) i = tt
    by_kind None None (Some z) = tt
    by_kind None None None = tt

-- one field more
pub with_patterned : (fields : List Match) (field : Match) → HavePatterns fields → IfSome field.value IsPatternIfAny → HavePatterns (fields ++ field ∷ [])
with_patterned [] field all one = (one, tt)
with_patterned (f ∷ fs) field all one = (all.0, with_patterned fs field all.1 one)

-- so a form is that of a directive
pub is_directive : (patterns : Bool) (text : List ℕ) (d : Directive) → HavePatterns d.fields → HasForm patterns text d → IsDirective patterns text d
is_directive false text d have form = form
is_directive true text d have form = (form, have)

pub form_of : (patterns : Bool) (text : List ℕ) (d : Directive) → IsDirective patterns text d → HasForm patterns text d
form_of false text d is = is
form_of true text d is = is.0
