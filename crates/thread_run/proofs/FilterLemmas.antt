-- A text whose pieces are directives isn't refused.
use Rattle.std.proofs.Common.{◌≡◌, ℕ, ◌+◌, List, [], ◌∷◌, ◌++◌, true, false, Ok, Err, sym, ap, subst, ◌∙◌}
use Rattle.std.specs.Prelude.{Result}
use Rattle.std.specs.Str.{trim}
use Rattle.std.proofs.lemmas.Bool.{true≢false}
use Rattle.env_directives.specs.reading.Faults.{HasFault}
use Rattle.env_directives.specs.reading.Forms.{IsDirective}
use Rattle.env_directives.specs.reading.Reading.{DirectiveRead}
use Rattle.env_directives.specs.reading.Separators.{comma_pieces}
use Rattle.env_directives.specs.declared.directive.ParseError.{ParseError}
use Rattle.env_directives.specs.declared.directive.ParseError.TheVariants as fault
use Rattle.env_directives.specs.declared.env.directive.Directive.{Directive}
use Rattle.env_directives.proofs.forms.GrammarLemmas.{directive_reads, level_told, field_told}
use Rattle.env_filter.specs.declared.pieces.Ignored.{Ignored}
use Rattle.env_filter.specs.texts.Pieces.{is_memory, ReadsPiece, ReadsAll, IsFirstFault}
use Rattle.event_gate.specs.declared.error.GateError.{GateError}
use Rattle.event_gate.specs.declared.error.GateError.TheVariants as error
use Rattle.event_gate.specs.Rules.{GivesGate}
use Rattle.thread_lines.specs.Runnable.{HasFilter}

-- what is a directive has no fault
no_fault : (text : List ℕ) (cause : ParseError) (d : Directive) → IsDirective false text d → HasFault false text cause → is_memory cause ≡ false → ⊥
no_fault text fault.Shape d is h other = h.0 d is
no_fault text fault.Level d is h other = (let no : ◌≡◌ {A = DirectiveRead} (Ok d) (Err fault.Level) = sym (directive_reads false text d is) ∙ level_told false text h in cc no)
no_fault text fault.Field d is h other = (let no : ◌≡◌ {A = DirectiveRead} (Ok d) (Err fault.Field) = sym (directive_reads false text d is) ∙ field_told false text h in cc no)
no_fault text fault.Pattern d is h other = true≢false (sym h.0)
no_fault text fault.Equals d is h other = h
no_fault text (fault.Fields many) d is h other = h
no_fault text fault.Memory d is h other = true≢false other

one_way : (n : ℕ) (piece : List ℕ) (ds es : List Directive) (i : Ignored) (is : List Ignored) → ReadsPiece false n piece ds [] → ReadsPiece false n piece es (i ∷ is) → ⊥
one_way n [] ds [] i is r q = q
one_way n [] ds (e ∷ es) i is r q = q
one_way n (b ∷ bs) [] es i is r q = r
one_way n (b ∷ bs) (d ∷ c ∷ ds) es i is r q = r
one_way n (b ∷ bs) (d ∷ []) [] i [] r q = no_fault (trim (b ∷ bs)) i.fault d r q.fault q.no_memory
one_way n (b ∷ bs) (d ∷ []) [] i (j ∷ is) r q = q
one_way n (b ∷ bs) (d ∷ []) (e ∷ []) i is r q = q
one_way n (b ∷ bs) (d ∷ []) (e ∷ f ∷ es) i is r q = q

-- pieces that are all directives have no fault
all_ways : (n : ℕ) (pieces : List (List ℕ)) (ds es : List Directive) (i : Ignored) (is : List Ignored) → ReadsAll false n pieces ds [] → ReadsAll false n pieces es (i ∷ is) → ⊥
all_ways n [] ds es i is r q = (let no = q.1 in cc no)
all_ways n (piece ∷ pieces) ds es i is r q =
    by_ignored (λ xs ys j js rx ry. all_ways (n + 1) pieces xs ys j js rx ry) r.ignored r.later_ignored r.all_ignored r.reads r.behind q.ignored q.later_ignored q.all_ignored q.reads q.behind
  where
    by_ignored : ((xs ys : List Directive) (j : Ignored) (js : List Ignored) → ReadsAll false (n + 1) pieces xs [] → ReadsAll false (n + 1) pieces ys (j ∷ js) → ⊥)
        → (a b : List Ignored) → [] ≡ a ++ b → ReadsPiece false n piece r.directives a → ReadsAll false (n + 1) pieces r.later b
        → (c d : List Ignored) → i ∷ is ≡ c ++ d → ReadsPiece false n piece q.directives c → ReadsAll false (n + 1) pieces q.later d → ⊥
    by_ignored behind (x ∷ a) b e ra rb c d f qc qd = absurd (cc e)
    by_ignored behind [] (x ∷ b) e ra rb c d f qc qd = absurd (cc e)
    by_ignored behind [] [] e ra rb (x ∷ c) d f qc qd = one_way n piece r.directives q.directives x c ra qc
    by_ignored behind [] [] e ra rb [] [] f qc qd = absurd (cc f)
    by_ignored behind [] [] e ra rb [] (x ∷ d) f qc qd = behind r.later q.later x d rb qd

pub is_read : (text : List ℕ) (piece : ℕ) (cause : ParseError) → HasFilter text → IsFirstFault false text piece cause → ⊥
is_read text piece cause has first = all_ways 1 (comma_pieces text) has.0 first.directives first.first first.others has.1 first.reads

-- the text of a script is never refused for a directive
pub never_refused : {A : Type 0} (text : List ℕ) (piece : ℕ) (why : GateError) (r : Result A GateError) → HasFilter text → GivesGate {A = A} text r → r ≡ Err why → why ≡ error.Directive piece → ⊥
never_refused {A} text piece why r has refused is of_piece =
    let told : GivesGate {A = A} text (Err why) = subst (λ (x : Result A GateError). GivesGate {A = A} text x) is refused in
    let there : GivesGate {A = A} text (Err (error.Directive piece)) = subst (λ (x : GateError). GivesGate {A = A} text (Err x)) of_piece told in
    is_read text piece there.0 has there.1
