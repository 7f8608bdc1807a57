use Rattle.std.proofs.Common.{◌≡◌, List, ℕ, Bor, Some, codes, sym, ◌∙◌, rules}
use Rattle.std.proofs.lemmas.Result.{err_from_is_err_and}
use Rattle.env_directives.proofs.Common.{pieces_at, IsNoPatternField, Match}
use Rattle.env_directives.proofs.cuts.FieldsLemmas.{shape_left, empty_left, text_left, last_left, more_left, earlier_more, text_shorter, answers_fault}
use Rattle.env_directives.proofs.forms.KeptPatternsLemmas.{with_patterned}
use Rattle.env_directives.proofs.env.directive.parse.read_fields.Goals as goal

pub returns-in_default-clause-is : goal.returns-in_default-clause-is
returns-in_default-clause-is c =
    shape_left c.args.patterns c.args.text.now c.fields.text.now _ _ c.fields.fields c.fields.invariant.same c.cut-pieces.ensures.front
    c.cut-pieces.ensures.rest (sym c.in_default.is ∙ c.cut-pieces.ensures.stop)

pub returns-then-is_empty-clause-is : goal.returns-then-is_empty-clause-is
returns-then-is_empty-clause-is c =
    empty_left c.args.patterns c.args.text.now c.fields.text.now _ _ c.fields.fields c.fields.invariant.same c.cut-pieces.ensures.front
    c.cut-pieces.ensures.rest c.in-Some.stop (sym c.in-Some.is ∙ c.cut-pieces.ensures.stop) (sym c.if-is_empty.true ∙ c.is_empty.ensures)

pub returns-in_err-parse-clause-is : goal.returns-in_err-parse-clause-is
returns-in_err-parse-clause-is c =
    let p = err_from_is_err_and c.from_residual.result c.from_residual.ensures.1 in
    let stopped : Some c.in-Some.stop ≡ (pieces_at (codes ",}") c.fields.text.now).stop = sym c.in-Some.is ∙ c.cut-pieces.ensures.stop in
    let parts = c.fields.invariant.earlier in
    let view : List Match × Bor (List ℕ) → List Match × List ℕ = λ r. (r.0, r.1.now) in
    rw (p.1, p.2) (answers_fault view c.args.patterns (IsNoPatternField c.cut-pieces.result.front.now) _ _ c.in_err-parse.field-0.0 c.in_err-parse.ensures.err
    (text_left c.args.patterns c.args.text.now c.fields.text.now _ _ c.fields.fields c.fields.invariant.same c.cut-pieces.ensures.front
    c.cut-pieces.ensures.rest c.in-Some.stop stopped (sym c.if-is_empty.false ∙ c.is_empty.ensures) parts.0 parts.1 parts.2))

pub returns-then-stop-eq125-clause-is : goal.returns-then-stop-eq125-clause-is
returns-then-stop-eq125-clause-is c =
    rw c.in_ok-push.ensures.ok (last_left c.args.patterns c.args.text.now c.fields.text.now _ _ c.fields.fields c.fields.invariant.same c.cut-pieces.ensures.front
    c.cut-pieces.ensures.rest c.in-Some.stop (sym c.in-Some.is ∙ c.cut-pieces.ensures.stop) (sym c.if-is_empty.false ∙ c.is_empty.ensures)
    c.in_ok-parse.field-0 c.in_ok-parse.ensures.ok c.if-stop-eq125.true)

pub returns-then-stop-eq125-clause-patterns : goal.returns-then-stop-eq125-clause-patterns
returns-then-stop-eq125-clause-patterns c =
    rw c.in_ok-push.ensures.ok (with_patterned c.fields.fields c.in_ok-parse.field-0 c.fields.invariant.patterns c.in_ok-parse.ensures.pattern)

pub fields-smaller : goal.fields-smaller
fields-smaller c =
    text_shorter c.args.patterns c.args.text.now c.fields.text.now _ _ c.fields.fields c.fields.invariant.same c.cut-pieces.ensures.front
    c.cut-pieces.ensures.rest c.in-Some.stop (sym c.in-Some.is ∙ c.cut-pieces.ensures.stop) (sym c.if-is_empty.false ∙ c.is_empty.ensures)

pub fields-preserved : goal.fields-preserved
fields-preserved c = record {
  is_text = search rules;
  same =
      rw c.in_ok-push.ensures.ok (more_left c.args.patterns c.args.text.now c.fields.text.now _ _ c.fields.fields c.fields.invariant.same c.cut-pieces.ensures.front
      c.cut-pieces.ensures.rest c.in-Some.stop (sym c.in-Some.is ∙ c.cut-pieces.ensures.stop) (sym c.if-is_empty.false ∙ c.is_empty.ensures)
      c.in_ok-parse.field-0 c.in_ok-parse.ensures.ok c.if-stop-eq125.false);
  earlier =
      earlier_more c.args.patterns c.args.text.now c.fields.text.now _ _ c.fields.fields c.fields.invariant.same c.cut-pieces.ensures.front
      c.cut-pieces.ensures.rest c.in-Some.stop (sym c.in-Some.is ∙ c.cut-pieces.ensures.stop) (sym c.if-is_empty.false ∙ c.is_empty.ensures)
      c.if-stop-eq125.false c.fields.invariant.earlier;
  patterns = rw c.in_ok-push.ensures.ok (with_patterned c.fields.fields c.in_ok-parse.field-0 c.fields.invariant.patterns c.in_ok-parse.ensures.pattern);
}
