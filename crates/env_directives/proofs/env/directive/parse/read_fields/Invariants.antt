use Rattle.std.proofs.Common.{◌≡◌, List, ℕ, [], ◌++◌, length}
use Rattle.env_directives.proofs.Common.{AllByRecursion, fields_with_commas, IsFieldText, read_fields, HavePatterns}
use denote.Text.{Utf8}
use denote.Shadow.{shadow}
use Rattle.env_directives.proofs.cuts.FieldsLemmas.{after_fields}
use Rattle.env_directives.proofs.env.directive.parse.read_fields.Given as goal

abbrev pub invariant-fields : goal.invariant-fields
invariant-fields l = record {
  is_text : shadow (Utf8 l.text);
  same : read_fields l.patterns [] l.fn.text ≡ after_fields l.fields (read_fields l.patterns [] l.text);
  earlier : (done : List (List ℕ)) × AllByRecursion IsFieldText done × (l.fn.text ≡ fields_with_commas done ++ l.text);
  patterns : HavePatterns l.fields;
}

abbrev pub decreases-fields : goal.decreases-fields
decreases-fields l = length l.text
