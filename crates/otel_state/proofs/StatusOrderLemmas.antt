-- Statuses are in a total order, so the greatest of more is no less.
use Rattle.std.proofs.Common.{◌≡◌, ℕ, List, [], ◌∷◌, Bool, true, false, cond, Some, refl, sym, ap, ◌∙◌}
use Rattle.std.specs.Prelude.{fold, flat_map, if◌then◌else◌}
use Rattle.std.specs.Ordering.{ordering_reverse, is_some_and, is_le, is_lt, is_ge, ord_max, partial_ge, as_partial_cmp, nat_cmp}
use Rattle.std.specs.declared.cmp.Ordering.{Ordering}
use Rattle.std.specs.declared.cmp.Ordering.TheVariants.{Less, Equal, Greater}
use Rattle.std.specs.Cmp.{IsTotalOrder}
use Rattle.std.specs.Cmp.Lexicographic.{slice_cmp}
use Rattle.std.proofs.lemmas.Cmp.{nat_list_cmp_total, tied_itself}
use Rattle.std.proofs.lemmas.Grind.{flat_map-append}
use Rattle.std.proofs.lemmas.List.Sums.{fold-append}
use Rattle.otel_base.specs.declared.status.Status.{Status}
use Rattle.otel_base.specs.declared.status.Status.TheVariants.{Unset, Error, Ok}
use Rattle.otel_base.specs.Statuses.{status_cmp}
use Rattle.otel_state.specs.Deeds.{TimedOp, deed}
use Rattle.otel_state.specs.Statuses.{statuses_written, greatest_status, status_of}
use Rattle.otel_state.specs.Laws.{StatusNeverFalls}

-- a text for each status, in the same order
abbrev rank : Status → List ℕ
rank Unset = []
rank (Error description) = 1 ∷ description
rank Ok = 2 ∷ []

ranked : (a b : Status) → status_cmp a b ≡ slice_cmp nat_cmp (rank a) (rank b)
ranked Unset Unset = refl
ranked Unset (Error d) = refl
ranked Unset Ok = refl
ranked (Error d) Unset = refl
ranked (Error d) (Error e) = refl
ranked (Error d) Ok = refl
ranked Ok Unset = refl
ranked Ok (Error e) = refl
ranked Ok Ok = refl

-- from two answers of a total order
module _ {K : Type 0} {cmp : K → K → Ordering} (o : IsTotalOrder cmp) where
  at_most_then : (a b c : K) (first second : Ordering) → cmp a b ≡ first → cmp b c ≡ second → is_le first ≡ true → is_le second ≡ true → is_le (cmp a c) ≡ true
  at_most_then a b c Less Less one two _ _ = ap is_le (o.trans a b c one two)
  at_most_then a b c Equal second one two _ le = ap is_le (o.congr a b c one ∙ two) ∙ le
  at_most_then a b c Less Equal one two _ _ =
      ap is_le (o.antisymm a c ∙ ap ordering_reverse (o.congr c b a (o.antisymm c b ∙ ap ordering_reverse two) ∙ o.antisymm b a ∙ ap ordering_reverse one))
  at_most_then a b c Greater second one two le _ = cc
  at_most_then a b c Less Greater one two _ le = cc

  not_less : (a b : K) (answer : Ordering) → cmp b a ≡ answer → is_lt answer ≡ false → is_le (cmp a b) ≡ true
  not_less a b Less is not = cc
  not_less a b Equal is not = ap is_le (o.antisymm a b ∙ ap ordering_reverse is)
  not_less a b Greater is not = ap is_le (o.antisymm a b ∙ ap ordering_reverse is)

  -- the greater of b and another is no less than what b is no less than
  at_most_max : (a b c : K) (less : Bool) → is_lt (cmp c b) ≡ less → is_le (cmp a b) ≡ true → is_le (cmp a (if less then b else c)) ≡ true
  at_most_max a b c true is le = le
  at_most_max a b c false is le = at_most_then a b c (cmp a b) (cmp b c) refl refl le (not_less b c (cmp c b) refl is)

  at_most_greatest : (a b : K) (more : List K) → is_le (cmp a b) ≡ true → is_le (cmp a (fold (ord_max cmp) b more)) ≡ true
  at_most_greatest a b [] le = le
  at_most_greatest a b (c ∷ more) le = at_most_greatest a (ord_max cmp b c) more (at_most_max a b c (is_lt (cmp c b)) refl le)

  at_most_itself : (a : K) → is_le (cmp a a) ≡ true
  at_most_itself a = ap is_le (tied_itself o a)

status_total : IsTotalOrder status_cmp
status_total = record {
  antisymm = λ a b. ranked a b ∙ nat_list_cmp_total.antisymm (rank a) (rank b) ∙ ap ordering_reverse (sym (ranked b a));
  trans = λ a b c one two. ranked a c ∙ nat_list_cmp_total.trans (rank a) (rank b) (rank c) (sym (ranked a b) ∙ one) (sym (ranked b c) ∙ two);
  congr = λ a b c is. ranked a c ∙ nat_list_cmp_total.congr (rank a) (rank b) (rank c) (sym (ranked a b) ∙ is) ∙ sym (ranked b c);
}

pub never_falls : (ops more : List TimedOp) → StatusNeverFalls ops more
never_falls ops more =
    ap (λ (s : Status). is_le (status_cmp (status_of ops) s))
    (ap (λ (w : List Status). greatest_status Unset w) (flat_map-append (λ op. statuses_written (deed op.op)) ops more) ∙ fold-append (ord_max status_cmp) Unset (flat_map (λ op. statuses_written (deed op.op)) ops) (flat_map (λ op. statuses_written (deed op.op)) more))
    ∙ at_most_greatest status_total (status_of ops) (status_of ops) (flat_map (λ op. statuses_written (deed op.op)) more) (at_most_itself status_total (status_of ops))

-- a status that is less leaves the one before
pub less_leaves : (before s : Status) → partial_ge (as_partial_cmp status_cmp) s before ≡ false → before ≡ ord_max status_cmp before s
less_leaves before s h = by_order (status_cmp s before) h
  where
    by_order : (o : Ordering) → is_some_and is_ge (Some o) ≡ false → before ≡ cond (is_lt o) before s
    by_order Less h = refl
    by_order Equal h = cc
    by_order Greater h = cc
