-- Taking an entry of a map, beside taking the member of its object.
use Rattle.trace_lines.proofs.Common.{Bool, Entry, Equal, Global, Greater, Less, List, Members, None, Option, Ordering, Some, String, [], ap, arith, cond, get_member, is_at, is_eq, length, match_ordering, member, members_of, members_view, nat_cmp, no_more, option_map, refl, slice_cmp, string_bytes, view, view-lookup, without_member, ℕ, ◌∙◌, ◌∷◌, ◌≡◌}
use Rattle.std.specs.Map.{remove_entry, lookup}
use Rattle.serde_json.specs.declared.value.Value.{Value}
use Rattle.trace_lines.proofs.readings.CompactLemmas.{Entry as Flat}

-- whether a key is the name
abbrev pub is_name : List ℕ → String Global → Bool
is_name name = is_at (λ k. slice_cmp nat_cmp name (string_bytes k))

removed_at : (o : Ordering) (e : Entry) (es less : List Entry) (ms : Members) → members_view less ≡ ms
    → members_view (cond (is_eq o) es (e ∷ less)) ≡ match_ordering o (member (string_bytes e.0) (view e.1) ms) (members_view es) (member (string_bytes e.0) (view e.1) ms)
removed_at Less e es less ms is = ap (member (string_bytes e.0) (view e.1)) is
removed_at Equal e es less ms is = refl
removed_at Greater e es less ms is = ap (member (string_bytes e.0) (view e.1)) is

removed : (name : List ℕ) (es : List Entry) → members_view (remove_entry (is_name name) es) ≡ without_member name (members_view es)
removed name [] = refl
removed name (e ∷ es) = removed_at (slice_cmp nat_cmp name (string_bytes e.0)) e es _ _ (removed name es)

-- what a removal gives is the member
pub found : (name : List ℕ) (es : List Entry) (result : Option Value) → result ≡ lookup (is_name name) es → option_map view result ≡ get_member name (members_view es)
found name es result is = ap (option_map view) is ∙ view-lookup name es

-- and what it leaves are the other members
pub kept : (name : List ℕ) (es after : List Entry) → after ≡ remove_entry (is_name name) es → members_view after ≡ without_member name (members_view es)
kept name es after is = ap members_view is ∙ removed name es

pub nothing_left : (es : List Entry) → length es ≡ 0 → no_more (members_view es) ≡ Some tt
nothing_left [] none = refl
nothing_left (e ∷ es) none = absurd (omega arith)

pub something_left : (es : List Entry) → (length es ≡ 0 → ⊥) → no_more (members_view es) ≡ None
something_left [] some = absurd (some refl)
something_left (e ∷ es) some = refl

pub no_entry_left : (es : List Flat) → length es ≡ 0 → no_more (members_of es) ≡ Some tt
no_entry_left [] none = refl
no_entry_left (e ∷ es) none = absurd (omega arith)

pub some_entry_left : (es : List Flat) → (length es ≡ 0 → ⊥) → no_more (members_of es) ≡ None
some_entry_left [] some = absurd (some refl)
some_entry_left (e ∷ es) some = refl
