-- One attribute more.
use Rattle.std.proofs.Common.{◌≡◌, ℕ, ◌+◌, ◌<◌, Bool, true, false, cond, List, [], ◌∷◌, ◌++◌, length, take, get_or, refl, ap, ◌∙◌}
use Rattle.std.specs.List.{filter}
use Rattle.std.proofs.lemmas.List.{take_more, append-nil}
use Rattle.std.proofs.lemmas.List.Elements.{filter-append}
use Rattle.otel_base.specs.declared.value.KeyValue.{KeyValue}
use Rattle.trace_tree.specs.Busy.{nanoseconds_of, is_busy_attribute, last_nanoseconds}

latest_last : (n : ℕ) (xs : List KeyValue) (a : KeyValue) → last_nanoseconds n (xs ++ a ∷ []) ≡ nanoseconds_of a.value
latest_last n [] a = refl
latest_last n (x ∷ xs) a = latest_last (nanoseconds_of x.value) xs a

latest_by : (b : Bool) (n : ℕ) (xs : List KeyValue) (a : KeyValue) → last_nanoseconds n (xs ++ cond b (a ∷ []) []) ≡ cond b (nanoseconds_of a.value) (last_nanoseconds n xs)
latest_by true n xs a = latest_last n xs a
latest_by false n xs a = ap (last_nanoseconds n) (append-nil xs)

pub latest_more : (xs : List KeyValue) (i : ℕ) (d : KeyValue) → i < length xs
    → last_nanoseconds 0 (filter is_busy_attribute (take (i + 1) xs)) ≡ cond (is_busy_attribute (get_or xs i d)) (nanoseconds_of (get_or xs i d).value) (last_nanoseconds 0 (filter is_busy_attribute (take i xs)))
latest_more xs i d h =
    ap (λ (l : List KeyValue). last_nanoseconds 0 (filter is_busy_attribute l)) (take_more xs i d h)
    ∙ ap (last_nanoseconds 0) (filter-append is_busy_attribute (take i xs) (get_or xs i d ∷ []))
    ∙ latest_by (is_busy_attribute (get_or xs i d)) 0 (filter is_busy_attribute (take i xs)) (get_or xs i d)
