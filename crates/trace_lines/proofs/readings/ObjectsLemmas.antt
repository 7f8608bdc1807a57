-- Values of JSON and what they are made of: arrays, and a record's lane.
use Rattle.trace_lines.proofs.Common.{Data, List, None, Option, Some, [], ap, array, array_of, by_name, item, items, items_of, items_view, lane_members, map, refl, view, with_lane, ℕ, ◌++◌, ◌∙◌, ◌∷◌, ◌≡◌}
use Rattle.serde_json.specs.declared.value.Value.{Value}

items_of_map : {A : Type 0} → (f : A → Data) (xs : List A) → items_of (map f xs) ≡ items f xs
items_of_map f [] = refl
items_of_map f (x ∷ xs) = ap (item (f x)) (items_of_map f xs)

pub array_of_values : {A : Type 0} → (f : A → Data) (xs : List A) (vs : List Value) → map view vs ≡ map f xs → array (items_view vs) ≡ array_of f xs
array_of_values f xs vs e = ap array (ap items_of e ∙ items_of_map f xs)

pub lane_first : (lane : Option ℕ) (ms : List (List ℕ × Data)) → with_lane lane (by_name ms) ≡ by_name (lane_members lane ++ ms)
lane_first None ms = refl
lane_first (Some lane) ms = refl
