-- Lists of items, of which some have been read.
use Rattle.std.proofs.Common.{List, ◌++◌, Option, option_map}

-- the items that were read, in front of those that are to be read
abbrev pub with_front : {A : Type 0} → List A → Option (List A) → Option (List A)
with_front front rest = option_map (λ more. front ++ more) rest
