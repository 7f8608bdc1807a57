-- What a compiled pattern finds is what its text says.
use Rattle.std.proofs.Common.{◌≡◌, ℕ, ◌<◌, List, Bool, false, Option, Some, None, get_or, is_some, refl, ap, sym, ◌∙◌, subst, chars}
use Rattle.env_directives.proofs.Common.{option_map_or, Reads, Re, Config, default_config, find_str, regex_pattern, regex_source, regex_config, IsReadFromSource, Regex, whole_pattern, IsCompiled, is_matched}
use Rattle.std.specs.Option.{IsSomeAnd}
use Rattle.regex.proofs.OnLiterals.{IsReadAs, is_match_as_written, same_refl}
use Rattle.regex_syntax.specs.Grammar.{read}
use Rattle.regex_syntax.specs.Same.{SameTree}

-- what stands in an option of which something holds, and that it does
pick : {X : Type 0} (o : Option X) (P : X → Type 0) → IsSomeAnd o P → (Q : Re → X → Type 0) (value : X → Re) (same : (x : X) → Q (value x) x) →
    (re : Re) × IsSomeAnd o (Q re) × IsSomeAnd o (λ x. value x ≡ re)
pick None P p Q value same = absurd p
pick (Some x) P p Q value same = (value x, same x, refl)

-- a text that was read is read as some tree
as_tree : (r : Regex) → IsReadFromSource r →
    (re : Re) × IsReadAs (regex_config r) (regex_source r) re × IsSomeAnd (read (regex_config r) (chars (regex_source r))) (λ found. found.0.value ≡ re)
unfolding Reads
as_tree r is_read = pick (read (regex_config r) (chars (regex_source r))) _ is_read (λ re found. SameTree found.0.value re) (λ x. x.0.value) (λ x. same_refl x.0.value)

-- what is told of what stands in an option
told : {X : Type 0} (o : Option X) (value : X → Re) (re : Re) (tell : Re → Bool) → IsSomeAnd o (λ x. value x ≡ re) → tell re ≡ option_map_or (λ x. tell (value x)) o false
told None value re tell p = absurd p
told (Some x) value re tell p = ap tell (sym p)

pub found_as_matched : (pattern text : List ℕ) (r : Regex) → ((k : ℕ) → get_or text k 0 < 256) → IsCompiled pattern r →
    is_some (find_str (regex_pattern r) text 0) ≡ is_matched pattern text
unfolding is_matched
found_as_matched pattern text r bytes compiled =
    let tree = as_tree r compiled.read in
    let written : IsReadAs default_config (whole_pattern pattern) tree.0 =
    subst (λ (config : Config). IsReadAs config (whole_pattern pattern) tree.0) compiled.config
    (subst (λ (source : List ℕ). IsReadAs (regex_config r) source tree.0) compiled.source tree.1) in
    let is_tree : IsSomeAnd (read default_config (chars (whole_pattern pattern))) (λ found. found.0.value ≡ tree.0) =
    subst (λ (config : Config). IsSomeAnd (read config (chars (whole_pattern pattern))) (λ found. found.0.value ≡ tree.0)) compiled.config
    (subst (λ (source : List ℕ). IsSomeAnd (read (regex_config r) (chars source)) (λ found. found.0.value ≡ tree.0)) compiled.source tree.2) in
    is_match_as_written r (whole_pattern pattern) tree.0 compiled.source compiled.config compiled.read written text bytes 0
    ∙ told (read default_config (chars (whole_pattern pattern))) (λ x. x.0.value) tree.0 (λ re. is_some (find_str re text 0)) is_tree
