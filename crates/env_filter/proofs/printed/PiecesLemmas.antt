-- One piece more is read.
use Rattle.std.proofs.Common.{◌≡◌, ℕ, zero, suc, ◌+◌, ◌<◌, ◌≤◌, List, [], ◌∷◌, ◌++◌, length, drop, get_or, Bool, refl, sym, ap, subst, ◌∙◌, arith, append_assoc, append-nil}
use Rattle.std.specs.Borrow.{Bor}
use Rattle.env_filter.proofs.Common.{Directive, comma_pieces, Ignored, texts_of, ReadsFirst, ReadsAll, ReadsText, AddsPiece}

drop_at : (ps : List (Bor (List ℕ))) (at : ℕ) (d : Bor (List ℕ)) → at < length ps → drop at (texts_of ps) ≡ (get_or ps at d).now ∷ drop (at + 1) (texts_of ps)
drop_at [] at d within = absurd (omega (arith, within))
drop_at (p ∷ ps) zero d within = refl
drop_at (p ∷ ps) (suc at) d within =
    let e : suc at + 1 ≡ suc (at + 1) = omega arith in
    drop_at ps at d (omega (arith, within)) ∙ ap (λ (n : ℕ). (get_or ps at d).now ∷ drop n (texts_of (p ∷ ps))) (sym e)

drop_past : (ps : List (Bor (List ℕ))) (at : ℕ) → length ps ≤ at → drop at (texts_of ps) ≡ []
drop_past [] zero past = refl
drop_past [] (suc at) past = refl
drop_past (p ∷ ps) zero past = absurd (omega (arith, past))
drop_past (p ∷ ps) (suc at) past = drop_past ps at (omega (arith, past))

module _ (patterns : Bool) (text : List ℕ) (ps : List (Bor (List ℕ))) where
  pub reads_first : (old : List Directive) (old_ignored : List Ignored) → old ≡ [] → old_ignored ≡ [] → texts_of ps ≡ comma_pieces text → (ds : List Directive) (is : List Ignored) → ReadsAll patterns (0 + 1) (drop 0 (texts_of ps)) ds is
      → ReadsText patterns text (old ++ ds) (old_ignored ++ is)
  reads_first old old_ignored none none_ignored same ds is r =
      subst (λ (xs : List Directive). ReadsText patterns text (xs ++ ds) (old_ignored ++ is)) (sym none)
      (subst (λ (xs : List Ignored). ReadsText patterns text ds (xs ++ is)) (sym none_ignored) (subst (λ (qs : List (List ℕ)). ReadsAll patterns 1 qs ds is) same r))

  pub reads_more : (at : ℕ) (d : Bor (List ℕ)) (old new : List Directive) (old_ignored new_ignored : List Ignored) → at < length ps → AddsPiece patterns (at + 1) (get_or ps at d).now old old_ignored new new_ignored
      → ((ds : List Directive) (is : List Ignored) → ReadsAll patterns (at + 1) (drop at (texts_of ps)) ds is → ReadsText patterns text (old ++ ds) (old_ignored ++ is))
      → (ds : List Directive) (is : List Ignored) → ReadsAll patterns (at + 1 + 1) (drop (at + 1) (texts_of ps)) ds is → ReadsText patterns text (new ++ ds) (new_ignored ++ is)
  reads_more at d old new old_ignored new_ignored within added before ds is behind =
      let one : ReadsFirst patterns (at + 1) (get_or ps at d).now (ReadsAll patterns (at + 1 + 1) (drop (at + 1) (texts_of ps))) (added.directives ++ ds) (added.ignored ++ is) =
      record { directives = added.directives; ignored = added.ignored; later = ds; later_ignored = is; reads = added.reads; behind = behind; all = refl; all_ignored = refl } in
      let all = before (added.directives ++ ds) (added.ignored ++ is) (subst (λ (qs : List (List ℕ)). ReadsAll patterns (at + 1) qs (added.directives ++ ds) (added.ignored ++ is)) (sym (drop_at ps at d within)) one) in
      let these : old ++ (added.directives ++ ds) ≡ new ++ ds = sym (append_assoc old added.directives ds) ∙ ap (λ (xs : List Directive). xs ++ ds) (sym added.added) in
      let those : old_ignored ++ (added.ignored ++ is) ≡ new_ignored ++ is = sym (append_assoc old_ignored added.ignored is) ∙ ap (λ (xs : List Ignored). xs ++ is) (sym added.added_ignored) in
      subst (λ (xs : List Directive). ReadsText patterns text xs (new_ignored ++ is)) these (subst (λ (xs : List Ignored). ReadsText patterns text (old ++ (added.directives ++ ds)) xs) those all)

  pub reads_last : (at : ℕ) (old : List Directive) (old_ignored : List Ignored) → length ps ≤ at → ((ds : List Directive) (is : List Ignored) → ReadsAll patterns (at + 1) (drop at (texts_of ps)) ds is → ReadsText patterns text (old ++ ds) (old_ignored ++ is))
      → ReadsText patterns text old old_ignored
  reads_last at old old_ignored past before =
      let all = before [] [] (subst (λ (qs : List (List ℕ)). ReadsAll patterns (at + 1) qs [] []) (sym (drop_past ps at past)) (refl, refl)) in
      subst (λ (xs : List Directive). ReadsText patterns text xs old_ignored) (append-nil old) (subst (λ (xs : List Ignored). ReadsText patterns text (old ++ []) xs) (append-nil old_ignored) all)
