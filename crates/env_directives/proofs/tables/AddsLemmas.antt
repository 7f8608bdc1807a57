-- Directives that are added in turn.
use Rattle.std.specs.declared.cmp.Ordering.{Ordering}
use Rattle.std.proofs.Common.{refl, sym, ◌∙◌, ap, append_assoc, append-nil, arith, ◌≡◌, List, [], ◌∷◌, ◌++◌, length}
use Rattle.env_directives.proofs.Common.{LevelFilter, DirectiveTable, with_added, with_all_added, AddsSome}

module _ {T : Type 0} (cmp : T → T → Ordering) (level : T → LevelFilter) where
  pub all_added_push : (ds : List T) (d : T) (t : DirectiveTable T)
      → with_all_added cmp level (ds ++ d ∷ []) t ≡ with_added cmp level d (with_all_added cmp level ds t)
  all_added_push [] d t = refl
  all_added_push (e ∷ ds) d t = all_added_push ds d (with_added cmp level e t)

  -- some of all the directives are added, and some are left
  pub record Adding (all : List T) (old now : DirectiveTable T) (left : List T) : Type 0 where
    pub added : List T
    pub parts : all ≡ added ++ left
    pub table : now ≡ with_all_added cmp level added old

  pub more : (all : List T) (old now : DirectiveTable T) (d : T) (left : List T) → Adding all old now (d ∷ left)
      → Adding all old (with_added cmp level d now) left
  more all old now d left a = record {
    added = a.added ++ d ∷ [];
    parts = a.parts ∙ sym (append_assoc a.added (d ∷ []) left);
    table = ap (with_added cmp level d) a.table ∙ sym (all_added_push a.added d old);
  }

  pub done : (all : List T) (old now : DirectiveTable T) (left : List T) → length left ≡ 0 → Adding all old now left → now ≡ with_all_added cmp level all old
  done all old now [] none a = a.table ∙ ap (λ ds. with_all_added cmp level ds old) (sym (a.parts ∙ append-nil a.added))
  done all old now (d ∷ left) none a = absurd (omega arith)

  pub refused : (all : List T) (old now : DirectiveTable T) (d : T) (left : List T) → Adding all old now (d ∷ left)
      → AddsSome cmp level all old now
  refused all old now d left a = record { added = a.added; refused = d; others = left; all = a.parts; table = a.table }
