-- The releases of all workers, joined one after another.
use Rattle.std.proofs.Common.{◌≡◌, ℕ, ◌+◌, List, [], ◌∷◌, length, ap, sym, ◌∙◌, subst, arith, append-nil}
use mathlib.Core.List.{IsPrefix}
use Rattle.atomic_table.specs.Seated.{TableId}
use Rattle.trace_threads.specs.declared.making.Making.{Making}
use Rattle.trace_threads.specs.declared.history.Entry.{Entry}
use Rattle.trace_threads.specs.declared.handle.Released.{Released}
use Rattle.trace_threads.specs.History.{IsLegal}
use Rattle.trace_threads.specs.Turns.{entries}
use Rattle.trace_threads.specs.Handles.{SharedHandle}
use Rattle.thread_script.specs.Asks.{Ask, clone_entries}
use Rattle.thread_handles.specs.Works.{IsLeft}
use Rattle.thread_handles.specs.Shares.{IsShared}
use Rattle.thread_handles.specs.Gathers.{IsMet, GathersReleases, MetAll}
use Rattle.thread_handles.proofs.GatheredLemmas.{gathered_more}

-- ---- the releases of all workers

abbrev pub LeftFrom : TableId → Making → (ℕ → List Ask) → ℕ → List Released → Type 0
LeftFrom t making parts n [] = Unit {0}
LeftFrom t making parts n (o ∷ os) = IsLeft (n + 1) (parts n) t making o × LeftFrom t making parts (n + 1) os

met_one : (t : TableId) (making : Making) (count n : ℕ) (parts : ℕ → List Ask) (r o m : Released) → GathersReleases t making count n parts r → IsLeft (n + 1) (parts n) t making o → IsMet r o m → GathersReleases t making count (n + 1) parts m
met_one t making count n parts r o m g left met =
    gathered_more t making count n parts r o m g left (met.span ∙ g.span) (met.origin ∙ g.origin) (subst (λ (x : Making). IsLegal x.made_at (entries m.pass.view.seen)) g.origin met.legal) met.ours met.theirs met.closed

-- the release of the first handle and those of all workers, joined one after another
pub met_all : (t : TableId) (making : Making) (count n k : ℕ) (parts : ℕ → List Ask) (os : List Released) (r u : Released) → k ≡ n + length os → GathersReleases t making count n parts r → LeftFrom t making parts n os → MetAll r os u → GathersReleases t making count k parts u
met_all t making count n k parts [] r u e g left met =
    let same : n ≡ k = omega (arith, e) in
    subst (GathersReleases t making count k parts) (sym met) (subst (λ (j : ℕ). GathersReleases t making count j parts r) same g)
met_all t making count n k parts (o ∷ os) r u e g left met =
    met_all t making count (n + 1) k parts os met.0 u (omega (arith, e)) (met_one t making count n parts r o met.0 g left.0 met.1) left.1 met.2

-- at the beginning there is the release of the first handle alone
pub gathered_first : (h : SharedHandle) (hs : List SharedHandle) (r : Released) (count : ℕ) (parts : ℕ → List Ask) → length hs ≡ count → IsShared h hs r → GathersReleases h.span h.view.origin count 0 parts r
gathered_first h hs r count parts e s = record {
  span = s.span;
  origin = s.origin;
  legal = s.legal;
  longest = entries r.pass.view.seen;
  within = ([], append-nil (entries r.pass.view.seen));
  begins = subst (λ (l : List Entry). IsPrefix (clone_entries h.view.origin.made_at count) l) (sym (s.log ∙ ap (clone_entries h.view.origin.made_at) e)) ([], append-nil (clone_entries h.view.origin.made_at count));
  closed = s.closed;
  each = λ w low. absurd (omega (arith, low));
}
