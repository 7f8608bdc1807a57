-- Each step keeps the rule over the queue.
use Rattle.std.proofs.Common.{◌==◌, cond, eq-eqb, ne_eqb, ◌≡◌, ◌≢◌, ℕ, zero, suc, ◌+◌, ◌-◌, ◌<◌, ◌≤◌, List, [], ◌∷◌, ◌++◌, length, set, sym, refl, ap, ◌∙◌, subst, ⊎_elim, arith, get_or}
use mathlib.Core.Option.{some, some-ne-none}
use mathlib.Core.Logic.{◌⊎◌, inl, inr}
use lib.ListN.{get_elem?}
use Rattle.std.specs.Prelude.{⊤}
use Rattle.crossbeam_queue.specs.Fifo.{Pushes, Pops, Forks, Merges, Learns}
use Rattle.crossbeam_queue.proofs.Lists.{at_set, at_snoc}
use Rattle.trace_batch.specs.declared.item.Sent.{Sent}
use Rattle.trace_batch.specs.declared.queue.View.{View}
use Rattle.trace_batch.specs.declared.queue.View.TheVariants.{Nobody, Sender, Writer}
use Rattle.trace_batch.specs.Merges.{of_lane}
use Rattle.trace_batch.specs.Rule.{sender_view, writer_view, known_at, ViewFits, KeepsRule, one_more, next_sender, one_fewer, put_into, took_out, KnowsEndedLanes}
use Rattle.trace_batch.proofs.Lanes.{of_more_own, of_more_other, of_moved}

at_end : (l : List View) (a b : View) (j : ℕ) → get_elem? l j ≢ some b → get_elem? (l ++ a ∷ []) j ≡ some b → j ≡ length l
at_end [] a b zero n e = refl
at_end [] a b (suc j) n e = absurd (some-ne-none b (sym e))
at_end (x ∷ xs) a b zero n e = absurd (n e)
at_end (x ∷ xs) a b (suc j) n e = ap suc (at_end xs a b j n e)

-- which of the two an added view is
added : (l : List View) (a b : View) (j : ℕ) → get_elem? (l ++ a ∷ []) j ≡ some b → (get_elem? l j ≡ some b) ⊎ ((j ≡ length l) × (a ≡ b))
added [] a b zero e = inr (refl, ⊎_elim (λ (x : get_elem? [] 0 ≡ some b). absurd (some-ne-none b (sym x))) (λ x. x) (at_snoc [] a b 0 e))
added [] a b (suc j) e = absurd (some-ne-none b (sym e))
added (x ∷ xs) a b zero e = inl e
added (x ∷ xs) a b (suc j) e = ⊎_elim (λ h. inl h) (λ (h : (j ≡ length xs) × (a ≡ b)). inr (ap suc h.0, h.1)) (added xs a b j e)

abbrev All : (ℕ → View → Type 0) → List View → Type 0
All F views = (port : ℕ) (v : View) → get_elem? views port ≡ some v → F port v

all_set : (F : ℕ → View → Type 0) (views : List View) (port : ℕ) (w : View) → F port w → ((j : ℕ) (u : View) → j ≢ port → get_elem? views j ≡ some u → F j u) → All F (set views port w)
all_set F views port w mine others j u e = ⊎_elim (λ (x : (j ≡ port) × (w ≡ u)). subst (λ (y : ℕ × View). F y.0 y.1) (λ i. (sym x.0 i, x.1 i)) mine)
    (λ (x : (j ≢ port) × (get_elem? views j ≡ some u)). others j u x.0 x.1) (at_set views port j w u e)

pub begins : KeepsRule [] (writer_view 0 [] [] ∷ [])
begins = record {
  reader = 0;
  pass = λ l. 0;
  lanes = 0;
  known = [];
  got = [];
  ended = λ l h. refl;
  each = all_set (ViewFits [] 0 (λ l. 0) 0 [] []) (writer_view 0 [] [] ∷ []) 0 (writer_view 0 [] []) (refl, refl, refl, refl) (λ j u other e. absurd (other (at_end [] _ u j (λ x. some-ne-none u (sym x)) e)));
}

-- ---- a sender puts an item in

puts_beside : (items : List Sent) (x : Sent) (reader : ℕ) (pass : ℕ → ℕ) (lanes : ℕ) (known : List (List Sent)) (got : List Sent) (port : ℕ) → pass x.lane ≡ port
    → (j : ℕ) (u : View) → j ≢ port → ViewFits items reader pass lanes known got j u → ViewFits (items ++ x ∷ []) reader pass lanes known got j u
puts_beside items x reader pass lanes known got port is j Nobody other f = tt
puts_beside items x reader pass lanes known got port is j (Sender l p) other f =
    (f.0, f.1, f.2 ∙ sym (of_more_other l got items x (λ e. other (sym f.1 ∙ ap pass (sym e) ∙ is))))
puts_beside items x reader pass lanes known got port is j (Writer n k g) other f = f

puts_at : (lane : ℕ) (put : List Sent) (n port : ℕ) (x : Sent) → x.lane ≡ lane → Pushes KeepsRule n port (sender_view lane put) x (λ w. w ≡ sender_view lane (put ++ x ∷ []))
puts_at lane put n port x is items views room r at =
    let mine = r.each port (sender_view lane put) at in (
      sender_view lane (put ++ x ∷ []),
      record {
        reader = r.reader;
        pass = r.pass;
        lanes = r.lanes;
        known = r.known;
        got = r.got;
        ended = λ l past. of_more_other l r.got items x (λ e. let m = mine.0 in omega arith) ∙ r.ended l past;
        each =
            all_set (ViewFits (items ++ x ∷ []) r.reader r.pass r.lanes r.known r.got) views port (sender_view lane (put ++ x ∷ []))
            (mine.0, mine.1, ap (λ (l : List Sent). l ++ x ∷ []) mine.2 ∙ sym (of_more_own lane r.got items x is))
            (λ j u other e. puts_beside items x r.reader r.pass r.lanes r.known r.got port (ap r.pass is ∙ mine.1) j u other (r.each j u e));
      },
      refl,
    )

pub puts : (n port : ℕ) (v : View) (lane : ℕ) (put : List Sent) (x : Sent) → v ≡ sender_view lane put → x.lane ≡ lane → Pushes KeepsRule n port v x (λ w. w ≡ put_into v x)
puts n port v lane put x e is = subst (λ (u : View). Pushes KeepsRule n port u x (λ w. w ≡ put_into u x)) (sym e) (puts_at lane put n port x is)

pub nothing : (port : ℕ) (v : View) → Learns KeepsRule port v (λ items. ⊤)
nothing port v items views r at = tt

-- ---- the writer takes an item out

takes_beside : (items : List Sent) (x : Sent) (reader : ℕ) (pass : ℕ → ℕ) (lanes : ℕ) (known : List (List Sent)) (got : List Sent)
    → (j : ℕ) (u : View) → j ≢ reader → ViewFits (x ∷ items) reader pass lanes known got j u → ViewFits items reader pass lanes known (got ++ x ∷ []) j u
takes_beside items x reader pass lanes known got j Nobody other f = tt
takes_beside items x reader pass lanes known got j (Sender l p) other f = (f.0, f.1, f.2 ∙ sym (of_moved l got items x))
takes_beside items x reader pass lanes known got j (Writer n k g) other f = absurd (other f.0)

takes_at : (lanes : ℕ) (known : List (List Sent)) (got : List Sent) (port : ℕ) → Pops KeepsRule port (writer_view lanes known got) (λ x w. w ≡ writer_view lanes known (got ++ x ∷ []))
takes_at lanes known got port x items views r at =
    let mine = r.each port (writer_view lanes known got) at in (
      writer_view lanes known (got ++ x ∷ []),
      record {
        reader = r.reader;
        pass = r.pass;
        lanes = r.lanes;
        known = r.known;
        got = r.got ++ x ∷ [];
        ended = λ l past. of_moved l r.got items x ∙ r.ended l past;
        each =
            all_set (ViewFits items r.reader r.pass r.lanes r.known (r.got ++ x ∷ [])) views port (writer_view lanes known (got ++ x ∷ []))
            (mine.0, mine.1, mine.2, ap (λ (l : List Sent). l ++ x ∷ []) mine.3)
            (λ j u other e. takes_beside items x r.reader r.pass r.lanes r.known r.got j u (λ h. other (h ∙ sym mine.0)) (r.each j u e));
      },
      refl,
    )

pub takes : (port : ℕ) (v : View) (lanes : ℕ) (known : List (List Sent)) (got : List Sent) → v ≡ writer_view lanes known got → Pops KeepsRule port v (λ x w. w ≡ took_out v x)
takes port v lanes known got e = subst (λ (u : View). Pops KeepsRule port u (λ x w. w ≡ took_out u x)) (sym e) (takes_at lanes known got port)

learns_at : (lanes : ℕ) (known : List (List Sent)) (got : List Sent) (port : ℕ) → Learns KeepsRule port (writer_view lanes known got) (KnowsEndedLanes (writer_view lanes known got))
learns_at lanes known got port items views r at l past =
    let mine = r.each port (writer_view lanes known got) at in
    let past' : r.lanes ≤ l = let m = mine.1 in omega arith in
    ap (λ (g : List Sent). of_lane l (g ++ items)) mine.3 ∙ r.ended l past' ∙ ap (λ (p : ℕ × List (List Sent)). known_at p.0 p.1 l) (λ i. (sym mine.1 i, sym mine.2 i))

pub learns : (port : ℕ) (v : View) (lanes : ℕ) (known : List (List Sent)) (got : List Sent) → v ≡ writer_view lanes known got → Learns KeepsRule port v (KnowsEndedLanes v)
learns port v lanes known got e = subst (λ (u : View). Learns KeepsRule port u (KnowsEndedLanes u)) (sym e) (learns_at lanes known got port)

-- ---- the writer makes a pass for the next lane's sender

abbrev seat_next : (ℕ → ℕ) → ℕ → ℕ → ℕ → ℕ
seat_next pass lanes new l = cond (l == lanes) new (pass l)

seat_new : (pass : ℕ → ℕ) (lanes new : ℕ) → seat_next pass lanes new lanes ≡ new
seat_new pass lanes new = ap (λ b. cond b new (pass lanes)) (eq-eqb lanes lanes refl)

seat_old : (pass : ℕ → ℕ) (lanes new l : ℕ) → l < lanes → seat_next pass lanes new l ≡ pass l
seat_old pass lanes new l less = ap (λ b. cond b new (pass l)) (ne_eqb l lanes (λ e. omega arith))

forks_beside : (items : List Sent) (reader : ℕ) (pass : ℕ → ℕ) (lanes new : ℕ) (known : List (List Sent)) (got : List Sent) (j : ℕ) (u : View) → j ≢ reader
    → ViewFits items reader pass lanes known got j u → ViewFits items reader (seat_next pass lanes new) (lanes + 1) [] got j u
forks_beside items reader pass lanes new known got j Nobody other f = tt
forks_beside items reader pass lanes new known got j (Sender l p) other f = ((let h = f.0 in omega arith), seat_old pass lanes new l f.0 ∙ f.1, f.2)
forks_beside items reader pass lanes new known got j (Writer n k g) other f = absurd (other f.0)

forks_at : (lanes : ℕ) (got : List Sent) (port : ℕ) → Forks KeepsRule port (writer_view lanes [] got) (writer_view (lanes + 1) [] got) (sender_view lanes [])
forks_at lanes got port items views r at =
    let mine = r.each port (writer_view lanes [] got) at in
    let left : View = writer_view (lanes + 1) [] got in
    let new : ℕ = length (set views port left) in
    let F : ℕ → View → Type 0 = ViewFits items r.reader (seat_next r.pass r.lanes new) (r.lanes + 1) [] r.got in
    let old : All F (set views port left) =
    all_set F views port left (mine.0, ap (λ n. n + 1) mine.1, refl, mine.3)
    (λ j u other e. forks_beside items r.reader r.pass r.lanes new r.known r.got j u (λ h. other (h ∙ sym mine.0)) (r.each j u e)) in
    let fresh : F new (sender_view lanes []) = (
      (let h = mine.1 in omega arith),
      ap (seat_next r.pass r.lanes new) mine.1 ∙ seat_new r.pass r.lanes new,
      ap (λ (k : List (List Sent)). known_at r.lanes k lanes) mine.2 ∙ sym (r.ended lanes (let h = mine.1 in omega arith)),
    ) in
    record {
      reader = r.reader;
      pass = seat_next r.pass r.lanes new;
      lanes = r.lanes + 1;
      known = [];
      got = r.got;
      ended = λ l past. r.ended l (omega arith) ∙ ap (λ (k : List (List Sent)). known_at r.lanes k l) (sym mine.2);
      each = λ j u e. ⊎_elim (λ h. old j u h)
          (λ (h : (j ≡ new) × (sender_view lanes [] ≡ u)). subst (λ (y : ℕ × View). F y.0 y.1) (λ i. (sym h.0 i, h.1 i)) fresh)
          (added (set views port left) (sender_view lanes []) u j e);
    }

pub forks : (port : ℕ) (v : View) (lanes : ℕ) (got : List Sent) → v ≡ writer_view lanes [] got → Forks KeepsRule port v (one_more v) (next_sender v)
forks port v lanes got e = subst (λ (u : View). Forks KeepsRule port u (one_more u) (next_sender u)) (sym e) (forks_at lanes got port)

-- ---- the writer takes in the pass of the last lane's sender

known_next : (lane : ℕ) (put : List Sent) (known : List (List Sent)) (f : ℕ → List Sent) → f lane ≡ put → ((l : ℕ) → lane + 1 ≤ l → f l ≡ known_at (lane + 1) known l)
    → (d l : ℕ) → l - lane ≡ d → lane ≤ l → f l ≡ get_or (put ∷ known) d []
known_next lane put known f own past zero l is h = (let e : l ≡ lane = omega arith in ap f e) ∙ own
known_next lane put known f own past (suc d) l is h = past l (omega arith) ∙ (let e : l - (lane + 1) ≡ d = omega arith in ap (λ n. get_or known n []) e)

merges_beside : (items : List Sent) (reader : ℕ) (pass : ℕ → ℕ) (lane lanes other : ℕ) (put : List Sent) (known : List (List Sent)) (got : List Sent) (j : ℕ) (u : View)
    → j ≢ reader → j ≢ other → lanes ≡ lane + 1 → pass lane ≡ other → ViewFits items reader pass lanes known got j u → ViewFits items reader pass lane (put ∷ known) got j u
merges_beside items reader pass lane lanes other put known got j Nobody apart beside is at f = tt
merges_beside items reader pass lane lanes other put known got j (Sender l p) apart beside is at f =
    ((let n : l ≢ lane = λ e. beside (sym f.1 ∙ ap pass e ∙ at) in let h = f.0 in omega arith), f.1, f.2)
merges_beside items reader pass lane lanes other put known got j (Writer n k g) apart beside is at f = absurd (apart f.0)

merges_at : (lane : ℕ) (known : List (List Sent)) (got put : List Sent) (port other : ℕ) → Merges KeepsRule port (writer_view (lane + 1) known got) other (sender_view lane put) (writer_view lane (put ∷ known) got) Nobody
merges_at lane known got put port other items views r at two at' =
    let mine = r.each port (writer_view (lane + 1) known got) at in
    let both : View = writer_view lane (put ∷ known) got in
    let was : get_elem? views other ≡ some (sender_view lane put) = ⊎_elim (λ (x : (other ≡ port) × (both ≡ sender_view lane put)). absurd (two x.0)) (λ x. x.1) (at_set views port other both (sender_view lane put) at') in
    let theirs = r.each other (sender_view lane put) was in
    let F : ℕ → View → Type 0 = ViewFits items r.reader r.pass lane (put ∷ r.known) r.got in
    let Now : ℕ → View → Type 0 = λ j u. j ≢ other → F j u in
    let now : All Now (set views port both) =
    all_set Now views port both (λ _. (mine.0, refl, ap (λ (k : List (List Sent)). put ∷ k) mine.2, mine.3))
    (λ j u apart e beside. merges_beside items r.reader r.pass lane r.lanes other put r.known r.got j u (λ h. apart (h ∙ sym mine.0)) beside (sym mine.1) theirs.1 (r.each j u e)) in
    record {
      reader = r.reader;
      pass = r.pass;
      lanes = lane;
      known = put ∷ r.known;
      got = r.got;
      ended = λ l past. known_next lane put r.known (λ n. of_lane n (r.got ++ items)) (sym theirs.2)
          (λ n h. r.ended n (let e = mine.1 in omega arith) ∙ ap (λ m. known_at m r.known n) (sym mine.1)) (l - lane) l refl past;
      each = all_set F (set views port both) other Nobody tt (λ j u apart e. now j u e apart);
    }

pub merges : (port : ℕ) (v : View) (other : ℕ) (u : View) (lane : ℕ) (known : List (List Sent)) (got put : List Sent) → v ≡ writer_view (lane + 1) known got → u ≡ sender_view lane put
    → Merges KeepsRule port v other u (one_fewer v u) Nobody
merges port v other u lane known got put e e' = subst (λ (p : View × View). Merges KeepsRule port p.0 other p.1 (one_fewer p.0 p.1) Nobody) (λ i. (sym e i, sym e' i)) (merges_at lane known got put port other)
