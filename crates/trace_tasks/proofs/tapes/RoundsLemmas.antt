-- Rounds are turns.
use Rattle.std.proofs.Common.{◌≡◌, ℕ, zero, suc, ◌+◌, ◌≤◌, List, [], ◌∷◌, ◌++◌, length, Option, Some, None, refl, sym, ap, ◌∙◌, arith, append_assoc, filter_map}
use Rattle.std.proofs.lemmas.List.{append-nil}
use Rattle.std.specs.Option.{option_map}
use Rattle.trace_tasks.proofs.Common.{cons_option, sum_by-cons, Callsite, Request, Step, steps_left, UnfinishedTask, polls_left, poll_count, poll_requests, after_poll, requeue, round_requests, rounds_requests, turns_requests, left_after}
use Rattle.trace_tasks.proofs.queues.QueueLemmas.{yields_none, yields_some}

module _ (sites : List Callsite) where
  one_turn : (n k : ℕ) (t : UnfinishedTask) (ts kept : List UnfinishedTask) (o : Option UnfinishedTask) → turns_requests sites (length ts + n) (k + 1) (requeue (ts ++ kept) o) ≡ round_requests sites (k + 1) ts ++ turns_requests sites n (k + 1 + length ts) (kept ++ cons_option o (filter_map after_poll ts))
      → poll_requests sites k t ++ turns_requests sites (length ts + n) (k + 1) (requeue (ts ++ kept) o) ≡ (poll_requests sites k t ++ round_requests sites (k + 1) ts) ++ turns_requests sites n (k + length (t ∷ ts)) (kept ++ cons_option o (filter_map after_poll ts))
  one_turn n k t ts kept o rest =
      let e : k + 1 + length ts ≡ k + length (t ∷ ts) = omega arith in
      ap (λ (rs : List Request). poll_requests sites k t ++ rs) (rest ∙ ap (λ (m : ℕ). round_requests sites (k + 1) ts ++ turns_requests sites n m (kept ++ cons_option o (filter_map after_poll ts))) e)
      ∙ sym (append_assoc (poll_requests sites k t) (round_requests sites (k + 1) ts) (turns_requests sites n (k + length (t ∷ ts)) (kept ++ cons_option o (filter_map after_poll ts))))

  -- the turns of some tasks, whatever waits behind them
  turns_round : (n k : ℕ) (ts kept : List UnfinishedTask) → turns_requests sites (length ts + n) k (ts ++ kept) ≡ round_requests sites k ts ++ turns_requests sites n (k + length ts) (kept ++ filter_map after_poll ts)
  turns_round n k [] kept =
      let e : 0 + n ≡ n = omega arith in
      let f : k ≡ k + 0 = omega arith in
      ap (λ (m : ℕ). turns_requests sites m k kept) e ∙ ap (λ (m : ℕ). turns_requests sites n m kept) f ∙ ap (λ (xs : List UnfinishedTask). turns_requests sites n (k + 0) xs) (sym (append-nil kept))
  turns_round n k (t ∷ ts) kept =
      let e : length (t ∷ ts) + n ≡ suc (length ts + n) = omega arith in
      ap (λ (m : ℕ). turns_requests sites m k (t ∷ (ts ++ kept))) e ∙ one_turn n k t ts kept (after_poll t) (by_left n k ts kept (λ more. turns_round n (k + 1) ts more) (after_poll t)) where
        by_left : (n k : ℕ) (ts kept : List UnfinishedTask) → ((more : List UnfinishedTask) → turns_requests sites (length ts + n) (k + 1) (ts ++ more) ≡ round_requests sites (k + 1) ts ++ turns_requests sites n (k + 1 + length ts) (more ++ filter_map after_poll ts))
            → (o : Option UnfinishedTask) → turns_requests sites (length ts + n) (k + 1) (requeue (ts ++ kept) o) ≡ round_requests sites (k + 1) ts ++ turns_requests sites n (k + 1 + length ts) (kept ++ cons_option o (filter_map after_poll ts))
        by_left n k ts kept rest None = rest kept
        by_left n k ts kept rest (Some u) =
            ap (λ (xs : List UnfinishedTask). turns_requests sites (length ts + n) (k + 1) xs) (append_assoc ts kept (u ∷ []))
            ∙ rest (kept ++ u ∷ [])
            ∙ ap (λ (xs : List UnfinishedTask). round_requests sites (k + 1) ts ++ turns_requests sites n (k + 1 + length ts) xs) (append_assoc kept (u ∷ []) (filter_map after_poll ts))

-- a round takes one poll of each task
polls_split : (ts : List UnfinishedTask) → poll_count ts ≡ length ts + poll_count (filter_map after_poll ts)
polls_split [] = refl
polls_split (t ∷ ts) = by_left (polls_split ts) (steps_left t.steps) refl where
  by_left : poll_count ts ≡ length ts + poll_count (filter_map after_poll ts) → (o : Option (List Step)) → steps_left t.steps ≡ o → poll_count (t ∷ ts) ≡ length (t ∷ ts) + poll_count (cons_option (option_map (λ steps. record t { steps = steps }) (steps_left t.steps)) (filter_map after_poll ts))
  by_left rest None is = (
      let a = sum_by-cons polls_left t ts in
      let b = yields_none t.steps is in
      let c = ap (λ (o : Option (List Step)). poll_count (cons_option (option_map (λ steps. let u : UnfinishedTask = record t { steps = steps } in u) o) (filter_map after_poll ts))) is in
      omega (arith, a, b, c, rest))
  by_left rest (Some later) is = (
      let u : UnfinishedTask = record t { steps = later } in
      let a = sum_by-cons polls_left t ts in
      let b = yields_some t.steps later is in
      let c = ap (λ (o : Option (List Step)). poll_count (cons_option (option_map (λ steps. let u : UnfinishedTask = record t { steps = steps } in u) o) (filter_map after_poll ts))) is in
      let e = sum_by-cons polls_left u (filter_map after_poll ts) in
      omega (arith, a, b, c, e, rest))

module _ (sites : List Callsite) where
  pub rounds_are_turns : (r k : ℕ) (ts : List UnfinishedTask) → poll_count ts ≤ r → rounds_requests sites r k ts ≡ turns_requests sites (poll_count ts) k ts
  rounds_are_turns zero k [] few = refl
  rounds_are_turns zero k (t ∷ ts) few = absurd (let a = polls_split (t ∷ ts) in omega (arith, a, few))
  rounds_are_turns (suc r) k [] few = rounds_are_turns r (k + 0) [] (omega arith)
  rounds_are_turns (suc r) k (t ∷ ts) few =
      let all : List UnfinishedTask = t ∷ ts in
      let later : List UnfinishedTask = filter_map after_poll all in
      let a = polls_split all in
      let less : poll_count later ≤ r = omega (arith, a, few) in
      ap (λ (rs : List Request). round_requests sites k all ++ rs) (rounds_are_turns r (k + length all) later less)
      ∙ sym (turns_round sites (poll_count later) k all [])
      ∙ ap (λ (xs : List UnfinishedTask). turns_requests sites (length all + poll_count later) k xs) (append-nil all)
      ∙ ap (λ (n : ℕ). turns_requests sites n k all) (sym a)

  turns_none : (m k : ℕ) → turns_requests sites m k [] ≡ []
  turns_none zero k = refl
  turns_none (suc m) k = refl

  -- so many turns, and then those of the tasks that are left
  pub turns_split : (n m k : ℕ) (ts : List UnfinishedTask) → turns_requests sites (n + m) k ts ≡ turns_requests sites n k ts ++ turns_requests sites m (k + n) (left_after n ts)
  turns_split zero m k ts =
      let e : 0 + m ≡ m = omega arith in
      let f : k ≡ k + 0 = omega arith in
      ap (λ (n : ℕ). turns_requests sites n k ts) e ∙ ap (λ (n : ℕ). turns_requests sites m n ts) f
  turns_split (suc n) m k [] =
      let e : suc n + m ≡ suc (n + m) = omega arith in
      ap (λ (x : ℕ). turns_requests sites x k []) e ∙ sym (turns_none m (k + suc n))
  turns_split (suc n) m k (t ∷ ts) =
      let e : suc n + m ≡ suc (n + m) = omega arith in
      let f : k + 1 + n ≡ k + suc n = omega arith in
      let rest : List UnfinishedTask = requeue ts (after_poll t) in
      ap (λ (x : ℕ). turns_requests sites x k (t ∷ ts)) e
      ∙ ap (λ (rs : List Request). poll_requests sites k t ++ rs) (turns_split n m (k + 1) rest ∙ ap (λ (x : ℕ). turns_requests sites n (k + 1) rest ++ turns_requests sites m x (left_after n rest)) f)
      ∙ sym (append_assoc (poll_requests sites k t) (turns_requests sites n (k + 1) rest) (turns_requests sites m (k + suc n) (left_after n rest)))

  -- one turn more
  pub turns_more : (n : ℕ) (ts : List UnfinishedTask) (t : UnfinishedTask) (rest : List UnfinishedTask) → left_after n ts ≡ t ∷ rest → turns_requests sites (n + 1) 0 ts ≡ turns_requests sites n 0 ts ++ poll_requests sites n t
  turns_more n ts t rest is =
      let f : 0 + n ≡ n = omega arith in
      turns_split n 1 0 ts ∙ ap (λ (xs : List UnfinishedTask). turns_requests sites n 0 ts ++ turns_requests sites 1 (0 + n) xs) is
      ∙ ap (λ (k : ℕ). turns_requests sites n 0 ts ++ (poll_requests sites k t ++ [])) f ∙ ap (λ (rs : List Request). turns_requests sites n 0 ts ++ rs) (append-nil (poll_requests sites n t))

left_none : (m : ℕ) → left_after m [] ≡ []
left_none zero = refl
left_none (suc m) = refl

left_split : (n m : ℕ) (ts : List UnfinishedTask) → left_after (n + m) ts ≡ left_after m (left_after n ts)
left_split zero m ts = (let e : 0 + m ≡ m = omega arith in ap (λ (x : ℕ). left_after x ts) e)
left_split (suc n) m [] = (let e : suc n + m ≡ suc (n + m) = omega arith in ap (λ (x : ℕ). left_after x []) e ∙ sym (left_none m))
left_split (suc n) m (t ∷ ts) = (let e : suc n + m ≡ suc (n + m) = omega arith in ap (λ (x : ℕ). left_after x (t ∷ ts)) e ∙ left_split n m (requeue ts (after_poll t)))

pub left_more : (n : ℕ) (ts : List UnfinishedTask) (t : UnfinishedTask) (rest : List UnfinishedTask) → left_after n ts ≡ t ∷ rest → left_after (n + 1) ts ≡ requeue rest (after_poll t)
left_more n ts t rest is = left_split n 1 ts ∙ ap (λ (xs : List UnfinishedTask). left_after 1 xs) is
