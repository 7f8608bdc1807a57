-- What the writer has of the lanes, after each of its steps.
use Rattle.std.proofs.Common.{◌≡◌, ◌≢◌, ℕ, zero, suc, ◌+◌, ◌-◌, ◌≤◌, List, [], ◌∷◌, ◌++◌, map, take, drop, get_or, refl, ap, sym, subst, ◌∙◌, arith, Vec, Global}
use Rattle.std.specs.Prelude.{false, Result, Ok, Err, IfOk}
use Rattle.std.proofs.lemmas.List.{append-nil}
use Rattle.crossbeam_queue.specs.Passes.{view}
use Rattle.trace_batch.specs.declared.item.Item.{Item}
use Rattle.trace_batch.specs.declared.item.Sent.{Sent}
use Rattle.trace_batch.specs.declared.writer.Writer.{Writer}
use Rattle.trace_batch.specs.Merges.{sent_of, of_lane, items_with_texts, IsMerge}
use Rattle.trace_batch.specs.Rule.{writer_view, lane_count_of, KnowsEndedLanes}
use Rattle.trace_batch.specs.Serving.{HasServed, Serving}
use Rattle.trace_batch.proofs.Lanes.{of_append}
use Rattle.trace_batch.proofs.Texts.{sent_all, AllOf, of_own_texts, of_other_texts, all_drop}

module _ {F : Type 0} (text : F → ℕ → ℕ → List ℕ) where
  module _ (lists : List (List (Item F))) (lane sent : ℕ) (list : List (Item F)) (known : List (List Sent)) (got : List Sent) (w v : Writer) (is : list ≡ get_or lists lane []) (own : AllOf lane list)
      (k : HasServed text lists (lane + 1) known got w) (taken : v.taken ≡ w.taken) (late : v.late ≡ w.late ++ map (sent_of text) (drop sent list)) where
    late_of : (l : ℕ) → of_lane l v.late ≡ of_lane l w.late ++ of_lane l (map (sent_of text) (drop sent list))
    late_of l = ap (of_lane l) late ∙ of_append l w.late (map (sent_of text) (drop sent list))

    late_own : of_lane lane v.late ≡ map (sent_of text) (drop sent list)
    late_own =
        late_of lane ∙ ap (λ (ys : List Sent). ys ++ of_lane lane (map (sent_of text) (drop sent list))) (k.others lane (omega arith))
        ∙ of_own_texts text lane (drop sent list) (all_drop lane sent list own)

    late_other : (l : ℕ) → lane ≢ l → of_lane l v.late ≡ of_lane l w.late
    late_other l n =
        late_of l ∙ ap (λ (ys : List Sent). of_lane l w.late ++ ys) (of_other_texts text lane l (drop sent list) n (all_drop lane sent list own)) ∙ append-nil (of_lane l w.late)

    late_at : (d l : ℕ) → l - lane ≡ d → lane ≤ l → get_or (map (sent_of text) (take sent list) ∷ known) d [] ++ of_lane l v.late ≡ items_with_texts text lists l
    late_at zero l e h =
        let same : l ≡ lane = omega arith in
        ap (λ (m : ℕ). map (sent_of text) (take sent list) ++ of_lane m v.late) same
        ∙ ap (λ (ys : List Sent). map (sent_of text) (take sent list) ++ ys) late_own
        ∙ sent_all text list sent
        ∙ ap (map (sent_of text)) (is ∙ ap (λ (m : ℕ). get_or lists m []) (sym same))
    late_at (suc d) l e h =
        let n : lane ≢ l = λ q. omega arith in
        let at : d ≡ l - (lane + 1) = omega arith in
        ap (λ (ys : List Sent). get_or known d [] ++ ys) (late_other l n)
        ∙ ap (λ (m : ℕ). get_or known m [] ++ of_lane l w.late) at
        ∙ k.late l (omega arith)

    pub served_settled : HasServed text lists lane (map (sent_of text) (take sent list) ∷ known) got v
    served_settled = record {
      taken = taken ∙ k.taken;
      late = λ l past. late_at (l - lane) l refl past;
      others = λ l less. late_other l (λ e. omega arith) ∙ k.others l (omega arith);
    }

  pub merged : (lists : List (List (Item F))) (known : List (List Sent)) (got out : List Sent) (w : Writer) → HasServed text lists 0 known got w → KnowsEndedLanes (writer_view 0 known got) [] → out ≡ w.taken ++ w.late
      → IsMerge text lists out
  merged lists known got out w k told is l =
      ap (of_lane l) is ∙ of_append l w.taken w.late
      ∙ ap (λ (ys : List Sent). of_lane l ys ++ of_lane l w.late) (k.taken ∙ sym (append-nil got))
      ∙ ap (λ (ys : List Sent). ys ++ of_lane l w.late) (told l (omega arith))
      ∙ k.late l (omega arith)

  -- what the writer has when all senders have ended, and the queue is empty
  pub all_merged : {E : Type 0} (lists : List (List (Item F))) (old w : Writer) (r : Result (Vec Sent Global) E) → Serving text lists 0 old → lane_count_of (view w.pass) ≡ lane_count_of (view old.pass)
      → Serving text lists (lane_count_of (view w.pass)) w → KnowsEndedLanes (view w.pass) [] → IfOk r (λ v. (w.lacks_memory ≡ false) × (v.items ≡ w.taken ++ w.late)) → IfOk r (λ v. IsMerge text lists v.items)
  all_merged lists old w (Ok v) before same s told all =
      let none : lane_count_of (view w.pass) ≡ 0 = same ∙ ap lane_count_of before.knows in
      let now : Serving text lists 0 w = subst (λ n. Serving text lists n w) none s in
      merged lists now.known now.got v.items w (now.kept all.0) (subst (λ u. KnowsEndedLanes u []) now.knows told) all.1
  all_merged lists old w (Err why) before same s told all = tt
