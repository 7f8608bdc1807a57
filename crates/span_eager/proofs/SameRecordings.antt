-- The same of all that is recorded: what a start, a making, an op and a close make of it.
use Rattle.std.proofs.Common.{◌≡◌, ℕ, suc, ◌+◌, ◌≤◌, ◌==◌, ◌&&◌, ◌||◌, List, [], ◌∷◌, ◌++◌, length, map, fold, Bool, true, false, Option, Some, None, refl, sym, ap, ap₂, subst, ◌∙◌, arith, inl, inr, append_assoc, is_some, option_map}
use Rattle.span_eager.proofs.Common.{AllByRecursion, cases_Bool, map-append, Context, SpanContext, Record, ids_of, recorder_ids, is_in, Op, LayerSettings, GREATEST, Deed, deed, SpanData, first_start, after_op, record_of, Recording, with_applied, with_start_under, with_start, with_span_finished, with_close_of_started, with_close, data_at, update, with_op, start_context, context_unless_started, SpanOp, if_waiting, starting, starts_from, closes_from, writes_start_data, LeavesStartData, renamed_record}
use Rattle.std.proofs.lemmas.Bool.{eq-eqb, eqb-true, true≢false}
use Rattle.std.proofs.lemmas.List.{length-append}
use Rattle.otel_base.specs.declared.record.SpanKind.{SpanKind}
use Rattle.otel_state.specs.declared.op.Op.TheVariants as ops
use Rattle.otel_layer.proofs.FoundSpanLemmas.{told_at_removed}
use Rattle.span_eager.proofs.SameSpan.{Ids, SameTold, Quiet, op_by, told_by, early_ids, changed_alike, start_alike, made_alike, record_alike}
use Rattle.span_eager.proofs.SameSpans.{SameSpans, SameAt, Below, same_at, same_later, same_update, update_same, same_push, next_unknown, unknown_by, pushed_told, pushed_update, same_remove, below_more, below_push, below_update, below_remove, updated_told, others_told}

-- What is recorded where spans start at their making and where they start when they are asked to, so many having been made, at a
-- moment up to which time has passed; and the spans that will start.
pub record SameRecording (f : Ids) (layer : LayerSettings) (n at : ℕ) (pending : List ℕ) (e l : Recording) : Type 0 where
  pub spans : SameSpans f.new at e.spans l.spans
  pub below : Below n l.spans
  pub made : e.started ≡ n
  pub front : List ℕ
  pub order_is : f.order ≡ front ++ pending
  pub count : l.started ≡ length front
  pub finished : e.finished ≡ map (renamed_record f.new) l.finished
  pub e_settings : e.settings ≡ layer
  pub l_settings : l.settings ≡ record layer { eager = false }
  pub counting : e.counting ≡ l.counting

abbrev pub done_with : (ℕ → ℕ) → SpanOp → SpanOp
done_with f d = record { span = d.span; op = op_by f d.op }

abbrev own_in : Option SpanData → Option SpanContext
own_in None = None
own_in (Some t) = t.own

-- how many entries are open
abbrev pub entries_in : Option SpanData → ℕ
entries_in None = 0
entries_in (Some t) = t.entries

-- no entry of some spans is open
abbrev pub Shut : List ℕ → List (ℕ × SpanData) → Type 0
Shut ss spans = (s : ℕ) → is_in s ss ≡ true → entries_in (data_at s spans) ≡ 0

-- what the next start makes of a span under a context
abbrev start_in : Recording → ℕ → Context → SpanData → SpanData
start_in l at under t = after_op t at (ops.Start (recorder_ids (l.started + 1) (ids_of under)))

-- each stands once
abbrev pub AreOnce : List ℕ → Type 0
AreOnce [] = Unit {0}
AreOnce (s ∷ ss) = (is_in s ss ≡ false) × AreOnce ss

module _ (f : Ids) (layer : LayerSettings) where
  abbrev Same : ℕ → ℕ → List ℕ → Recording → Recording → Type 0
  Same = SameRecording f layer

  -- ---- time passes

  pub later_same : (n at later : ℕ) (pending : List ℕ) (e l : Recording) → at ≤ later → Same n at pending e l → Same n later pending e l
  later_same n at later pending e l more same = record {
    spans = same_later f.new at later e.spans l.spans more same.spans;
    below = same.below;
    made = same.made;
    front = same.front;
    order_is = same.order_is;
    count = same.count;
    finished = same.finished;
    e_settings = same.e_settings;
    l_settings = same.l_settings;
    counting = same.counting;
  }

  -- ---- a start

  pub none_waits : (s at : ℕ) (e l : Option SpanData) → SameAt f.new s at e l → start_context e ≡ None
  none_waits s at None None same = refl
  none_waits s at None (Some l) same = refl
  none_waits s at (Some e) None same = absurd same
  none_waits s at (Some e) (Some l) same = ap (λ (o : Option SpanContext). context_unless_started o e.parent) (ap (λ (t : SpanData). t.own) same.is)

  -- where spans start early a later start does nothing
  pub early_stays : (n at later s : ℕ) (pending : List ℕ) (e l : Recording) → Same n at pending e l → with_start s later e ≡ e
  early_stays n at later s pending e l same =
      ap (λ (under : Option Context). with_start_under under s later e) (none_waits s at (data_at s e.spans) (data_at s l.spans) (same_at f.new at e.spans l.spans s same.spans))

  waiting : (own : Option SpanContext) (parent under : Context) → context_unless_started own parent ≡ Some under → (own ≡ None) × (parent ≡ under)
  waiting None parent under is = (refl, cc is)
  waiting (Some ids) parent under is = absurd (cc is)

  by_waits : (n at s : ℕ) (pending : List ℕ) (e l : Recording) (w : Option Context) → start_context (data_at s l.spans) ≡ w → at ≤ GREATEST
      → Same n at (if_waiting w s ++ pending) e l → Same n at pending e (with_start_under w s at l)
  by_waits n at s pending e l None is within same = same
  by_waits n at s pending e l (Some under) is within same =
      let named : f.new (l.started + 1) ≡ suc s = ap (λ (c : ℕ). f.new (c + 1)) same.count ∙ f.placed same.front pending s same.order_is in
      let op = ops.Start (recorder_ids (l.started + 1) (ids_of under)) in record {
        spans = subst (λ (es : List (ℕ × SpanData)). SameSpans f.new at es (with_op s at op l.spans)) (update_same s e.spans)
            (same_update f.new at e.spans l.spans s (λ (t : SpanData). t) (λ (t : SpanData). after_op t at op) same.spans (λ d m found alike. (
            let w = waiting m.own m.parent under (sym (ap start_context found) ∙ is) in
            subst (λ (p : Context). SameTold f.new s at d (after_op m at (ops.Start (recorder_ids (l.started + 1) (ids_of p))))) w.1
            (start_alike f s at l.started d m w.0 named within alike))));
        below = below_update n s (λ (t : SpanData). after_op t at op) l.spans same.below;
        made = same.made;
        front = same.front ++ s ∷ [];
        order_is = same.order_is ∙ sym (append_assoc same.front (s ∷ []) pending);
        count = (let count = same.count in let more = length-append same.front (s ∷ []) in omega (arith, count, more));
        finished = same.finished;
        e_settings = same.e_settings;
        l_settings = same.l_settings;
        counting = same.counting;
      }

  pub start_same : (n at s : ℕ) (pending : List ℕ) (e l : Recording) → at ≤ GREATEST → Same n at (starting s l ++ pending) e l → Same n at pending e (with_start s at l)
  start_same n at s pending e l within same = by_waits n at s pending e l (start_context (data_at s l.spans)) refl within same

  pub starts_same : (n at : ℕ) (ss pending : List ℕ) (e l : Recording) → at ≤ GREATEST → Same n at (starts_from at l ss ++ pending) e l
      → Same n at pending (fold (λ r s. with_start s at r) e ss) (fold (λ r s. with_start s at r) l ss)
  starts_same n at [] pending e l within same = same
  starts_same n at (s ∷ ss) pending e l within same =
      let rest = starts_from at (with_start s at l) ss in
      let here : Same n at (starting s l ++ (rest ++ pending)) e l = subst (λ (xs : List ℕ). Same n at xs e l) (append_assoc (starting s l) rest pending) same in
      subst (λ (r : Recording). Same n at pending (fold (λ r s. with_start s at r) r ss) (fold (λ r s. with_start s at r) (with_start s at l) ss))
      (sym (early_stays n at at s (starting s l ++ (rest ++ pending)) e l here))
      (starts_same n at ss pending e (with_start s at l) within (start_same n at s (rest ++ pending) e l within here))

  -- ---- a making

  pub made_same : (n at : ℕ) (pending : List ℕ) (e l : Recording) (told : SpanData) → told.own ≡ None → told.last ≤ at → at ≤ GREATEST → Same n at pending e l
      → Same (suc n) at pending (with_start n at (record e { spans = e.spans ++ (n, told_by f.new told) ∷ [] })) (record l { spans = l.spans ++ (n, told) ∷ [] })
  made_same n at pending e l told waits_now before within same =
      let told_e = told_by f.new told in
      let ids = early_ids f.new n told.parent in
      let unknown : data_at n e.spans ≡ None = unknown_by f.new n at (data_at n e.spans) (data_at n l.spans) (same_at f.new at e.spans l.spans n same.spans) (next_unknown n l.spans same.below) in
      let under : start_context (data_at n (e.spans ++ (n, told_e) ∷ [])) ≡ Some told_e.parent = ap start_context (pushed_told n told_e e.spans unknown) ∙ ap (λ (o : Option SpanContext). context_unless_started o told_e.parent) waits_now in
      let more = record e { spans = e.spans ++ (n, told_e) ∷ [] } in
      let next : e.started + 1 ≡ suc n = (let made = same.made in omega (arith, made)) in
      let after : with_start n at more ≡ record e { started = suc n; spans = e.spans ++ (n, after_op told_e at (ops.Start ids)) ∷ [] } =
      ap (λ (u : Option Context). with_start_under u n at more) under
      ∙ (λ i. record e { started = next i; spans = with_op n at (ops.Start (recorder_ids (next i) (ids_of told_e.parent))) (e.spans ++ (n, told_e) ∷ []) })
      ∙ ap (λ (xs : List (ℕ × SpanData)). record e { started = suc n; spans = xs }) (pushed_update n (λ (t : SpanData). after_op t at (ops.Start ids)) told_e e.spans unknown) in
      subst (λ (r : Recording). Same (suc n) at pending r (record l { spans = l.spans ++ (n, told) ∷ [] })) (sym after) (record {
        spans = same_push f.new at e.spans l.spans n (after_op told_e at (ops.Start ids)) told same.spans (made_alike f.new n at told waits_now before within);
        below = below_push (suc n) n told l.spans (omega arith) (below_more n (suc n) l.spans (omega arith) same.below);
        made = refl;
        front = same.front;
        order_is = same.order_is;
        count = same.count;
        finished = same.finished;
        e_settings = same.e_settings;
        l_settings = same.l_settings;
        counting = same.counting;
      })

  -- ---- ops

  none_settled : (d : Deed) → writes_start_data d ≡ false → (d.name ≡ None) × (d.kind ≡ None) × (d.parent ≡ None)
  none_settled d isnt = by_parts d.name d.kind d.parent isnt
    where
      by_parts : (name : Option (List ℕ)) (kind : Option SpanKind) (parent : Option Context) → (is_some name || is_some kind || is_some parent) ≡ false → (name ≡ None) × (kind ≡ None) × (parent ≡ None)
      by_parts None None None isnt = (refl, refl, refl)
      by_parts None None (Some p) isnt = absurd (cc isnt)
      by_parts None (Some k) p isnt = absurd (cc isnt)
      by_parts (Some n) k p isnt = absurd (cc isnt)

  and_true : (a b : Bool) → b ≡ true → (a && b) ≡ false → a ≡ false
  and_true true b so isnt = absurd (cc (sym so ∙ isnt))
  and_true false b so isnt = refl

  quiet_by : (r : Recording) (d : SpanOp) (m : SpanData) → data_at d.span r.spans ≡ Some m → LeavesStartData r d → Quiet m.own (deed d.op)
  quiet_by r d m found settled waits_now =
      none_settled (deed d.op) (and_true (writes_start_data (deed d.op)) (is_some (start_context (data_at d.span r.spans)))
      (ap (λ (o : Option SpanData). is_some (start_context o)) found ∙ ap (λ (o : Option SpanContext). is_some (context_unless_started o m.parent)) waits_now) settled)

  pub op_same : (n at : ℕ) (pending : List ℕ) (e l : Recording) (d : SpanOp) → at ≤ GREATEST → (deed d.op).own ≡ None → LeavesStartData l d → Same n at pending e l
      → Same n at pending (with_applied d.span at (op_by f.new d.op) e) (with_applied d.span at d.op l)
  op_same n at pending e l d within isnt settled same = record {
    spans = same_update f.new at e.spans l.spans d.span (λ (t : SpanData). after_op t at (op_by f.new d.op)) (λ (t : SpanData). after_op t at d.op) same.spans
        (λ t m found alike. changed_alike f.new d.span at t m d.op isnt (quiet_by l d m found settled) within alike);
    below = below_update n d.span (λ (t : SpanData). after_op t at d.op) l.spans same.below;
    made = same.made;
    front = same.front;
    order_is = same.order_is;
    count = same.count;
    finished = same.finished;
    e_settings = same.e_settings;
    l_settings = same.l_settings;
    counting = same.counting;
  }

  -- an op that is no start leaves who waits
  stays_waiting : (q s at : ℕ) (op : Op) (xs : List (ℕ × SpanData)) → (deed op).own ≡ None → is_some (start_context (data_at q (with_op s at op xs))) ≡ is_some (start_context (data_at q xs))
  stays_waiting q s at op xs isnt = elim (cases_Bool (q == s)) [
    | inl same ↦ (
        let is = eqb_is q s same in
        subst (λ (p : ℕ). is_some (start_context (data_at p (with_op s at op xs))) ≡ is_some (start_context (data_at p xs))) (sym is)
        (ap (λ (o : Option SpanData). is_some (start_context o)) (updated_told s (λ (t : SpanData). after_op t at op) xs) ∙ by_told (data_at s xs)))
    | inr other ↦ ap (λ (o : Option SpanData). is_some (start_context o)) (others_told q s (λ (t : SpanData). after_op t at op) xs other)
  ]
    where
      eqb_is : (a b : ℕ) → (a == b) ≡ true → a ≡ b
      eqb_is a b e = eqb-true a b e

      some_by : (own : Option SpanContext) (p r : Context) → is_some (context_unless_started own p) ≡ is_some (context_unless_started own r)
      some_by None p r = refl
      some_by (Some o) p r = refl

      by_told : (o : Option SpanData) → is_some (start_context (option_map (λ (t : SpanData). after_op t at op) o)) ≡ is_some (start_context o)
      by_told None = refl
      by_told (Some t) = ap (λ (o : Option SpanContext). is_some (context_unless_started o (after_op t at op).parent)) (ap (first_start t.own) isnt) ∙ some_by t.own (after_op t at op).parent t.parent

  still_settled : (at : ℕ) (l : Recording) (d x : SpanOp) → (deed d.op).own ≡ None → LeavesStartData l x → LeavesStartData (with_applied d.span at d.op l) x
  still_settled at l d x isnt settled = ap (λ (b : Bool). writes_start_data (deed x.op) && b) (stays_waiting x.span d.span at d.op l.spans isnt) ∙ settled

  all_settled : (at : ℕ) (l : Recording) (d : SpanOp) (ds : List SpanOp) → (deed d.op).own ≡ None → AllByRecursion (LeavesStartData l) ds → AllByRecursion (LeavesStartData (with_applied d.span at d.op l)) ds
  all_settled at l d [] isnt all = tt
  all_settled at l d (x ∷ ds) isnt all = (still_settled at l d x isnt all.0, all_settled at l d ds isnt all.1)

  pub ops_same : (n at : ℕ) (pending : List ℕ) (ds : List SpanOp) (e l : Recording) → at ≤ GREATEST → AllByRecursion (λ (d : SpanOp). (deed d.op).own ≡ None) ds → AllByRecursion (LeavesStartData l) ds → Same n at pending e l
      → Same n at pending (fold (λ r d. with_applied d.span at d.op r) e (map (done_with f.new) ds)) (fold (λ r d. with_applied d.span at d.op r) l ds)
  ops_same n at pending [] e l within isnt settled same = same
  ops_same n at pending (d ∷ ds) e l within isnt settled same =
      ops_same n at pending ds (with_applied d.span at (op_by f.new d.op) e) (with_applied d.span at d.op l) within isnt.1 (all_settled at l d ds isnt.0 settled.1) (op_same n at pending e l d within isnt.0 settled.0 same)

  -- ---- closes

  shut_started : (ss : List ℕ) (w : Option Context) (s at : ℕ) (l : Recording) → Shut ss l.spans → Shut ss (with_start_under w s at l).spans
  shut_started ss None s at l shut q there = shut q there
  shut_started ss (Some under) s at l shut q there = elim (cases_Bool (q == s)) [
    | inl same ↦ (
        let start = start_in l at under in
        let read : data_at q (update s start l.spans) ≡ option_map start (data_at q l.spans) = subst (λ (x : ℕ). data_at x (update s start l.spans) ≡ option_map start (data_at x l.spans)) (sym (eqb-true q s same)) (updated_told s start l.spans) in
        ap entries_in read ∙ same_entries (data_at q l.spans) ∙ shut q there)
    | inr other ↦ ap entries_in (others_told q s (start_in l at under) l.spans other) ∙ shut q there
  ]
    where
      same_entries : (o : Option SpanData) → entries_in (option_map (start_in l at under) o) ≡ entries_in o
      same_entries None = refl
      same_entries (Some t) = refl

  -- what a start leaves has started
  pub has_started : (s at : ℕ) (l : Recording) (m : SpanData) (w : Option Context) → start_context (data_at s l.spans) ≡ w → data_at s (with_start_under w s at l).spans ≡ Some m → (ids : SpanContext) × (m.own ≡ Some ids)
  has_started s at l m None is found = by_own m.own (sym (ap start_context found) ∙ is)
    where
      by_own : (own : Option SpanContext) → context_unless_started own m.parent ≡ None → (ids : SpanContext) × (own ≡ Some ids)
      by_own None isnt = absurd (cc isnt)
      by_own (Some ids) isnt = (ids, refl)
  has_started s at l m (Some under) is found =
      by_told (recorder_ids (l.started + 1) (ids_of under)) (data_at s l.spans) is
      (sym (updated_told s (λ (t : SpanData). after_op t at (ops.Start (recorder_ids (l.started + 1) (ids_of under)))) l.spans) ∙ found)
    where
      own_is : (given : SpanContext) (t : SpanData) → option_map (λ (t : SpanData). after_op t at (ops.Start given)) (Some t) ≡ Some m → first_start t.own (Some given) ≡ m.own
      own_is given t found = ap own_in found

      by_told : (given : SpanContext) (o : Option SpanData) → start_context o ≡ Some under → option_map (λ (t : SpanData). after_op t at (ops.Start given)) o ≡ Some m → (ids : SpanContext) × (m.own ≡ Some ids)
      by_told given None is found = absurd (cc is)
      by_told given (Some t) is found = (given, sym (own_is given t found) ∙ ap (λ (o : Option SpanContext). first_start o (Some given)) (waiting t.own t.parent under is).0)

  closed_same : (n at s : ℕ) (pending : List ℕ) (e l : Recording) (d m : Option SpanData) → SameAt f.new s at d m
      → ((t : SpanData) → m ≡ Some t → ((ids : SpanContext) × (t.own ≡ Some ids)) × (t.entries ≡ 0)) → Same n at pending e l → Same n at pending (with_span_finished d s at e) (with_span_finished m s at l)
  closed_same n at s pending e l None None alike ready same = same
  closed_same n at s pending e l None (Some m) alike ready same = absurd alike
  closed_same n at s pending e l (Some d) None alike ready same = absurd alike
  closed_same n at s pending e l (Some d) (Some m) alike ready same =
      let r = ready m refl in record {
        spans = same_remove f.new at e.spans l.spans s same.spans;
        below = below_remove n s l.spans same.below;
        made = same.made;
        front = same.front;
        order_is = same.order_is;
        count = same.count;
        finished = ap₂ (λ (xs : List Record) (x : Record). xs ++ x ∷ []) same.finished (record_alike f s at d m r.0.0 r.0.1 r.1 alike) ∙ sym (map-append (renamed_record f.new) l.finished (record_of m at ∷ []));
        e_settings = same.e_settings;
        l_settings = same.l_settings;
        counting = same.counting;
      }

  pub close_same : (n at s : ℕ) (ss pending : List ℕ) (e l : Recording) → at ≤ GREATEST → is_in s ss ≡ true → Shut ss l.spans → Same n at (starting s l ++ pending) e l
      → Same n at pending (with_close s at e) (with_close s at l)
  close_same n at s ss pending e l within there shut same =
      let now = with_start s at l in
      let started = start_same n at s pending e l within same in
      let shut_now = shut_started ss (start_context (data_at s l.spans)) s at l shut s there in
      subst (λ (r : Recording). Same n at pending (with_close_of_started s at r) (with_close_of_started s at now)) (sym (early_stays n at at s (starting s l ++ pending) e l same))
      (closed_same n at s pending e now (data_at s e.spans) (data_at s now.spans) (same_at f.new at e.spans now.spans s started.spans)
      (λ t found. (has_started s at l t (start_context (data_at s l.spans)) refl found, sym (ap entries_in found) ∙ shut_now)) started)

  shut_closed : (ss : List ℕ) (s at : ℕ) (l : Recording) → is_in s ss ≡ false → Shut ss l.spans → Shut ss (with_close s at l).spans
  shut_closed ss s at l out shut = let now = with_start s at l in by_told (data_at s now.spans) (shut_started ss (start_context (data_at s l.spans)) s at l shut)
    where
      by_told : (o : Option SpanData) → Shut ss (with_start s at l).spans → Shut ss (with_span_finished o s at (with_start s at l)).spans
      by_told None now = now
      by_told (Some t) now = λ q there. ap entries_in (told_at_removed s q (with_start s at l).spans (λ e. true≢false (sym there ∙ ap (λ (x : ℕ). is_in x ss) e ∙ out))) ∙ now q there

  pub closes_same : (n at : ℕ) (ss pending : List ℕ) (e l : Recording) → at ≤ GREATEST → AreOnce ss → Shut ss l.spans
      → Same n at (closes_from at l ss ++ pending) e l → Same n at pending (fold (λ r s. with_close s at r) e ss) (fold (λ r s. with_close s at r) l ss)
  closes_same n at [] pending e l within once shut same = same
  closes_same n at (s ∷ ss) pending e l within once shut same =
      let rest = closes_from at (with_close s at l) ss in
      let here : Same n at (starting s l ++ (rest ++ pending)) e l = subst (λ (xs : List ℕ). Same n at xs e l) (append_assoc (starting s l) rest pending) same in
      closes_same n at ss pending (with_close s at e) (with_close s at l) within once.1 (shut_closed ss s at l once.0 (λ q there. shut q (or_right (s == q) (is_in q ss) there)))
      (close_same n at s (s ∷ ss) (rest ++ pending) e l within (ap (λ b. b || is_in s ss) (eq-eqb s s refl)) shut here)
    where
      or_right : (a b : Bool) → b ≡ true → (a || b) ≡ true
      or_right true b so = refl
      or_right false b so = so
