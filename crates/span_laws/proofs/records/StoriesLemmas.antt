-- What an open span has come to: its making and its ops so far.
use Rattle.span_laws.proofs.Common.{Bool, Context, Deed, GREATEST, IsMadeWith, IsRecord, List, Making, MomentsRise, None, Op, Option, Record, Represents, Setup, Some, SpanContext, SpanData, TimedOp, [], after_op, all_ops, ap, appended, arith, content, content_is, data_after, deed, entries_is, false, first_start, fold, fold_push, ids_of, ids_or_zeros, if◌then◌else◌, min, open_after_ops, parent_context_of, parent_is, record_of, recorder_ids, refl, subst, sym, true, unless_started, ℕ, ◌++◌, ◌+◌, ◌-◌, ◌<◌, ◌∙◌, ◌∷◌, ◌≡◌, ◌≤◌}
use Rattle.otel_state.specs.declared.op.Op.TheVariants as ops

-- the moment of the last op, else of the making
abbrev pub last_at : ℕ → List TimedOp → ℕ
last_at made all = fold (λ _ op. op.at) made all

abbrev pub stamp : ℕ → Op → TimedOp
stamp at op = record { at = at; op = op }

-- a span's own ids, by its place among the starts and its parent
abbrev pub HasId : Option SpanContext → ℕ → Context → Type 0
HasId None place parent = place ≡ 0
HasId (Some own) place parent = (own ≡ recorder_ids place (ids_of parent)) × (0 < place)

-- ids are the own ones, where a span has some
abbrev pub IsOwn : Option SpanContext → SpanContext → Type 0
IsOwn None own = Unit {0}
IsOwn (Some given) own = given ≡ own

-- how many entries may be open after an op
abbrev pub turned : Deed → ℕ → ℕ
turned d n = if d.exits then n - 1 else if d.enters then n + 1 else n

pub record IsStory (setup : Setup) (o : Option SpanData) (first : SpanData) (place : ℕ) (done : SpanContext → List TimedOp) (opened now : ℕ) : Type 0 where
  pub told : SpanData
  pub is : o ≡ Some told
  pub making : Making
  pub began : IsMadeWith setup first.made_at first making
  pub later : List TimedOp
  pub stands : Represents making (all_ops making began.update later) told
  pub in_order : MomentsRise making.made_at (all_ops making began.update later)
  pub last : last_at making.made_at (all_ops making began.update later) ≤ now
  pub rest : (own : SpanContext) → IsOwn told.own own → later ≡ done own
  pub has_id : HasId told.own place told.parent
  pub within : told.entries ≤ opened

-- the record of a span that had come to something by its making, whichever that was
pub record IsEnding (setup : Setup) (first : SpanData) (done : SpanContext → List TimedOp) (place at : ℕ) (r : Record) : Type 0 where
  pub making : Making
  pub began : IsMadeWith setup first.made_at first making
  pub ends : IsRecord making began.update done place at r

in_order_push : (made : ℕ) (all : List TimedOp) (op : TimedOp) → MomentsRise made all → last_at made all ≤ op.at → op.at ≤ GREATEST → MomentsRise made (all ++ op ∷ [])
in_order_push made [] op order later most = (later, most)
in_order_push made (o ∷ all) op order later most = (order.0, in_order_push o.at all op order.1 later most)

last_push : (made : ℕ) (all : List TimedOp) (op : TimedOp) → last_at made (all ++ op ∷ []) ≡ op.at
last_push made all op = fold_push (λ _ o. o.at) made all op

own_same : (own : Option SpanContext) → first_start own None ≡ own
own_same None = refl
own_same (Some own) = refl

settled : (own : SpanContext) (parent : Context) (written : Option Context) → unless_started (Some own) parent written ≡ parent
settled own parent None = refl
settled own parent (Some context) = refl

module _ (setup : Setup) (first : SpanData) where
  module _ (o : Option SpanData) (place : ℕ) (done : SpanContext → List TimedOp) (opened now : ℕ) (story : IsStory setup o first place done opened now) where
    abbrev all : List TimedOp
    all = all_ops story.making story.began.update story.later

    turned_within : (exits enters : Bool) (n : ℕ) → n ≤ opened → (if exits then n - 1 else if enters then min (n + 1) GREATEST else n) ≤ (if exits then opened - 1 else if enters then opened + 1 else opened)
    turned_within true enters n within = omega (arith, within)
    turned_within false true n within = omega (arith, within)
    turned_within false false n within = within

    -- one op more
    id_after : (op : Op) → (after_op story.told now op).own ≡ story.told.own → (own : Option SpanContext) → story.told.own ≡ own → HasId own place story.told.parent → HasId (after_op story.told now op).own place (after_op story.told now op).parent
    id_after op same None is has = subst (λ (own : Option SpanContext). HasId own place (after_op story.told now op).parent) (sym (same ∙ is)) has
    id_after op same (Some own) is has =
        let parent : (after_op story.told now op).parent ≡ story.told.parent = ap (λ (own : Option SpanContext). unless_started own story.told.parent (deed op).parent) (same ∙ is) ∙ settled own story.told.parent (deed op).parent in
        subst (λ (own : Option SpanContext). HasId own place (after_op story.told now op).parent) (sym (same ∙ is)) (subst (λ (context : Context). HasId (Some own) place context) (sym parent) has)

    pub op_story : now ≤ GREATEST → (op : Op) → (deed op).own ≡ None → IsStory setup (data_after true now op o) first place (λ own. done own ++ stamp now op ∷ []) (turned (deed op) opened) now
    op_story most op unstarted =
        let same : (after_op story.told now op).own ≡ story.told.own = ap (first_start story.told.own) unstarted ∙ own_same story.told.own in
        record {
          told = after_op story.told now op;
          is = ap (data_after true now op) story.is;
          making = story.making;
          began = story.began;
          later = story.later ++ stamp now op ∷ [];
          stands = appended story.told now op story.making all story.stands;
          in_order = in_order_push story.making.made_at all (stamp now op) story.in_order story.last most;
          last = let is = last_push story.making.made_at all (stamp now op) in omega (arith, is);
          rest = λ own mine. ap (λ (xs : List TimedOp). xs ++ stamp now op ∷ []) (story.rest own (subst (λ (o : Option SpanContext). IsOwn o own) same mine));
          has_id = id_after op same story.told.own refl story.has_id;
          within = turned_within (deed op).exits (deed op).enters story.told.entries story.within;
        }

    -- the start
    pub start_story : now ≤ GREATEST → (first_place : ℕ) → story.told.own ≡ None → 0 < first_place
        → IsStory setup (data_after true now (ops.Start (recorder_ids first_place (ids_of story.told.parent))) o) first first_place (λ own. done own ++ stamp now (ops.Start own) ∷ []) opened now
    start_story most first_place unstarted some =
        let given : SpanContext = recorder_ids first_place (ids_of story.told.parent) in
        let op : Op = ops.Start given in
        let started : (after_op story.told now op).own ≡ Some given = ap (λ (o : Option SpanContext). first_start o (Some given)) unstarted in
        record {
          told = after_op story.told now op;
          is = ap (data_after true now op) story.is;
          making = story.making;
          began = story.began;
          later = story.later ++ stamp now op ∷ [];
          stands = appended story.told now op story.making all story.stands;
          in_order = in_order_push story.making.made_at all (stamp now op) story.in_order story.last most;
          last = let at_now = last_push story.making.made_at all (stamp now op) in omega (arith, at_now);
          rest = λ own mine.
              let same : given ≡ own = subst (λ (o : Option SpanContext). IsOwn o own) started mine in
              ap (λ (xs : List TimedOp). xs ++ stamp now op ∷ []) (story.rest own (subst (λ (o : Option SpanContext). IsOwn o own) (sym unstarted) tt)) ∙ ap (λ (c : SpanContext). done own ++ stamp now (ops.Start c) ∷ []) same;
          has_id = subst (λ (o : Option SpanContext). HasId o first_place story.told.parent) (sym started) (refl, some);
          within = story.within;
        }

    -- the close of a span that has started and has no open entry
    record_by : opened ≡ 0 → (own : Option SpanContext) → story.told.own ≡ own → HasId own place story.told.parent → 0 < place → IsEnding setup first done place now (record_of story.told now)
    record_by none None is unplaced some = absurd (omega (arith, unplaced, some))
    record_by none (Some own) is has some =
        let context : (record_of story.told now).context ≡ own = ap ids_or_zeros is in
        let done_is : story.later ≡ done (record_of story.told now).context = story.rest own (subst (λ (o : Option SpanContext). IsOwn o own) (sym is) refl) ∙ ap done (sym context) in
        let all_is = ap (all_ops story.making story.began.update) done_is in
        record {
          making = story.making;
          began = story.began;
          ends = record {
            in_order = subst (MomentsRise story.making.made_at) all_is story.in_order;
            shut = (let entries = entries_is story.told story.making all story.stands in let within = story.within in let same = ap (open_after_ops 0) all_is in omega (arith, entries, within, none, same));
            is = content_is story.making all story.told now story.stands story.in_order ∙ ap (λ (xs : List TimedOp). content story.making xs now) all_is;
            started = some;
            own = context ∙ has.0 ∙ ap (λ (c : Context). recorder_ids place (ids_of c)) (parent_is story.told story.making all story.stands ∙ ap (parent_context_of story.making.parent) all_is);
          };
        }

    pub record_is : opened ≡ 0 → 0 < place → IsEnding setup first done place now (record_of story.told now)
    record_is none some = record_by none story.told.own refl story.has_id some

    -- time goes on, more entries may be open, and the ops are those told otherwise
    pub later_story : (same : SpanContext → List TimedOp) (more at : ℕ) → ((own : SpanContext) → done own ≡ same own) → opened ≤ more → now ≤ at → IsStory setup o first place same more at
    later_story same more at alike wider later = record {
      told = story.told;
      is = story.is;
      making = story.making;
      began = story.began;
      later = story.later;
      stands = story.stands;
      in_order = story.in_order;
      last = let last = story.last in omega (arith, last, later);
      rest = λ own mine. story.rest own mine ∙ alike own;
      has_id = story.has_id;
      within = let within = story.within in omega (arith, within, wider);
    }
