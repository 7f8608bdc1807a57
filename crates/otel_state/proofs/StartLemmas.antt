-- What comes of the place of a start, and of what is written after it.
use Rattle.std.proofs.Common.{◌≡◌, ℕ, ◌+◌, ◌-◌, ◌≤◌, List, [], ◌∷◌, ◌++◌, Bool, true, false, Option, Some, None, refl, sym, ap, ◌∙◌, arith, append_assoc}
use Rattle.std.specs.Prelude.{if◌then◌else◌, ◌==◌, is_some, min, fold, flat_map, filter_map, count_by, slice_get, All, IsTrue}
use Rattle.std.specs.List.{cons_option}
use Rattle.std.proofs.lemmas.List.Elements.{All-tail}
use Rattle.std.proofs.lemmas.List.Sums.{sum_by-cons}
use Rattle.otel_base.specs.declared.context.SpanContext.{SpanContext}
use Rattle.otel_base.specs.declared.record.SpanKind.TheVariants.{Internal}
use Rattle.otel_base.specs.declared.status.Status.{Status}
use Rattle.otel_base.specs.declared.status.Status.TheVariants.{Unset}
use Rattle.otel_base.specs.Ids.{ids_or_zeros}
use Rattle.otel_state.specs.declared.times.TheConstants.{GREATEST}
use Rattle.otel_state.specs.declared.op.Op.{Op}
use Rattle.otel_state.specs.Deeds.{Deed, TimedOp, deed}
use Rattle.otel_state.specs.Opening.{is_start, before_start, ids_of_start, last_or, name_of, kind_of, parent_context_of}
use Rattle.otel_state.specs.Statuses.{statuses_written, greatest_status, status_of}
use Rattle.otel_state.specs.Times.{open_after, open_after_ops, busy_between, busy_from, busy_of, exit_moment, last_exit, MomentsRise}
use Rattle.otel_state.specs.Content.{Making, attributes_of, events_of, links_of, counted_of, content}
use Rattle.otel_state.specs.Laws.{without_settled, SameButSettled, SettlesNothing, start_at, with_early, with_late, SameButIds}

-- ---- what is written before the start

-- a start ends what stands before it
stops : (before : List TimedOp) (start : TimedOp) (after : List TimedOp) → is_start start ≡ true → before_start (before ++ start ∷ after) ≡ before_start before
stops [] start after is = ap (λ (b : Bool). if b then [] else start ∷ before_start after) is
stops (op ∷ before) start after is = ap (λ (rest : List TimedOp). if is_start op then [] else op ∷ rest) (stops before start after is)

-- what comes after a start doesn't count
cut : (before after : List TimedOp) → is_some (ids_of_start before) ≡ true → before_start (before ++ after) ≡ before_start before
cut [] after has = cc
cut (op ∷ before) after has = by_start (cut before after) (deed op.op).own has
  where
    by_start : (is_some (ids_of_start before) ≡ true → before_start (before ++ after) ≡ before_start before) → (given : Option SpanContext)
        → is_some (slice_get (cons_option given (filter_map (λ o. (deed o.op).own) before)) 0) ≡ true
        → (if is_some given then [] else op ∷ before_start (before ++ after)) ≡ (if is_some given then [] else op ∷ before_start before)
    by_start same None has = ap (λ (rest : List TimedOp). op ∷ rest) (same has)
    by_start same (Some own) has = refl

-- ops that settle nothing write nothing
module _ {A : Type 0} (write : Deed → Option A) (none_of : (d : Deed) → d ≡ without_settled d → write d ≡ None) where
  writes_none : (ops : List TimedOp) → All SettlesNothing ops → filter_map (λ op. write (deed op.op)) (before_start ops) ≡ []
  writes_none [] all = refl
  writes_none (op ∷ ops) all = by_start (none_of (deed op.op) (all 0 op (omega arith))) (writes_none ops (All-tail SettlesNothing op ops all)) (deed op.op).own
    where
      by_start : write (deed op.op) ≡ None → filter_map (λ o. write (deed o.op)) (before_start ops) ≡ [] → (given : Option SpanContext)
          → filter_map (λ o. write (deed o.op)) (if is_some given then [] else op ∷ before_start ops) ≡ []
      by_start is none None = ap (λ (o : Option A). cons_option o (filter_map (λ o. write (deed o.op)) (before_start ops))) is ∙ none
      by_start is none (Some own) = refl

  same_writes : (before between : List TimedOp) → All SettlesNothing between → filter_map (λ op. write (deed op.op)) (before_start (before ++ between)) ≡ filter_map (λ op. write (deed op.op)) (before_start before)
  same_writes [] between all = writes_none between all
  same_writes (op ∷ before) between all = by_start (same_writes before between all) (deed op.op).own
    where
      by_start : filter_map (λ o. write (deed o.op)) (before_start (before ++ between)) ≡ filter_map (λ o. write (deed o.op)) (before_start before) → (given : Option SpanContext)
          → filter_map (λ o. write (deed o.op)) (if is_some given then [] else op ∷ before_start (before ++ between)) ≡ filter_map (λ o. write (deed o.op)) (if is_some given then [] else op ∷ before_start before)
      by_start same None = ap (λ (xs : List A). cons_option (write (deed op.op)) xs) same
      by_start same (Some own) = refl

  -- the last that is written, with the start early and late
  last_same : (a : A) (before between after : List TimedOp) (start later : TimedOp) → is_start start ≡ true → is_start later ≡ true → All SettlesNothing between
      → last_or a (filter_map (λ op. write (deed op.op)) (before_start (with_early before start between after))) ≡ last_or a (filter_map (λ op. write (deed op.op)) (before_start (with_late before between later after)))
  last_same a before between after start later is is_later all =
      ap (λ (ops : List TimedOp). last_or a (filter_map (λ op. write (deed op.op)) ops)) (stops before start (between ++ after) is)
      ∙ ap (λ (xs : List A). last_or a xs) (sym (same_writes before between all))
      ∙ ap (λ (ops : List TimedOp). last_or a (filter_map (λ op. write (deed op.op)) ops)) (sym (stops (before ++ between) later after is_later))

-- ---- what an op adds where it adds nothing, and where another adds the same

flat_skip : {A : Type 0} (g : TimedOp → List A) (before : List TimedOp) (op : TimedOp) (after : List TimedOp) → g op ≡ [] → flat_map g (before ++ op ∷ after) ≡ flat_map g (before ++ after)
flat_skip {A} g [] op after is = ap (λ (xs : List A). xs ++ flat_map g after) is
flat_skip {A} g (x ∷ before) op after is = ap (λ (xs : List A). g x ++ xs) (flat_skip g before op after is)

filter_skip : {A : Type 0} (g : TimedOp → Option A) (before : List TimedOp) (op : TimedOp) (after : List TimedOp) → g op ≡ None → filter_map g (before ++ op ∷ after) ≡ filter_map g (before ++ after)
filter_skip {A} g [] op after is = ap (λ (o : Option A). cons_option o (filter_map g after)) is
filter_skip {A} g (x ∷ before) op after is = ap (λ (xs : List A). cons_option (g x) xs) (filter_skip g before op after is)

count_skip : (p : TimedOp → Bool) (before : List TimedOp) (op : TimedOp) (after : List TimedOp) → p op ≡ false → count_by p (before ++ op ∷ after) ≡ count_by p (before ++ after)
count_skip p [] op after is = sum_by-cons (λ o. if p o then 1 else 0) op after ∙ ap (λ (b : Bool). (if b then 1 else 0) + count_by p after) is ∙ omega arith
count_skip p (x ∷ before) op after is =
    sum_by-cons (λ o. if p o then 1 else 0) x (before ++ op ∷ after) ∙ ap (λ (n : ℕ). (if p x then 1 else 0) + n) (count_skip p before op after is) ∙ sym (sum_by-cons (λ o. if p o then 1 else 0) x (before ++ after))

flat_swap : {A : Type 0} (g : TimedOp → List A) (before : List TimedOp) (a b : TimedOp) (after : List TimedOp) → g a ≡ g b → flat_map g (before ++ a ∷ after) ≡ flat_map g (before ++ b ∷ after)
flat_swap {A} g [] a b after is = ap (λ (xs : List A). xs ++ flat_map g after) is
flat_swap {A} g (x ∷ before) a b after is = ap (λ (xs : List A). g x ++ xs) (flat_swap g before a b after is)

filter_swap : {A : Type 0} (g : TimedOp → Option A) (before : List TimedOp) (a b : TimedOp) (after : List TimedOp) → g a ≡ g b → filter_map g (before ++ a ∷ after) ≡ filter_map g (before ++ b ∷ after)
filter_swap {A} g [] a b after is = ap (λ (o : Option A). cons_option o (filter_map g after)) is
filter_swap {A} g (x ∷ before) a b after is = ap (λ (xs : List A). cons_option (g x) xs) (filter_swap g before a b after is)

count_swap : (p : TimedOp → Bool) (before : List TimedOp) (a b : TimedOp) (after : List TimedOp) → p a ≡ p b → count_by p (before ++ a ∷ after) ≡ count_by p (before ++ b ∷ after)
count_swap p [] a b after is =
    sum_by-cons (λ o. if p o then 1 else 0) a after ∙ ap (λ (c : Bool). (if c then 1 else 0) + count_by p after) is ∙ sym (sum_by-cons (λ o. if p o then 1 else 0) b after)
count_swap p (x ∷ before) a b after is =
    sum_by-cons (λ o. if p o then 1 else 0) x (before ++ a ∷ after) ∙ ap (λ (n : ℕ). (if p x then 1 else 0) + n) (count_swap p before a b after is) ∙ sym (sum_by-cons (λ o. if p o then 1 else 0) x (before ++ b ∷ after))

busy_swap : (entries last at : ℕ) (before : List TimedOp) (a b : Op) (after : List TimedOp) → without_settled (deed a) ≡ without_settled (deed b)
    → busy_from entries last (before ++ record { at = at; op = a } ∷ after) ≡ busy_from entries last (before ++ record { at = at; op = b } ∷ after)
busy_swap entries last at [] a b after same = ap (λ (d : Deed). busy_between entries last at + busy_from (open_after entries d) at after) same
busy_swap entries last at (op ∷ before) a b after same = ap (λ (n : ℕ). busy_between entries last op.at + n) (busy_swap (open_after entries (deed op.op)) op.at at before a b after same)

-- a start splits a gap, and adds no time
split_gap : (idle : Bool) (last at next : ℕ) → last ≤ at → at ≤ next → (if idle then 0 else at - last) + (if idle then 0 else next - at) ≡ (if idle then 0 else next - last)
split_gap true last at next first second = omega arith
split_gap false last at next first second = omega (arith, first, second)

busy_skip : (entries last at : ℕ) (own : SpanContext) (before after : List TimedOp) → MomentsRise last (before ++ start_at at own ∷ after) → open_after_ops entries (before ++ after) ≡ 0
    → busy_from entries last (before ++ start_at at own ∷ after) ≡ busy_from entries last (before ++ after)
busy_skip entries last at own [] [] order shut = ap (λ (n : ℕ). busy_between n last at + 0) shut
busy_skip entries last at own [] (op ∷ after) order shut =
    let split = split_gap (entries == 0) last at op.at order.0 order.1.0 in omega (arith, split)
busy_skip entries last at own (op ∷ before) after order shut = ap (λ (n : ℕ). busy_between entries last op.at + n) (busy_skip (open_after entries (deed op.op)) op.at at own before after order.1 shut)

-- the same with the start early and late
flat_moved : {A : Type 0} (g : TimedOp → List A) (before between after : List TimedOp) (x y : TimedOp) → g x ≡ [] → g y ≡ [] → flat_map g (with_early before x between after) ≡ flat_map g (with_late before between y after)
flat_moved g before between after x y is is_later =
    flat_skip g before x (between ++ after) is ∙ ap (λ (ops : List TimedOp). flat_map g ops) (sym (append_assoc before between after)) ∙ sym (flat_skip g (before ++ between) y after is_later)

filter_moved : {A : Type 0} (g : TimedOp → Option A) (before between after : List TimedOp) (x y : TimedOp) → g x ≡ None → g y ≡ None → filter_map g (with_early before x between after) ≡ filter_map g (with_late before between y after)
filter_moved g before between after x y is is_later =
    filter_skip g before x (between ++ after) is ∙ ap (λ (ops : List TimedOp). filter_map g ops) (sym (append_assoc before between after)) ∙ sym (filter_skip g (before ++ between) y after is_later)

-- ---- records

same_content : (making : Making) (xs ys : List TimedOp) (closed : ℕ) → name_of making.name xs ≡ name_of making.name ys → kind_of xs ≡ kind_of ys → parent_context_of making.parent xs ≡ parent_context_of making.parent ys
    → attributes_of xs ≡ attributes_of ys → events_of xs ≡ events_of ys → links_of xs ≡ links_of ys → status_of xs ≡ status_of ys → counted_of xs ≡ counted_of ys
    → busy_of making.made_at xs ≡ busy_of making.made_at ys → last_exit xs ≡ last_exit ys → (own : SpanContext)
    → record (content making xs closed) { context = own } ≡ record (content making ys closed) { context = own }
same_content making xs ys closed name kind parent attributes events links status counted busy left own =
    simp (name, kind, parent, attributes, events, links, status, counted, busy, left) refl

pub late_is_nothing : (making : Making) (before after : List TimedOp) (at closed : ℕ) (a b : Op) → IsTrue (is_some (ids_of_start before)) → SameButSettled a b
    → content making (before ++ record { at = at; op = a } ∷ after) closed ≡ content making (before ++ record { at = at; op = b } ∷ after) closed
late_is_nothing making before after at closed a b started same =
    let x : TimedOp = record { at = at; op = a } in
    let y : TimedOp = record { at = at; op = b } in
    let cuts = cut before (x ∷ after) started ∙ sym (cut before (y ∷ after) started) in
    let own = ap (λ (ids : List SpanContext). ids_or_zeros (slice_get ids 0)) (filter_swap (λ op. (deed op.op).own) before x y after (ap (λ (d : Deed). d.own) same)) in
    let xs = before ++ x ∷ after in
    let ys = before ++ y ∷ after in
    same_content making xs ys closed
    (ap (λ (ops : List TimedOp). last_or making.name (filter_map (λ op. (deed op.op).name) ops)) cuts)
    (ap (λ (ops : List TimedOp). last_or Internal (filter_map (λ op. (deed op.op).kind) ops)) cuts)
    (ap (λ (ops : List TimedOp). last_or making.parent (filter_map (λ op. (deed op.op).parent) ops)) cuts)
    (flat_swap (λ op. (deed op.op).attributes) before x y after (ap (λ (d : Deed). d.attributes) same))
    (filter_swap (λ op. (deed op.op).event) before x y after (ap (λ (d : Deed). d.event) same))
    (filter_swap (λ op. (deed op.op).link) before x y after (ap (λ (d : Deed). d.link) same))
    (ap (λ (w : List Status). greatest_status Unset w) (flat_swap (λ op. statuses_written (deed op.op)) before x y after (ap (λ (d : Deed). statuses_written d) same)))
    (ap (λ (n : ℕ). min n GREATEST) (count_swap (λ op. (deed op.op).counts) before x y after (ap (λ (d : Deed). d.counts) same)))
    (busy_swap 0 making.made_at at before a b after same)
    (ap (λ (moments : List ℕ). fold (λ _ n. Some n) None moments) (filter_swap exit_moment before x y after (ap (λ (d : Deed). if d.exits then Some at else None) same)))
    (content making xs closed).context
    ∙ ap (λ (c : SpanContext). record (content making ys closed) { context = c }) own

pub early_is_late : (making : Making) (before between after : List TimedOp) (early late : ℕ) (own given : SpanContext) (closed : ℕ) → All SettlesNothing between → open_after_ops 0 (before ++ between ++ after) ≡ 0
    → MomentsRise making.made_at (with_early before (start_at early own) between after) → MomentsRise making.made_at (with_late before between (start_at late given) after)
    → SameButIds (content making (with_early before (start_at early own) between after) closed) (content making (with_late before between (start_at late given) after) closed)
early_is_late making before between after early late own given closed all shut order later =
    let x = start_at early own in
    let y = start_at late given in
    let xs = with_early before x between after in
    let ys = with_late before between y after in
    let joined = append_assoc before between after in
    same_content making xs ys closed
    (last_same (λ d. d.name) (λ d is. ap (λ (e : Deed). e.name) is) making.name before between after x y refl refl all)
    (last_same (λ d. d.kind) (λ d is. ap (λ (e : Deed). e.kind) is) Internal before between after x y refl refl all)
    (last_same (λ d. d.parent) (λ d is. ap (λ (e : Deed). e.parent) is) making.parent before between after x y refl refl all)
    (flat_moved (λ op. (deed op.op).attributes) before between after x y refl refl)
    (filter_moved (λ op. (deed op.op).event) before between after x y refl refl)
    (filter_moved (λ op. (deed op.op).link) before between after x y refl refl)
    (ap (λ (w : List Status). greatest_status Unset w) (flat_moved (λ op. statuses_written (deed op.op)) before between after x y refl refl))
    (ap (λ (n : ℕ). min n GREATEST) (count_skip (λ op. (deed op.op).counts) before x (between ++ after) refl ∙ ap (λ (ops : List TimedOp). count_by (λ op. (deed op.op).counts) ops) (sym joined)
    ∙ sym (count_skip (λ op. (deed op.op).counts) (before ++ between) y after refl)))
    (busy_skip 0 making.made_at early own before (between ++ after) order (ap (λ (ops : List TimedOp). open_after_ops 0 ops) (sym joined) ∙ shut) ∙ ap (λ (ops : List TimedOp). busy_from 0 making.made_at ops) (sym joined)
    ∙ sym (busy_skip 0 making.made_at late given (before ++ between) after later shut))
    (ap (λ (moments : List ℕ). fold (λ _ n. Some n) None moments) (filter_moved exit_moment before between after x y refl refl))
    (content making xs closed).context
