-- What a state has come to by a list of ops, field by field, and so the record that it is closed to.
use Rattle.std.proofs.Common.{◌≡◌, ℕ, ◌+◌, ◌≤◌, List, [], ◌∷◌, ◌++◌, Bool, true, false, Option, Some, None, refl, sym, ap, subst, ◌∙◌, arith, append_assoc}
use Rattle.std.specs.Prelude.{if◌then◌else◌, is_some, min, fold, flat_map, filter_map, count_by, slice_get}
use Rattle.std.specs.List.{cons_option}
use Rattle.std.specs.Ordering.{ord_max}
use Rattle.std.proofs.lemmas.List.{append-nil}
use Rattle.std.proofs.lemmas.List.Sums.{fold-append, fold_push, sum_by-cons}
use Rattle.otel_base.specs.declared.context.SpanContext.{SpanContext}
use Rattle.otel_base.specs.declared.status.Status.TheVariants.{Unset}
use Rattle.otel_base.specs.Statuses.{status_cmp}
use Rattle.otel_state.specs.declared.times.TheConstants.{GREATEST}
use Rattle.otel_state.specs.declared.op.Op.{Op}
use Rattle.otel_state.specs.Deeds.{Deed, TimedOp, deed}
use Rattle.otel_state.specs.Opening.{before_start, ids_of_start, last_or, name_of, kind_of, parent_context_of}
use Rattle.otel_state.specs.Statuses.{statuses_written, greatest_status, status_of}
use Rattle.otel_state.specs.Times.{open_after, open_after_ops, busy_between, busy_from, busy_of, exit_moment, last_exit, MomentsRise}
use Rattle.otel_state.specs.Content.{Making, attributes_of, events_of, links_of, counted_of, content}
use Rattle.otel_state.specs.States.{SpanData, data_at_making, moment_after, unless_started, first_start, with_all, with_one, after_op, after_stamped, Represents, AppendsOp, IsReadOff, reply, reply_after, record_of}

-- a field that each op changes by itself
pub folded : {B : Type 0} (field : SpanData → B) (step : B → TimedOp → B) → ((span_data : SpanData) (op : TimedOp) → field (after_stamped span_data op) ≡ step (field span_data) op)
    → (span_data : SpanData) (ops : List TimedOp) → field (fold after_stamped span_data ops) ≡ fold step (field span_data) ops
folded field step one span_data [] = refl
folded field step one span_data (op ∷ ops) = folded field step one (after_stamped span_data op) ops ∙ ap (λ b. fold step b ops) (one span_data op)

-- a field that no op changes
pub constant : {B : Type 0} (field : SpanData → B) → ((span_data : SpanData) (op : TimedOp) → field (after_stamped span_data op) ≡ field span_data) → (span_data : SpanData) (ops : List TimedOp) → field (fold after_stamped span_data ops) ≡ field span_data
constant field one span_data [] = refl
constant field one span_data (op ∷ ops) = constant field one (after_stamped span_data op) ops ∙ one span_data op

-- ---- what is added

with_all_is : {A : Type 0} (xs ys : List A) → with_all xs ys ≡ xs ++ ys
with_all_is xs [] = sym (append-nil xs)
with_all_is xs (y ∷ ys) = refl

all_added : {A : Type 0} (g : TimedOp → List A) (xs : List A) (ops : List TimedOp) → fold (λ items op. with_all items (g op)) xs ops ≡ xs ++ flat_map g ops
all_added g xs [] = sym (append-nil xs)
all_added {A} g xs (op ∷ ops) =
    all_added g (with_all xs (g op)) ops ∙ ap (λ (items : List A). items ++ flat_map g ops) (with_all_is xs (g op)) ∙ append_assoc xs (g op) (flat_map g ops)

with_one_is : {A : Type 0} (xs : List A) (one : Option A) (rest : List A) → with_one xs one ++ rest ≡ xs ++ cons_option one rest
with_one_is xs None rest = refl
with_one_is xs (Some x) rest = append_assoc xs (x ∷ []) rest

one_added : {A : Type 0} (g : TimedOp → Option A) (xs : List A) (ops : List TimedOp) → fold (λ items op. with_one items (g op)) xs ops ≡ xs ++ filter_map g ops
one_added g xs [] = sym (append-nil xs)
one_added g xs (op ∷ ops) = one_added g (with_one xs (g op)) ops ∙ with_one_is xs (g op) (filter_map g ops)

-- ---- the status

folded_flat : {A B : Type 0} (f : B → A → B) (g : TimedOp → List A) (b : B) (ops : List TimedOp) → fold (λ c op. fold f c (g op)) b ops ≡ fold f b (flat_map g ops)
folded_flat f g b [] = refl
folded_flat f g b (op ∷ ops) = folded_flat f g (fold f b (g op)) ops ∙ sym (fold-append f b (g op) (flat_map g ops))

-- ---- the count

count_step : (counts : Bool) (n m : ℕ) → min ((if counts then min (n + 1) GREATEST else n) + m) GREATEST ≡ min (n + ((if counts then 1 else 0) + m)) GREATEST
count_step true n m = omega arith
count_step false n m = omega arith

counted_all : (n : ℕ) (ops : List TimedOp) → n ≤ GREATEST → fold (λ m op. if (deed op.op).counts then min (m + 1) GREATEST else m) n ops ≡ min (n + count_by (λ op. (deed op.op).counts) ops) GREATEST
counted_all n [] within = omega (arith, within)
counted_all n (op ∷ ops) within =
    counted_all (if (deed op.op).counts then min (n + 1) GREATEST else n) ops (still (deed op.op).counts) ∙ count_step (deed op.op).counts n (count_by (λ o. (deed o.op).counts) ops)
    ∙ ap (λ m. min (n + m) GREATEST) (sym (sum_by-cons (λ o. if (deed o.op).counts then 1 else 0) op ops))
  where
    still : (counts : Bool) → (if counts then min (n + 1) GREATEST else n) ≤ GREATEST
    still true = omega arith
    still false = within

counted_is : (ops : List TimedOp) → fold (λ m op. if (deed op.op).counts then min (m + 1) GREATEST else m) 0 ops ≡ counted_of ops
counted_is ops = let all = counted_all 0 ops (omega arith) in omega (arith, all)

-- ---- the start, and what is settled until then

started_stays : (own : SpanContext) (ops : List TimedOp) → fold (λ o op. first_start o (deed op.op).own) (Some own) ops ≡ Some own
started_stays own [] = refl
started_stays own (op ∷ ops) = ap (λ o. fold (λ p q. first_start p (deed q.op).own) o ops) (stays (deed op.op).own) ∙ started_stays own ops
  where
    stays : (given : Option SpanContext) → first_start (Some own) given ≡ Some own
    stays None = refl
    stays (Some given) = refl

own_all : (ops : List TimedOp) → fold (λ o op. first_start o (deed op.op).own) None ops ≡ ids_of_start ops
own_all [] = refl
own_all (op ∷ ops) = by_start (own_all ops) (deed op.op).own
  where
    by_start : fold (λ o op. first_start o (deed op.op).own) None ops ≡ ids_of_start ops → (given : Option SpanContext)
        → fold (λ o op. first_start o (deed op.op).own) (first_start None given) ops ≡ slice_get (cons_option given (filter_map (λ o. (deed o.op).own) ops)) 0
    by_start none None = none
    by_start none (Some own) = started_stays own ops

-- a field that is settled by the start
module _ {A : Type 0} (field : SpanData → A) (write : Deed → Option A) (one : (span_data : SpanData) (op : TimedOp) → field (after_stamped span_data op) ≡ unless_started (first_start span_data.own (deed op.op).own) (field span_data) (write (deed op.op))) where
  kept_by : (own : SpanContext) (before : A) (written : Option A) → unless_started (Some own) before written ≡ before
  kept_by own before None = refl
  kept_by own before (Some new) = refl

  own_stays : (own : SpanContext) (given : Option SpanContext) → first_start (Some own) given ≡ Some own
  own_stays own None = refl
  own_stays own (Some given) = refl

  settled : (own : SpanContext) (span_data : SpanData) (ops : List TimedOp) → span_data.own ≡ Some own → field (fold after_stamped span_data ops) ≡ field span_data
  settled own span_data [] is = refl
  settled own span_data (op ∷ ops) is =
      let now : first_start span_data.own (deed op.op).own ≡ Some own = ap (λ o. first_start o (deed op.op).own) is ∙ own_stays own (deed op.op).own in
      settled own (after_stamped span_data op) ops now ∙ one span_data op ∙ ap (λ o. unless_started o (field span_data) (write (deed op.op))) now ∙ kept_by own (field span_data) (write (deed op.op))

  written_last : (before : A) (written : Option A) (rest : List A) → last_or (unless_started None before written) rest ≡ last_or before (cons_option written rest)
  written_last before None rest = refl
  written_last before (Some new) rest = refl

  waiting : (span_data : SpanData) (ops : List TimedOp) → span_data.own ≡ None → field (fold after_stamped span_data ops) ≡ last_or (field span_data) (filter_map (λ op. write (deed op.op)) (before_start ops))
  waiting span_data [] is = refl
  waiting span_data (op ∷ ops) is = by_start (waiting (after_stamped span_data op) ops) (deed op.op).own refl
    where
      by_start : ((after_stamped span_data op).own ≡ None → field (fold after_stamped (after_stamped span_data op) ops) ≡ last_or (field (after_stamped span_data op)) (filter_map (λ o. write (deed o.op)) (before_start ops)))
          → (given : Option SpanContext) → (deed op.op).own ≡ given
          → field (fold after_stamped (after_stamped span_data op) ops) ≡ last_or (field span_data) (filter_map (λ o. write (deed o.op)) (if is_some given then [] else op ∷ before_start ops))
      by_start later None e =
          let now : first_start span_data.own (deed op.op).own ≡ None = ap (λ o. first_start span_data.own o) e ∙ is in
          later now ∙ ap (λ a. last_or a (filter_map (λ o. write (deed o.op)) (before_start ops))) (one span_data op ∙ ap (λ o. unless_started o (field span_data) (write (deed op.op))) now)
          ∙ written_last (field span_data) (write (deed op.op)) (filter_map (λ o. write (deed o.op)) (before_start ops))
      by_start later (Some own) e =
          let now : first_start span_data.own (deed op.op).own ≡ Some own = ap (λ o. first_start o (deed op.op).own) is ∙ ap (λ o. first_start None o) e in
          settled own (after_stamped span_data op) ops now ∙ one span_data op ∙ ap (λ o. unless_started o (field span_data) (write (deed op.op))) now ∙ kept_by own (field span_data) (write (deed op.op))

-- ---- times

moment_is : (last at : ℕ) → last ≤ at → at ≤ GREATEST → moment_after last at ≡ at
moment_is last at later within = omega (arith, later, within)

pub first_within : (last : ℕ) (ops : List TimedOp) → MomentsRise last ops → last ≤ GREATEST
first_within last [] order = order
first_within last (op ∷ ops) order = let within = first_within op.at ops order.1 in omega (arith, order.0, within)

pub left_all : (span_data : SpanData) (ops : List TimedOp) → MomentsRise span_data.last ops → (fold after_stamped span_data ops).left_at ≡ fold (λ _ at. Some at) span_data.left_at (filter_map exit_moment ops)
left_all span_data [] order = refl
left_all span_data (op ∷ ops) order =
    let is = moment_is span_data.last op.at order.0 (first_within op.at ops order.1) in
    left_all (after_stamped span_data op) ops (subst (λ n. MomentsRise n ops) (sym is) order.1) ∙ by_exit (deed op.op).exits is
  where
    by_exit : (exits : Bool) → moment_after span_data.last op.at ≡ op.at → fold (λ _ at. Some at) (if exits then Some (moment_after span_data.last op.at) else span_data.left_at) (filter_map exit_moment ops)
        ≡ fold (λ _ at. Some at) span_data.left_at (cons_option (if exits then Some op.at else None) (filter_map exit_moment ops))
    by_exit true is = ap (λ n. fold (λ _ at. Some at) (Some n) (filter_map exit_moment ops)) is
    by_exit false is = refl

pub busy_all : (span_data : SpanData) (ops : List TimedOp) → MomentsRise span_data.last ops → (fold after_stamped span_data ops).busy ≡ span_data.busy + busy_from span_data.entries span_data.last ops
busy_all span_data [] order = omega arith
busy_all span_data (op ∷ ops) order =
    let is = moment_is span_data.last op.at order.0 (first_within op.at ops order.1) in
    let rest = busy_all (after_stamped span_data op) ops (subst (λ n. MomentsRise n ops) (sym is) order.1) in
    let here = ap (λ n. busy_between span_data.entries span_data.last n) is in
    let after = ap (λ n. busy_from (open_after span_data.entries (deed op.op)) n ops) is in
    omega (arith, rest, here, after)

-- ---- the record

busy_is : (made_at within busy : ℕ) (ops : List TimedOp) → busy ≡ 0 + busy_from 0 within ops → within ≡ made_at → busy ≡ busy_of made_at ops
busy_is made_at within busy ops is same = let here = ap (λ n. busy_from 0 n ops) same in omega (arith, is, here)

the_record : (span_data : SpanData) (making : Making) (ops : List TimedOp) (closed : ℕ) → span_data.name ≡ name_of making.name ops → span_data.kind ≡ kind_of ops → span_data.parent ≡ parent_context_of making.parent ops → span_data.made_at ≡ making.made_at
    → span_data.counting ≡ making.counting → span_data.inactivity ≡ making.inactivity → span_data.own ≡ ids_of_start ops → span_data.attributes ≡ making.first ++ attributes_of ops → span_data.events ≡ events_of ops → span_data.links ≡ links_of ops
    → span_data.status ≡ status_of ops → span_data.counted ≡ counted_of ops → span_data.busy ≡ busy_of making.made_at ops → span_data.left_at ≡ last_exit ops → record_of span_data closed ≡ content making ops closed
the_record span_data making ops closed name kind parent made_at counting inactivity own attributes events links status counted busy left =
    simp (name, kind, parent, made_at, counting, inactivity, own, attributes, events, links, status, counted, busy, left, append_assoc) refl

-- ---- what a state is asked

pub appended : (span_data : SpanData) (at : ℕ) (op : Op) → AppendsOp at op span_data (after_op span_data at op)
appended span_data at op making ops stands = ap (λ (t : SpanData). after_op t at op) stands ∙ sym (fold_push after_stamped (data_at_making making) ops (record { at = at; op = op }))

pub own_is : (span_data : SpanData) → IsReadOff (λ _ ops. ids_of_start ops) span_data span_data.own
own_is span_data making ops stands = ap (λ (t : SpanData). t.own) stands ∙ folded (λ t. t.own) (λ o op. first_start o (deed op.op).own) (λ t op. refl) (data_at_making making) ops ∙ own_all ops

pub parent_is : (span_data : SpanData) → IsReadOff (λ making ops. parent_context_of making.parent ops) span_data span_data.parent
parent_is span_data making ops stands = ap (λ (t : SpanData). t.parent) stands ∙ waiting (λ t. t.parent) (λ d. d.parent) (λ t op. refl) (data_at_making making) ops refl

pub entries_is : (span_data : SpanData) → IsReadOff (λ _ ops. open_after_ops 0 ops) span_data span_data.entries
entries_is span_data making ops stands = ap (λ (t : SpanData). t.entries) stands ∙ folded (λ t. t.entries) (λ n op. open_after n (deed op.op)) (λ t op. refl) (data_at_making making) ops

pub reply_is : (span_data : SpanData) (op : Op) → IsReadOff (λ _ ops. reply_after (ids_of_start ops) op) span_data (reply span_data op)
reply_is span_data op making ops stands = ap (λ (own : Option SpanContext). reply_after own op) (own_is span_data making ops stands)

pub content_is : (making : Making) (ops : List TimedOp) (span_data : SpanData) (closed : ℕ) → Represents making ops span_data → MomentsRise making.made_at ops → record_of span_data closed ≡ content making ops closed
content_is making ops span_data closed stands order =
    let start = data_at_making making in
    let made_at = first_within making.made_at ops order in
    let within : min making.made_at GREATEST ≡ making.made_at = omega (arith, made_at) in
    let in_order = subst (λ n. MomentsRise n ops) (sym within) order in
    let busy : (fold after_stamped start ops).busy ≡ busy_of making.made_at ops = busy_is making.made_at start.last (fold after_stamped start ops).busy ops (busy_all start ops in_order) within in
    ap (λ t. record_of t closed) stands ∙ the_record (fold after_stamped start ops) making ops closed
    (waiting (λ t. t.name) (λ d. d.name) (λ t op. refl) start ops refl)
    (waiting (λ t. t.kind) (λ d. d.kind) (λ t op. refl) start ops refl)
    (waiting (λ t. t.parent) (λ d. d.parent) (λ t op. refl) start ops refl)
    (constant (λ t. t.made_at) (λ t op. refl) start ops)
    (constant (λ t. t.counting) (λ t op. refl) start ops)
    (constant (λ t. t.inactivity) (λ t op. refl) start ops)
    (folded (λ t. t.own) (λ o op. first_start o (deed op.op).own) (λ t op. refl) start ops ∙ own_all ops)
    (folded (λ t. t.attributes) (λ xs op. with_all xs (deed op.op).attributes) (λ t op. refl) start ops ∙ all_added (λ op. (deed op.op).attributes) making.first ops)
    (folded (λ t. t.events) (λ xs op. with_one xs (deed op.op).event) (λ t op. refl) start ops ∙ one_added (λ op. (deed op.op).event) [] ops)
    (folded (λ t. t.links) (λ xs op. with_one xs (deed op.op).link) (λ t op. refl) start ops ∙ one_added (λ op. (deed op.op).link) [] ops)
    (folded (λ t. t.status) (λ s op. greatest_status s (statuses_written (deed op.op))) (λ t op. refl) start ops ∙ folded_flat (ord_max status_cmp) (λ op. statuses_written (deed op.op)) Unset ops)
    (folded (λ t. t.counted) (λ n op. if (deed op.op).counts then min (n + 1) GREATEST else n) (λ t op. refl) start ops ∙ counted_is ops)
    busy
    (left_all start ops in_order)
