-- The state of a shared span with one entry more.
use Rattle.std.proofs.Common.{◌≡◌, ℕ, ◌+◌, ◌-◌, ◌<◌, ◌≤◌, ◌==◌, ◌^◌, Bool, true, false, max, List, [], ◌∷◌, ◌++◌, length, refl, ap, sym, ◌∙◌, subst, arith, length-append, append_assoc, true≢false, fold, flat_map, is_some, Result, Ok, Err, OnErr, IsTrue}
use Rattle.std.proofs.lemmas.List.{append-nil}
use Rattle.std.proofs.lemmas.List.Sums.{fold-append}
use Rattle.trace_threads.proofs.Common.{flat_map-append, Op, Making, Entry, HandleAct, Clone, Call, Join, Release, SpanData, data_at_making, after_stamped, Represents, is_growing, Move, enters, exits, stays, move_of, open_count_after, HistoryState, start, entry, has, state_after, clone_count_after, held_after, inside_after, move_in, may, may_do, may_move, state_from, is_legal, IsLegal, IsHeld, is_closed, base_of, op_with_ids, ops_by, ops_in, ops_of, data_by, data_once_started, ops_at_close, content_of, IsSoundShared}
use Rattle.otel_base.specs.declared.context.SpanContext.{SpanContext}
use Rattle.otel_state.specs.declared.op.Op.TheVariants as ops
use Rattle.otel_base.specs.declared.record.Record.{Record}
use Rattle.otel_state.specs.declared.times.TheConstants.{GREATEST}
use Rattle.otel_state.specs.Content.{Making as Base, content}
use Rattle.otel_state.specs.Deeds.{TimedOp}
use Rattle.otel_state.specs.Times.{MomentsRise}
use Rattle.trace_threads.specs.History.{state_of_history}
use Rattle.trace_threads.proofs.histories.HoldersLemmas.{both, Distinct, length_without, length_less}
use Rattle.trace_threads.proofs.histories.HistoriesLemmas.{sum_push, legal_push, may_any, tested, distinct, counts_none}

abbrev pub holders_after : ℕ → HandleAct → ℕ
holders_after n (Clone new) = n + 1
holders_after n (Call op) = n
holders_after n (Join ended) = n - 1
holders_after n Release = n - 1

held_length : (s : HistoryState) (c : ℕ) (w : HandleAct) → Distinct s.held → has c s.held ≡ true → may_do s c w ≡ true → length (held_after s.held c w) ≡ holders_after (length s.held) w
held_length s c (Clone n) d h m = length-append s.held (n ∷ [])
held_length s c (Call op) d h m = refl
held_length s c (Join j) d h m = let l = length_without j s.held d (both (has j s.held) _ m).0 in omega (arith, l)
held_length s c Release d h m = let l = length_without c s.held d h in omega (arith, l)

move_length : (i : List ℕ) (c : ℕ) (m : Move) → may_move i c m ≡ true → length (inside_after i c m) ≡ open_count_after (length i) m
move_length i c enters e = omega arith
move_length i c exits e = let l = length_less c i e in omega (arith, l)
move_length i c stays e = refl

inside_length : (s : HistoryState) (c : ℕ) (w : HandleAct) → may_do s c w ≡ true → length (inside_after s.inside c (move_in w)) ≡ open_count_after (length s.inside) (move_in w)
inside_length s c (Clone n) m = refl
inside_length s c (Call op) m = move_length s.inside c (move_of op) m
inside_length s c (Join j) m = refl
inside_length s c Release m = refl

ops_push : (making : Making) (log : List Entry) (c at : ℕ) (w : HandleAct) → ops_of making (log ++ entry c at w ∷ []) ≡ ops_of making log ++ ops_by making.own at w
ops_push making log c at w = ap (λ (l : List TimedOp). record { at = making.made_at; op = ops.Update making.update } ∷ l) (flat_map-append (ops_in making.own) log (entry c at w ∷ []) ∙ ap (λ (l : List TimedOp). flat_map (ops_in making.own) log ++ l) (append-nil (ops_by making.own at w)))

told_push : (making : Making) (log : List Entry) (c at : ℕ) (w : HandleAct) → data_by making (log ++ entry c at w ∷ []) ≡ fold after_stamped (data_by making log) (ops_by making.own at w)
told_push making log c at w = ap (λ (l : List TimedOp). fold after_stamped (data_at_making (base_of making)) l) (ops_push making log c at w) ∙ fold-append after_stamped (data_at_making (base_of making)) (ops_of making log) (ops_by making.own at w)

pub kept_push : (making : Making) (log new : List Entry) (span_data span_data' : SpanData) (own : SpanContext) (last clones holders inside room clones' holders' inside' room' : ℕ) (c at l : ℕ) (w : HandleAct)
    → IsSoundShared making log span_data own last clones holders inside room → IsHeld making.made_at c log → may_do (state_of_history making.made_at log) c w ≡ true → at ≤ GREATEST → l ≡ max at last → new ≡ log ++ entry c l w ∷ []
    → clones' ≡ clone_count_after clones w → holders' ≡ holders_after holders w → inside' ≡ open_count_after inside (move_in w) → span_data' ≡ fold after_stamped span_data (ops_by making.own l w)
    → length log + 1 + holders' + inside' ≤ room' → IsSoundShared making new span_data' own l clones' holders' inside' room'
kept_push making log new span_data span_data' own last clones holders inside room clones' holders' inside' room' c at l w k h m low late is cs hs ins ts enough =
    let s : HistoryState = state_of_history making.made_at log in
    let e : Entry = entry c l w in
    let sums : state_of_history making.made_at new ≡ state_after s e = ap (state_of_history making.made_at) is ∙ sum_push (start making.made_at) log e in
    let lasts : l ≡ max at s.last = late ∙ ap (max at) (sym k.at_last) in
    let can : may s e ≡ true = subst (λ (n : ℕ). may s (entry c n w) ≡ true) (sym lasts) (may_any s c at w h m) in
    let lows = k.low in
    record {
      legal = ap (is_legal (start making.made_at)) is ∙ legal_push (start making.made_at) log e k.legal can;
      at_last = ap (λ (t : HistoryState). t.last) sums;
      low = omega (arith, low, late, lows);
      cloned = ap (λ (t : HistoryState). t.clones) sums ∙ ap (λ (n : ℕ). clone_count_after n w) k.cloned ∙ sym cs;
      held = ap (λ (t : HistoryState). length t.held) sums ∙ held_length s c w (distinct making.made_at log k.legal) h m ∙ ap (λ (n : ℕ). holders_after n w) k.held ∙ sym hs;
      entered = ap (λ (t : HistoryState). length t.inside) sums ∙ inside_length s c w m ∙ ap (λ (n : ℕ). open_count_after n (move_in w)) k.entered ∙ sym ins;
      enough = let long = ap length is ∙ length-append log (e ∷ []) in omega (arith, long, enough);
      ids = k.ids;
      came_to = ts ∙ ap (λ (t : SpanData). fold after_stamped t (ops_by making.own l w)) k.came_to ∙ sym (told_push making log c l w) ∙ ap (data_by making) (sym is);
    }

pub closed_by : (making : Making) (log : List Entry) (span_data : SpanData) (own : SpanContext) (last clones holders inside room : ℕ) (b : Bool) → IsSoundShared making log span_data own last clones holders inside room → b ≡ (holders == 0) → b ≡ is_closed making.made_at log
closed_by making log span_data own last clones holders inside room b k e = e ∙ ap (λ (n : ℕ). n == 0) (sym k.held) ∙ counts_none (state_of_history making.made_at log).held

-- ---- the close

abbrev pub last_of : ℕ → List TimedOp → ℕ
last_of made [] = made
last_of made (op ∷ more) = last_of op.at more

ordered_push : (made at : ℕ) (more : List TimedOp) (op : Op) → MomentsRise made more → last_of made more ≤ at → at ≤ GREATEST → MomentsRise made (more ++ record { at = at; op = op } ∷ [])
ordered_push made at [] op i le low = (le, low)
ordered_push made at (x ∷ more) op i le low = (i.0, ordered_push x.at at more op i.1 le low)

last_push : (made at : ℕ) (more : List TimedOp) (op : Op) → last_of made (more ++ record { at = at; op = op } ∷ []) ≡ at
last_push made at [] op = refl
last_push made at (x ∷ more) op = last_push x.at at more op

-- the ops of a history are in order, and none is later than its greatest moment
record Ordered (making : Making) (ops : List TimedOp) (last : ℕ) : Type 0 where
  order : MomentsRise making.made_at ops
  late : last_of making.made_at ops ≤ last

ordered_by : (making : Making) (more : List TimedOp) (last at : ℕ) (what : HandleAct) → Ordered making more last → last ≤ at → at ≤ GREATEST → Ordered making (more ++ ops_by making.own at what) at
ordered_by making more last at (Clone n) o le low = record { order = subst (MomentsRise making.made_at) (sym (append-nil more)) o.order; late = subst (λ (l : List TimedOp). last_of making.made_at l ≤ at) (sym (append-nil more)) (let l = o.late in omega (arith, l, le)) }
ordered_by making more last at (Call op) o le low = record { order = ordered_push making.made_at at more (op_with_ids making.own op) o.order (let l = o.late in omega (arith, l, le)) low; late = let l = last_push making.made_at at more (op_with_ids making.own op) in omega (arith, l) }
ordered_by making more last at (Join n) o le low = record { order = subst (MomentsRise making.made_at) (sym (append-nil more)) o.order; late = subst (λ (l : List TimedOp). last_of making.made_at l ≤ at) (sym (append-nil more)) (let l = o.late in omega (arith, l, le)) }
ordered_by making more last at Release o le low = record { order = subst (MomentsRise making.made_at) (sym (append-nil more)) o.order; late = subst (λ (l : List TimedOp). last_of making.made_at l ≤ at) (sym (append-nil more)) (let l = o.late in omega (arith, l, le)) }

last_grows : (s : HistoryState) (log : List Entry) → is_legal s log ≡ true → s.last ≤ (state_from s log).last
last_grows s [] l = omega arith
last_grows s (e ∷ log) l =
    let p = both (may s e) _ l in
    let a = (tested s e p.0).later in
    let b = last_grows (state_after s e) log p.1 in
    omega (arith, a, b)

ordered_all : (making : Making) (s : HistoryState) (log : List Entry) (more : List TimedOp) → is_legal s log ≡ true → (state_from s log).last ≤ GREATEST → Ordered making more s.last → Ordered making (more ++ flat_map (ops_in making.own) log) (state_from s log).last
ordered_all making s [] more l low o = subst (λ (l : List TimedOp). Ordered making l s.last) (sym (append-nil more)) o
ordered_all making s (e ∷ log) more l low o =
    let p = both (may s e) _ l in
    let up = last_grows (state_after s e) log p.1 in
    let next = ordered_by making more s.last e.at e.what o (tested s e p.0).later (omega (arith, up, low)) in
    subst (λ (l : List TimedOp). Ordered making l (state_from (state_after s e) log).last) (append_assoc more (ops_in making.own e) (flat_map (ops_in making.own) log))
    (ordered_all making (state_after s e) log (more ++ ops_in making.own e) p.1 low next)

ordered : (making : Making) (log : List Entry) → IsLegal making.made_at log → (state_of_history making.made_at log).last ≤ GREATEST → Ordered making (ops_of making log) (state_of_history making.made_at log).last
ordered making log l low =
    let up = last_grows (start making.made_at) log l in
    ordered_all making (start making.made_at) log (record { at = making.made_at; op = ops.Update making.update } ∷ []) l low (record { order = (omega arith, omega (arith, up, low)); late = omega arith })

close_case : (making : Making) (log : List Entry) (b : Bool) → is_some (data_by making log).own ≡ b → IsLegal making.made_at log → (state_of_history making.made_at log).last ≤ GREATEST
    → Represents (base_of making) (ops_at_close making log) (data_once_started making.own (state_of_history making.made_at log).last (data_by making log)) × MomentsRise making.made_at (ops_at_close making log)
close_case making log true is l low = let o = ordered making log l low in rw is (refl, o.order)
close_case making log false is l low =
    let o = ordered making log l low in
    let at = (state_of_history making.made_at log).last in
    rw is
    (sym (fold-append after_stamped (data_at_making (base_of making)) (ops_of making log) (record { at = at; op = ops.Start making.own } ∷ [])), ordered_push making.made_at at (ops_of making log) (ops.Start making.own) o.order o.late low)

-- what the close of a state has to know
pub closes : (making : Making) (log : List Entry) (span_data span_data' : SpanData) (own : SpanContext) (last clones holders inside room : ℕ) (result : Record) → IsSoundShared making log span_data own last clones holders inside room → span_data' ≡ data_once_started own last span_data
    → ((base : Base) (ops : List TimedOp) → Represents base ops span_data' → MomentsRise base.made_at ops → result ≡ content base ops last) → result ≡ content_of making log
closes making log span_data span_data' own last clones holders inside room result k e f =
    let low : (state_of_history making.made_at log).last ≤ GREATEST = let a = k.at_last in let b = k.low in omega (arith, a, b) in
    let c = close_case making log (is_some (data_by making log).own) refl k.legal low in
    let told_is : span_data' ≡ data_once_started making.own (state_of_history making.made_at log).last (data_by making log) = e ∙ (λ i. data_once_started (k.ids i) (sym k.at_last i) (k.came_to i)) in
    f (base_of making) (ops_at_close making log) (told_is ∙ c.0) c.1 ∙ ap (λ (n : ℕ). content (base_of making) (ops_at_close making log) n) (sym k.at_last)

pub few_inside : (making : Making) (log : List Entry) (span_data : SpanData) (own : SpanContext) (last clones holders inside room : ℕ) → IsSoundShared making log span_data own last clones holders inside room → room < 2 ^ 63 → length (state_of_history making.made_at log).inside < 2 ^ 63
few_inside making log span_data own last clones holders inside room k small = let a = k.entered in let b = k.enough in omega (arith, a, b, small)

-- ---- answers

pub err_by : {A E : Type 0} (r : Result A E) (P Q : Type 0) → (P → Q) → OnErr r P → OnErr r Q
err_by (Ok a) P Q f p = p
err_by (Err e) P Q f p = f p

-- an exit takes no memory
pub exit_stays : (own : SpanContext) (o op : Op) → o ≡ op_with_ids own op → op ≡ ops.Exit → IsTrue (is_growing o) → ⊥
exit_stays own o op e is grows = let no : IsTrue (is_growing ops.Exit) = subst (λ (x : Op). IsTrue (is_growing x)) (e ∙ ap (op_with_ids own) is) grows in true≢false (sym no)
