-- The layer of a stack keeps one state of each span that is live.
use Rattle.span_laws.proofs.Common.{Bool, Callsite, ChangesNothing, Context, Enters, Err, Exits, FilterState, IfKnown, IfSome, Lane, LayerSettings, List, None, Ok, Op, Option, Recording, RecordsCall, RecordsChain, RecordsPart, Result, Some, Span, SpanContext, SpanData, Spans, ValueSet, [], after_op, any_if_counted, ap, arith, cases_Bool, cases_eq, cases_lt, cond-false, cond-true, count_by, count_cons, count_push, counted_if_any, current_of, data_at, enables_in, entries_on, event_op, false, fold, get_or_append_left, get_or_past, get_or_push, holds_other, holds_set, id_if_on, ids_if_known, inl, inr, is_id, is_in, is_some, knows_span, length, length_held, length_push, less_holds, list_any, made_if_held, map-append, nat_lt, no_span, one_if, parent_on, parent_source, parent_to_release, refl, set, span_at, span_update, span_without_hold, start_context, subst, sym, times_in, true, with_applied, with_close, with_entry, with_event, with_exit, with_follow, with_hold, with_hold_of_child, with_link, with_new_span, with_span_finished, with_span_under, with_start, with_start_if_some, with_start_under, without_hold, ℕ, ◌++◌, ◌+◌, ◌<◌, ◌==◌, ◌∙◌, ◌∷◌, ◌≡◌, ◌≢◌}
use Rattle.std.specs.Map.{keys_of, remove_entry}
use Rattle.std.proofs.lemmas.Bool.{eqb-true, eq-eqb, ne_eqb, lt-ltb, le-ltb, true≢false}
use Rattle.std.proofs.lemmas.Map.Made.{is_some-lookup}
use Rattle.trace_base.specs.declared.span.Parent.{Parent}
use Rattle.trace_base.specs.Calls.{SubscriberCall, NewSpan, Records, Follows, Event, Enter, Exit, CloneSpan, TryClose, spans_after_call, with_span_entry, with_span_exit}
use Rattle.trace_base.specs.Conditions.{IsLive, MayExit, HasUnboundHold, Allowed}
use Rattle.trace_base.specs.Sound.{IsSound}
use Rattle.trace_base.proofs.Sound.{parent_live}
use Rattle.trace_base.specs.Gate.{WorldValue}
use Rattle.span_handles.specs.Worlds.{Replaced, read_subscriber, ReleasesChain, all_released, releases, closed_in, no_spans}
use Rattle.span_handles.proofs.ChangedSubscriberLemmas.{seen_before, seen_later}
use Rattle.otel_base.specs.declared.memory.Memory.{Memory}
use Rattle.otel_state.specs.declared.op.OpReply.{OpReply}
use Rattle.otel_state.specs.declared.op.Op.TheVariants as ops
use Rattle.otel_layer.specs.laws.HookLemmas.{update_keys}
use Rattle.otel_layer.specs.Parts.{PartCall, Applies, GivesContext, AppliesTo, own_context_if_known}
use Rattle.span_stack.specs.Counting.{with_counted, with_event_by, RecordsCallBy}
use Rattle.span_stack.specs.Reading.{new_recording}
use Rattle.span_laws.specs.Live.{is_live, state_count, KeepsLive, IsAnsweredLive}

-- ---- holds

once_some : (n : ℕ) → 0 < n → one_if (nat_lt 0 n) ≡ 1
once_some n some = cond-true {A = ℕ} (nat_lt 0 n) 1 0 (lt-ltb 0 n some)

once_none : (n : ℕ) → n ≡ 0 → one_if (nat_lt 0 n) ≡ 0
once_none n none = cond-false {A = ℕ} (nat_lt 0 n) 1 0 (le-ltb 0 n (omega (arith, none)))

-- 1 for a span that is live
abbrev alive : List Span → ℕ → ℕ
alive made q = one_if (nat_lt 0 (span_at made q).holds)

alive_set : (made : List Span) (id : ℕ) (now : Span) → 0 < (span_at made id).holds → 0 < now.holds → (q : ℕ) → alive (set made id now) q ≡ alive made q
alive_set made id now live still q = elim (cases_eq q id) [
  | inl here ↦ (
      let h = holds_set made id now (made_if_held made id live) q here in
      let w = ap (λ (k : ℕ). (span_at made k).holds) here in
      once_some (span_at (set made id now) q).holds (omega (arith, h, still)) ∙ sym (once_some (span_at made q).holds (omega (arith, w, live))))
  | inr other ↦ ap (λ (n : ℕ). one_if (nat_lt 0 n)) (holds_other made id now q other)
]

alive_held : (made : List Span) (id : ℕ) → 0 < (span_at made id).holds → (q : ℕ) → alive (with_hold made id) q ≡ alive made q
alive_held made id live q = alive_set made id (record (span_at made id) { holds = (span_at made id).holds + 1 }) live (omega arith) q

alive_released : (made : List Span) (id : ℕ) → 1 < (span_at made id).holds → (q : ℕ) → alive (without_hold made id) q ≡ alive made q
alive_released made id more q = (let l = less_holds (span_at made id) in alive_set made id (span_without_hold (span_at made id)) (omega (arith, more)) (omega (arith, l, more)) q)

alive_child : (made : List Span) (o : Option ℕ) → IfSome o (λ p. IsLive made p) → (q : ℕ) → alive (with_hold_of_child made o) q ≡ alive made q
alive_child made None live q = refl
alive_child made (Some p) live q = alive_held made p live q

-- one span more
alive_push : (made : List Span) (new : Span) → new.holds ≡ 1 → (q : ℕ) → alive (made ++ new ∷ []) q ≡ alive made q + one_if (length made == q)
alive_push made new one q =
    let read : (s : Span) → span_at (made ++ new ∷ []) q ≡ s → alive (made ++ new ∷ []) q ≡ one_if (nat_lt 0 s.holds) = λ s e. ap (λ (x : Span). one_if (nat_lt 0 x.holds)) e in
    elim (cases_lt q (length made)) [
      | inl within ↦ (
          let off = cond-false {A = ℕ} (length made == q) 1 0 (ne_eqb (length made) q (λ e. omega (arith, e, within))) in
          let same = read (span_at made q) (get_or_append_left made (new ∷ []) no_span q within) in
          omega (arith, off, same))
      | inr past ↦ (
          let was : alive made q ≡ 0 = ap (λ (x : Span). one_if (nat_lt 0 x.holds)) (get_or_past made q no_span past) in
          elim (cases_eq (length made) q) [
            | inl here ↦ (
                let on = cond-true {A = ℕ} (length made == q) 1 0 (eq-eqb (length made) q here) in
                let now = read new (get_or_push made new no_span q here) in
                let some = once_some new.holds (omega (arith, one)) in
                omega (arith, on, now, some, was))
            | inr beyond ↦ (
                let off = cond-false {A = ℕ} (length made == q) 1 0 (ne_eqb (length made) q beyond) in
                let long = length_push made new in
                let now : alive (made ++ new ∷ []) q ≡ 0 = read no_span (get_or_past (made ++ new ∷ []) q no_span (omega (arith, long, past, beyond))) in
                omega (arith, off, now, was))
          ])
    ]

alive_entered : (x : Spans) (id lane : ℕ) → IsLive x.made id → (q : ℕ) → alive (with_span_entry x id lane).made q ≡ alive x.made q
alive_entered x id lane live q =
    let there = is_in id (entries_on lane x.lanes) in
    elim (cases_Bool there) [
      | inl again ↦ ap (λ (xs : List Span). alive xs q) (cond-true {A = List Span} there x.made (with_hold x.made id) again)
      | inr first ↦ ap (λ (xs : List Span). alive xs q) (cond-false {A = List Span} there x.made (with_hold x.made id) first) ∙ alive_held x.made id live q
    ]

alive_exited : (x : Spans) (id lane : ℕ) → MayExit x id lane → (q : ℕ) → alive (with_span_exit x id lane).made q ≡ alive x.made q
alive_exited x id lane may q =
    let times = times_in id (entries_on lane x.lanes) in
    elim (cases_eq times 1) [
      | inl last ↦ ap (λ (xs : List Span). alive xs q) (cond-true {A = List Span} (times == 1) (without_hold x.made id) x.made (eq-eqb times 1 last)) ∙ alive_released x.made id (may.1 last) q
      | inr more ↦ ap (λ (xs : List Span). alive xs q) (cond-false {A = List Span} (times == 1) (without_hold x.made id) x.made (ne_eqb times 1 more))
    ]

-- ---- the ids that states are kept under

abbrev pub keys : Recording → List ℕ
keys r = keys_of r.spans

op_keys : (id at : ℕ) (op : Op) (r : Recording) → keys (with_applied id at op r) ≡ keys r
op_keys id at op r = update_keys id (λ told. after_op told at op) r.spans

under_keys : (o : Option Context) (id at : ℕ) (r : Recording) → keys (with_start_under o id at r) ≡ keys r
under_keys None id at r = refl
under_keys (Some under) id at r = update_keys id _ r.spans

start_keys : (id at : ℕ) (r : Recording) → keys (with_start id at r) ≡ keys r
start_keys id at r = under_keys (start_context (data_at id r.spans)) id at r

starts_keys : (o : Option ℕ) (at : ℕ) (r : Recording) → keys (with_start_if_some o at r) ≡ keys r
starts_keys None at r = refl
starts_keys (Some id) at r = start_keys id at r

made_keys : (id : ℕ) (lane : Lane) (at : ℕ) (parent : Parent) (current : Option ℕ) (callsite : Callsite) (values : ValueSet) (r : Recording) → keys (with_new_span id lane at parent current callsite values r) ≡ keys r ++ id ∷ []
made_keys id lane at parent current callsite values r =
    let source = parent_source r.settings.activation parent current in
    starts_keys (id_if_on r.settings.eager id) at (with_span_under source id lane at parent callsite values r.settings r.counting (with_start_if_some source at r))
    ∙ map-append (λ (e : ℕ × SpanData). e.0) (with_start_if_some source at r).spans _ ∙ ap (λ (ks : List ℕ). ks ++ id ∷ []) (starts_keys source at r)

link_keys : (id at : ℕ) (o : Option SpanContext) (spans : List (ℕ × SpanData)) → keys_of (with_link id at o spans) ≡ keys_of spans
link_keys id at None spans = refl
link_keys id at (Some context) spans = update_keys id _ spans

follow_keys : (id from at : ℕ) (r : Recording) → keys (with_follow id from at r) ≡ keys r
follow_keys id from at r = (let s = with_start from at r in link_keys id at (ids_if_known (data_at from s.spans)) s.spans ∙ start_keys from at r)

pub event_keys : (o : Option ℕ) (at : ℕ) (callsite : Callsite) (values : ValueSet) (r : Recording) → keys (with_event o at callsite values r) ≡ keys r
event_keys None at callsite values r = refl
event_keys (Some id) at callsite values r = op_keys id at (event_op callsite values r.settings at) r

entry_keys : (id lane at : ℕ) (attached : Option ℕ) (r : Recording) → keys (with_entry id lane at attached r) ≡ keys r
entry_keys id lane at attached r = (let source = id_if_on r.settings.activation id in update_keys id _ (with_start_if_some source at r).spans ∙ starts_keys source at r)

exit_keys : (id lane at : ℕ) (r : Recording) → keys (with_exit id lane at r) ≡ keys r
exit_keys id lane at r = update_keys id _ r.spans

-- ---- how many states there are of a span

count_removed : (id q : ℕ) (spans : List (ℕ × SpanData)) → 0 < count_by (is_id id) (keys_of spans) → count_by (is_id q) (keys_of (remove_entry (is_id id) spans)) + one_if (id == q) ≡ count_by (is_id q) (keys_of spans)
count_removed id q [] some = absurd (omega (arith, some))
count_removed id q (e ∷ es) some =
    let all = count_cons (is_id q) e.0 (keys_of es) in
    elim (cases_Bool (e.0 == id)) [
      | inl here ↦ (
          let gone = ap (λ (xs : List (ℕ × SpanData)). count_by (is_id q) (keys_of xs)) (cond-true {A = List (ℕ × SpanData)} (e.0 == id) es (e ∷ remove_entry (is_id id) es) here) in
          let is = ap (λ (n : ℕ). one_if (n == q)) (eqb-true e.0 id here) in
          omega (arith, all, gone, is))
      | inr off ↦ (
          let own = count_cons (is_id id) e.0 (keys_of es) in
          let no = cond-false {A = ℕ} (e.0 == id) 1 0 off in
          let stays = ap (λ (xs : List (ℕ × SpanData)). count_by (is_id q) (keys_of xs)) (cond-false {A = List (ℕ × SpanData)} (e.0 == id) es (e ∷ remove_entry (is_id id) es) off) in
          let more = count_cons (is_id q) e.0 (keys_of (remove_entry (is_id id) es)) in
          let rest = count_removed id q es (omega (arith, some, own, no)) in
          omega (arith, all, stays, more, rest))
    ]

-- a span is told exactly where a state of it is kept
told_counted : (id : ℕ) (spans : List (ℕ × SpanData)) → 0 < count_by (is_id id) (keys_of spans) → is_some (data_at id spans) ≡ true
told_counted id spans some = is_some-lookup (is_id id) spans ∙ any_if_counted (is_id id) (keys_of spans) some

told_uncounted : (id : ℕ) (spans : List (ℕ × SpanData)) → count_by (is_id id) (keys_of spans) ≡ 0 → is_some (data_at id spans) ≡ false
told_uncounted id spans none = is_some-lookup (is_id id) spans ∙ elim (cases_Bool (list_any (is_id id) (keys_of spans))) [
  | inl any ↦ (let some = counted_if_any (is_id id) (keys_of spans) any in absurd (omega (arith, some, none)))
  | inr not ↦ not
]

pub told_live : (x : Spans) (r : Recording) → KeepsLive x r → (id : ℕ) → is_some (data_at id r.spans) ≡ is_live x id
told_live x r keeps id =
    let n = (span_at x.made id).holds in
    let one = keeps id in
    elim (cases_lt 0 n) [
      | inl some ↦ (let s = once_some n some in told_counted id r.spans (omega (arith, one, s)) ∙ sym (lt-ltb 0 n some))
      | inr none ↦ (let z = once_none n (omega (arith, none)) in told_uncounted id r.spans (omega (arith, one, z)) ∙ sym (le-ltb 0 n none))
    ]

closed_count : (o : Option SpanData) (id at q : ℕ) (r : Recording) → is_some o ≡ true → 0 < count_by (is_id id) (keys r) → state_count (with_span_finished o id at r) q + one_if (id == q) ≡ state_count r q
closed_count None id at q r there some = absurd (true≢false (sym there))
closed_count (Some told) id at q r there some = count_removed id q r.spans some

close_count : (id at q : ℕ) (r : Recording) → 0 < count_by (is_id id) (keys r) → state_count (with_close id at r) q + one_if (id == q) ≡ state_count r q
close_count id at q r some =
    let s = with_start id at r in
    let same : (k : ℕ) → state_count s k ≡ state_count r k = λ k. ap (λ (ks : List ℕ). count_by (is_id k) ks) (start_keys id at r) in
    let own = same id in
    let there : 0 < count_by (is_id id) (keys s) = omega (arith, own, some) in
    closed_count (data_at id s.spans) id at q s (told_counted id s.spans there) there ∙ same q

-- ---- one step

-- the same spans are live, and states are kept under the same ids
pub kept : (x y : Spans) (r t : Recording) → ((q : ℕ) → alive y.made q ≡ alive x.made q) → keys t ≡ keys r → KeepsLive x r → KeepsLive y t
kept x y r t lives ids keeps q = ap (λ (ks : List ℕ). count_by (is_id q) ks) ids ∙ keeps q ∙ sym (lives q)

if_known : (known : Bool) (A B : Type 0) (r t : Recording) → IfKnown known A B → (A → keys t ≡ keys r) → (B → keys t ≡ keys r) → keys t ≡ keys r
if_known true A B r t h a b = a (h.is_known refl)
if_known false A B r t h a b = b (h.isnt refl)

new_kept : (x : Spans) (r : Recording) (lane : Lane) (at : ℕ) (parent : Parent) (site : ℕ) (callsite : Callsite) (values : ValueSet) → IsSound x → Allowed x (NewSpan lane at parent site callsite values) → KeepsLive x r
    → KeepsLive (spans_after_call x (NewSpan lane at parent site callsite values)) (with_new_span (length x.made) lane at parent (current_of (entries_on lane.id x.lanes)) callsite values r)
new_kept x r lane at parent site callsite values sound allowed keeps q =
    let o = parent_on (entries_on lane.id x.lanes) parent in
    let new : Span = record { holds = 1; parent = o; site = site } in
    let id = length x.made in
    let child = alive_child x.made o (parent_live x lane.id parent sound allowed) q in
    let push = alive_push (with_hold_of_child x.made o) new refl q in
    let long = ap (λ (n : ℕ). one_if (n == q)) (length_held x.made o) in
    let ids = ap (λ (ks : List ℕ). count_by (is_id q) ks) (made_keys id lane at parent (current_of (entries_on lane.id x.lanes)) callsite values r) in
    let more = count_push (is_id q) (keys r) id in
    let was = keeps q in
    omega (arith, child, push, long, ids, more, was)

close_kept : (x : Spans) (r : Recording) (id at : ℕ) → (span_at x.made id).holds ≡ 1 → KeepsLive x r → KeepsLive (record x { made = without_hold x.made id }) (with_close id at r)
close_kept x r id at last keeps q =
    let own = keeps id in
    let one = once_some (span_at x.made id).holds (omega (arith, last)) in
    let less = close_count id at q r (omega (arith, own, one)) in
    let was = keeps q in
    let now = span_without_hold (span_at x.made id) in
    elim (cases_eq q id) [
      | inl here ↦ (
          let h = holds_set x.made id now (made_if_held x.made id (omega (arith, last))) q here in
          let l = less_holds (span_at x.made id) in
          let none = once_none (span_at (without_hold x.made id) q).holds (omega (arith, h, l, last)) in
          let on = cond-true {A = ℕ} (id == q) 1 0 (eq-eqb id q (sym here)) in
          let same = ap (λ (k : ℕ). state_count r k) here in
          omega (arith, less, own, one, none, on, same))
      | inr other ↦ (
          let h = ap (λ (n : ℕ). one_if (nat_lt 0 n)) (holds_other x.made id now q other) in
          let off = cond-false {A = ℕ} (id == q) 1 0 (ne_eqb id q (λ e. other (sym e))) in
          omega (arith, less, was, h, off))
    ]

release_kept : (x : Spans) (r : Recording) (id : ℕ) → HasUnboundHold x id → (span_at x.made id).holds ≢ 1 → KeepsLive x r → KeepsLive (record x { made = without_hold x.made id }) r
release_kept x r id own several keeps = kept x (record x { made = without_hold x.made id }) r r (alive_released x.made id (omega (arith, own, several))) refl keeps

pub call_kept : (x : Spans) (r : Recording) (call : SubscriberCall) (t : Recording) → IsSound x → Allowed x call → RecordsCall x r call t → KeepsLive x r → KeepsLive (spans_after_call x call) t
call_kept x r (NewSpan lane at parent site callsite values) t sound allowed h keeps =
    subst (λ (y : Recording). KeepsLive (spans_after_call x (NewSpan lane at parent site callsite values)) y) (sym h) (new_kept x r lane at parent site callsite values sound allowed keeps)
call_kept x r (Records id at callsite values) t sound allowed h keeps = kept x x r t (λ q. refl) (ap keys h ∙ op_keys id at (ops.Update (span_update callsite values r.settings)) r) keeps
call_kept x r (Follows id from at) t sound allowed h keeps = kept x x r t (λ q. refl) (ap keys h ∙ follow_keys id from at r) keeps
call_kept x r (Event lane at parent site callsite values) t sound allowed h keeps = kept x x r t (λ q. refl) (ap keys h ∙ event_keys (parent_on (entries_on lane.id x.lanes) parent) at callsite values r) keeps
call_kept x r (Enter id at before later) t sound allowed h keeps =
    kept x (with_span_entry x id before.id) r t (alive_entered x id before.id allowed)
    (if_known (knows_span id r.spans) (Enters r id at before later t) (ChangesNothing r before later t) r t h (λ e. ap keys e.is ∙ entry_keys id before.id at e.attached r) (λ e. ap keys e.0)) keeps
call_kept x r (Exit id at before later) t sound allowed h keeps =
    kept x (with_span_exit x id before.id) r t (alive_exited x id before.id allowed)
    (if_known (knows_span id r.spans) (Exits r id at before later t) (ChangesNothing r before later t) r t h (λ e. ap keys e.is ∙ exit_keys id before.id at r) (λ e. ap keys e.0)) keeps
call_kept x r (CloneSpan id) t sound allowed h keeps = kept x (spans_after_call x (CloneSpan id)) r t (alive_held x.made id allowed) (ap keys h) keeps
call_kept x r (TryClose id at) t sound allowed h keeps =
    let holds = (span_at x.made id).holds in
    let y = spans_after_call x (TryClose id at) in
    elim (cases_eq holds 1) [
      | inl last ↦ subst (λ (z : Recording). KeepsLive y z) (sym (h ∙ cond-true {A = Recording} (holds == 1) (with_close id at r) r (eq-eqb holds 1 last))) (close_kept x r id at last keeps)
      | inr several ↦ subst (λ (z : Recording). KeepsLive y z) (sym (h ∙ cond-false {A = Recording} (holds == 1) (with_close id at r) r (ne_eqb holds 1 several))) (release_kept x r id allowed several keeps)
    ]

-- ---- a chain of closes

fold_kept : (at : ℕ) (next : Option ℕ) (x y : Spans) (chain : ReleasesChain next x y) (r : Recording) → KeepsLive x r → KeepsLive y (fold (λ s n. with_close n at s) r (closed_in next x y chain))
fold_kept at _ _ _ (all_released x) r keeps = keeps
fold_kept at _ _ _ (releases id moment x y own rest) r keeps =
    let close : Recording → ℕ → Recording = λ s n. with_close n at s in
    let holds = (span_at x.made id).holds in
    let z : Spans = record x { made = without_hold x.made id } in
    let those = closed_in (parent_to_release x.made id) z y rest in
    elim (cases_eq holds 1) [
      | inl last ↦ subst (λ (ids : List ℕ). KeepsLive y (fold close r ids)) (sym (cond-true {A = List ℕ} (holds == 1) (id ∷ those) those (eq-eqb holds 1 last)))
          (fold_kept at (parent_to_release x.made id) z y rest (with_close id at r) (close_kept x r id at last keeps))
      | inr several ↦ subst (λ (ids : List ℕ). KeepsLive y (fold close r ids)) (sym (cond-false {A = List ℕ} (holds == 1) (id ∷ those) those (ne_eqb holds 1 several)))
          (fold_kept at (parent_to_release x.made id) z y rest r (release_kept x r id own several keeps))
    ]

pub chain_kept : (at : ℕ) (next : Option ℕ) (x y : Spans) (r t : Recording) → RecordsChain at next x y r t → KeepsLive x r → KeepsLive y t
chain_kept at next x y r t h keeps = subst (λ (z : Recording). KeepsLive y z) (sym h.is) (fold_kept at next x y h.chain r keeps)

-- ---- a call from outside

applied_keys : (o : Option SpanData) (spans now : List (ℕ × SpanData)) (id at : ℕ) (op : Op) (answer : Option (Result OpReply Memory)) → AppliesTo o spans id at op answer now → keys_of now ≡ keys_of spans
applied_keys None spans now id at op answer h = ap (λ (xs : List (ℕ × SpanData)). keys_of xs) h.1
applied_keys (Some told) spans now id at op None h = absurd h
applied_keys (Some told) spans now id at op (Some (Ok r)) h = ap (λ (xs : List (ℕ × SpanData)). keys_of xs) h.1 ∙ update_keys id (λ t. after_op t at op) spans
applied_keys (Some told) spans now id at op (Some (Err memory)) h = ap (λ (xs : List (ℕ × SpanData)). keys_of xs) h.1

pub part_keys : (r : Recording) (call : PartCall) (t : Recording) → RecordsPart r call t → keys t ≡ keys r
part_keys r (Applies id at op answer) t h = applied_keys (data_at id r.spans) r.spans t.spans id at op answer h.0
part_keys r (GivesContext id at answer) t h = ap keys h.0 ∙ start_keys id at r

applied_answer : (o : Option SpanData) (spans now : List (ℕ × SpanData)) (id at : ℕ) (op : Op) (answer : Option (Result OpReply Memory)) → AppliesTo o spans id at op answer now → is_some answer ≡ is_some o
applied_answer None spans now id at op answer h = ap is_some h.0
applied_answer (Some told) spans now id at op None h = absurd h
applied_answer (Some told) spans now id at op (Some (Ok r)) h = refl
applied_answer (Some told) spans now id at op (Some (Err memory)) h = refl

context_some : (o : Option SpanData) → is_some (own_context_if_known o) ≡ is_some o
context_some None = refl
context_some (Some told) = refl

pub part_answer : (x : Spans) (r : Recording) (call : PartCall) (t : Recording) → RecordsPart r call t → KeepsLive x r → IsAnsweredLive x call
part_answer x r (Applies id at op answer) t h keeps = applied_answer (data_at id r.spans) r.spans t.spans id at op answer h.0 ∙ told_live x r keeps id
part_answer x r (GivesContext id at answer) t h keeps =
    ap is_some h.1 ∙ context_some (data_at id t.spans) ∙ told_live x t (kept x x r t (λ q. refl) (part_keys r (GivesContext id at answer) t h) keeps) id

-- ---- where events may be counted

counted_keys : (taken : Bool) (id at : ℕ) (callsite : Callsite) (values : ValueSet) (r : Recording) → keys (with_counted taken id at callsite values r) ≡ keys r
counted_keys true id at callsite values r = op_keys id at (event_op callsite values r.settings at) (with_applied id at ops.Counted r) ∙ op_keys id at ops.Counted r
counted_keys false id at callsite values r = op_keys id at ops.Counted r

event_by_keys : (counting_filter : Option FilterState) (o : Option ℕ) (lane at : ℕ) (callsite : Callsite) (values : ValueSet) (r : Recording) → keys (with_event_by counting_filter o lane at callsite values r) ≡ keys r
event_by_keys None o lane at callsite values r = event_keys o at callsite values r
event_by_keys (Some f) None lane at callsite values r = refl
event_by_keys (Some f) (Some id) lane at callsite values r = counted_keys (enables_in f lane callsite) id at callsite values r

pub call_kept_by : (counting_filter : Option FilterState) (x : Spans) (r : Recording) (call : SubscriberCall) (t : Recording) → IsSound x → Allowed x call → RecordsCallBy counting_filter x r call t → KeepsLive x r → KeepsLive (spans_after_call x call) t
call_kept_by counting_filter x r (Event lane at parent site callsite values) t sound allowed h keeps =
    kept x x r t (λ q. refl) (ap keys h ∙ event_by_keys counting_filter (parent_on (entries_on lane.id x.lanes) parent) lane.id at callsite values r) keeps
call_kept_by counting_filter x r (NewSpan lane at parent site callsite values) t sound allowed h keeps = call_kept x r (NewSpan lane at parent site callsite values) t sound allowed h keeps
call_kept_by counting_filter x r (Records id at callsite values) t sound allowed h keeps = call_kept x r (Records id at callsite values) t sound allowed h keeps
call_kept_by counting_filter x r (Follows id from at) t sound allowed h keeps = call_kept x r (Follows id from at) t sound allowed h keeps
call_kept_by counting_filter x r (Enter id at before later) t sound allowed h keeps = call_kept x r (Enter id at before later) t sound allowed h keeps
call_kept_by counting_filter x r (Exit id at before later) t sound allowed h keeps = call_kept x r (Exit id at before later) t sound allowed h keeps
call_kept_by counting_filter x r (CloneSpan id) t sound allowed h keeps = call_kept x r (CloneSpan id) t sound allowed h keeps
call_kept_by counting_filter x r (TryClose id at) t sound allowed h keeps = call_kept x r (TryClose id at) t sound allowed h keeps

-- a stack that was just made
pub begins_kept : (settings : LayerSettings) (counting : Bool) → KeepsLive no_spans (new_recording settings counting)
begins_kept settings counting id = sym (once_none (span_at [] id).holds (ap (λ (s : Span). s.holds) (get_or_past [] id no_span (omega arith))))

-- ---- in a world

module _ {S : Type 0} (spans : S → Spans) (does : S → SubscriberCall → S → Type 0) (sound : (s : S) (call : SubscriberCall) (t : S) → does s call t → IsSound (spans s))
    (allowed : (s : S) (call : SubscriberCall) (t : S) → does s call t → Allowed (spans s) call) (shows : (s : S) (call : SubscriberCall) (t : S) → does s call t → spans t ≡ spans_after_call (spans s) call) where
  pub world_kept : (old new : WorldValue S) (dispatch : ℕ) (call : SubscriberCall) (t : Recording) → Replaced (λ s u. does s call u) old new dispatch
      → (IsSound (read_subscriber spans no_spans old dispatch) → Allowed (read_subscriber spans no_spans old dispatch) call → KeepsLive (spans_after_call (read_subscriber spans no_spans old dispatch) call) t)
      → KeepsLive (read_subscriber spans no_spans new dispatch) t
  world_kept old new dispatch call t r step =
      let R : S → S → Type 0 = λ s u. does s call u in
      let was = seen_before R old new dispatch r spans no_spans in
      let now = seen_later R old new dispatch r spans no_spans ∙ shows r.before call r.later r.did ∙ ap (λ (x : Spans). spans_after_call x call) (sym was) in
      subst (λ (x : Spans). KeepsLive x t) (sym now)
      (step (subst IsSound (sym was) (sound r.before call r.later r.did)) (subst (λ (x : Spans). Allowed x call) (sym was) (allowed r.before call r.later r.did)))
