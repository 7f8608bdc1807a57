-- What a handle's calls leave of what it is asked.
use Rattle.std.proofs.Common.{◌≡◌, ◌≢◌, ℕ, zero, suc, ◌+◌, ◌-◌, ◌<◌, ◌≤◌, ◌==◌, Bool, true, false, ◌||◌, List, [], ◌∷◌, ◌++◌, length, refl, ap, sym, ◌∙◌, subst, arith, Some, None, append_assoc, set, drop, Ok, Err, OnOk, Result, is_ok, true≢false}
use Rattle.std.specs.Prelude.{Option, nat_lt, slice_index_or, if◌then◌else◌}
use Rattle.std.proofs.lemmas.Bool.Decides.{nat_tests}
use Rattle.otel_state.specs.declared.op.Op.{Op}
use Rattle.otel_state.specs.declared.times.TheConstants.{GREATEST}
use mathlib.Core.Logic.{dite}
use native.Mathlib.Decide.{ℕ_discrete}
use Rattle.trace_threads.specs.declared.making.Making.{Making}
use Rattle.trace_threads.specs.declared.history.Entry.{Entry}
use Rattle.trace_threads.specs.declared.history.HandleAct.TheVariants.{Call, Release}
use Rattle.trace_threads.specs.declared.handle.Released.{Released}
use Rattle.trace_threads.specs.Moves.{Move, enters, exits, stays, move_of, open_count_after}
use Rattle.trace_threads.specs.History.{IsLegal, has_end, ends_handle, written_entry}
use Rattle.trace_threads.specs.Shared.{some_making}
use Rattle.trace_threads.specs.Turns.{entries, first_view}
use Rattle.trace_threads.specs.Calls.{MakesEntry}
use Rattle.trace_threads.specs.Handles.{SharedHandle, open_count_of, ClosedAs}
use Rattle.trace_threads.proofs.histories.HoldersLemmas.{both}
use Rattle.trace_threads.proofs.queue.PassesLemmas.{entries_some}
use Rattle.thread_script.specs.declared.plan.Plan.{Plan}
use Rattle.thread_script.specs.declared.script.SharedLine.{SharedLine}
use Rattle.thread_script.specs.declared.script.WorkerOp.{WorkerOp}
use Rattle.thread_script.specs.Asks.{Ask, ask, FollowsAsks, is_balanced, balanced_by}
use Rattle.thread_script.specs.Plans.{MomentsInRange, moment_or, with_ask, op_of_call, op_on_span, release_moment, last_moment}
use Rattle.thread_handles.specs.Works.{DidCall, DidAt, DidCallOnSpan, IsAtWork, AllAtWork, asks_of, AreMadeAsPlanned, SpanMomentsInRange, WasReleased, AllReleased, IsLeft, AllLeft}
use Rattle.thread_handles.proofs.AsksLemmas.{follows_made}

still_balanced : (n : ℕ) (m : Move) (left : List Ask) → balanced_by n m (is_balanced left) ≡ true → is_balanced left (open_count_after n m) ≡ true
still_balanced n enters left b = b
still_balanced n exits left b = (both (nat_lt 0 n) (is_balanced left (n - 1)) b).1
still_balanced n stays left b = b

did_call : (k at : ℕ) (all left : List Ask) (op : Op) (h g f : SharedHandle) → IsAtWork k all (ask at (Call op) ∷ left) h g → DidCall g f at (Some op) → IsAtWork k all left h f
did_call k at all left op h g f w d =
    let m : MakesEntry g.view f.view k at (Call op) = subst (λ (n : ℕ). MakesEntry g.view f.view n at (Call op)) w.number d.1 in
    let before : FollowsAsks k g.view.origin.made_at w.asked (entries g.view.seen) = subst (λ (o : Making). FollowsAsks k o.made_at w.asked (entries g.view.seen)) (sym w.origin) w.follows in
    let after = follows_made g.view f.view k w.asked (ask at (Call op)) m w.own_entries before in
    record {
      span = d.0.0 ∙ w.span;
      number = d.0.1 ∙ w.number;
      origin = m.same ∙ w.origin;
      asked = w.asked ++ ask at (Call op) ∷ [];
      whole = append_assoc w.asked (ask at (Call op) ∷ []) left ∙ w.whole;
      follows = subst (λ (o : Making). FollowsAsks k o.made_at (w.asked ++ ask at (Call op) ∷ []) (entries f.view.seen)) w.origin after;
      own_entries = m.own_entries;
      balanced = ap (is_balanced left) d.2 ∙ still_balanced (open_count_of g) (move_of op) left w.balanced;
    }

did_one : (k at : ℕ) (all left : List Ask) (asked : Option Op) (h g f : SharedHandle) → IsAtWork k all (with_ask at asked left) h g → DidCall g f at asked → IsAtWork k all left h f
did_one k at all left None h g f w d = subst (IsAtWork k all left h) (sym d) w
did_one k at all left (Some op) h g f w d = did_call k at all left op h g f w d

-- each handle did what a call is on its span
pub did_all : (plan : Plan) (k : ℕ) (last : Option ℕ) (all left : List WorkerOp) (o : WorkerOp) (hs gs fs : List SharedHandle) → length gs ≡ length hs → AllAtWork plan k last all (o ∷ left) hs gs → DidCallOnSpan plan o gs fs → AllAtWork plan k last all left hs fs
did_all plan k last all left o hs gs fs len w d s x low =
    let h = slice_index_or hs s x in
    did_one k o.at (asks_of plan last s h all) (asks_of plan last s h left) (op_on_span plan s o) h (slice_index_or gs s x) (slice_index_or fs s x) (w s x low) (d s x (omega (arith, len, low)))

-- ---- the end

end_last : (k : ℕ) (xs : List Entry) (x : Entry) → ends_handle k x.caller x.what ≡ true → has_end k (xs ++ x ∷ []) ≡ true
end_last k [] x e = rw e refl
end_last k (y ∷ xs) x e = or (ends_handle k y.caller y.what) (has_end k (xs ++ x ∷ [])) (end_last k xs x e)
  where
    or : (a b : Bool) → b ≡ true → (a || b) ≡ true
    or true b e = refl
    or false b e = e

none_open : (n : ℕ) → is_balanced [] n ≡ true → n ≡ 0
none_open n b = grind (arith, nat_tests)

pub all_closed : (k at : ℕ) (all : List Ask) (h g : SharedHandle) → IsAtWork k all (ask at Release ∷ []) h g → open_count_of g ≡ 0
all_closed k at all h g w = none_open (open_count_of g) w.balanced

pub is_left : (k at : ℕ) (all : List Ask) (h g : SharedHandle) (r : Released) → IsAtWork k all (ask at Release ∷ []) h g → WasReleased g r at → IsLeft k all h.span h.view.origin r
is_left k at all h g r w d =
    let m : MakesEntry g.view r.pass.view k at Release = subst (λ (n : ℕ). MakesEntry g.view r.pass.view n at Release) w.number d.made in
    let before : FollowsAsks k g.view.origin.made_at w.asked (entries g.view.seen) = subst (λ (o : Making). FollowsAsks k o.made_at w.asked (entries g.view.seen)) (sym w.origin) w.follows in
    let after : FollowsAsks k g.view.origin.made_at (w.asked ++ ask at Release ∷ []) (entries r.pass.view.seen) = follows_made g.view r.pass.view k w.asked (ask at Release) m w.own_entries before in
    let whole : FollowsAsks k g.view.origin.made_at all (entries r.pass.view.seen) = subst (λ (l : List Ask). FollowsAsks k g.view.origin.made_at l (entries r.pass.view.seen)) w.whole after in
    let x : Entry = written_entry g.view.origin.made_at (entries (g.view.seen ++ m.between)) k at Release in
    let hit : (k == k) ≡ true = grind (arith, nat_tests) in
    let ended : has_end k (entries r.pass.view.seen) ≡ true = ap (has_end k) (ap entries m.ends ∙ entries_some (g.view.seen ++ m.between) x) ∙ end_last k (entries (g.view.seen ++ m.between)) x hit in
    record {
      span = d.span ∙ w.span;
      origin = m.same ∙ w.origin;
      follows = subst (λ (o : Making). FollowsAsks k o.made_at all (entries r.pass.view.seen)) w.origin whole;
      ended = ended;
      legal = subst (λ (o : Making). IsLegal o.made_at (entries r.pass.view.seen)) w.origin m.legal;
      closed = subst (λ (o : Making). ClosedAs o (entries r.pass.view.seen) r.closed) w.origin d.closed;
    }

-- ---- lists of handles

map_ok : {X E : Type 0} (r : Result X E) (A B : Type 0) → (A → B) → OnOk r A → OnOk r B
map_ok (Ok x) A B f a = f a
map_ok (Err e) A B f a = a

pub did_op : {E : Type 0} (r : Result (Unit {0}) E) (plan : Plan) (o : WorkerOp) (op : Option Op) (hs gs : List SharedHandle) → op ≡ op_of_call plan o.span o.at o.what → OnOk r (DidAt o.span o.at op hs gs) → OnOk r (DidCallOnSpan plan o hs gs)
did_op r plan o op hs gs e = map_ok r (DidAt o.span o.at op hs gs) (DidCallOnSpan plan o hs gs) (λ did s d low. subst (λ (x : Option Op). DidCall (slice_index_or hs s d) (slice_index_or gs s d) o.at (if o.span == s then x else None)) e (did s d low))

-- ---- the releases of a worker's handles

pub same_get : {A : Type 0} (xs : List A) (k : ℕ) (x y : A) → k < length xs → slice_index_or xs k x ≡ slice_index_or xs k y
same_get [] k x y low = absurd (omega (arith, low))
same_get (z ∷ xs) zero x y low = refl
same_get (z ∷ xs) (suc k) x y low = same_get xs k x y (omega (arith, low))

pub get_before : {A : Type 0} (xs : List A) (y : A) (k : ℕ) (d : A) → k < length xs → slice_index_or (xs ++ y ∷ []) k d ≡ slice_index_or xs k d
get_before [] y k d low = absurd (omega (arith, low))
get_before (x ∷ xs) y zero d low = refl
get_before (x ∷ xs) y (suc k) d low = get_before xs y k d (omega (arith, low))

pub get_last : {A : Type 0} (xs : List A) (y : A) (k : ℕ) (d : A) → length xs ≡ k → slice_index_or (xs ++ y ∷ []) k d ≡ y
get_last [] y zero d e = refl
get_last [] y (suc k) d e = absurd (omega (arith, e))
get_last (x ∷ xs) y zero d e = absurd (omega (arith, e))
get_last (x ∷ xs) y (suc k) d e = get_last xs y k d (omega (arith, e))

pub get_drop : {A : Type 0} (xs : List A) (k : ℕ) (d : A) → slice_index_or (drop k xs) 0 d ≡ slice_index_or xs k d
get_drop xs zero d = refl
get_drop [] (suc k) d = refl
get_drop (x ∷ xs) (suc k) d = get_drop xs k d

pub drop_next : {A : Type 0} (k : ℕ) (xs : List A) → drop 1 (drop k xs) ≡ drop (suc k) xs
drop_next zero xs = refl
drop_next (suc k) [] = refl
drop_next (suc k) (x ∷ xs) = drop_next k xs

pub drop_more : {A : Type 0} (k n : ℕ) (xs ys : List A) → n ≡ suc k → ys ≡ drop k xs → drop 1 ys ≡ drop n xs
drop_more k n xs ys e is = ap (drop 1) is ∙ drop_next k xs ∙ ap (λ (m : ℕ). drop m xs) (sym e)

pub low_release : (made : ℕ) (last : Option ℕ) → made ≤ GREATEST → ((at : ℕ) → last ≡ Some at → at ≤ GREATEST) → release_moment made last ≤ GREATEST
low_release made None low f = low
low_release made (Some at) low f = f at refl

pub low_moment : (plan : Plan) (last : Option ℕ) (n s at : ℕ) → SpanMomentsInRange plan n → s < n → ((at : ℕ) → last ≡ Some at → at ≤ GREATEST) → ((l : SharedLine) → at ≡ release_moment (slice_index_or plan.shared s l).at last) → at ≤ GREATEST
low_moment plan last n s at low_all low f is =
    let l : SharedLine = record { at = 0; site = 0 } in
    let le = low_release (slice_index_or plan.shared s l).at last (low_all.1 s l low) f in
    let e = is l in
    omega (arith, e, le)

pub released_more : (plan : Plan) (last : Option ℕ) (hs gs : List SharedHandle) (rs : List Released) (s at : ℕ) (h : SharedHandle) (r : Released) → s < length hs → length rs ≡ s → gs ≡ drop s hs → h ≡ slice_index_or gs 0 h
    → ((l : SharedLine) → at ≡ release_moment (slice_index_or plan.shared s l).at last) → (open_count_of h ≡ 0 → WasReleased h r at)
    → ((j : ℕ) (d : SharedHandle) (e : Released) (l : SharedLine) → j < s → open_count_of (slice_index_or hs j d) ≡ 0 → WasReleased (slice_index_or hs j d) (slice_index_or rs j e) (release_moment (slice_index_or plan.shared j l).at last))
    → (j : ℕ) (d : SharedHandle) (e : Released) (l : SharedLine) → j < s + 1 → open_count_of (slice_index_or hs j d) ≡ 0 → WasReleased (slice_index_or hs j d) (slice_index_or (rs ++ r ∷ []) j e) (release_moment (slice_index_or plan.shared j l).at last)
released_more plan last hs gs rs s at h r low len rest is moment now old j d e l less out =
    dite (ℕ_discrete j s)
    (λ (here : j ≡ s).
    let at_s : slice_index_or hs j d ≡ h = ap (λ (k : ℕ). slice_index_or hs k d) here ∙ same_get hs s d h low ∙ sym (get_drop hs s h) ∙ ap (λ (x : List SharedHandle). slice_index_or x 0 h) (sym rest) ∙ sym is in
    let out' : open_count_of h ≡ 0 = subst (λ (x : SharedHandle). open_count_of x ≡ 0) at_s out in
    let done : WasReleased h r (release_moment (slice_index_or plan.shared j l).at last) = subst (WasReleased h r) (moment l ∙ ap (λ (k : ℕ). release_moment (slice_index_or plan.shared k l).at last) (sym here)) (now out') in
    let at_r : slice_index_or (rs ++ r ∷ []) j e ≡ r = get_last rs r j e (len ∙ sym here) in
    subst (λ (x : SharedHandle). WasReleased x (slice_index_or (rs ++ r ∷ []) j e) (release_moment (slice_index_or plan.shared j l).at last)) (sym at_s) (subst (λ (x : Released). WasReleased h x (release_moment (slice_index_or plan.shared j l).at last)) (sym at_r) done))
    (λ (apart : j ≢ s).
    let before : j < s = grind (arith, less, apart) in
    subst (λ (x : Released). WasReleased (slice_index_or hs j d) x (release_moment (slice_index_or plan.shared j l).at last)) (sym (get_before rs r j e (omega (arith, len, before)))) (old j d e l before out))

-- ---- a worker's whole run

-- some handle
abbrev pub no_held : SharedHandle
no_held = record { span = record { words = 0; slots = 0; views_name = 0; atom = 0; block = 0; offset = 0; slot_names = [] }; number = 0; view = first_view some_making }

last_some : (at t : ℕ) (later : Option ℕ) → moment_or at later ≡ Some t → at ≤ GREATEST → ((u : ℕ) → later ≡ Some u → u ≤ GREATEST) → t ≤ GREATEST
last_some at t None e low f = subst (λ (n : ℕ). n ≤ GREATEST) (ap (λ (o : Option ℕ). release_moment 0 o) e) low
last_some at t (Some u) e low f = f t e

pub last_low : (ops : List WorkerOp) (last : Option ℕ) (t : ℕ) → last ≡ last_moment ops → MomentsInRange ops → last ≡ Some t → t ≤ GREATEST
last_low [] last t is timed e = absurd (let bad : None ≡ Some t = sym is ∙ e in cc)
last_low (o ∷ ops) last t is timed e = last_some o.at t (last_moment ops) (sym is ∙ e) timed.0 (λ u x. last_low ops (last_moment ops) u refl timed.1 x)

pub made_low : (plan : Plan) (hs : List SharedHandle) (n : ℕ) (d : SharedHandle) → length hs ≡ n → AreMadeAsPlanned plan hs → SpanMomentsInRange plan n
made_low plan hs n d e made = (made.0 ∙ e, λ s l low. (made.1 s d l (omega (arith, e, low))).1)

pub all_left : (plan : Plan) (k : ℕ) (ops : List WorkerOp) (last : Option ℕ) (hs gs : List SharedHandle) (rs : List Released) → last ≡ last_moment ops → AreMadeAsPlanned plan hs → length gs ≡ length hs → AllAtWork plan k (last_moment ops) ops [] hs gs → AllReleased plan last gs rs → AllLeft plan k ops hs rs
all_left plan k ops last hs gs rs is made len working released s d e low =
    let l : SharedLine = record { at = 0; site = 0 } in
    let h = slice_index_or hs s d in
    let g = slice_index_or gs s d in
    let at = release_moment h.view.origin.made_at (last_moment ops) in
    let w = working s d low in
    let r = released s d e l (omega (arith, len, low)) (all_closed k at (asks_of plan (last_moment ops) s h ops) h g w) in
    let r' : WasReleased g (slice_index_or rs s e) at = subst (WasReleased g (slice_index_or rs s e)) (λ i. release_moment ((made.1 s d l low).0 i) (is i)) r in
    is_left k at (asks_of plan (last_moment ops) s h ops) h g (slice_index_or rs s e) w r'

pub on_done : {X E : Type 0} (r : Result X E) (b : Bool) (A : Type 0) → b ≡ is_ok r → b ≡ true → OnOk r A → A
on_done (Ok x) b A e t a = a
on_done (Err x) b A e t a = absurd (true≢false (sym t ∙ e))
