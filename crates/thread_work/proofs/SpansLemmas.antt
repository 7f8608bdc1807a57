-- Several shared spans: the workers have their handles, and what they leave is the whole of each.
use Rattle.std.proofs.Common.{◌≡◌, ◌≢◌, ℕ, zero, suc, ◌+◌, ◌<◌, ◌≤◌, true, List, [], ◌∷◌, ◌++◌, length, refl, ap, sym, ◌∙◌, subst, arith, Some, None, set, take, drop, length-append, slice_index_or, vec_capacity, get_or-set_same, get_or-set_other}
use Rattle.std.specs.Prelude.{Option}
use mathlib.Core.Logic.{dite}
use native.Mathlib.Decide.{ℕ_discrete}
use Rattle.atomic_table.specs.Seated.{TableId}
use Rattle.otel_state.specs.declared.op.Op.{Op}
use Rattle.trace_threads.specs.declared.making.Making.{Making}
use Rattle.trace_threads.specs.declared.handle.Released.{Released}
use Rattle.trace_threads.specs.History.{open_count}
use Rattle.trace_threads.specs.Turns.{entries}
use Rattle.trace_threads.specs.Handles.{SharedHandle}
use Rattle.thread_script.specs.declared.plan.Plan.{Plan}
use Rattle.thread_script.specs.declared.script.WorkerOp.{WorkerOp}
use Rattle.thread_script.specs.Asks.{Ask, is_balanced}
use Rattle.thread_script.specs.Plans.{last_moment, release_moment, with_ask, op_on_span, asks_on, asks_of_worker}
use Rattle.thread_handles.specs.declared.job.Job.{Job}
use Rattle.thread_handles.specs.declared.gather.Ended.{Ended}
use Rattle.thread_handles.specs.Gathers.{IsEnded}
use Rattle.thread_handles.specs.Works.{asks_of, AllAtWork, IsAtWork, AreMadeAsPlanned, IsReadyWorker, IsLeft}
use Rattle.thread_handles.specs.Shares.{IsFresh, IsShared}
use Rattle.thread_handles.specs.Columns.{column, AllComeToClosed, AreJoined}
use Rattle.thread_handles.proofs.GatheredLemmas.{asks_plain}
use Rattle.thread_handles.proofs.AsksLemmas.{follows_none}
use Rattle.thread_handles.proofs.WorkLemmas.{same_get, get_drop, get_before, get_last}
use Rattle.thread_handles.proofs.ClonesLemmas.{take_front}
use Rattle.thread_handles.proofs.JoinsLemmas.{LeftFrom}
use Rattle.thread_handles.proofs.Columns.{span_closed, span_ended}
use Rattle.thread_work.specs.Jobs.{AreReady, WereRun, AreDone, lists_of}
use Rattle.thread_work.specs.Spans.{AreFirsts, GotOne, GotNext, HaveRoomForOne, HaveRoomFor, HasGot, WasShared, WereShared, IsPreparedFor, ArePreparedFor, AllEnded}

-- a worker makes no handle
by_part : (at : ℕ) (op : Option Op) (rest : List Ask) → asks_plain rest ≡ true → asks_plain (with_ask at op rest) ≡ true
by_part at None rest p = p
by_part at (Some op) rest p = p

pub part_plain : (plan : Plan) (s at : ℕ) (ops : List WorkerOp) → asks_plain (asks_on plan s at ops) ≡ true
part_plain plan s at [] = refl
part_plain plan s at (o ∷ ops) = by_part o.at (op_on_span plan s o) (asks_on plan s at ops) (part_plain plan s at ops)

parts_plain : {G : Type 0} (plan : Plan) (s made : ℕ) (jobs : List (Job G)) (w : ℕ) → w < length jobs → asks_plain (asks_of_worker plan s made (lists_of jobs) w) ≡ true
parts_plain plan s made [] w low = absurd (omega (arith, low))
parts_plain plan s made (job ∷ jobs) zero low = part_plain plan s (release_moment made (last_moment job.ops.items)) job.ops.items
parts_plain plan s made (job ∷ jobs) (suc w) low = parts_plain plan s made jobs w (omega (arith, low))

parts_at : {G : Type 0} (plan : Plan) (s : ℕ) (first : SharedHandle) (xs : List (Job G)) (i : ℕ) (x : Job G) → i < length xs → asks_of_worker plan s first.view.origin.made_at (lists_of xs) i ≡ asks_of plan (last_moment (slice_index_or xs i x).ops.items) s first (slice_index_or xs i x).ops.items
parts_at plan s first [] i x low = absurd (omega (arith, low))
parts_at plan s first (y ∷ ys) zero x low = refl
parts_at plan s first (y ∷ ys) (suc i) x low = parts_at plan s first ys i x (omega (arith, low))

lists_len : {G : Type 0} (jobs : List (Job G)) → length (lists_of jobs) ≡ length jobs
lists_len [] = refl
lists_len (job ∷ jobs) = let e = lists_len jobs in omega (arith, e)

-- a fresh handle, and what it is asked
fresh_work : (plan : Plan) (s : ℕ) (first h : SharedHandle) (k : ℕ) (last : Option ℕ) (ops : List WorkerOp) → IsFresh first k h → is_balanced (asks_of plan last s first ops) 0 ≡ true → IsAtWork k (asks_of plan last s h ops) (asks_of plan last s h ops) h h
fresh_work plan s first h k last ops f b = record {
  span = refl;
  number = f.number;
  origin = refl;
  asked = [];
  whole = refl;
  follows = follows_none k h.view.origin.made_at (entries h.view.seen) f.none;
  own_entries = f.none ∙ sym f.mine;
  balanced = (λ i. is_balanced (asks_on plan s (release_moment (f.origin i).made_at last) ops) (ap open_count f.mine i)) ∙ b;
}

module _ {G : Type 0} (opening : G → List ℕ) (plan : Plan) (spans : List SharedHandle) (jobs given : List (Job G)) (rs : List Released) (f : AreFirsts plan spans) (p : ArePreparedFor opening plan spans jobs) (glen : length given ≡ length jobs) (rlen : length rs ≡ length spans) (sh : WereShared (length spans) spans jobs given rs) where
  pub ready_for : AreReady opening plan given
  ready_for w d low =
      let here : w < length jobs = omega (arith, glen, low) in
      let job = slice_index_or jobs w d in
      let new = slice_index_or given w d in
      let hs = new.handles.items in
      let i : HasGot (length spans) job new = sh.got w d here in
      let x : IsPreparedFor opening plan spans job = p w d here in
      let n = i.count in
      let made : AreMadeAsPlanned plan hs = (
        f.0 ∙ sym n,
        λ s y l less. let m = f.1 s y l (omega (arith, n, less)) in let o = sh.fresh s w y d (omega (arith, n, less)) here in
            (sym m.0.2 ∙ ap (λ (q : Making). q.made_at) (sym o.origin), m.1),
      ) in
      let begins : AllAtWork plan (w + 1) (last_moment job.ops.items) job.ops.items job.ops.items hs hs = λ s y less.
      fresh_work plan s (slice_index_or spans s y) (slice_index_or hs s y) (w + 1) (last_moment job.ops.items) job.ops.items (sh.fresh s w y d (omega (arith, n, less)) here) (x.balanced s y (omega (arith, n, less))) in
      let ready : IsReadyWorker plan (w + 1) job.ops.items job.last hs = record { timed = x.timed; last_is = x.last; made = made; begins = begins } in
      let ok = new.handles.ok.0 in
      let cap : vec_capacity new.left ≡ vec_capacity job.left = (λ j. vec_capacity (i.left j)) in
      let room = x.room.left_room in (
        ap opening i.gate ∙ x.gate,
        subst (λ (t : List WorkerOp × Option ℕ). IsReadyWorker plan (w + 1) t.0 t.1 hs) (λ j. ((sym i.ops j).items, sym i.last j)) ready,
        omega (arith, ok, n, room, cap),
        (λ j. (i.left j).items) ∙ x.room.left,
      )

  module _ (run : List (Job G)) (ulen : length run ≡ length given) (ran : WereRun plan given run) (done : AreDone run) where
    len_run : length run ≡ length jobs
    len_run = ulen ∙ glen

    left_len : (w : ℕ) (d : Job G) → w < length jobs → length (slice_index_or run w d).left.items ≡ length spans
    left_len w d low =
        let ok = (slice_index_or run w d).left.ok.0 in
        let m = (ran w d (omega (arith, glen, low))).1 in
        let n = (sh.got w d low).count in
        let ok' = (slice_index_or given w d).handles.ok.0 in
        omega (arith, ok, m, n, ok')

    -- the release of a worker's handle of the span s
    left_at : (s w : ℕ) (x : SharedHandle) (d : Job G) (e : Released) → s < length spans → w < length jobs → IsLeft (w + 1) (asks_of_worker plan s (slice_index_or spans s x).view.origin.made_at (lists_of jobs) w) (slice_index_or spans s x).span (slice_index_or spans s x).view.origin (slice_index_or (slice_index_or run w d).left.items s e)
    left_at s w x d e less low =
        let hs = (slice_index_or given w d).handles.items in
        let h = slice_index_or hs s x in
        let i = sh.got w d low in
        let n = i.count in
        let o = sh.fresh s w x d less low in
        let a = (ran w d (omega (arith, glen, low))).2 (done w d (omega (arith, len_run, low))) s x e (omega (arith, n, less)) in
        let ops = (slice_index_or jobs w d).ops.items in
        let b : IsLeft (w + 1) (asks_of plan (last_moment ops) s h ops) h.span h.view.origin (slice_index_or (slice_index_or run w d).left.items s e) = subst (λ (t : List WorkerOp). IsLeft (w + 1) (asks_of plan (last_moment t) s h t) h.span h.view.origin (slice_index_or (slice_index_or run w d).left.items s e)) (λ j. (i.ops j).items) a in
        let c = subst (λ (t : Making × TableId). IsLeft (w + 1) (asks_on plan s (release_moment t.0.made_at (last_moment ops)) ops) t.1 t.0 (slice_index_or (slice_index_or run w d).left.items s e)) (λ j. (o.origin j, o.span j)) b in
        subst (λ (asks : List Ask). IsLeft (w + 1) asks (slice_index_or spans s x).span (slice_index_or spans s x).view.origin (slice_index_or (slice_index_or run w d).left.items s e)) (sym (parts_at plan s (slice_index_or spans s x) jobs w d low)) c

    column_len : (e : Released) (s : ℕ) (xs : List (Job G)) → length (column e s xs) ≡ length xs
    column_len e s [] = refl
    column_len e s (x ∷ xs) = let a = column_len e s xs in omega (arith, a)

    left_from : (t : TableId) (making : Making) (parts : ℕ → List Ask) (e : Released) (s n : ℕ) (xs : List (Job G)) → ((i : ℕ) (d : Job G) → i < length xs → IsLeft (n + i + 1) (parts (n + i)) t making (slice_index_or (slice_index_or xs i d).left.items s e)) → LeftFrom t making parts n (column e s xs)
    left_from t making parts e s n [] h = tt
    left_from t making parts e s n (x ∷ xs) h =
        let here : n + 0 ≡ n = omega arith in (
          subst (λ (k : ℕ). IsLeft (k + 1) (parts k) t making (slice_index_or x.left.items s e)) here (h 0 x (omega arith)),
          left_from t making parts e s (n + 1) xs (λ i d low. let same : n + suc i ≡ n + 1 + i = omega arith in subst (λ (k : ℕ). IsLeft (k + 1) (parts k) t making (slice_index_or (slice_index_or xs i d).left.items s e)) same (h (suc i) d (omega (arith, low)))),
        )

    column_left : (s : ℕ) (x : SharedHandle) (e : Released) → s < length spans → LeftFrom (slice_index_or spans s x).span (slice_index_or spans s x).view.origin (asks_of_worker plan s (slice_index_or spans s x).view.origin.made_at (lists_of jobs)) 0 (column e s run)
    column_left s x e less = left_from (slice_index_or spans s x).span (slice_index_or spans s x).view.origin (asks_of_worker plan s (slice_index_or spans s x).view.origin.made_at (lists_of jobs)) e s 0 run (λ w d low. let same : w ≡ 0 + w = omega arith in
        subst (λ (k : ℕ). IsLeft (k + 1) (asks_of_worker plan s (slice_index_or spans s x).view.origin.made_at (lists_of jobs) k) (slice_index_or spans s x).span (slice_index_or spans s x).view.origin (slice_index_or (slice_index_or run w d).left.items s e)) same (left_at s w x d e less (omega (arith, len_run, low))))

    span_at : (s : ℕ) → s < length spans → SharedHandle
    span_at s less = item spans s less
      where
        item : (xs : List SharedHandle) (i : ℕ) → i < length xs → SharedHandle
        item [] i low = absurd (omega (arith, low))
        item (y ∷ ys) zero low = y
        item (y ∷ ys) (suc i) low = item ys i (omega (arith, low))

    pub are_whole : AllComeToClosed rs run
    are_whole s d less =
        let r = slice_index_or rs s d in
        let less' : s < length spans = omega (arith, rlen, less) in
        let x = span_at s less' in
        let q = sh.shared s x d less' in
        record {
          left = λ w y low.
              let here : w < length jobs = omega (arith, len_run, low) in
              let n = left_len w y here in
              (omega (arith, n, less'), λ e. (left_at s w x y e less' here).span ∙ sym q.shared.span);
          closes = span_closed (slice_index_or spans s x) q.handles r (asks_of_worker plan s (slice_index_or spans s x).view.origin.made_at (lists_of jobs)) (column r s run) (length jobs) (parts_plain plan s (slice_index_or spans s x).view.origin.made_at jobs) q.len (column_len r s run ∙ len_run) q.shared (column_left s x r less');
        }

    pub all_ended : (es : List Ended) → AreJoined rs run es → AllEnded plan spans (lists_of jobs) es
    all_ended es j s x e less =
        let d : Released = gone less in
        let r = slice_index_or rs s d in
        let q = sh.shared s x d less in
        let k = j s d e (omega (arith, rlen, less)) in
        subst (λ (n : ℕ). IsEnded (slice_index_or spans s x).span (slice_index_or spans s x).view.origin n (asks_of_worker plan s (slice_index_or spans s x).view.origin.made_at (lists_of jobs)) (slice_index_or es s e)) (sym (lists_len jobs))
        (span_ended (slice_index_or spans s x) q.handles r (asks_of_worker plan s (slice_index_or spans s x).view.origin.made_at (lists_of jobs)) (column r s run) (length jobs) (parts_plain plan s (slice_index_or spans s x).view.origin.made_at jobs) q.len (column_len r s run ∙ len_run) q.shared (column_left s x r less) k.whole (slice_index_or es s e) k.met k.pass k.closed)
      where
        item : (xs : List Released) (i : ℕ) → i < length xs → Released
        item [] i low = absurd (omega (arith, low))
        item (y ∷ ys) zero low = y
        item (y ∷ ys) (suc i) low = item ys i (omega (arith, low))

        gone : s < length spans → Released
        gone low = item rs s (omega (arith, rlen, low))

-- ---- one span more has its handles

pub shared_more : {G : Type 0} (n : ℕ) (spans : List SharedHandle) (jobs xs news : List (Job G)) (rs new : List Released) (f : SharedHandle) (hs : List SharedHandle) (r : Released) → length xs ≡ length jobs → length hs ≡ length jobs → f ≡ slice_index_or spans n f → n < length spans → length rs ≡ n → new ≡ rs ++ r ∷ [] → IsShared f hs r → GotNext hs xs news → WereShared n spans jobs xs rs → WereShared (n + 1) spans jobs news new
shared_more {G} n spans jobs xs news rs new f hs r xlen hlen first low rlen is shared got before = record {
  got = λ w d here.
      let a = before.got w d here in
      let b = got w d f (omega (arith, xlen, here)) in
      let m = ap length b.handles in
      let k = length-append (slice_index_or xs w d).handles.items (slice_index_or hs w f ∷ []) in
      let c = a.count in
      record { ops = b.ops ∙ a.ops; last = b.last ∙ a.last; gate = b.gate ∙ a.gate; left = b.left ∙ a.left; count = omega (arith, m, k, c); room = b.room ∙ a.room };
  fresh = λ s w x d less here.
      let a = before.got w d here in
      let b = got w d f (omega (arith, xlen, here)) in
      let c = a.count in
      dite (ℕ_discrete s n)
      (λ (same : s ≡ n).
      let to_h : slice_index_or (slice_index_or news w d).handles.items n x ≡ slice_index_or hs w f = ap (λ (l : List SharedHandle). slice_index_or l n x) b.handles ∙ get_last (slice_index_or xs w d).handles.items (slice_index_or hs w f) n x a.count in
      let to_f : f ≡ slice_index_or spans n x = first ∙ same_get spans n f x low in
      subst (λ (k : ℕ). IsFresh (slice_index_or spans k x) (w + 1) (slice_index_or (slice_index_or news w d).handles.items k x)) (sym same)
      (subst (λ (t : SharedHandle × SharedHandle). IsFresh t.0 (w + 1) t.1) (λ i. (to_f i, sym to_h i)) (shared.each w f (omega (arith, hlen, here)))))
      (λ (apart : s ≢ n).
      let less' : s < n = grind (arith, less, apart) in
      let same : slice_index_or (slice_index_or news w d).handles.items s x ≡ slice_index_or (slice_index_or xs w d).handles.items s x = ap (λ (l : List SharedHandle). slice_index_or l s x) b.handles ∙ get_before (slice_index_or xs w d).handles.items (slice_index_or hs w f) s x (omega (arith, less', c)) in
      subst (IsFresh (slice_index_or spans s x) (w + 1)) (sym same) (before.fresh s w x d less' here));
  shared = λ s x e less.
      dite (ℕ_discrete s n)
      (λ (same : s ≡ n).
      let to_f : f ≡ slice_index_or spans n x = first ∙ same_get spans n f x low in
      let to_r : slice_index_or new n e ≡ r = ap (λ (l : List Released). slice_index_or l n e) is ∙ get_last rs r n e rlen in
      let one : WasShared f (length jobs) r = record { handles = hs; len = hlen; shared = shared } in
      subst (λ (k : ℕ). WasShared (slice_index_or spans k x) (length jobs) (slice_index_or new k e)) (sym same)
      (subst (λ (t : SharedHandle × Released). WasShared t.0 (length jobs) t.1) (λ i. (to_f i, sym to_r i)) one))
      (λ (apart : s ≢ n).
      let less' : s < n = grind (arith, less, apart) in
      let same : slice_index_or new s e ≡ slice_index_or rs s e = ap (λ (l : List Released). slice_index_or l s e) is ∙ get_before rs r s e (omega (arith, less', rlen)) in
      subst (WasShared (slice_index_or spans s x) (length jobs)) (sym same) (before.shared s x e less'));
}

pub have_more : {G : Type 0} (n m : ℕ) (jobs xs : List (Job G)) → length xs ≡ length jobs → n < m → HaveRoomFor m jobs → ((w : ℕ) (d : Job G) → w < length jobs → HasGot n (slice_index_or jobs w d) (slice_index_or xs w d)) → HaveRoomForOne xs
have_more n m jobs xs len less room got w d low =
    let here : w < length jobs = omega (arith, len, low) in
    let a = got w d here in
    let b = (room w d here).room in
    let c = a.count in
    let k = a.room in
    let ok = (slice_index_or xs w d).handles.ok.0 in
    omega (arith, b, c, k, ok, less)

pub rest_after : {G : Type 0} (olds xs : List (Job G)) (w : ℕ) (new : Job G) → ((j : ℕ) (d : Job G) → w ≤ j → j < length olds → slice_index_or xs j d ≡ slice_index_or olds j d)
    → (j : ℕ) (d : Job G) → w + 1 ≤ j → j < length olds → slice_index_or (set xs w new) j d ≡ slice_index_or olds j d
rest_after olds xs w new rest j d high low = get_or-set_other xs w j new d (λ e. omega (arith, e, high)) ∙ rest j d (omega (arith, high)) low

pub got_more : {G : Type 0} (hs gs : List SharedHandle) (olds xs : List (Job G)) (w : ℕ) (h : SharedHandle) (y new : Job G) → length xs ≡ length olds → w < length olds → w < length hs → gs ≡ drop w hs → h ≡ slice_index_or gs 0 h → GotOne h (slice_index_or xs w y) new
    → ((j : ℕ) (d : Job G) (x : SharedHandle) → j < w → GotOne (slice_index_or hs j x) (slice_index_or olds j d) (slice_index_or xs j d))
    → ((j : ℕ) (d : Job G) → w ≤ j → j < length olds → slice_index_or xs j d ≡ slice_index_or olds j d)
    → (j : ℕ) (d : Job G) (x : SharedHandle) → j < w + 1 → GotOne (slice_index_or hs j x) (slice_index_or olds j d) (slice_index_or (set xs w new) j d)
got_more {G} hs gs olds xs w h y new len low low' left is now given rest j d x less =
    dite (ℕ_discrete j w)
    (λ (here : j ≡ w).
    let in_xs : w < length xs = omega (arith, len, low) in
    let to_h : slice_index_or hs j x ≡ h = ap (λ (k : ℕ). slice_index_or hs k x) here ∙ same_get hs w x h low' ∙ sym (get_drop hs w h) ∙ ap (λ (l : List SharedHandle). slice_index_or l 0 h) (sym left) ∙ sym is in
    let to_old : slice_index_or olds j d ≡ slice_index_or xs w y = ap (λ (k : ℕ). slice_index_or olds k d) here ∙ same_get olds w d y low ∙ sym (rest w y (omega arith) low) in
    let to_new : slice_index_or (set xs w new) j d ≡ new = ap (λ (k : ℕ). slice_index_or (set xs w new) k d) here ∙ get_or-set_same xs w new d in_xs in
    subst (λ (t : SharedHandle × Job G × Job G). GotOne t.0 t.1 t.2) (λ i. (sym to_h i, sym to_old i, sym to_new i)) now)
    (λ (apart : j ≢ w).
    let before : j < w = grind (arith, less, apart) in
    subst (GotOne (slice_index_or hs j x) (slice_index_or olds j d)) (sym (get_or-set_other xs w j new d apart)) (given j d x before))

-- the workers after they got their handles, as the code has them
pub shared_at : {G : Type 0} (k : ℕ) (spans : List SharedHandle) (jobs lent given begun rest : List (Job G)) (rs : List Released) (n : ℕ) → lent ≡ jobs → length given ≡ length lent → length jobs ≡ n → begun ≡ take n (given ++ rest) → WereShared k spans lent given rs → (length begun ≡ length jobs) × WereShared k spans jobs begun rs
shared_at {G} k spans jobs lent given begun rest rs n lent_is len count is sh =
    let same : begun ≡ given = is ∙ take_front n given rest (len ∙ ap length lent_is ∙ count) in
    (ap length same ∙ len ∙ ap length lent_is, subst (λ (t : List (Job G) × List (Job G)). WereShared k spans t.0 t.1 rs) (λ i. (lent_is i, sym same i)) sh)
