-- What entries tell: calls are numbered by those that were counted.
use Rattle.std.proofs.Common.{◌≡◌, ℕ, ◌+◌, List, [], ◌∷◌, ◌++◌, Bool, true, false, refl, sym, ◌∙◌, arith}
use Rattle.std.specs.Prelude.{◌==◌, if◌then◌else◌, slice_index_or}
use Rattle.trace_threads.specs.declared.history.Entry.{Entry}
use Rattle.thread_run.specs.Texts.{one_if_call, call_count, CallsAreCounted}

-- ---- counts

-- ---- an entry more

calls_push : (k : ℕ) (log : List Entry) (e : Entry) → call_count k (log ++ e ∷ []) ≡ (if e.caller == k then call_count k log + one_if_call e.what else call_count k log)
calls_push k [] e = alone (e.caller == k)
  where
    alone : (b : Bool) → (if b then one_if_call e.what + 0 else 0) ≡ (if b then 0 + one_if_call e.what else 0)
    alone true = omega arith
    alone false = refl
calls_push k (x ∷ log) e = behind (x.caller == k) (e.caller == k) (call_count k (log ++ e ∷ [])) (calls_push k log e)
  where
    behind : (b c : Bool) (n : ℕ) → n ≡ (if c then call_count k log + one_if_call e.what else call_count k log)
        → (if b then one_if_call x.what + n else n) ≡ (if c then (if b then one_if_call x.what + call_count k log else call_count k log) + one_if_call e.what else (if b then one_if_call x.what + call_count k log else call_count k log))
    behind true true n is = omega (arith, is)
    behind true false n is = omega (arith, is)
    behind false true n is = is
    behind false false n is = is

-- what is no call is not counted
pub counted_other : (log : List Entry) (e : Entry) (counts : List ℕ) → one_if_call e.what ≡ 0 → CallsAreCounted log counts → CallsAreCounted (log ++ e ∷ []) counts
counted_other log e counts none all k = all k ∙ sym (calls_push k log e ∙ by_caller (e.caller == k))
  where
    by_caller : (b : Bool) → (if b then call_count k log + one_if_call e.what else call_count k log) ≡ call_count k log
    by_caller true = omega (arith, none)
    by_caller false = refl

pub counted_call : (log : List Entry) (e : Entry) (old new : List ℕ) → one_if_call e.what ≡ 1
    → ((k : ℕ) → slice_index_or new k 0 ≡ (if e.caller == k then slice_index_or old k 0 + 1 else slice_index_or old k 0)) → CallsAreCounted log old → CallsAreCounted (log ++ e ∷ []) new
counted_call log e old new one counted all k = counted k ∙ by_caller (e.caller == k) ∙ sym (calls_push k log e)
  where
    by_caller : (b : Bool) → (if b then slice_index_or old k 0 + 1 else slice_index_or old k 0) ≡ (if b then call_count k log + one_if_call e.what else call_count k log)
    by_caller true = (let same = all k in omega (arith, one, same))
    by_caller false = all k

-- ---- texts
