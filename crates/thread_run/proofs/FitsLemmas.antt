-- What workers answer fits the script.
use Rattle.std.proofs.Common.{◌≡◌, ℕ, suc, ◌<◌, List, [], ◌∷◌, length, sym, ap, ◌∙◌, arith, Vec, Global}
use Rattle.std.specs.Prelude.{All, slice_index_or, Result, Ok, Err, IfOk, vec_len}
use Rattle.shared_gate.specs.Gates.{GateValue}
use Rattle.shared_gate.specs.Order.{opening_of}
use Rattle.trace_threads.specs.Handles.{SharedHandle}
use Rattle.thread_script.specs.declared.script.ThreadScript.{ThreadScript}
use Rattle.thread_script.specs.declared.script.WorkerOp.{WorkerOp}
use Rattle.thread_script.specs.Plans.{plan_of}
use Rattle.thread_script.specs.Tests.{AllAtOpening}
use Rattle.thread_handles.specs.declared.gather.Ended.{Ended}
use Rattle.thread_work.specs.Spans.{AllEnded}
use Rattle.thread_run.specs.Fits.{AllFit}
use Rattle.thread_run.specs.Gates.{AreNewGates}
use Rattle.thread_run.specs.Spans.{AreMadeFor}

-- ---- gates

pub at_opening : {G : Type 0} (opening : G → List ℕ) (text : List ℕ) (workers : List (List WorkerOp)) (gates : List G) → length gates ≡ length workers → All (λ g. opening g ≡ text) gates
    → AllAtOpening opening text workers gates
at_opening opening text [] [] len all = tt
at_opening opening text [] (g ∷ gates) len all = absurd (omega (arith, len))
at_opening opening text (ops ∷ workers) [] len all = absurd (omega (arith, len))
at_opening opening text (ops ∷ workers) (g ∷ gates) len all =
    (all 0 g (omega arith), at_opening opening text workers gates (omega (arith, len)) (λ w d low. all (suc w) d (omega (arith, low))))

-- gates that have seen the opening text alone
pub are_open : (text : List ℕ) (workers : List (List WorkerOp)) (gates : List GateValue) → AreNewGates text (length workers) gates → AllAtOpening (λ (g : GateValue). opening_of g.texts) text workers gates
are_open text workers gates open_all = at_opening (λ (g : GateValue). opening_of g.texts) text workers gates open_all.0 (λ w d low. ap opening_of (open_all.1 w d low))

-- ---- what came of the spans

all_fit : (script : ThreadScript) (hs : List SharedHandle) (es : List Ended) (some : SharedHandle) → AreMadeFor script hs → length es ≡ length hs → AllEnded (plan_of script) hs script.workers es → AllFit script es
all_fit script hs es some made len ended =
    let so_many = made.0 in (
      len ∙ so_many,
      λ place d low.
          let in_hs : place < length hs = omega (arith, low, len) in
          let m = made.1 place some (omega (arith, in_hs, so_many)) in
          let e = ended place some d in_hs in
          record {
            fits = record {
              making = (slice_index_or hs place some).view.origin;
              of_span = m.making;
              does = e.does;
              content = e.content;
            };
            origin = e.origin;
            seen = e.seen;
          },
    )

pub fit_all : (script : ThreadScript) (hs : List SharedHandle) (es : List Ended) → AreMadeFor script hs → length es ≡ length hs → AllEnded (plan_of script) hs script.workers es → AllFit script es
fit_all script [] es made len ended = (len ∙ made.0, λ place d low. absurd (omega (arith, low, len)))
fit_all script (h ∷ hs) es made len ended = all_fit script (h ∷ hs) es h made len ended

-- whatever comes of it
pub fit_where : {E : Type 0} (script : ThreadScript) (spans : Vec SharedHandle Global) (r : Result (Vec Ended Global) E) → AreMadeFor script spans.items → IfOk r (λ es. vec_len es ≡ vec_len spans)
    → IfOk r (λ es. AllEnded (plan_of script) spans.items script.workers es.items) → IfOk r (λ es. AllFit script es.items)
fit_where script spans (Ok es) made len ended = fit_all script spans.items es.items made (sym es.ok.0 ∙ len ∙ spans.ok.0) ended
fit_where script spans (Err why) made len ended = tt
