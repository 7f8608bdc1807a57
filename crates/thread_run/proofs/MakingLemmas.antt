-- Shared spans are made at their moments, of their callsites.
use Rattle.std.proofs.Common.{◌≡◌, ℕ, zero, suc, ◌+◌, ◌<◌, ◌≤◌, List, [], ◌∷◌, ◌++◌, length, true, refl, sym, ap, subst, ◌∙◌, arith}
use Rattle.std.proofs.lemmas.Bool.{true≢false}
use Rattle.std.proofs.lemmas.List.{length_push}
use Rattle.std.specs.Prelude.{Result, Ok, Err, IfOk, Option, Some, None, option_map, option_and_then, slice_get, slice_index_or, is_some}
use Rattle.otel_state.specs.declared.times.TheConstants.{GREATEST}
use Rattle.trace_base.specs.declared.callsite.Callsite.{Callsite}
use Rattle.trace_base.specs.declared.field.ValueSet.{ValueSet}
use Rattle.trace_base.specs.declared.lane.Lane.{Lane}
use Rattle.otel_base.specs.declared.context.Context.{Context}
use Rattle.otel_base.specs.declared.context.SpanContext.{SpanContext}
use Rattle.span_script.specs.Setups.{span_site}
use Rattle.otel_base.specs.Stack.{empty_context}
use Rattle.trace_threads.specs.declared.making.Making.{Making}
use Rattle.trace_threads.specs.Making.{making_of}
use Rattle.trace_threads.specs.Handles.{SharedHandle}
use Rattle.trace_threads.specs.Turns.{first_view}
use Rattle.trace_threads.specs.declared.turns.View.{View}
use Rattle.thread_script.specs.declared.script.SharedLine.{SharedLine}
use Rattle.thread_script.specs.declared.script.ThreadScript.{ThreadScript}
use Rattle.thread_script.specs.Plans.{plan_of}
use Rattle.thread_work.specs.Spans.{AreFirsts}
use Rattle.thread_lines.specs.Runnable.{AreValidSharedLines, IsRunnable}
use Rattle.thread_run.specs.Spans.{lane_of, IsFirstLane, ids_at, no_values, making_on, shared_making, IsMadeFor, AreMadeUpTo, AreMadeFor}

-- ---- lists

got : {A : Type 0} (xs : List A) (i : ℕ) (d : A) → i < length xs → slice_get xs i ≡ Some (slice_index_or xs i d)
got [] i d low = absurd (omega (arith, low))
got (x ∷ xs) zero d low = refl
got (x ∷ xs) (suc i) d low = got xs i d (omega (arith, low))

-- ---- the moment of a making

made_by : (script : ThreadScript) (place : ℕ) (l : SharedLine) (c : Option Callsite) (lane : Option (ℕ × Option (List ℕ))) (m : Making)
    → option_and_then (λ site. option_map (λ first. making_of site (lane_of first) script.layer l.at (ids_at place) empty_context no_values) lane) c ≡ Some m
    → m.made_at ≡ l.at
made_by script place l None lane m e = absurd (cc e)
made_by script place l (Some c) None m e = absurd (cc e)
made_by script place l (Some c) (Some lane) m e =
    let is : making_of c (lane_of lane) script.layer l.at (ids_at place) empty_context no_values ≡ m = cc e in
    sym (ap (λ (x : Making). x.made_at) is)

pub shared_making_at : (script : ThreadScript) (place : ℕ) (l : SharedLine) (m : Making) → place < length script.shared → shared_making script place ≡ Some m → m.made_at ≡ (slice_index_or script.shared place l).at
shared_making_at script place l m low e =
    let line = slice_index_or script.shared place l in
    let is : making_on script place line ≡ Some m = ap (option_and_then (making_on script place)) (sym (got script.shared place l low)) ∙ e in
    made_by script place line (slice_get script.callsites line.site) (slice_get script.lanes 0) m is

-- ---- the first handles

pub low_at : (cs : List Callsite) (ls : List SharedLine) (s : ℕ) (l : SharedLine) → AreValidSharedLines cs ls → s < length ls → (slice_index_or ls s l).at ≤ GREATEST
low_at cs [] s l all low = absurd (omega (arith, low))
low_at cs (x ∷ ls) zero l all low = all.0.0
low_at cs (x ∷ ls) (suc s) l all low = low_at cs ls s l all.1 (omega (arith, low))

pub are_firsts : (script : ThreadScript) (hs : List SharedHandle) → IsRunnable script → AreMadeFor script hs → AreFirsts (plan_of script) hs
are_firsts script hs r made =
    let len = made.0 in (
      sym len,
      λ s d l low.
          let in_shared : s < length script.shared = omega (arith, low, len) in
          let m = made.1 s d in_shared in
          ((m.number, m.view, shared_making_at script s l (slice_index_or hs s d).view.origin in_shared m.making), low_at script.callsites script.shared s l r.shared in_shared),
    )

-- ---- a span that is made

there_by : (cs : List Callsite) (site : ℕ) → is_some (span_site cs site) ≡ true → site < length cs
there_by [] site e = absurd (true≢false (sym e))
there_by (c ∷ cs) zero e = omega arith
there_by (c ∷ cs) (suc site) e = let low = there_by cs site e in omega (arith, low)

-- its callsite is there
pub site_low : (cs : List Callsite) (ls : List SharedLine) (s : ℕ) (l : SharedLine) → AreValidSharedLines cs ls → s < length ls → (slice_index_or ls s l).site < length cs
site_low cs [] s l all low = absurd (omega (arith, low))
site_low cs (x ∷ ls) zero l all low = there_by cs x.site all.0.1
site_low cs (x ∷ ls) (suc s) l all low = site_low cs ls s l all.1 (omega (arith, low))

making_is : (script : ThreadScript) (place : ℕ) (l : SharedLine) (c : Callsite) (lane : Lane) → place < length script.shared → l ≡ slice_index_or script.shared place l → l.site < length script.callsites → c ≡ slice_index_or script.callsites l.site c → IsFirstLane script.lanes lane
    → shared_making script place ≡ Some (making_of c lane script.layer l.at (ids_at place) empty_context no_values)
making_is script place l c lane low line_is there site_is lane_is =
    ap (option_and_then (making_on script place)) (got script.shared place l low ∙ ap Some (sym line_is))
    ∙ ap (λ (o : Option Callsite). option_and_then (λ site. option_map (λ first. making_of site (lane_of first) script.layer l.at (ids_at place) empty_context no_values) (slice_get script.lanes 0)) o) (got script.callsites l.site c there ∙ ap Some (sym site_is))
    ∙ ap (λ (o : Option (ℕ × Option (List ℕ))). option_map (λ first. making_of c (lane_of first) script.layer l.at (ids_at place) empty_context no_values) o) lane_is

is_made : (script : ThreadScript) (place : ℕ) (h : SharedHandle) (m : Making) → h.number ≡ 0 → h.view ≡ first_view m → shared_making script place ≡ Some m → IsMadeFor script place h
is_made script place h m number view making = record {
  number = number;
  view = view ∙ ap first_view (sym (ap (λ (v : View). v.origin) view));
  making = making ∙ ap Some (sym (ap (λ (v : View). v.origin) view));
}

-- what is made of what a script says, if anything is
pub made_where : {E : Type 0} (script : ThreadScript) (place : ℕ) (l : SharedLine) (c : Callsite) (lane : Lane) (own : SpanContext) (parent : Context) (values : ValueSet) (r : Result SharedHandle E)
    → place < length script.shared → l ≡ slice_index_or script.shared place l → l.site < length script.callsites → c ≡ slice_index_or script.callsites l.site c → IsFirstLane script.lanes lane
    → own ≡ ids_at place → parent ≡ empty_context → values ≡ no_values
    → IfOk r (λ h. h.view ≡ first_view (making_of c lane script.layer l.at own parent values)) → IfOk r (λ h. h.number ≡ 0) → IfOk r (IsMadeFor script place)
made_where script place l c lane own parent values (Err why) low line_is there site_is lane_is own_is parent_is values_is view number = tt
made_where script place l c lane own parent values (Ok h) low line_is there site_is lane_is own_is parent_is values_is view number =
    is_made script place h (making_of c lane script.layer l.at (ids_at place) empty_context no_values) number
    (view
    ∙ ap (λ (o : SpanContext). first_view (making_of c lane script.layer l.at o parent values)) own_is
    ∙ ap (λ (p : Context). first_view (making_of c lane script.layer l.at (ids_at place) p values)) parent_is
    ∙ ap (λ (v : ValueSet). first_view (making_of c lane script.layer l.at (ids_at place) empty_context v)) values_is)
    (making_is script place l c lane low line_is there site_is lane_is)

-- ---- a span more

pushed_at : (Q : ℕ → SharedHandle → Type 0) (hs : List SharedHandle) (h : SharedHandle) → ((i : ℕ) (d : SharedHandle) → i < length hs → Q i (slice_index_or hs i d)) → Q (length hs) h
    → (i : ℕ) (d : SharedHandle) → i < length (hs ++ h ∷ []) → Q i (slice_index_or (hs ++ h ∷ []) i d)
pushed_at Q [] h all one zero d low = one
pushed_at Q [] h all one (suc i) d low = absurd (omega (arith, low))
pushed_at Q (x ∷ hs) h all one zero d low = all 0 d (omega arith)
pushed_at Q (x ∷ hs) h all one (suc i) d low =
    pushed_at (λ j. Q (suc j)) hs h (λ j e below. all (suc j) e (omega (arith, below))) one i d (omega (arith, low))

pub made_push : (script : ThreadScript) (n : ℕ) (hs : List SharedHandle) (h : SharedHandle) → AreMadeUpTo script n hs → IsMadeFor script n h → AreMadeUpTo script (n + 1) (hs ++ h ∷ [])
made_push script n hs h made one =
    let so_many = made.0 in
    let more = length_push hs h in (
      omega (arith, more, so_many),
      λ place d low.
          pushed_at (IsMadeFor script) hs h (λ i e below. made.1 i e (omega (arith, below, so_many)))
          (subst (λ (k : ℕ). IsMadeFor script k h) (sym so_many) one) place d (omega (arith, low, more, so_many)),
    )

pub made_none : (script : ThreadScript) (hs : List SharedHandle) → hs ≡ [] → AreMadeUpTo script 0 hs
made_none script hs none = (ap length none, λ place d low. absurd (omega (arith, low)))
