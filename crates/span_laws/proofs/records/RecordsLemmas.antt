-- What the records of a history tell.
use Rattle.span_laws.proofs.Common.{EachRecord, Effect, History, IsHistory, IsTrue, Ok, Record, Request, ScopeGuard, Setup, Some, Tables, TellsAttributes, TellsStartAndEnd, TellsTimes, arith, attributes_of, closed_at, counted_of, effect_of, false, is_drop, is_in, last_exit, length, made_span_at, nat_tests, ops_of, place_in, records_of, records_of_history, slot_at, slot_open, starting_order, tables, true, was_entered, ℕ, ◌≡◌}
use Rattle.span_laws.proofs.records.HistoriesLemmas.{IsClosed, done_in, effect_each, fits, whole}
use Rattle.span_laws.proofs.spans.MakingsLemmas.{first_of}
use Rattle.span_laws.proofs.spans.OccurrencesLemmas.{is_in_counted}
use Rattle.span_laws.proofs.records.PairsLemmas.{each_length, each_map}
use Rattle.span_laws.proofs.steps.StepsLemmas.{step_of}
use Rattle.span_laws.proofs.records.ContentsLemmas.{attributes_told, span_told, times_told}

pub as_many_as_closed : (setup : Setup) (h : History) → IsHistory setup h → length (records_of_history setup h) ≡ length (tables setup h).closed
as_many_as_closed setup h legal = each_length (IsClosed setup (tables setup h).spans h) (tables setup h).closed (records_of_history setup h) (whole setup h legal).each

pub as_many_as_close : (setup : Setup) (h : History) (request : Request) (e : Effect) → IsHistory setup h → effect_of setup (tables setup h) request ≡ Ok e → length (records_of (tables setup h) e) ≡ length e.closes
as_many_as_close setup h request e legal is =
    let now = whole setup h legal in
    let step = step_of setup (tables setup h) (fits setup h now) request e is in
    each_length _ e.closes (records_of (tables setup h) e) (effect_each setup h now request.at (is_drop request.call) e step.0 step.1)

-- what is read off each record
module _ (setup : Setup) (h : History) (legal : IsHistory setup h) where
  abbrev t : Tables
  t = tables setup h

  read_off : (P : ℕ → Record → Type 0) → ((s : ℕ) (r : Record) → IsClosed setup t.spans h s r → P s r) → EachRecord P t.closed (records_of_history setup h)
  read_off P read = each_map (IsClosed setup t.spans h) P t.closed (records_of_history setup h) (λ s r some c. read s r c) (whole setup h legal).each

  pub spans : EachRecord (λ s r. TellsStartAndEnd (made_span_at t.spans s).made_with.made_at (last_exit (ops_of r.context h s)) (closed_at h s) r) t.closed (records_of_history setup h)
  spans = read_off (λ s r. TellsStartAndEnd (made_span_at t.spans s).made_with.made_at (last_exit (ops_of r.context h s)) (closed_at h s) r)
      (λ s r c. span_told setup (first_of t.spans s) (done_in h s) (place_in (starting_order h) s) (closed_at h s) r c)

  pub add_up : IsTrue setup.layer.inactivity → EachRecord (λ s r. TellsTimes (was_entered (ops_of r.context h s)) (last_exit (ops_of r.context h s)) r) t.closed (records_of_history setup h)
  add_up tracked = read_off (λ s r. TellsTimes (was_entered (ops_of r.context h s)) (last_exit (ops_of r.context h s)) r)
      (λ s r c. times_told setup (first_of t.spans s) (done_in h s) (place_in (starting_order h) s) (closed_at h s) r c tracked)

  pub attributes : EachRecord (λ s r. TellsAttributes setup (made_span_at t.spans s).made_with.attributes (attributes_of (ops_of r.context h s)) (counted_of (ops_of r.context h s)) r) t.closed (records_of_history setup h)
  attributes = read_off (λ s r. TellsAttributes setup (made_span_at t.spans s).made_with.attributes (attributes_of (ops_of r.context h s)) (counted_of (ops_of r.context h s)) r)
      (λ s r c. attributes_told setup (first_of t.spans s) (done_in h s) (place_in (starting_order h) s) (closed_at h s) r c)

pub none_open : (setup : Setup) (h : History) (n s : ℕ) (g : ScopeGuard) → IsHistory setup h → slot_at (tables setup h).guards n ≡ Some g → is_in s g.scope ≡ true → is_in s (tables setup h).closed ≡ false
none_open setup h n s g legal there inside =
    let t = tables setup h in
    let now = (whole setup h legal).stands in
    let held = slot_open t.handles g.handle s g.scope (now.guarded.still n g there) inside in
    let ended = now.sound.ended s in
    let counted = is_in_counted s t.closed in
    grind (arith, nat_tests, held, ended, counted)
