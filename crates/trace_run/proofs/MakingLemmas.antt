-- What serving the made requests comes to.
use Rattle.std.proofs.Common.{◌≡◌, ℕ, zero, suc, ◌+◌, List, [], ◌∷◌, ◌++◌, length, Some, Ok, refl, sym, ap, subst, ◌∙◌, arith, append_assoc, append-nil, length-append}
use Rattle.std.specs.List.{sum_by}
use Rattle.std.proofs.lemmas.List.Sums.{sum_by-append}
use Rattle.trace_run.proofs.Common.{Record, Request, PipelineState, StandsFor, IsServedByHistory, records_of_history, Setup, History, Tables, no_tables, tables, records_of, generated_setup, generated_requests, generated_script, requests_of_round, requests_of_rounds, history_unless_refused, history_after, busy_of, event_count, IsValid, without_outputs, SumsUp, with_records, totals_of_requests, StandsWithTotals, ServesRequests}
use Rattle.span_script.specs.declared.reply.Reply.{Reply}
use Rattle.span_script.specs.calls.Here.{Resolved}
use Rattle.span_script.specs.Effects.{effect_of}
use Rattle.span_script.specs.calls.Spans.{open_spans}
use Rattle.trace_lines.specs.declared.write.summary.Summary.{Summary}
use Rattle.trace_run.specs.declared.script.make.Totals.{Totals}
use Rattle.trace_records.proofs.FollowingLemmas.{stands_beside}
use Rattle.span_script.proofs.runs.RunLemmas.{records_push}

-- ---- totals

pub with_none : (t : Totals) → with_records t [] ≡ t
with_none t =
    let busy : t.busy + 0 ≡ t.busy = omega arith in
    let events : t.events + 0 ≡ t.events = omega arith in
    let records : t.records + 0 ≡ t.records = omega arith in
    ap (λ b. record t { busy = b; events = t.events + 0; records = t.records + 0 }) busy
    ∙ ap (λ e. record t { busy = t.busy; events = e; records = t.records + 0 }) events
    ∙ ap (λ n. record t { busy = t.busy; events = t.events; records = n }) records

plain_totals : (n : ℕ) (rs : List Record) → with_records (totals_of_requests n) rs ≡ record { busy = sum_by busy_of rs; events = sum_by event_count rs; records = length rs; requests = n }
plain_totals n rs =
    let busy : 0 + sum_by busy_of rs ≡ sum_by busy_of rs = omega arith in
    let events : 0 + sum_by event_count rs ≡ sum_by event_count rs = omega arith in
    let count : 0 + length rs ≡ length rs = omega arith in
    ap (λ (b : ℕ). record (totals_of_requests n) { busy = b; events = 0 + sum_by event_count rs; records = 0 + length rs }) busy
    ∙ ap (λ (e : ℕ). record (totals_of_requests n) { busy = sum_by busy_of rs; events = e; records = 0 + length rs }) events
    ∙ ap (λ (k : ℕ). record (totals_of_requests n) { busy = sum_by busy_of rs; events = sum_by event_count rs; records = k }) count

-- the totals of some requests with records, one request more, and its records
with_request : (n m : ℕ) (rs ss : List Record) (t : Totals) → m ≡ n + 1 → t ≡ with_records (totals_of_requests n) rs
    → with_records (record t { requests = t.requests + 1 }) ss ≡ with_records (totals_of_requests m) (rs ++ ss)
with_request n m rs ss t next is =
    let busy : (0 + sum_by busy_of rs) + sum_by busy_of ss ≡ 0 + sum_by busy_of (rs ++ ss) = omega (arith, sum_by-append busy_of rs ss) in
    let events : (0 + sum_by event_count rs) + sum_by event_count ss ≡ 0 + sum_by event_count (rs ++ ss) = omega (arith, sum_by-append event_count rs ss) in
    let records : (0 + length rs) + length ss ≡ 0 + length (rs ++ ss) = omega (arith, length-append rs ss) in
    ap (λ (u : Totals). with_records (record u { requests = u.requests + 1 }) ss) is
    ∙ ap (λ (b : ℕ). record (totals_of_requests (n + 1)) { busy = b; events = (0 + sum_by event_count rs) + sum_by event_count ss; records = (0 + length rs) + length ss }) busy
    ∙ ap (λ (e : ℕ). record (totals_of_requests (n + 1)) { busy = 0 + sum_by busy_of (rs ++ ss); events = e; records = (0 + length rs) + length ss }) events
    ∙ ap (λ (k : ℕ). record (totals_of_requests (n + 1)) { busy = 0 + sum_by busy_of (rs ++ ss); events = 0 + sum_by event_count (rs ++ ss); records = k }) records
    ∙ ap (λ (k : ℕ). with_records (totals_of_requests k) (rs ++ ss)) (sym next)

-- ---- histories

pub served : (h : History) (old mid new : PipelineState) (before last : Totals) (request : Request) (reply : Reply) → StandsWithTotals h old before
    → IsServedByHistory (effect_of old.setup (tables old.setup h) request) h old mid reply
    → last ≡ with_records (record before { requests = before.requests + 1 }) mid.recording.finished → new.recording.finished ≡ [] → without_outputs new ≡ without_outputs mid
    → ServesRequests (request ∷ []) h new last
served h old mid new before last request reply c a last_is taken state =
    let t : Tables = tables generated_setup h in
    let setup : new.setup ≡ generated_setup = ap (λ (k : PipelineState). k.setup) state ∙ a.setup ∙ c.setup in
    let is : effect_of generated_setup t request ≡ Ok a.effect = subst (λ (s : Setup). effect_of s (tables s h) request ≡ Ok a.effect) c.setup a.is in
    let finished : mid.recording.finished ≡ records_of t a.effect =
    a.records ∙ ap (λ (f : List Record). f ++ records_of (tables old.setup h) a.effect) c.taken ∙ ap (λ (s : Setup). records_of (tables s h) a.effect) c.setup in
    record {
      history = h ++ a.effect ∷ [];
      counts = record {
        setup = setup;
        stands = stands_beside mid new (tables generated_setup (h ++ a.effect ∷ [])) state (subst (λ (s : Setup). StandsFor mid (tables s (h ++ a.effect ∷ []))) c.setup a.stands);
        taken = taken;
        totals_are = last_is ∙ ap (λ (f : List Record). with_records (record before { requests = before.requests + 1 }) f) finished
            ∙ with_request (length h) (length (h ++ a.effect ∷ [])) (records_of_history generated_setup h) (records_of t a.effect) before (length-append h (a.effect ∷ [])) c.totals_are
            ∙ ap (with_records (totals_of_requests (length (h ++ a.effect ∷ [])))) (sym (records_push (no_tables generated_setup) h a.effect));
      };
      replays = λ more. ap (λ (r : Resolved). history_unless_refused r (λ e. history_after generated_setup (h ++ e ∷ []) more)) is;
    }

pub serves_on : (xs ys all : List Request) (h : History) (k l : PipelineState) (t u : Totals) (s : ServesRequests xs h k t) → ServesRequests ys s.history l u → xs ++ ys ≡ all → ServesRequests all h l u
serves_on xs ys all h k l t u s z is =
    subst (λ (rs : List Request). ServesRequests rs h l u) is (record {
      history = z.history;
      counts = z.counts;
      replays = λ more. ap (history_after generated_setup h) (append_assoc xs ys more) ∙ s.replays (ys ++ more) ∙ z.replays more;
    })

pub rounds_more : (first i : ℕ) → requests_of_rounds first (i + 1) ≡ requests_of_rounds first i ++ requests_of_round (first + i)
rounds_more first zero = append-nil (requests_of_round first) ∙ ap requests_of_round {x = first} {y = first + 0} (omega arith)
rounds_more first (suc i) =
    ap (requests_of_rounds first) {x = suc i + 1} {y = suc (i + 1)} (omega arith)
    ∙ ap (λ (rs : List Request). requests_of_round first ++ rs) (rounds_more (first + 1) i) ∙ sym (append_assoc (requests_of_round first) (requests_of_rounds (first + 1) i) (requests_of_round ((first + 1) + i)))
    ∙ ap (λ (k : ℕ). requests_of_rounds first (suc i) ++ requests_of_round k) {x = (first + 1) + i} {y = first + suc i} (omega arith)

-- ---- the whole run

pub opened : (k : PipelineState) → k.setup ≡ generated_setup → StandsFor k (tables generated_setup []) → k.recording.finished ≡ [] → StandsWithTotals [] k (totals_of_requests 0)
opened k setup stands taken = record { setup = setup; stands = stands; taken = taken; totals_are = sym (with_none (totals_of_requests 0)) }

pub summed : (n : ℕ) (k : PipelineState) (t : Totals) (summary : Summary) (spans lines : ℕ) (s : ServesRequests (generated_requests n) [] k t) → ((h : History) → history_after generated_setup [] (generated_requests n) ≡ Some h → IsValid (generated_script n))
    → ((u : Tables) → StandsFor k u → spans ≡ open_spans u) → lines ≡ t.requests + t.records + 1
    → summary ≡ record { busy = t.busy; events = t.events; lines = lines; open_spans = spans; records = t.records; requests = t.requests } → SumsUp n summary
summed n k t summary spans lines s valid counts lines_are is =
    let runs : history_after generated_setup [] (generated_requests n) ≡ Some s.history = ap (history_after generated_setup []) (sym (append-nil (generated_requests n))) ∙ s.replays [] in
    record {
      valid = valid s.history runs;
      history = s.history;
      runs = runs;
      summary_is = is ∙ rw (lines_are, counts (tables generated_setup s.history) s.counts.stands, s.counts.totals_are ∙ plain_totals (length s.history) (records_of_history generated_setup s.history)) refl;
    }
