-- What holds of whole scripts: the report of a run accepts the same lines, and the history is legal.
use Rattle.std.proofs.Common.{◌≡◌, ℕ, ◌+◌, ◌<◌, List, [], ◌∷◌, ◌++◌, refl, sym, ap, ◌∙◌, length, map, length-append, Bool, true, false, Option, Some, None, Result, Ok, Err, is_ok, if◌then◌else◌, slice_get}
use Rattle.trace_records.proofs.Common.{length-map, Record, Settings, Request, OpeningRead, opening_read, Setup, setup_by, History, Effect, Tables, no_tables, tables, records_of, Refusal, is_bad_moment, effect_of_call, effect_of, records_of_history, records_push, Told, is_blank, settings_spelled, request_spelled, Report, report_on_effect, effect_of_line, effect_of_request, step_or_refusal, report_on, report_from, report_on_settings, report_on_opening, accepts, answer_count, ScriptHistory, ScriptResult, run_unless_refused, setup_if_read, setup_of_settings, setup_of_line, lane_spelled, lanes_on, script_on, script_from, script_of}
use Rattle.std.proofs.lemmas.List.Elements.{All-nil, All-cons, All-append}
use Rattle.std.proofs.lemmas.Option.{slice_get_within}
use Rattle.std.specs.List.{All}
use Rattle.span_script.specs.declared.reply.Refusal.TheVariants as refusal
use Rattle.span_script.specs.declared.reply.What.{What}
use Rattle.span_script.specs.declared.reply.What.TheVariants as what
use Rattle.span_script.specs.calls.Here.{Resolved, ◌>>=◌, need}
use Rattle.span_laws.specs.LegalHistories.{IsHistory, none, more}
use Rattle.trace_lines.specs.declared.signal.Signal.TheVariants as signal

-- ---- the same lines are accepted

if_same : (b : Bool) (x y : Report) (v w : ScriptResult) → x.accepted ≡ is_ok v → y.accepted ≡ is_ok w → (if b then x else y).accepted ≡ is_ok (if b then v else w)
if_same true x y v w e f = e
if_same false x y v w e f = f

following_same : (r : Result Effect Told) (go : Effect → Report) (goes : Effect → ScriptResult) (line : ℕ) → ((e : Effect) → (go e).accepted ≡ is_ok (goes e)) → (report_on_effect r go line).accepted ≡ is_ok (run_unless_refused r line goes)
following_same (Ok e) go goes line same = same e
following_same (Err why) go goes line same = refl

same_on : (setup : Setup) (h : History) (lanes : List ℕ) (n count : ℕ) (lines : List (List ℕ)) → (report_on signal.Traces setup h n count lines).accepted ≡ is_ok (script_on setup h lanes n lines)
same_on setup h lanes n count [] = refl
same_on setup h lanes n count (text ∷ lines) =
    if_same (is_blank text) _ _ _ _ (same_on setup h lanes (n + 1) count lines)
    (following_same (effect_of_line setup (tables setup h) text) _ _ (n + 1)
    (λ e. same_on setup (h ++ e ∷ []) (lanes ++ lanes_on text (records_of (tables setup h) e)) (n + 1) (count + answer_count signal.Traces (records_of (tables setup h) e) e.measures) lines))

read_same : (read : OpeningRead) (r : Report) (setup : Setup) (goes : Setup → ScriptResult) (line : ℕ) → r.accepted ≡ is_ok (goes setup) → (report_on_opening read r line).accepted ≡ is_ok (run_unless_refused (setup_if_read read true setup) line goes)
read_same (Ok read) r setup goes line same = same
read_same (Err unread) r setup goes line same = refl

opening_same : (s : Result Settings Told) (go : Settings → Report) (goes : Setup → ScriptResult) (line : ℕ) → ((settings : Settings) → (go settings).accepted ≡ is_ok (goes (setup_by settings)))
    → (report_on_settings s go line).accepted ≡ is_ok (run_unless_refused (setup_of_settings None s) line goes)
opening_same (Ok settings) go goes line same = read_same (opening_read settings.filter settings.counting) (go settings) (setup_by settings) goes line (same settings)
opening_same (Err why) go goes line same = refl

same_from : (n : ℕ) (lines : List (List ℕ)) → (report_from signal.Traces n lines).accepted ≡ is_ok (script_from None n lines)
unfolding setup_of_line
same_from n [] = refl
same_from n (text ∷ lines) =
    if_same (is_blank text) _ _ _ _ (same_from (n + 1) lines)
    (opening_same (settings_spelled text) _ _ (n + 1) (λ settings. same_on (setup_by settings) [] [] (n + 1) 0 lines))

-- the lines are accepted exactly where they come to a script
pub accepts_same : (lines : List (List ℕ)) → accepts lines ≡ is_ok (script_of None lines)
accepts_same lines = same_from 0 lines

-- ---- the history is legal, and each record has a lane of the settings

pub record IsLegal (s : ScriptHistory) : Type 0 where
  pub history : IsHistory s.setup s.history
  pub lanes : length s.lanes ≡ length (records_of_history s.setup s.history)
  pub within : All (λ lane. lane < length s.setup.ids) s.lanes

if_either : (P : Type 0) (b : Bool) (v w : ScriptResult) (s : ScriptHistory) → (if b then v else w) ≡ Ok s → (v ≡ Ok s → P) → (w ≡ Ok s → P) → P
if_either P true v w s e left right = left e
if_either P false v w s e left right = right e

pub going_either : {A : Type 0} (P : Type 0) (r : Result A Told) (line : ℕ) (go : A → ScriptResult) (s : ScriptHistory) → run_unless_refused r line go ≡ Ok s → ((x : A) → r ≡ Ok x → go x ≡ Ok s → P) → P
going_either P (Ok x) line go s e holds = holds x refl e
going_either P (Err why) line go s e holds = absurd cc

told_ok : (r : Resolved) (e : Effect) → step_or_refusal r ≡ Ok e → r ≡ Ok e
told_ok (Ok x) e is = let same : x ≡ e = cc in ap Ok same
told_ok (Err why) e is = absurd cc

-- the request that a line spells, and its effect
record Does (setup : Setup) (t : Tables) (text : List ℕ) (e : Effect) : Type 0 where
  request : Request
  spelled : request_spelled text ≡ Ok request
  effect : effect_of setup t request ≡ Ok e

request_ok : (setup : Setup) (t : Tables) (text : List ℕ) (r : Result Request Told) (e : Effect) → request_spelled text ≡ r → effect_of_request setup t r ≡ Ok e → Does setup t text e
request_ok setup t text (Ok request) e spelled is = record { request = request; spelled = spelled; effect = told_ok (effect_of setup t request) e is }
request_ok setup t text (Err why) e spelled is = absurd cc

line_ok : (setup : Setup) (t : Tables) (text : List ℕ) (e : Effect) → effect_of_line setup t text ≡ Ok e → Does setup t text e
unfolding effect_of_line
line_ok setup t text e is = request_ok setup t text (request_spelled text) e refl is

unless : (b : Bool) (why : Refusal) (r : Resolved) (e : Effect) → (if b then Err why else r) ≡ Ok e → r ≡ Ok e
unless true why r e is = absurd cc
unless false why r e is = is

there : {A : Type 0} (w : What) (o : Option A) (go : A → Resolved) (e : Effect) → (need w o >>= go) ≡ Ok e → (x : A) × (o ≡ Some x)
there w None go e is = absurd cc
there w (Some x) go e is = (x, refl)

-- a request that is served comes on a lane of the settings
lane_within : (setup : Setup) (t : Tables) (request : Request) (e : Effect) → effect_of setup t request ≡ Ok e → request.lane_place < length setup.ids
lane_within setup t request e is =
    let id = there what.Lane (slice_get setup.ids request.lane_place) (λ x. effect_of_call setup t request.at request.lane_place request.call) e
    (unless (is_bad_moment t.moment request.at) (refusal.BadMoment t.moment request.at) _ e is) in
    slice_get_within setup.ids request.lane_place id.0 id.1

all_same : (P : ℕ → Type 0) (n : ℕ) (rs : List Record) → P n → All P (map (λ r. n) rs)
all_same P n [] holds = All-nil P
all_same P n (r ∷ rs) holds = All-cons P n (map (λ r. n) rs) holds (all_same P n rs holds)

legal_on : (setup : Setup) (h : History) (lanes : List ℕ) (n : ℕ) (lines : List (List ℕ)) (s : ScriptHistory) → script_on setup h lanes n lines ≡ Ok s → IsLegal (record { setup = setup; history = h; lanes = lanes }) → IsLegal s
legal_on setup h lanes n [] s is l = subst_legal s is l where
  subst_legal : (s : ScriptHistory) → script_on setup h lanes n [] ≡ Ok s → IsLegal (record { setup = setup; history = h; lanes = lanes }) → IsLegal s
  subst_legal s is l = let same : record { setup = setup; history = h; lanes = lanes } ≡ s = cc in rw (← same) l
legal_on setup h lanes n (text ∷ lines) s is l =
    if_either (IsLegal s) (is_blank text) _ _ s is (λ e. legal_on setup h lanes (n + 1) lines s e l)
    (λ e. going_either (IsLegal s) (effect_of_line setup (tables setup h) text) (n + 1) _ s e
    (λ x does goes.
    let did = line_ok setup (tables setup h) text x does in
    let more_records : List Record = records_of (tables setup h) x in
    let lane : lane_spelled (request_spelled text) < length setup.ids = rw did.spelled (lane_within setup (tables setup h) did.request x did.effect) in
    legal_on setup (h ++ x ∷ []) (lanes ++ lanes_on text more_records) (n + 1) lines s goes
    (record {
      history = more h did.request x l.history did.effect;
      lanes = length-append lanes (lanes_on text more_records) ∙ rw (l.lanes, length-map more_records (λ (r : Record). lane_spelled (request_spelled text))) refl ∙ sym (length-append (records_of_history setup h) more_records) ∙ sym (ap length (records_push (no_tables setup) h x));
      within = All-append (λ k. k < length setup.ids) lanes (lanes_on text more_records) l.within (all_same (λ k. k < length setup.ids) (lane_spelled (request_spelled text)) more_records lane);
    })))

legal_from : (most : Option ℕ) (n : ℕ) (lines : List (List ℕ)) (s : ScriptHistory) → script_from most n lines ≡ Ok s → IsLegal s
legal_from most n [] s is = absurd cc
legal_from most n (text ∷ lines) s is =
    if_either (IsLegal s) (is_blank text) _ _ s is (λ e. legal_from most (n + 1) lines s e)
    (λ e. going_either (IsLegal s) (setup_of_line most text) (n + 1) _ s e
    (λ setup read goes. legal_on setup [] [] (n + 1) lines s goes (record { history = none; lanes = refl; within = All-nil (λ k. k < length setup.ids) })))

pub legal : (most : Option ℕ) (lines : List (List ℕ)) (s : ScriptHistory) → script_of most lines ≡ Ok s → IsLegal s
legal most lines s is = legal_from most 0 lines s is
