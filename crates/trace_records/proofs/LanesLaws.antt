-- A script may have so many lanes exactly where any number is taken and it has no more.
use Rattle.std.proofs.Common.{◌≡◌, ℕ, ◌+◌, ◌≤◌, List, [], ◌∷◌, ◌++◌, refl, sym, ap, subst, ◌∙◌, length, map, Bool, true, false, Option, Some, None, Result, Ok, Err, if◌then◌else◌}
use Rattle.std.proofs.lemmas.Bool.{leb-true, le-leb}
use Rattle.trace_records.proofs.Common.{length-map, Settings, OpeningRead, opening_read, Setup, setup_by, History, tables, records_of, Told, is_blank, settings_spelled, effect_of_line, ScriptHistory, ScriptResult, run_unless_refused, allows_lanes, setup_if_read, setup_of_settings, setup_of_line, lanes_on, script_on, script_from, script_of}
use Rattle.trace_records.proofs.ScriptsLaws.{going_either}

count : (settings : Settings) → length (setup_by settings).ids ≡ length settings.lanes
count settings = length-map settings.lanes (λ (l : ℕ × Option (List ℕ)). l.0)

-- ---- the settings line

few_read : (read : OpeningRead) (few : Bool) (by setup : Setup) → setup_if_read read few by ≡ Ok setup → (few ≡ true) × (setup_if_read read true by ≡ Ok setup) × (by ≡ setup)
few_read (Err unread) few by setup is = absurd cc
few_read (Ok read) true by setup is = (refl, is, cc)
few_read (Ok read) false by setup is = absurd cc

few_setup : (most : ℕ) (spelled : Result Settings Told) (setup : Setup) → setup_of_settings (Some most) spelled ≡ Ok setup → (setup_of_settings None spelled ≡ Ok setup) × (length setup.ids ≤ most)
few_setup most (Err why) setup is = absurd cc
few_setup most (Ok settings) setup is =
    let read = few_read (opening_read settings.filter settings.counting) (allows_lanes (Some most) (length settings.lanes)) (setup_by settings) setup is in
    (read.1, subst (λ (s : Setup). length s.ids ≤ most) read.2 (rw (count settings) (leb-true (length settings.lanes) most read.0)))

all_setup : (most : ℕ) (spelled : Result Settings Told) (setup : Setup) → setup_of_settings None spelled ≡ Ok setup → length setup.ids ≤ most → setup_of_settings (Some most) spelled ≡ Ok setup
all_setup most (Err why) setup is within = absurd cc
all_setup most (Ok settings) setup is within =
    let read = few_read (opening_read settings.filter settings.counting) true (setup_by settings) setup is in
    let few : length settings.lanes ≤ most = rw (← count settings) (subst (λ (s : Setup). length s.ids ≤ most) (sym read.2) within) in
    ap (λ (b : Bool). setup_if_read (opening_read settings.filter settings.counting) b (setup_by settings)) (le-leb (length settings.lanes) most few) ∙ is

few_line : (most : ℕ) (text : List ℕ) (setup : Setup) → setup_of_line (Some most) text ≡ Ok setup → (setup_of_line None text ≡ Ok setup) × (length setup.ids ≤ most)
unfolding setup_of_line
few_line most text setup is = few_setup most (settings_spelled text) setup is

all_line : (most : ℕ) (text : List ℕ) (setup : Setup) → setup_of_line None text ≡ Ok setup → length setup.ids ≤ most → setup_of_line (Some most) text ≡ Ok setup
unfolding setup_of_line
all_line most text setup is within = all_setup most (settings_spelled text) setup is within

-- ---- the lines

if_both : (P : Type 0) (b : Bool) (v w : ScriptResult) (s : ScriptHistory) (x y : ScriptResult) → (if b then v else w) ≡ Ok s → (v ≡ Ok s → (x ≡ Ok s) × P) → (w ≡ Ok s → (y ≡ Ok s) × P) → ((if b then x else y) ≡ Ok s) × P
if_both P true v w s x y is first second = first is
if_both P false v w s x y is first second = second is

if_either : (P : Type 0) (b : Bool) (v w : ScriptResult) (s : ScriptHistory) → (if b then v else w) ≡ Ok s → (v ≡ Ok s → P) → (w ≡ Ok s → P) → P
if_either P true v w s e left right = left e
if_either P false v w s e left right = right e

-- a script keeps what its settings fix
same_setup : (setup : Setup) (h : History) (lanes : List ℕ) (n : ℕ) (lines : List (List ℕ)) (s : ScriptHistory) → script_on setup h lanes n lines ≡ Ok s → setup ≡ s.setup
same_setup setup h lanes n [] s is = cc
same_setup setup h lanes n (text ∷ lines) s is =
    if_either (setup ≡ s.setup) (is_blank text) _ _ s is (λ e. same_setup setup h lanes (n + 1) lines s e)
    (λ e. going_either (setup ≡ s.setup) (effect_of_line setup (tables setup h) text) (n + 1) _ s e
    (λ x does goes. same_setup setup (h ++ x ∷ []) (lanes ++ lanes_on text (records_of (tables setup h) x)) (n + 1) lines s goes))

few_from : (most n : ℕ) (lines : List (List ℕ)) (s : ScriptHistory) → script_from (Some most) n lines ≡ Ok s → (script_from None n lines ≡ Ok s) × (length s.setup.ids ≤ most)
few_from most n [] s is = absurd cc
few_from most n (text ∷ lines) s is =
    if_both (length s.setup.ids ≤ most) (is_blank text) _ _ s _ _ is (λ e. few_from most (n + 1) lines s e)
    (λ e. going_either _ (setup_of_line (Some most) text) (n + 1) _ s e
    (λ setup read goes.
    let few = few_line most text setup read in (
      ap (λ (r : Result Setup Told). run_unless_refused r (n + 1) (λ (x : Setup). script_on x [] [] (n + 1) lines)) few.0 ∙ goes,
      subst (λ (x : Setup). length x.ids ≤ most) (same_setup setup [] [] (n + 1) lines s goes) few.1,
    )))

all_from : (most n : ℕ) (lines : List (List ℕ)) (s : ScriptHistory) → script_from None n lines ≡ Ok s → length s.setup.ids ≤ most → script_from (Some most) n lines ≡ Ok s
all_from most n [] s is within = absurd cc
all_from most n (text ∷ lines) s is within =
    (if_both (Unit {0}) (is_blank text) _ _ s _ _ is (λ e. (all_from most (n + 1) lines s e within, tt))
    (λ e. going_either _ (setup_of_line None text) (n + 1) _ s e
    (λ setup read goes.
    let few : length setup.ids ≤ most = subst (λ (x : Setup). length x.ids ≤ most) (sym (same_setup setup [] [] (n + 1) lines s goes)) within in
    (ap (λ (r : Result Setup Told). run_unless_refused r (n + 1) (λ (x : Setup). script_on x [] [] (n + 1) lines)) (all_line most text setup read few) ∙ goes, tt)))).0

pub few_lanes : (most : ℕ) (lines : List (List ℕ)) (s : ScriptHistory) → script_of (Some most) lines ≡ Ok s → (script_of None lines ≡ Ok s) × (length s.setup.ids ≤ most)
few_lanes most lines s is = few_from most 0 lines s is

pub any_lanes : (most : ℕ) (lines : List (List ℕ)) (s : ScriptHistory) → (script_of None lines ≡ Ok s) × (length s.setup.ids ≤ most) → script_of (Some most) lines ≡ Ok s
any_lanes most lines s is = all_from most 0 lines s is.0 is.1
