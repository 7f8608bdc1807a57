-- What stands of each legal history: its tables, the stories of its open spans, and the records of its closed ones.
use Rattle.span_laws.proofs.Common.{AllByRecursion, Bool, EachRecord, Effect, History, IsHistory, List, MadeSpan, None, Option, Record, Recording, Scope, Setup, Some, SpanContext, SpanData, SpanOp, Tables, TimedOp, [], after_effect, any_counted, ap, append_assoc, arith, closed_at, cond, cond-false, cond-true, data_at, deed, false, filter, flat_map, flat_map-append, fold, fold-append, fold_push, holds_span, if◌then◌else◌, is_drop, is_in, is_open, length, length_push, map, more, nat_lt, nat_tests, no_made_span, no_tables, none, not, occurrences, open_part, ops_from, ops_in, ops_of, option_map, pick, place_in, recording_after, records_of, records_of_history, records_push, refl, slot_at, span_starting_at_making, start_in, starting_order, starts_of, subst, sym, tables, true, with_item, with_span_made, with_start, with_started, ℕ, ◌&&◌, ◌++◌, ◌+◌, ◌<◌, ◌==◌, ◌||◌, ◌∙◌, ◌∷◌, ◌≡◌, ◌≤◌}
use Rattle.std.specs.Option.{option_to_list}
use Rattle.std.proofs.lemmas.List.{append-nil}
use Rattle.std.proofs.lemmas.Bool.{ne_eqb, true≢false}
use Rattle.span_script.specs.Tables as table
use Rattle.span_script.proofs.steps.RecordingLemmas.{starts_fold}
use Rattle.span_laws.proofs.spans.ClosesLemmas.{IsSound, Stands, named, step_stands, none_stands, fit_of}
use Rattle.span_laws.proofs.spans.MakingsLemmas.{first_of, starts_spare, made_stories}
use Rattle.span_laws.proofs.spans.OccurrencesLemmas.{occurs_cons, occurs_append, is_in_counted, get_push_other}
use Rattle.span_laws.proofs.records.PairsLemmas.{each_append, each_map}
use Rattle.span_laws.proofs.spans.PlacesLemmas.{places_stay}
use Rattle.span_laws.proofs.records.RecordingLemmas.{AreStories, Closed, Closes, begun_by, done_by, turned_by, same_record, starts_stories, ops_stories, closes_stories, before_closes, before_finished}
use Rattle.span_laws.proofs.spans.StartsLemmas.{starts_absent}
use Rattle.span_laws.proofs.steps.StepsLemmas.{IsReached, IsTimed, IsFit, IsStep, step_of}
use Rattle.span_laws.proofs.records.StoriesLemmas.{IsEnding, IsStory, stamp, later_story}
use Rattle.span_laws.proofs.steps.EntriesLemmas.{guards_of, guards_shut, turns_within}

-- ---- a history with one effect more

pub started_push : (h : History) (e : Effect) → starting_order (h ++ e ∷ []) ≡ fold with_started (fold with_started (fold with_started (starting_order h) e.starts) (option_to_list e.new_span_start)) e.closes
started_push h e =
    ap (fold with_started []) (flat_map-append starts_of h (e ∷ [])) ∙ fold-append with_started [] (flat_map starts_of h) (starts_of e ++ [])
    ∙ ap (fold with_started (starting_order h)) (append-nil (starts_of e)) ∙ fold-append with_started (starting_order h) (e.starts ++ option_to_list e.new_span_start) e.closes
    ∙ ap (λ (o : List ℕ). fold with_started o e.closes) (fold-append with_started (starting_order h) e.starts (option_to_list e.new_span_start))

pub ops_parts : (own : SpanContext) (s : ℕ) (order : List ℕ) (h rest : History) → ops_from own s order (h ++ rest) ≡ ops_from own s order h ++ ops_from own s (fold with_started order (flat_map starts_of h)) rest
ops_parts own s order [] rest = refl
ops_parts own s order (x ∷ h) rest =
    ap (λ (os : List TimedOp). ops_in own s order x ++ os) (ops_parts own s (fold with_started order (starts_of x)) h rest)
    ∙ sym (append_assoc (ops_in own s order x) (ops_from own s (fold with_started order (starts_of x)) h) (ops_from own s (fold with_started (fold with_started order (starts_of x)) (flat_map starts_of h)) rest))
    ∙ ap (λ (o : List ℕ). (ops_in own s order x ++ ops_from own s (fold with_started order (starts_of x)) h) ++ ops_from own s o rest) (sym (fold-append with_started order (starts_of x) (flat_map starts_of h)))

pub ops_push : (own : SpanContext) (h : History) (e : Effect) (s : ℕ) → ops_of own (h ++ e ∷ []) s ≡ ops_of own h s ++ ops_in own s (starting_order h) e
ops_push own h e s = ops_parts own s [] h (e ∷ []) ∙ ap (λ (os : List TimedOp). ops_of own h s ++ os) (append-nil (ops_in own s (starting_order h) e))

pub closed_push : (h : History) (e : Effect) (s : ℕ) → closed_at (h ++ e ∷ []) s ≡ (if is_in s e.closes then e.at else closed_at h s)
closed_push h e s = fold_push (λ at e. if is_in s e.closes then e.at else at) 0 h e

-- the ops of one span among those of an effect
done_all : (at : ℕ) (done : ℕ → SpanContext → List TimedOp) (ds : List SpanOp) (s : ℕ) (own : SpanContext) → fold (λ f d. done_by at d f) done ds s own ≡ done s own ++ map (λ d. stamp at d.op) (filter (λ d. d.span == s) ds)
done_all at done [] s own = sym (append-nil (done s own))
done_all at done (d ∷ ds) s own = done_all at (done_by at d done) ds s own ∙ by_test (d.span == s)
  where
    by_test : (b : Bool) → (if b then done s own ++ stamp at d.op ∷ [] else done s own) ++ map (λ d. stamp at d.op) (filter (λ d. d.span == s) ds)
        ≡ done s own ++ map (λ d. stamp at d.op) (if b then d ∷ filter (λ d. d.span == s) ds else filter (λ d. d.span == s) ds)
    by_test true = append_assoc (done s own) (stamp at d.op ∷ []) (map (λ d. stamp at d.op) (filter (λ d. d.span == s) ds))
    by_test false = refl

-- no op is done to a span that isn't open
not_reached : (hs : List (Option Scope)) (at : ℕ) (ds : List SpanOp) (s : ℕ) → AllByRecursion (IsReached hs) ds → is_open hs s ≡ false → map (λ d. stamp at d.op) (filter (λ d. d.span == s) ds) ≡ []
not_reached hs at [] s reached shut = refl
not_reached hs at (d ∷ ds) s reached shut =
    ap (λ (kept : List SpanOp). map (λ d. stamp at d.op) kept) (cond-false {A = List SpanOp} (d.span == s) (d ∷ filter (λ d. d.span == s) ds) (filter (λ d. d.span == s) ds) apart) ∙ not_reached hs at ds s reached.1 shut
  where
    apart : (d.span == s) ≡ false
    apart = ne_eqb d.span s (λ e. true≢false (sym reached.0.there ∙ ap (is_open hs) e ∙ shut))

unstarted_all : (hs : List (Option Scope)) (ds : List SpanOp) → AllByRecursion (IsReached hs) ds → AllByRecursion (λ d. (deed d.op).own ≡ None) ds
unstarted_all hs [] reached = tt
unstarted_all hs (d ∷ ds) reached = (reached.0.unstarted, unstarted_all hs ds reached.1)

-- ---- spans that are open

pub open_made : (hs : List (Option Scope)) (ms : List MadeSpan) (cs : List ℕ) → IsSound hs ms cs → (s : ℕ) → is_open hs s ≡ true → s < length ms
open_made hs ms cs sound s is =
    let counted = any_counted (holds_span s) hs in
    let found = pick (holds_span s) hs None (grind (arith, nat_tests, counted, is)) in
    by_slot found.0 (slot_at hs found.0) refl found.2
  where
    by_slot : (n : ℕ) (o : Option Scope) → slot_at hs n ≡ o → holds_span s o ≡ true → s < length ms
    by_slot n None there inside = absurd (true≢false (sym inside))
    by_slot n (Some scope) there inside =
        let once = (sound.lines n scope there).once s in
        let its = is_in_counted s scope in
        grind (arith, nat_tests, once, its, inside)

all_made : (hs : List (Option Scope)) (ms : List MadeSpan) (cs : List ℕ) → IsSound hs ms cs → (ids : List ℕ) → AllByRecursion (λ s. is_open hs s ≡ true) ids → AllByRecursion (λ s. s < length ms) ids
all_made hs ms cs sound [] held = tt
all_made hs ms cs sound (id ∷ ids) held = (open_made hs ms cs sound id held.0, all_made hs ms cs sound ids held.1)

-- a span that isn't open isn't among open ones
not_among : (hs : List (Option Scope)) (ids : List ℕ) → AllByRecursion (λ s. is_open hs s ≡ true) ids → (s : ℕ) → is_open hs s ≡ false → is_in s ids ≡ false
not_among hs [] held s off = refl
not_among hs (id ∷ ids) held s off = ap (λ b. b || is_in s ids) (ne_eqb id s (λ e. true≢false (sym held.0 ∙ ap (is_open hs) e ∙ off))) ∙ not_among hs ids held.1 s off

-- ---- records

-- the record of a closed span
abbrev pub IsClosed : Setup → List MadeSpan → History → ℕ → Record → Type 0
IsClosed setup ms h s r = IsEnding setup (first_of ms s) (λ own. ops_of own h s) (place_in (starting_order h) s) (closed_at h s) r

abbrev pub done_in : History → ℕ → SpanContext → List TimedOp
done_in h s own = ops_of own h s

pub record IsWhole (setup : Setup) (h : History) (t : Tables) : Type 0 where
  pub stands : Stands setup.ids t
  pub stories : AreStories setup (first_of t.spans) (starting_order h) (done_in h) (guards_of t.guards) t.moment (is_open t.handles) (length t.spans) t.recording
  pub unborn : (s : ℕ) → length t.spans ≤ s → (place_in (starting_order h) s ≡ 0) × ((own : SpanContext) → ops_of own h s ≡ [])
  pub clear : t.recording.finished ≡ []
  pub each : EachRecord (IsClosed setup t.spans h) t.closed (records_of_history setup h)

-- ---- one effect more

module _ (setup : Setup) (h : History) (now : IsWhole setup h (tables setup h)) (at : ℕ) (is_drop : Bool) (e : Effect) (timed : IsTimed (tables setup h).moment e.at) (step : IsStep setup (tables setup h) at is_drop e) where
  abbrev t : Tables
  t = tables setup h

  abbrev hs : List (Option Scope)
  hs = with_item t.handles (option_map Some e.new_handle)

  abbrev ms : List MadeSpan
  ms = with_item t.spans e.new_span

  named_now : IsSound hs ms t.closed
  named_now = named setup t at is_drop e now.stands step

  later : Stands setup.ids (after_effect t e)
  later = step_stands setup t at is_drop e now.stands step

  -- a made span that some unspent handle holds, with one more handle, was open
  was_open : (s : ℕ) → is_open hs s ≡ true → s < length t.spans → is_open t.handles s ≡ true
  was_open s is old =
      let before = now.stands.sound.ended s in
      let with_handle = named_now.ended s in
      let within = open_made hs ms t.closed named_now s is in
      by_open (is_open t.handles s) refl before with_handle within
    where
      by_open : (b : Bool) → is_open t.handles s ≡ b → occurrences s t.closed ≡ cond (nat_lt s (length t.spans) && not (is_open t.handles s)) 1 0 → occurrences s t.closed ≡ cond (nat_lt s (length ms) && not (is_open hs s)) 1 0 → s < length ms
          → is_open t.handles s ≡ true
      by_open true b before with_handle within = b
      by_open false b before with_handle within = absurd (grind (arith, nat_tests, b, before, with_handle, within, is, old))

  -- what is open in the end was so before, and doesn't close
  still_open : (s : ℕ) → is_open (after_effect t e).handles s ≡ true → (is_open hs s && not (is_in s e.closes)) ≡ true
  still_open s is =
      let with_handle = named_now.ended s in
      let in_end = later.sound.ended s in
      let within = open_made (after_effect t e).handles ms (t.closed ++ e.closes) later.sound s is in
      let parts = occurs_append s t.closed e.closes in
      let its = is_in_counted s e.closes in
      grind (arith, nat_tests, with_handle, in_end, within, parts, its, is)

  -- what closes was open, stands once among what closes, and is open no more
  pub closing_once : (s : ℕ) → occurrences s e.closes ≤ cond (is_open hs s) 1 0
  closing_once s =
      let with_handle = named_now.ended s in
      let in_end = later.sound.ended s in
      let parts = occurs_append s t.closed e.closes in
      grind (arith, nat_tests, with_handle, in_end, parts)

  open_no_more : (s : ℕ) → 0 < occurrences s e.closes → is_open (after_effect t e).handles s ≡ false
  open_no_more s some =
      let in_end = later.sound.ended s in
      let parts = occurs_append s t.closed e.closes in
      by_open (is_open (after_effect t e).handles s) refl
    where
      by_open : (b : Bool) → is_open (after_effect t e).handles s ≡ b → is_open (after_effect t e).handles s ≡ false
      by_open true b = absurd (let in_end = later.sound.ended s in let parts = occurs_append s t.closed e.closes in grind (arith, nat_tests, in_end, parts, b, some))
      by_open false b = b

  -- ---- what is recorded

  abbrev order_before : List ℕ
  order_before = fold with_started (starting_order h) e.starts

  pub moved : AreStories setup (first_of t.spans) (starting_order h) (done_in h) (guards_of t.guards) e.at (is_open t.handles) (length t.spans) t.recording
  moved = record {
    each = λ s is. later_story setup (first_of t.spans s) (data_at s t.recording.spans) (place_in (starting_order h) s) (done_in h s) (guards_of t.guards s) t.moment (now.stories.each s is) (done_in h s) (guards_of t.guards s) e.at (λ own. refl) (omega arith) timed.later;
    fresh = now.stories.fresh;
    count = now.stories.count;
    settings_are = now.stories.settings_are;
    counting_is = now.stories.counting_is;
  }

  abbrev begun_done : ℕ → SpanContext → List TimedOp
  begun_done = begun_by e.at (starting_order h) e.starts (done_in h)

  pub begun : AreStories setup (first_of t.spans) order_before begun_done (guards_of t.guards) e.at (is_open t.handles) (length t.spans) (fold (λ r s. with_start s e.at r) t.recording e.starts)
  begun = starts_stories setup (first_of t.spans) e.at timed.most (guards_of t.guards) (is_open t.handles) (length t.spans) (starting_order h) (done_in h) t.recording e.starts moved step.starts

  pub starts_made : AllByRecursion (λ s. s < length t.spans) e.starts
  starts_made = all_made t.handles t.spans t.closed now.stands.sound e.starts step.starts

  unplaced : place_in order_before (length t.spans) ≡ 0
  unplaced = starts_spare (starting_order h) e.starts (length t.spans) starts_made ∙ (now.unborn (length t.spans) (omega arith)).0

  not_open : (s : ℕ) → length t.spans ≤ s → is_open t.handles s ≡ false
  not_open s above = by_open (is_open t.handles s) refl
    where
      by_open : (b : Bool) → is_open t.handles s ≡ b → is_open t.handles s ≡ false
      by_open false b = b
      by_open true b = absurd (let below = open_made t.handles t.spans t.closed now.stands.sound s b in omega (arith, below, above))

  begun_same : (s : ℕ) (own : SpanContext) → is_open t.handles s ≡ false → begun_done s own ≡ ops_of own h s
  begun_same s own off = ap (λ (os : List TimedOp). ops_of own h s ++ os) (starts_absent own e.at s (starting_order h) e.starts (not_among t.handles e.starts step.starts s off)) ∙ append-nil (ops_of own h s)

  made : AreStories setup (first_of ms) order_before begun_done (guards_of t.guards) e.at (is_open hs) (length ms) (with_span_made (length t.spans) e.new_span (fold (λ r s. with_start s e.at r) t.recording e.starts))
  made = made_stories setup order_before begun_done (guards_of t.guards) e.at timed.most t.spans (fold (λ r s. with_start s e.at r) t.recording e.starts) (is_open t.handles) begun unplaced
      (λ own. begun_same (length t.spans) own (not_open (length t.spans) (omega arith)) ∙ (now.unborn (length t.spans) (omega arith)).1 own) e.new_span step.begins (is_open hs)
      (open_made hs ms t.closed named_now) was_open

  -- where spans start early the one that was just made starts
  abbrev early : List ℕ
  early = option_to_list e.new_span_start

  new_open : (m : MadeSpan) → e.new_span ≡ Some m → is_open hs (length t.spans) ≡ true
  new_open m is =
      let more : length ms ≡ length t.spans + 1 = ap (λ (o : Option MadeSpan). length (with_item t.spans o)) is ∙ length_push t.spans m in
      let before = now.stands.sound.ended (length t.spans) in
      let with_handle = named_now.ended (length t.spans) in
      grind (arith, nat_tests, more, before, with_handle)

  early_open : AllByRecursion (λ s. is_open hs s ≡ true) early
  early_open = subst (λ (o : Option ℕ). AllByRecursion (λ s. is_open hs s ≡ true) (option_to_list o)) (sym step.early) (by_made setup.layer.eager e.new_span refl)
    where
      by_made : (eager : Bool) (o : Option MadeSpan) → e.new_span ≡ o → AllByRecursion (λ s. is_open hs s ≡ true) (option_to_list (span_starting_at_making eager (length t.spans) o))
      by_made eager None is = tt
      by_made false (Some m) is = tt
      by_made true (Some m) is = (new_open m is, tt)

  abbrev order : List ℕ
  order = fold with_started order_before early

  abbrev early_done : ℕ → SpanContext → List TimedOp
  early_done = begun_by e.at order_before early begun_done

  begun_early : AreStories setup (first_of ms) order early_done (guards_of t.guards) e.at (is_open hs) (length ms) (table.with_starts_of (length t.spans) e t.recording)
  begun_early =
      let before : Recording = with_span_made (length t.spans) e.new_span (fold (λ r s. with_start s e.at r) t.recording e.starts) in
      subst (AreStories setup (first_of ms) order early_done (guards_of t.guards) e.at (is_open hs) (length ms)) (starts_fold e.new_span_start e.at before)
      (starts_stories setup (first_of ms) e.at timed.most (guards_of t.guards) (is_open hs) (length ms) order_before begun_done before early made early_open)

  abbrev done : ℕ → SpanContext → List TimedOp
  done = fold (λ f d. done_by e.at d f) early_done e.ops

  abbrev opened : ℕ → ℕ
  opened = fold (λ f d. turned_by d f) (guards_of t.guards) e.ops

  abbrev between : Recording
  between = before_closes (length t.spans) e t.recording

  pub did : AreStories setup (first_of ms) order done opened e.at (is_open hs) (length ms) between
  did = ops_stories setup (first_of ms) e.at timed.most order (is_open hs) (length ms) early_done (guards_of t.guards) (table.with_starts_of (length t.spans) e t.recording) e.ops begun_early (unstarted_all t.handles e.ops step.reached)

  within : (s : ℕ) → opened s ≤ guards_of (after_effect t e).guards s
  within s = turns_within setup.ids t.handles t.guards e.lane e.new_guard e.new_attach e.spent_guard e.entry e.exit step.enters e.ops step.turns s

  pub shut : (s : ℕ) → 0 < occurrences s e.closes → opened s ≡ 0
  shut s some =
      let none = guards_shut setup.ids (after_effect t e).handles (after_effect t e).guards (after_effect t e).entries later.guarded s (open_no_more s some) in
      let most = within s in
      omega (arith, none, most)

  -- no entry is open of what closes
  pub closing_shut : (s : ℕ) → 0 < occurrences s e.closes → (told : SpanData) → data_at s between.spans ≡ Some told → told.entries ≡ 0
  closing_shut s some told there =
      let once = closing_once s in
      let story = did.each s (by_open (is_open hs s) refl once) in
      let same : story.told ≡ told = cc (sym story.is ∙ there) in
      let within = story.within in
      let none = shut s some in
      let entries = ap (λ (t : SpanData). t.entries) same in
      omega (arith, within, none, entries)
    where
      by_open : (b : Bool) → is_open hs s ≡ b → occurrences s e.closes ≤ cond (is_open hs s) 1 0 → is_open hs s ≡ true
      by_open true b once = b
      by_open false b once = absurd (grind (arith, nat_tests, once, b, some))

  closes : Closes setup (first_of ms) e.at timed.most order done opened (is_open hs) (length ms) between e.closes (recording_after (length t.spans) e t.recording)
  closes = closes_stories setup (first_of ms) e.at timed.most opened (length ms) order done (is_open hs) between e.closes did closing_once shut

  abbrev h' : History
  h' = h ++ e ∷ []

  abbrev order_in_end : List ℕ
  order_in_end = fold with_started order e.closes

  done_is : (s : ℕ) (own : SpanContext) → begun_by e.at order e.closes done s own ≡ ops_of own h' s
  done_is s own =
      ap (λ (os : List TimedOp). os ++ start_in own e.at s order e.closes) (done_all e.at early_done e.ops s own)
      ∙ regroup (ops_of own h s) (start_in own e.at s (starting_order h) e.starts) (start_in own e.at s order_before early) (map (λ d. stamp e.at d.op) (filter (λ d. d.span == s) e.ops)) (start_in own e.at s order e.closes) ∙ sym (ops_push own h e s)
    where
      regroup : (a b x c d : List TimedOp) → (((a ++ b) ++ x) ++ c) ++ d ≡ a ++ (((b ++ x) ++ c) ++ d)
      regroup a b x c d = simp append_assoc

  stories_now : AreStories setup (first_of ms) (starting_order h') (done_in h') (guards_of (after_effect t e).guards) e.at (is_open (after_effect t e).handles) (length ms) (open_part (recording_after (length t.spans) e t.recording))
  stories_now = record {
    each = λ s is.
        let f = closes.after.each s (still_open s is) in
        subst (λ (o : List ℕ). IsStory setup (data_at s (recording_after (length t.spans) e t.recording).spans) (first_of ms s) (place_in o s) (done_in h' s) (guards_of (after_effect t e).guards s) e.at) (sym (started_push h e))
        (later_story setup (first_of ms s) (data_at s (recording_after (length t.spans) e t.recording).spans) (place_in order_in_end s) (begun_by e.at order e.closes done s) (opened s) e.at f (done_in h' s) (guards_of (after_effect t e).guards s) e.at (done_is s) (within s) (omega arith));
    fresh = closes.after.fresh;
    count = closes.after.count ∙ ap (λ (o : List ℕ). length o) (sym (started_push h e));
    settings_are = closes.after.settings_are;
    counting_is = closes.after.counting_is;
  }

  -- ---- spans that aren't made yet

  as_many : length t.spans ≤ length ms
  as_many = by_made e.new_span
    where
      by_made : (o : Option MadeSpan) → length t.spans ≤ length (with_item t.spans o)
      by_made None = omega arith
      by_made (Some m) = let count = length_push t.spans m in omega (arith, count)

  all_below : (ids : List ℕ) (n : ℕ) → ((s : ℕ) → 0 < occurrences s ids → s < n) → AllByRecursion (λ s. s < n) ids
  all_below [] n below = tt
  all_below (id ∷ ids) n below = (below id (let c = occurs_cons id id ids in grind (arith, nat_tests, c)), all_below ids n (λ s some. below s (let c = occurs_cons s id ids in omega (arith, c, some))))

  all_less : (ids : List ℕ) (n m : ℕ) → n ≤ m → AllByRecursion (λ s. s < n) ids → AllByRecursion (λ s. s < m) ids
  all_less [] n m wider below = tt
  all_less (id ∷ ids) n m wider below = (let less : id < n = below.0 in omega (arith, less, wider), all_less ids n m wider below.1)

  closes_made : (s : ℕ) → 0 < occurrences s e.closes → s < length ms
  closes_made s some = by_open (is_open hs s) refl
    where
      by_open : (b : Bool) → is_open hs s ≡ b → s < length ms
      by_open true b = open_made hs ms t.closed named_now s b
      by_open false b = absurd (let once = closing_once s in grind (arith, nat_tests, once, b, some))

  pub closing_made : AllByRecursion (λ s. s < length ms) e.closes
  closing_made = all_below e.closes (length ms) closes_made

  same_ops : (s : ℕ) (own : SpanContext) → is_open t.handles s ≡ false → is_open hs s ≡ false → is_in s e.closes ≡ false → ops_of own h' s ≡ ops_of own h s
  same_ops s own off still_off kept =
      sym (done_is s own)
      ∙ ap (λ (os : List TimedOp). done s own ++ os) (starts_absent own e.at s order e.closes kept) ∙ append-nil (done s own)
      ∙ done_all e.at early_done e.ops s own ∙ ap (λ (os : List TimedOp). early_done s own ++ os) (not_reached t.handles e.at e.ops s step.reached off) ∙ append-nil (early_done s own)
      ∙ ap (λ (os : List TimedOp). begun_done s own ++ os) (starts_absent own e.at s order_before early (not_among hs early early_open s still_off)) ∙ append-nil (begun_done s own)
      ∙ begun_same s own off

  not_closing : (s : ℕ) → length ms ≤ s → is_in s e.closes ≡ false
  not_closing s above = by_test (is_in s e.closes) refl
    where
      by_test : (b : Bool) → is_in s e.closes ≡ b → is_in s e.closes ≡ false
      by_test false b = b
      by_test true b = absurd (let counted = is_in_counted s e.closes in let some : 0 < occurrences s e.closes = grind (arith, nat_tests, counted, b) in let below = closes_made s some in omega (arith, below, above))

  not_opened : (s : ℕ) → length ms ≤ s → is_open hs s ≡ false
  not_opened s above = by_open (is_open hs s) refl
    where
      by_open : (b : Bool) → is_open hs s ≡ b → is_open hs s ≡ false
      by_open false b = b
      by_open true b = absurd (let below = open_made hs ms t.closed named_now s b in omega (arith, below, above))

  unborn_now : (s : ℕ) → length ms ≤ s → (place_in (starting_order h') s ≡ 0) × ((own : SpanContext) → ops_of own h' s ≡ [])
  unborn_now s above =
      let old : length t.spans ≤ s = let longer = as_many in omega (arith, longer, above) in (
        ap (λ (o : List ℕ). place_in o s) (started_push h e) ∙ starts_spare order e.closes s (all_less e.closes (length ms) s above closing_made)
            ∙ starts_spare order_before early s (all_less early (length ms) s above (all_made hs ms t.closed named_now early early_open))
            ∙ starts_spare (starting_order h) e.starts s (all_less e.starts (length t.spans) s old starts_made) ∙ (now.unborn s old).0,
        λ own. same_ops s own (not_open s old) (not_opened s above) (not_closing s above) ∙ (now.unborn s old).1 own,
      )

  -- ---- records

  -- those before
  first_stays : (o : Option MadeSpan) (s : ℕ) → s < length t.spans → first_of (with_item t.spans o) s ≡ first_of t.spans s
  first_stays None s old = refl
  first_stays (Some m) s old = ap (λ (made : MadeSpan). made.made_with) (get_push_other t.spans m no_made_span s (λ same. absurd (omega (arith, same, old))))

  closed_before : (s : ℕ) → 0 < occurrences s t.closed → (s < length t.spans) × (is_open t.handles s ≡ false) × (is_in s e.closes ≡ false)
  closed_before s some =
      let ended = now.stands.sound.ended s in
      let in_end = later.sound.ended s in
      let parts = occurs_append s t.closed e.closes in
      let its = is_in_counted s e.closes in (
        grind (arith, nat_tests, ended, some),
        by_open (is_open t.handles s) refl ended,
        grind (arith, nat_tests, in_end, parts, its, some),
      )
    where
      by_open : (b : Bool) → is_open t.handles s ≡ b → occurrences s t.closed ≡ cond (nat_lt s (length t.spans) && not (is_open t.handles s)) 1 0 → is_open t.handles s ≡ false
      by_open false b ended = b
      by_open true b ended = absurd (grind (arith, nat_tests, ended, b, some))

  closed_off : (s : ℕ) → 0 < occurrences s t.closed → is_open hs s ≡ false
  closed_off s some = by_open (is_open hs s) refl (named_now.ended s)
    where
      by_open : (b : Bool) → is_open hs s ≡ b → occurrences s t.closed ≡ cond (nat_lt s (length ms) && not (is_open hs s)) 1 0 → is_open hs s ≡ false
      by_open false b ended = b
      by_open true b ended = absurd (grind (arith, nat_tests, ended, b, some))

  place_kept : (s : ℕ) → 0 < place_in (starting_order h) s → place_in (starting_order h') s ≡ place_in (starting_order h) s
  place_kept s some =
      let starts = places_stay (starting_order h) e.starts s some in
      let begins = places_stay order_before early s (subst (λ (p : ℕ). 0 < p) (sym starts) some) ∙ starts in
      ap (λ (o : List ℕ). place_in o s) (started_push h e) ∙ places_stay order e.closes s (subst (λ (p : ℕ). 0 < p) (sym begins) some) ∙ begins

  stays_closed : (s : ℕ) (r : Record) → 0 < occurrences s t.closed → IsClosed setup t.spans h s r → IsClosed setup ms h' s r
  stays_closed s r some c =
      let old = closed_before s some in
      let at_same = closed_push h e s ∙ cond-false {A = ℕ} (is_in s e.closes) e.at (closed_at h s) old.2 in
      let kept = same_record setup (first_of t.spans s) (done_in h s) (done_in h' s) (place_in (starting_order h) s) (place_in (starting_order h') s) (closed_at h s) r (λ own. sym (same_ops s own old.1 (closed_off s some) old.2)) (sym (place_kept s c.ends.started)) c in
      subst (λ (f : SpanData). IsEnding setup f (done_in h' s) (place_in (starting_order h') s) (closed_at h' s) r) (sym (first_stays e.new_span s old.0))
      (subst (λ (n : ℕ). IsEnding setup (first_of t.spans s) (done_in h' s) (place_in (starting_order h') s) n r) (sym at_same) kept)

  -- those of the effect
  closes_now : (s : ℕ) (r : Record) → 0 < occurrences s e.closes → Closed setup (first_of ms) e.at timed.most order_in_end (begun_by e.at order e.closes done) s r → IsClosed setup ms h' s r
  closes_now s r some c =
      let counted = is_in_counted s e.closes in
      let inside : is_in s e.closes ≡ true = grind (arith, nat_tests, counted, some) in
      let at_now = closed_push h e s ∙ cond-true {A = ℕ} (is_in s e.closes) e.at (closed_at h s) inside in
      subst (λ (n : ℕ). IsEnding setup (first_of ms s) (done_in h' s) (place_in (starting_order h') s) n r) (sym at_now)
      (same_record setup (first_of ms s) (begun_by e.at order e.closes done s) (done_in h' s) (place_in order_in_end s) (place_in (starting_order h') s) e.at r (done_is s) (ap (λ (o : List ℕ). place_in o s) (sym (started_push h e))) c)

  records_now : records_of_history setup h' ≡ records_of_history setup h ++ closes.records
  records_now = records_push (no_tables setup) h e ∙ ap (λ (rs : List Record). records_of_history setup h ++ rs) (closes.finished ∙ ap (λ (rs : List Record). rs ++ closes.records) (before_finished (length t.spans) e t.recording ∙ now.clear))

  each_now : EachRecord (IsClosed setup ms h') (t.closed ++ e.closes) (records_of_history setup h')
  each_now = subst (EachRecord (IsClosed setup ms h') (t.closed ++ e.closes)) (sym records_now)
      (each_append (IsClosed setup ms h') t.closed e.closes (records_of_history setup h) closes.records
      (each_map (IsClosed setup t.spans h) (IsClosed setup ms h') t.closed (records_of_history setup h) stays_closed now.each)
      (each_map (Closed setup (first_of ms) e.at timed.most order_in_end (begun_by e.at order e.closes done)) (IsClosed setup ms h') e.closes closes.records closes_now closes.each))

  -- the effect's records
  pub effect_each : EachRecord (Closed setup (first_of ms) e.at timed.most order_in_end (begun_by e.at order e.closes done)) e.closes (records_of t e)
  effect_each = subst (EachRecord (Closed setup (first_of ms) e.at timed.most order_in_end (begun_by e.at order e.closes done)) e.closes)
      (sym (closes.finished ∙ ap (λ (rs : List Record). rs ++ closes.records) (before_finished (length t.spans) e t.recording ∙ now.clear))) closes.each

  pub one_more : IsWhole setup h' (after_effect t e)
  one_more = record { stands = later; stories = stories_now; unborn = unborn_now; clear = refl; each = each_now }

none_whole : (setup : Setup) → IsWhole setup [] (no_tables setup)
none_whole setup = record {
  stands = none_stands setup.ids setup;
  stories = record { each = λ s is. absurd (cc is); fresh = λ s above. refl; count = refl; settings_are = refl; counting_is = refl };
  unborn = λ s above. (refl, λ own. refl);
  clear = refl;
  each = tt;
}

pub fits : (setup : Setup) (h : History) → IsWhole setup h (tables setup h) → IsFit setup (tables setup h)
fits setup h now = fit_of setup setup.ids (tables setup h) now.stands now.stories.settings_are now.stories.counting_is

pub whole : (setup : Setup) (h : History) → IsHistory setup h → IsWhole setup h (tables setup h)
whole setup _ none = none_whole setup
whole setup _ (more h request e before is) =
    let now = whole setup h before in
    let step = step_of setup (tables setup h) (fits setup h now) request e is in
    subst (IsWhole setup (h ++ e ∷ [])) (sym (fold_push after_effect (no_tables setup) h e)) (one_more setup h now request.at (is_drop request.call) e step.0 step.1)

-- ---- what closes, and when

pub closed_once : (setup : Setup) (h : History) (s : ℕ) → IsHistory setup h → occurrences s (tables setup h).closed ≤ 1
closed_once setup h s legal = let ended = (whole setup h legal).stands.sound.ended s in grind (arith, nat_tests, ended)

pub closed_when_ended : (setup : Setup) (h : History) (s : ℕ) → IsHistory setup h → s < length (tables setup h).spans → is_in s (tables setup h).closed ≡ not (is_open (tables setup h).handles s)
closed_when_ended setup h s legal below =
    let ended = (whole setup h legal).stands.sound.ended s in
    let counted = is_in_counted s (tables setup h).closed in
    grind (arith, nat_tests, ended, counted, below)

pub only_made_closed : (setup : Setup) (h : History) (s : ℕ) → IsHistory setup h → length (tables setup h).spans ≤ s → is_in s (tables setup h).closed ≡ false
only_made_closed setup h s legal above =
    let ended = (whole setup h legal).stands.sound.ended s in
    let counted = is_in_counted s (tables setup h).closed in
    grind (arith, nat_tests, ended, counted, above)
