-- A script whose spans start at their making, beside the same one without that.
use Rattle.std.proofs.Common.{◌≡◌, ℕ, ◌≤◌, ◌||◌, List, [], ◌∷◌, ◌++◌, length, map, fold, Bool, true, false, Option, Ok, Err, refl, sym, ap, ap₂, subst, subst₂, ◌∙◌, arith, append_assoc, if◌then◌else◌, slice_get, option_and_then, nat_lt}
use Rattle.span_eager.proofs.Common.{nat_tests, map-append, length-map, Record, LayerSettings, GREATEST, Recording, with_start, Reply, Refusal, Request, Setup, Effect, History, Tables, with_ops_of, recording_after, open_part, records_of, after_effect, Resolved, ◌>>=◌, need, effect_of, effect_of_call, is_bad_moment, with_effects_behind, history_from, records_from, refusal_at, starts_from, closes_from, lazy_setup, answers_from, LeaveStartData, GiveNoSpanIds, renamed_record, renamed_reply, renamed_answer}
use Rattle.span_script.specs.declared.reply.Refusal.TheVariants as refusal
use Rattle.span_script.specs.declared.reply.What.TheVariants as what
use Rattle.span_eager.proofs.SameSpan.{Ids}
use Rattle.span_eager.proofs.LazyHistories.{AreShut, order_from}
use Rattle.span_eager.proofs.SameRecordings.{SameRecording, later_same, early_stays, starts_same}
use Rattle.span_eager.proofs.RenamedTables.{made_by, effect_by, tables_by, after_by, count_made, made_count, IsJustMade, IsPlain, recorded_same}
use Rattle.span_eager.proofs.SameCalls.{Agrees, IsReady, request_agrees}

-- the history where spans start at their making
abbrev pub history_by : (ℕ → ℕ) → Tables → History → History
history_by f t [] = []
history_by f t (e ∷ h) = effect_by f (length t.spans) e ∷ history_by f (after_effect t e) h

-- the request behind a history, if it is refused
abbrev pub refused_from : Setup → Tables → ℕ → List Request → History → Option (ℕ × Refusal)
refused_from setup t place requests h = option_and_then (λ (request : Request). refusal_at place (effect_of setup (fold after_effect t h) request)) (slice_get requests (length h))

-- what both come to from some tables on
pub record Beside (f : ℕ → ℕ) (setup : Setup) (u t : Tables) (requests : List Request) (early late : History) : Type 0 where
  pub history : early ≡ history_by f t late
  pub records : records_from u early ≡ map (renamed_record f) (records_from t late)
  pub answers : answers_from u early ≡ map (renamed_answer f) (answers_from t late)
  pub last : Recording
  pub final : fold after_effect u early ≡ tables_by f last (fold after_effect t late)
  pub refused : (place : ℕ) → refused_from setup u place requests early ≡ refused_from (lazy_setup setup) t place requests late

-- ---- a moment that isn't refused

no_bad : (b : Bool) (why : Refusal) (r : Resolved) (e : Effect) → (if b then Err why else r) ≡ Ok e → b ≡ false
no_bad true why r e is = absurd (cc is)
no_bad false why r e is = refl

or_none : (a b : Bool) → (a || b) ≡ false → (a ≡ false) × (b ≡ false)
or_none true b is = absurd (cc is)
or_none false b is = (refl, is)

good_moment : (setup : Setup) (t : Tables) (request : Request) (e : Effect) → effect_of setup t request ≡ Ok e → (t.moment ≤ request.at) × (request.at ≤ GREATEST)
good_moment setup t request e is =
    let good = no_bad (is_bad_moment t.moment request.at) (refusal.BadMoment t.moment request.at) (need what.Lane (slice_get setup.ids request.lane_place) >>= (λ id. effect_of_call setup t request.at request.lane_place request.call)) e is in
    let parts = or_none (nat_lt request.at t.moment) (nat_lt GREATEST request.at) good in
    let first = parts.0 in
    let last = parts.1 in
    (grind (arith, nat_tests, first), grind (arith, nat_tests, last))

-- ---- what is taken over to the next request

open_same : (f : Ids) (layer : LayerSettings) (n at : ℕ) (pending : List ℕ) (e l : Recording) → SameRecording f layer n at pending e l → SameRecording f layer n at pending (open_part e) (open_part l)
open_same f layer n at pending e l same = record {
  spans = same.spans;
  below = same.below;
  made = same.made;
  front = same.front;
  order_is = same.order_is;
  count = same.count;
  finished = refl;
  e_settings = same.e_settings;
  l_settings = same.l_settings;
  counting = same.counting;
}

module _ (f : Ids) (setup : Setup) (eager : setup.layer.eager ≡ true) where
  abbrev Same : ℕ → ℕ → List ℕ → Recording → Recording → Type 0
  Same = SameRecording f setup.layer

  -- a request that gives an effect is ready for the calls' lemmas
  ready_by : (t : Tables) (r : Recording) (request : Request) (behind : Effect → History) (res : Resolved) → effect_of (lazy_setup setup) t request ≡ res
      → Same (length t.spans) t.moment (order_from t (with_effects_behind res behind)) r t.recording → LeaveStartData t (with_effects_behind res behind)
      → IsReady f setup.layer (length t.spans) request.at r t.recording res
  ready_by t r request behind (Err why) is same settled = tt
  ready_by t r request behind (Ok e) is same settled = λ at_is.
      let n = length t.spans in
      let good = good_moment (lazy_setup setup) t request e is in
      let rest = order_from (after_effect t e) (behind e) in
      let closing = closes_from e.at (with_ops_of n e t.recording) e.closes in
      let order_is : order_from t (e ∷ behind e) ≡ starts_from request.at t.recording e.starts ++ (closing ++ rest) =
      append_assoc (starts_from e.at t.recording e.starts) closing rest ∙ ap (λ (m : ℕ). starts_from m t.recording e.starts ++ (closing ++ rest)) at_is in
      let now = later_same f setup.layer n t.moment request.at (order_from t (e ∷ behind e)) r t.recording good.0 same in
      let first = subst (λ (xs : List ℕ). Same n request.at xs r t.recording) order_is now in
      let begun = starts_same f setup.layer n request.at e.starts (closing ++ rest) r t.recording good.1 first in
      ((closing ++ rest, subst (λ (x : Recording). Same n request.at (closing ++ rest) x (fold (λ r s. with_start s request.at r) t.recording e.starts)) (stay n request.at e.starts (starts_from request.at t.recording e.starts ++ (closing ++ rest)) r t.recording first) begun), settled.0)
    where
      stay : (n at : ℕ) (ss pending : List ℕ) (e l : Recording) → Same n at pending e l → fold (λ r s. with_start s at r) e ss ≡ e
      stay n at [] pending e l same = refl
      stay n at (s ∷ ss) pending e l same = ap (λ (x : Recording). fold (λ r s. with_start s at r) x ss) (early_stays f setup.layer n at at s pending e l same) ∙ stay n at ss pending e l same

  -- one effect more
  next_same : (t : Tables) (r : Recording) (request : Request) (e : Effect) (h : History) → effect_of (lazy_setup setup) t request ≡ Ok e → IsPlain request.at e
      → Same (length t.spans) t.moment (order_from t (e ∷ h)) r t.recording → LeaveStartData t (e ∷ h) → AreShut t (e ∷ h)
      → Same (count_made (length t.spans) e.new_span) e.at (order_from (after_effect t e) h) (recording_after (length t.spans) (effect_by f.new (length t.spans) e) r) (recording_after (length t.spans) e t.recording)
  next_same t r request e h is plain same settled shut =
      let good = good_moment (lazy_setup setup) t request e is in
      let past = good.0 in
      let within = good.1 in
      let at_is = plain.at_is in
      recorded_same f setup.layer (length t.spans) t.moment (order_from (after_effect t e) h) e r t.recording (omega (arith, past, at_is)) (omega (arith, within, at_is))
      (record { at_is = refl; begins = plain.begins; made = subst (λ (m : ℕ). IsJustMade m e.new_span) (sym at_is) plain.made; starts_none = plain.starts_none }) settled.0 shut.0.once shut.0.shut same

  by_both : (t : Tables) (r : Recording) (request : Request) (requests : List Request)
      → ((s : Tables) (q : Recording) → Same (length s.spans) s.moment (order_from s (history_from (lazy_setup setup) s requests)) q s.recording
      → LeaveStartData s (history_from (lazy_setup setup) s requests) → AreShut s (history_from (lazy_setup setup) s requests)
      → Beside f.new setup (tables_by f.new q s) s requests (history_from setup (tables_by f.new q s) requests) (history_from (lazy_setup setup) s requests))
      → (re : Resolved) → effect_of setup (tables_by f.new r t) request ≡ re → (rl : Resolved) → effect_of (lazy_setup setup) t request ≡ rl → Agrees f.new (length t.spans) request.at re rl
      → Same (length t.spans) t.moment (order_from t (with_effects_behind rl (λ e. history_from (lazy_setup setup) (after_effect t e) requests))) r t.recording
      → LeaveStartData t (with_effects_behind rl (λ e. history_from (lazy_setup setup) (after_effect t e) requests)) → AreShut t (with_effects_behind rl (λ e. history_from (lazy_setup setup) (after_effect t e) requests))
      → Beside f.new setup (tables_by f.new r t) t (request ∷ requests)
      (with_effects_behind re (λ e. history_from setup (after_effect (tables_by f.new r t) e) requests)) (with_effects_behind rl (λ e. history_from (lazy_setup setup) (after_effect t e) requests))
  by_both t r request requests rest (Err a) is_e (Err b) is_l agrees same settled shut = record {
    history = refl;
    records = refl;
    answers = refl;
    last = r;
    final = refl;
    refused = λ place. ap (refusal_at place) is_e ∙ ap (λ (x : Refusal). refusal_at place (Err x)) agrees ∙ sym (ap (refusal_at place) is_l);
  }
  by_both t r request requests rest (Err a) is_e (Ok l) is_l agrees same settled shut = absurd agrees
  by_both t r request requests rest (Ok e) is_e (Err b) is_l agrees same settled shut = absurd agrees
  by_both t r request requests rest (Ok e) is_e (Ok l) is_l agrees same settled shut =
      let u = tables_by f.new r t in
      let n = length t.spans in
      let ee = effect_by f.new n l in
      let s = after_effect t l in
      let k : length (map (made_by f.new) t.spans) ≡ n = length-map t.spans (made_by f.new) in
      let q = open_part (recording_after (length (map (made_by f.new) t.spans)) ee r) in
      let is : after_effect u ee ≡ tables_by f.new q s = after_by f.new n r t l in
      let hl = history_from (lazy_setup setup) s requests in
      let next = next_same t r request l hl is_l agrees.1 same settled shut in
      let opened = open_same f setup.layer (count_made n l.new_span) l.at (order_from s hl) (recording_after n ee r) (recording_after n l t.recording) next in
      let ready : Same (length s.spans) s.moment (order_from s hl) q s.recording =
      subst₂ (λ (c m : ℕ). Same c l.at (order_from s hl) (open_part (recording_after m ee r)) s.recording) (sym (made_count t.spans l.new_span)) (sym k) opened in
      let behind = subst (λ (x : Tables). Beside f.new setup x s requests (history_from setup x requests) hl) (sym is) (rest s q ready settled.1 shut.1) in
      let mine : records_of u ee ≡ map (renamed_record f.new) (records_of t l) = ap (λ (m : ℕ). (recording_after m ee r).finished) k ∙ next.finished in
      subst (λ (x : Effect). Beside f.new setup u t (request ∷ requests) (x ∷ history_from setup (after_effect u x) requests) (l ∷ hl)) (sym agrees.0) (record {
        history = ap (λ (h : History). ee ∷ h) behind.history;
        records = ap₂ (λ (xs ys : List Record). xs ++ ys) mine behind.records ∙ sym (map-append (renamed_record f.new) (records_of t l) (records_from s hl));
        answers = ap₂ (λ (xs : List Record) (rest : List (Reply × List Record)). (renamed_reply f.new l.reply, xs) ∷ rest) mine behind.answers;
        last = behind.last;
        final = behind.final;
        refused = behind.refused;
      })

  pub along : (requests : List Request) (t : Tables) (r : Recording) → GiveNoSpanIds f.many requests
      → Same (length t.spans) t.moment (order_from t (history_from (lazy_setup setup) t requests)) r t.recording
      → LeaveStartData t (history_from (lazy_setup setup) t requests) → AreShut t (history_from (lazy_setup setup) t requests)
      → Beside f.new setup (tables_by f.new r t) t requests (history_from setup (tables_by f.new r t) requests) (history_from (lazy_setup setup) t requests)
  along [] t r far same settled shut = record { history = refl; records = refl; answers = refl; last = r; final = refl; refused = λ place. refl }
  along (request ∷ requests) t r far same settled shut =
      by_both t r request requests (λ s q. along requests s q far.1) (effect_of setup (tables_by f.new r t) request) refl (effect_of (lazy_setup setup) t request) refl
      (request_agrees f setup eager t r request far.0 (ready_by t r request (λ e. history_from (lazy_setup setup) (after_effect t e) requests) (effect_of (lazy_setup setup) t request) refl same settled))
      same settled shut
