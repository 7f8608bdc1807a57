-- What the changes of a step keep, and what they are to a subscriber.
use Rattle.std.proofs.Common.{◌≡◌, ℕ, Option, Some, Result, Ok, Err, refl, sym, subst, ◌∙◌, arith, Bool, slice_get, slice_set, OnOk, OnErr}
use Rattle.trace_tasks.proofs.Common.{Memory, OpReply, ValueSet, Callsite, Lane, LevelFilter, WorldValue, Spans, SubscriberCall, Records, Event, spans_after_call, CallKeepsLanes, KeepsLaneButRoom, Beside, ChangesUpTo, KeepsLent, calls_none, calls_one, called_same, called_once, changed_once, keeps_nothing, refused, PartCall, Applies, StaysStack, Changes, nothing, room, told, recorded, asked, Asks, WantsMemory, spare, denied}
use Rattle.otel_state.specs.declared.op.Op.{Op}
use Rattle.trace_base.specs.declared.span.Parent.{Parent}

lane_stays : (lane : Lane) → KeepsLaneButRoom lane lane
lane_stays lane = record { id = refl; name = refl; default = refl; live = refl }

-- one thing after another
pub lent_then : {S : Type 0} (spans : S → Spans) (kept : S → ℕ → ℕ → ℕ) (is_whole : S → Type 0) (old world new : WorldValue S) (before lane later : Lane)
    → KeepsLent spans kept is_whole old world before lane → KeepsLent spans kept is_whole world new lane later → KeepsLent spans kept is_whole old new before later
lent_then spans kept is_whole old world new before lane later first second = record {
  known = λ held known. second.known held (first.known held known);
  parts = record {
    sites = λ site callsite is. second.parts.sites site callsite (first.parts.sites site callsite is);
    subscribers = omega (arith, first.parts.subscribers, second.parts.subscribers);
  };
  still_open = λ d l q. (let a = first.still_open d l q in let b = second.still_open d l q in omega (arith, a, b));
  whole = λ w. second.whole (first.whole w);
  lane_id = second.lane_id ∙ first.lane_id;
  attached = λ a. second.attached (first.attached a);
  others_attached = λ number. (let a = first.others_attached number in let b = second.others_attached number in omega (arith, a, b));
  default = λ o. second.default (first.default o);
}

module _ {S : Type 0} (spans : S → Spans) (hint : S → Option LevelFilter) (enables : S → ℕ → Callsite → Bool) (attaches : S → Bool) (kept : S → ℕ → ℕ → ℕ) (is_whole : S → Type 0) (does : S → SubscriberCall → S → Type 0) (touches : S → PartCall → S → Type 0) (same : S → S → Type 0) where
  module _ (same_spans : (s t : S) → same s t → spans t ≡ spans s) (same_kept : (s t : S) → same s t → kept t ≡ kept s) (same_whole : (s t : S) → same s t → is_whole s → is_whole t)
      (shows : (s : S) (call : SubscriberCall) (t : S) → does s call t → spans t ≡ spans_after_call (spans s) call) (lanes : (s : S) (call : SubscriberCall) (t : S) → does s call t → CallKeepsLanes (attaches s) (kept s) call (kept t))
      (keeps_whole : (s : S) (call : SubscriberCall) (t : S) → does s call t → is_whole s → is_whole t)
      (stays : (s : S) (call : PartCall) (t : S) → touches s call t → StaysStack spans kept attaches is_whole s t) where
    -- a change keeps all
    pub changes_keep : (at : ℕ) (old new : WorldValue S) (lane : Lane) → Changes spans hint enables does touches same at old new → KeepsLent spans kept is_whole old new lane lane
    changes_keep at old new lane (nothing is) = subst (λ (w : WorldValue S). KeepsLent spans kept is_whole old w lane lane) (sym is) (keeps_nothing spans kept is_whole old lane)
    changes_keep at old new lane (room d r) = refused spans kept is_whole same same_spans same_kept same_whole (Some (d, 0)) old new lane lane r (lane_stays lane)
    changes_keep at old new lane (told d on parent site callsite values r) =
        refused spans kept is_whole (λ s t. does s (Event on at parent site callsite values) t) (λ s t did. shows s _ t did) (λ s t did. lanes s _ t did) (λ s t did w. keeps_whole s _ t did w) (Some (d, 0)) old new lane lane r (lane_stays lane)
    changes_keep at old new lane (recorded d id callsite values r) =
        refused spans kept is_whole (λ s t. does s (Records id at callsite values) t) (λ s t did. shows s _ t did) (λ s t did. lanes s _ t did) (λ s t did w. keeps_whole s _ t did w) (Some (d, 0)) old new lane lane r (lane_stays lane)
    changes_keep at old new lane (asked d id op answer r) =
        refused spans kept is_whole (λ s t. touches s (Applies id at op answer) t) (λ s t did. (stays s _ t did).spans_same) (λ s t did. (stays s _ t did).kept_same) (λ s t did w. (stays s _ t did).whole w) (Some (d, 0)) old new lane lane r (lane_stays lane)

  module _ (same_refl : (s : S) → same s s) (same_trans : (s t u : S) → same s t → same t u → same s u) where
    -- it is a call, or an op from outside
    pub changes_call : (at : ℕ) (old new : WorldValue S) → Changes spans hint enables does touches same at old new → ChangesUpTo does (Asks touches) same at old new
    changes_call at old new (nothing is) = subst (λ (w : WorldValue S). ChangesUpTo does (Asks touches) same at old w) (sym is) (calls_none does (Asks touches) same same_refl same_trans at old)
    changes_call at old new (room d r) = calls_one does (Asks touches) same same_refl same_trans at same old new d (λ s t alike. called_same does (Asks touches) same same_refl same_trans at s t alike) r
    changes_call at old new (told d on parent site callsite values r) =
        calls_one does (Asks touches) same same_refl same_trans at (λ s t. does s (Event on at parent site callsite values) t) old new d
        (λ s t did. called_once does (Asks touches) same same_refl same_trans at s (Event on at parent site callsite values) t (omega arith) did) r
    changes_call at old new (recorded d id callsite values r) =
        calls_one does (Asks touches) same same_refl same_trans at (λ s t. does s (Records id at callsite values) t) old new d
        (λ s t did. called_once does (Asks touches) same same_refl same_trans at s (Records id at callsite values) t (omega arith) did) r
    changes_call at old new (asked d id op answer r) =
        calls_one does (Asks touches) same same_refl same_trans at (λ s t. touches s (Applies id at op answer) t) old new d
        (λ s t did. changed_once does (Asks touches) same same_refl same_trans at s (Beside at) t (omega arith) (record { id = id; op = op; answer = answer; did = did })) r

  -- a call that may want memory
  pub tell_changes : (at : ℕ) (old : WorldValue S) (d : ℕ) (s t : S) (lane : Lane) (parent : Parent) (site : ℕ) (callsite : Callsite) (values : ValueSet) (result : Result (Unit {0}) Memory) → slice_get old.subscribers d ≡ Some s
      → OnOk result (does s (Event lane at parent site callsite values) t) → OnErr result (same s t) → Changes spans hint enables does touches same at old (record old { subscribers = slice_set old.subscribers d t })
  tell_changes at old d s t lane parent site callsite values (Ok x) there did left = told d lane parent site callsite values (record { before = s; later = t; there = there; did = did; others = refl })
  tell_changes at old d s t lane parent site callsite values (Err e) there did left = room d (record { before = s; later = t; there = there; did = left; others = refl })

  pub record_changes : (at : ℕ) (old : WorldValue S) (d : ℕ) (s t : S) (id : ℕ) (callsite : Callsite) (values : ValueSet) (result : Result (Unit {0}) Memory) → slice_get old.subscribers d ≡ Some s
      → OnOk result (does s (Records id at callsite values) t) → OnErr result (same s t) → Changes spans hint enables does touches same at old (record old { subscribers = slice_set old.subscribers d t })
  record_changes at old d s t id callsite values (Ok x) there did left = recorded d id callsite values (record { before = s; later = t; there = there; did = did; others = refl })
  record_changes at old d s t id callsite values (Err e) there did left = room d (record { before = s; later = t; there = there; did = left; others = refl })

  pub ask_changes : (at : ℕ) (old : WorldValue S) (d : ℕ) (s t : S) (id : ℕ) (op : Op) (answer : Option (Result OpReply Memory)) → slice_get old.subscribers d ≡ Some s → touches s (Applies id at op answer) t
      → Changes spans hint enables does touches same at old (record old { subscribers = slice_set old.subscribers d t })
  ask_changes at old d s t id op answer there did = asked d id op answer (record { before = s; later = t; there = there; did = did; others = refl })

  -- what a call that wanted memory leaves
  pub tell_wants : (at : ℕ) (old : WorldValue S) (d : ℕ) (s t : S) (result : Result (Unit {0}) Memory) → slice_get old.subscribers d ≡ Some s
      → OnErr result (same s t) → OnErr result (WantsMemory spans hint enables does touches same at old (record old { subscribers = slice_set old.subscribers d t }))
  tell_wants at old d s t (Ok x) there left = tt
  tell_wants at old d s t (Err e) there left = spare d (record { before = s; later = t; there = there; did = left; others = refl })

  pub ask_wants : (at : ℕ) (old : WorldValue S) (d : ℕ) (s t : S) (id : ℕ) (op : Op) (wanted : Memory) → slice_get old.subscribers d ≡ Some s → touches s (Applies id at op (Some (Err wanted))) t
      → WantsMemory spans hint enables does touches same at old (record old { subscribers = slice_set old.subscribers d t })
  ask_wants at old d s t id op wanted there did = denied d id op wanted (record { before = s; later = t; there = there; did = did; others = refl })
