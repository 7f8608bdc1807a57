-- A record or a measure that is taken, and how many spans are open.
use Rattle.std.proofs.Common.{◌≡◌, ℕ, List, [], ◌∷◌, drop, Bool, Option, Some, None, map, refl, sym, ap, subst, ◌∙◌, arith, slice_get, MatchOption}
use Rattle.span_script.proofs.Common.{WorldValue, Spans, KeepsPlainData, read_subscriber, Record, option_map_or, no_recording, Tables, Measure, Views, PipelineState, state_of, StandsFor, LanesFit, PipelineInvariant, lane_value, Parts}
use Rattle.span_script.specs.Fits.{Fits}

-- what is kept, but that some of the records and measures were taken
abbrev pub but_taken : PipelineState → List Record → List Measure → PipelineState
but_taken k records measures = record k { recording = record k.recording { finished = records }; measures = measures }

fits_taken : (k : PipelineState) (t : Tables) (records : List Record) (measures : List Measure) → Fits k t → Fits (but_taken k records measures) t
fits_taken k t records measures fits = record {
  handle_slots = fits.handle_slots;
  site_slots = fits.site_slots;
  guard_slots = fits.guard_slots;
  attach_slots = fits.attach_slots;
  paired = fits.paired;
  named_contexts = fits.named_contexts;
  latest = fits.latest;
  balanced = fits.balanced;
  made = fits.made;
  one_row = fits.one_row;
  scopes = fits.scopes;
  still = fits.still;
  own_scopes = fits.own_scopes;
  sited = fits.sited;
  few = fits.few;
  few_holds = fits.few_holds;
}

stands_taken : (k : PipelineState) (t : Tables) (records : List Record) (measures : List Measure) → StandsFor k t → StandsFor (but_taken k records measures) t
stands_taken k t records measures stands = record {
  fits = fits_taken k t records measures stands.fits;
  recording = record { recorded = stands.recording.recorded; known = stands.recording.known; attached = stands.recording.attached };
  filtering = record { in_place = stands.filtering.in_place; fresh = stands.filtering.fresh; counting_filter = stands.filtering.counting_filter; new = stands.filtering.new };
}

-- a world whose stack has some records and measures
module _ {S : Type 0} (spans : S → Spans) (views : Views S) (attaches : S → Bool) (kept : S → ℕ → ℕ → ℕ) (is_whole : S → Type 0) (parts : Parts S) (new : WorldValue S) (alike : KeepsPlainData spans attaches kept is_whole parts.world new parts.dispatch)
    (sites : new.sites ≡ parts.world.sites) (cached : new.cached ≡ parts.world.cached) (filters : read_subscriber views.filter None new parts.dispatch ≡ read_subscriber views.filter None parts.world parts.dispatch) (counting_filter : read_subscriber views.counting_filter None new parts.dispatch ≡ read_subscriber views.counting_filter None parts.world parts.dispatch)
    (records : List Record) (finished : read_subscriber views.recording no_recording new parts.dispatch ≡ record (read_subscriber views.recording no_recording parts.world parts.dispatch) { finished = records })
    (measures : List Measure) (waiting : read_subscriber views.measures [] new parts.dispatch ≡ measures) where
  abbrev taken_parts : Parts S
  taken_parts = record parts { world = new }

  pub state_taken : state_of spans views taken_parts ≡ but_taken (state_of spans views parts) records measures
  state_taken = rw (alike.spans_same, sites, finished, filters, cached, counting_filter, waiting) refl

  pub kept_taken : PipelineInvariant spans views kept is_whole parts → PipelineInvariant spans views kept is_whole taken_parts
  kept_taken inv = record {
    there = (let c = alike.count in let b = inv.there in omega (arith, c, b));
    alone = alike.count ∙ inv.alone;
    whole = alike.whole inv.whole;
    lanes = subst (λ (f : ℕ → ℕ → ℕ). LanesFit parts.dispatch f (map lane_value parts.lanes)) (sym alike.kept_same) inv.lanes;
    tables = inv.tables;
    stands = subst (λ (k : PipelineState). StandsFor k inv.tables) (sym state_taken) (stands_taken _ inv.tables records measures inv.stands);
  }

-- what was taken is the first of what is no more there
pub oldest_by : {A : Type 0} (read : PipelineState → List A) (view k : PipelineState) (rest : List A) (o : Option A) → view ≡ k → rest ≡ drop 1 (read view) → MatchOption o (read view ≡ []) (λ a. read view ≡ a ∷ drop 1 (read view))
    → MatchOption o (read k ≡ []) (λ a. read k ≡ a ∷ rest)
oldest_by {A} read view k rest o same without is =
    subst (λ (x : PipelineState). MatchOption o (read x ≡ []) (λ a. read x ≡ a ∷ rest)) same
    (subst (λ (zs : List A). MatchOption o (read view ≡ []) (λ a. read view ≡ a ∷ zs)) (sym without) is)

pub seen_there : {S A : Type 0} (read : S → A) (none : A) (world : WorldValue S) (dispatch : ℕ) (s : S) → slice_get world.subscribers dispatch ≡ Some s → read_subscriber read none world dispatch ≡ read s
seen_there read none world dispatch s there = ap (λ (o : Option _). option_map_or read o none) there
