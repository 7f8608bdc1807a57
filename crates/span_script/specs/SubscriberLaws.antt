-- What a caller over a world reads off what is done to a subscriber: its plain data, and what is seen of its recording, its
-- filter, and what stands beside that.
use Rattle.std.specs.Prelude.{◌≡◌, ℕ, Bool, List, [], ◌++◌, Option, Some, None, option_map}
use Rattle.trace_base.specs.Gate.{WorldValue}
use Rattle.trace_base.specs.Spans.{Spans}
use Rattle.trace_base.specs.Calls.{SubscriberCall}
use Rattle.span_handles.specs.Worlds.{Replaced, ChangesPlainData, KeepsPlainData, Chain, ChainChangesPlainData, read_subscriber, spans_in}
use Rattle.otel_layer.specs.Parts.{PartCall}
use Rattle.otel_layer.specs.Recording.{no_recording, RecordsChain, RecordsPart}
use Rattle.env_filter.specs.Filtering.{FilterState}
use Rattle.otel_metrics.specs.declared.measure.Measure.{Measure}
use Rattle.span_stack.specs.Counting.{RecordsCallBy}
use Rattle.span_stack.specs.FilterInPlace.{filter_after, FiltersChain}
use Rattle.span_stack.specs.Measured.{measures_of_call}
use Rattle.span_script.specs.Fits.{Views}

-- what stands beside the filter in place: the filter that counts, and the measures that wait
abbrev pub Aside : Type 0
Aside = Option FilterState × List Measure

abbrev pub aside_in : {S : Type 0} → Views S → WorldValue S → ℕ → Aside
aside_in views world dispatch = (read_subscriber views.counting_filter None world dispatch, read_subscriber views.measures [] world dispatch)

-- what counts stays, and some measures wait behind the others
pub record AddsMeasures (before later : Aside) (added : List Measure) : Type 0 where
  pub counting_filter : later.0 ≡ before.0
  pub measures : later.1 ≡ before.1 ++ added

-- what calls from both sides, spare room and chains of closes are for the plain data
pub record PlainLaws {S : Type 0} (spans : S → Spans) (attaches : S → Bool) (kept : S → ℕ → ℕ → ℕ)
    (is_whole : S → Type 0) (does : S → SubscriberCall → S → Type 0) (same : S → S → Type 0)
    (touches : S → PartCall → S → Type 0) : Type 0 where
  pub calls : (old new : WorldValue S) (dispatch : ℕ) (call : SubscriberCall) → Replaced (λ s t. does s call t) old new dispatch
      → ChangesPlainData spans attaches kept is_whole old new dispatch call
  pub alike : (old new : WorldValue S) (dispatch : ℕ) → Replaced same old new dispatch → KeepsPlainData spans attaches kept is_whole old new dispatch
  pub chains : (old new : WorldValue S) (dispatch at id : ℕ) → Replaced (λ s t. Chain spans does at (Some id) s t) old new dispatch
      → ChainChangesPlainData spans attaches kept is_whole old new dispatch id
  pub asks : (old new : WorldValue S) (dispatch : ℕ) (call : PartCall) → Replaced (λ s t. touches s call t) old new dispatch
      → KeepsPlainData spans attaches kept is_whole old new dispatch

-- one call is one step of the plain data, of what is recorded and of the filter in place, and adds its measures
pub record CallsLaw {S : Type 0} (spans : S → Spans) (views : Views S) (attaches : S → Bool) (kept : S → ℕ → ℕ → ℕ)
    (is_whole : S → Type 0) (does : S → SubscriberCall → S → Type 0) : Type 0 where
  pub shown : (old new : WorldValue S) (dispatch : ℕ) (call : SubscriberCall) → Replaced (λ s t. does s call t) old new dispatch
      → ChangesPlainData spans attaches kept is_whole old new dispatch call
  pub viewed : (old new : WorldValue S) (dispatch : ℕ) (call : SubscriberCall) → Replaced (λ s t. does s call t) old new dispatch
      → RecordsCallBy (read_subscriber views.counting_filter None old dispatch) (spans_in spans old dispatch)
      (read_subscriber views.recording no_recording old dispatch) call (read_subscriber views.recording no_recording new dispatch)
      × (read_subscriber views.filter None new dispatch
      ≡ option_map (filter_after (spans_in spans old dispatch) call) (read_subscriber views.filter None old dispatch))
      × AddsMeasures (aside_in views old dispatch) (aside_in views new dispatch) (measures_of_call call)

-- spare room is nothing that is kept
pub record SameLaw {S : Type 0} (spans : S → Spans) (views : Views S) (attaches : S → Bool) (kept : S → ℕ → ℕ → ℕ)
    (is_whole : S → Type 0) (same : S → S → Type 0) : Type 0 where
  pub shown : (old new : WorldValue S) (dispatch : ℕ) → Replaced same old new dispatch → KeepsPlainData spans attaches kept is_whole old new dispatch
  pub viewed : (old new : WorldValue S) (dispatch : ℕ) → Replaced same old new dispatch
      → (read_subscriber views.recording no_recording new dispatch ≡ read_subscriber views.recording no_recording old dispatch)
      × (read_subscriber views.filter None new dispatch ≡ read_subscriber views.filter None old dispatch)
      × AddsMeasures (aside_in views old dispatch) (aside_in views new dispatch) []

-- a chain of closes closes each span that it closes in the recording, in order, and the filter forgets it
pub record ChainsLaw {S : Type 0} (spans : S → Spans) (views : Views S) (attaches : S → Bool) (kept : S → ℕ → ℕ → ℕ)
    (is_whole : S → Type 0) (does : S → SubscriberCall → S → Type 0) : Type 0 where
  pub shown : (old new : WorldValue S) (dispatch at id : ℕ) → Replaced (λ s t. Chain spans does at (Some id) s t) old new dispatch
      → ChainChangesPlainData spans attaches kept is_whole old new dispatch id
  pub viewed : (old new : WorldValue S) (dispatch at id : ℕ) → Replaced (λ s t. Chain spans does at (Some id) s t) old new dispatch
      → RecordsChain at (Some id) (spans_in spans old dispatch) (spans_in spans new dispatch)
      (read_subscriber views.recording no_recording old dispatch) (read_subscriber views.recording no_recording new dispatch)
      × FiltersChain (Some id) (spans_in spans old dispatch) (spans_in spans new dispatch)
      (read_subscriber views.filter None old dispatch) (read_subscriber views.filter None new dispatch)
      × AddsMeasures (aside_in views old dispatch) (aside_in views new dispatch) []

-- a call from outside leaves the plain data, and is one step of what is recorded
pub record AsksLaw {S : Type 0} (spans : S → Spans) (views : Views S) (attaches : S → Bool) (kept : S → ℕ → ℕ → ℕ)
    (is_whole : S → Type 0) (touches : S → PartCall → S → Type 0) : Type 0 where
  pub shown : (old new : WorldValue S) (dispatch : ℕ) (call : PartCall) → Replaced (λ s t. touches s call t) old new dispatch
      → KeepsPlainData spans attaches kept is_whole old new dispatch
  pub viewed : (old new : WorldValue S) (dispatch : ℕ) (call : PartCall) → Replaced (λ s t. touches s call t) old new dispatch
      → RecordsPart
      (read_subscriber views.recording no_recording old dispatch) call (read_subscriber views.recording no_recording new dispatch)
      × (read_subscriber views.filter None new dispatch ≡ read_subscriber views.filter None old dispatch)
      × AddsMeasures (aside_in views old dispatch) (aside_in views new dispatch) []
