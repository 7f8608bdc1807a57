-- What a layer stands for: the spans that it knows, its open entries, its tracer and its settings.
use Rattle.std.specs.Prelude.{ℕ, ◌+◌, ◌<◌, ◌≤◌, ◌==◌, ◌^◌, ◌&&◌, if◌then◌else◌, Bool, false, List, [], length, Option, Some, None, count_by}
use Rattle.std.specs.List.{list_any}
use Rattle.std.specs.Map.{keys_of}
use Rattle.trace_base.specs.layers.Hooks.{KnownSpans}
use Rattle.otel_state.specs.declared.settings.LayerSettings.{LayerSettings}
use Rattle.otel_state.specs.States.{SpanData, Room}
use Rattle.otel_layer.specs.declared.layer.tokens.Token.{Token}
use Rattle.otel_layer.specs.Table.{is_id, unstarted_count}

-- a layer: the spans that it knows, its open entries, its tracer, for how many finishes it has reserved room there, how
-- many spans were made, its settings, and whether a close tells how many events were counted
pub record Core (T : Type 0) : Type 0 where
  pub spans : List (ℕ × SpanData)
  pub tokens : List Token
  pub tracer : T
  pub reserved : ℕ
  pub span_count : ℕ
  pub settings : LayerSettings
  pub counting : Bool

-- the same with its spare room: in each span's state, for spans, and for open entries
pub record CoreWithRoom (T : Type 0) : Type 0 where
  pub core : Core T
  pub rooms : List (ℕ × Room)
  pub room : ℕ
  pub token_room : ℕ

-- the same with other spans, over another state of its tracer, and with other settings
abbrev pub on_spans : {T : Type 0} → (List (ℕ × SpanData) → List (ℕ × SpanData)) → Core T → Core T
on_spans f c = record c { spans = f c.spans }

abbrev pub with_tracer : {T : Type 0} → T → Core T → Core T
with_tracer tracer c = record c { tracer = tracer }

abbrev pub with_settings_by : {T : Type 0} → (LayerSettings → LayerSettings) → Core T → Core T
with_settings_by f c = record c { settings = f c.settings }

-- a layer that knows no span
abbrev pub new_core : {T : Type 0} → T → LayerSettings → Core T
new_core tracer settings = record { spans = []; tokens = []; tracer = tracer; reserved = 0; span_count = 0; settings = settings; counting = false }

-- the same layer over another tracer, with which nothing is reserved
abbrev pub with_other_tracer : {T U : Type 0} → Core T → U → Core U
with_other_tracer c tracer = record { spans = c.spans; tokens = c.tokens; tracer = tracer; reserved = 0; span_count = c.span_count; settings = c.settings; counting = c.counting }

-- the entry is of the span on the lane
abbrev pub is_token : ℕ → ℕ → Token → Bool
is_token lane id token = token.lane == lane && token.id == id

-- how many entries of a span are open on a lane
abbrev pub open_entry_count : List Token → ℕ → ℕ → ℕ
open_entry_count tokens lane id = count_by (is_token lane id) tokens

abbrev pub is_attached_as : ℕ → Option ℕ → Bool
is_attached_as number None = false
is_attached_as number (Some n) = n == number

-- the entry keeps the attach of a number on the lane
abbrev pub keeps_as : ℕ → ℕ → Token → Bool
keeps_as lane number token = token.lane == lane && is_attached_as number token.attached

-- with activation what entries attached is kept, without it nothing
abbrev pub kept_by : Bool → List Token → ℕ → ℕ → ℕ
kept_by activation tokens lane number = if activation then count_by (keeps_as lane number) tokens else 0

abbrev pub seen_by : List ℕ → List Token → KnownSpans
seen_by ids tokens = record { knows = λ id. list_any (is_id id) ids; entries = λ lane id. open_entry_count tokens lane id }

-- the same of a layer
abbrev pub kept_in : {T : Type 0} → Core T → ℕ → ℕ → ℕ
kept_in c = kept_by c.settings.activation c.tokens

abbrev pub seen_in : {T : Type 0} → Core T → KnownSpans
seen_in c = seen_by (keys_of c.spans) c.tokens

-- The tracer has a spare for each live span, and can start each that waits: it counts starts below 2^63, began with
-- 2^62 of them at most, and no more spans are made than 2^62 - 1.
pub record IsWholeCore {T : Type 0} (spare started : T → ℕ) (c : Core T) : Type 0 where
  pub spares : c.reserved ≤ spare c.tracer
  pub rooms : length c.spans ≤ c.reserved
  pub budget : started c.tracer + unstarted_count c.spans ≤ 2 ^ 62 + c.span_count
  pub few : c.span_count < 2 ^ 62

-- what was whole is whole
abbrev pub StaysWhole : {T : Type 0} → (T → ℕ) → (T → ℕ) → Core T → Core T → Type 0
StaysWhole spare started c d = IsWholeCore spare started c → IsWholeCore spare started d
