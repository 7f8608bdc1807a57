-- Which spans the layer of a stack keeps a state of.
use Rattle.std.specs.Prelude.{◌≡◌, ℕ, Bool, nat_lt, is_some, count_by}
use Rattle.std.specs.Map.{keys_of}
use Rattle.trace_base.specs.layers.Hooks.{one_if}
use Rattle.trace_base.specs.Spans.{Spans, span_at}
use Rattle.otel_layer.specs.Parts.{PartCall, Applies, GivesContext}
use Rattle.otel_layer.specs.Recording.{Recording}
use Rattle.otel_layer.specs.Table.{is_id}

-- the span has a hold
abbrev pub is_live : Spans → ℕ → Bool
is_live spans id = nat_lt 0 (span_at spans.made id).holds

-- how many states of a span are kept
abbrev pub state_count : Recording → ℕ → ℕ
state_count r id = count_by (is_id id) (keys_of r.spans)

-- one state of each span that is live is kept, and none of another
abbrev pub KeepsLive : Spans → Recording → Type 0
KeepsLive spans r = (id : ℕ) → state_count r id ≡ one_if (is_live spans id)

-- a call from outside is answered exactly where its span is live
abbrev pub IsAnsweredLive : Spans → PartCall → Type 0
IsAnsweredLive spans (Applies id at op answer) = is_some answer ≡ is_live spans id
IsAnsweredLive spans (GivesContext id at answer) = is_some answer ≡ is_live spans id
