-- The filter in force: asking it, and another one.
use Rattle.std.specs.Prelude.{ℕ, List, [], ◌∷◌, fold, unwrap_or, Bool, Some, None, Ok, Err, slice_get}
use Rattle.trace_base.specs.declared.callsite.Callsite.{Callsite}
use Rattle.trace_base.specs.declared.lane.Lane.{Lane}
use Rattle.trace_base.specs.declared.span.Parent.TheVariants as parent
use Rattle.trace_base.specs.layers.Hooks.{Hook, OnNewSpan, OnRecord, OnEnter, OnExit, OnClose}
use Rattle.env_filter.specs.Filtering.{FilterState, is_admitted, after_hook}
use Rattle.span_script.specs.declared.reply.Reply.TheVariants as reply
use Rattle.span_script.specs.declared.reply.Refusal.TheVariants as refusal
use Rattle.span_script.specs.declared.reply.What.TheVariants as what
use Rattle.span_script.specs.Admission.{TextRead, text_read, text_filter}
use Rattle.span_script.specs.calls.Here.{Here, Resolved, ◌>>=◌, need, answer_effect}
use Rattle.span_script.specs.Setups.{Setup}
use Rattle.span_script.specs.Tables.{Effect, FilterHook, HookNew, HookRecord, HookEnter, HookExit, HookClose, Scope, Tables}

-- the text in force: that of the last reload, that of the settings before the first
abbrev pub text_in_force : Setup → Tables → List ℕ
text_in_force setup t = unwrap_or t.filter setup.filter

-- a lane of which only the id is told
abbrev pub bare_lane : ℕ → Lane
bare_lane id = record { id = id; name = None; default = None; contexts = record { live = []; room = 0 } }

-- The hook by which a filter hears it. A filter reads no moment and no parent, and of a lane the id alone: what stands for
-- these says nothing.
abbrev pub hook_of : FilterHook → Hook
hook_of (HookNew s callsite values) = OnNewSpan s (bare_lane 0) 0 parent.Root None callsite values
hook_of (HookRecord s callsite values) = OnRecord s 0 callsite values
hook_of (HookEnter s lane) = OnEnter s 0 (bare_lane lane) (bare_lane lane)
hook_of (HookExit s lane) = OnExit s 0 (bare_lane lane) (bare_lane lane)
hook_of (HookClose s) = OnClose s 0

-- what hearing it makes of a filter
abbrev pub after_filter_hook : FilterState → FilterHook → FilterState
after_filter_hook f heard = after_hook f (hook_of heard)

-- the filter in force: that of its text, after all that it heard
abbrev pub filter_in_force : Setup → Tables → FilterState
filter_in_force setup t = fold after_filter_hook (text_filter (text_in_force setup t)) t.hooks

-- whether what a callsite makes on the lane of an id is let through
abbrev pub admits_on : Setup → Tables → ℕ → Callsite → Bool
admits_on setup t lane callsite = is_admitted (filter_in_force setup t) lane callsite

-- what is heard of a scope's own span, if it has one
abbrev pub hooks_of_span : Scope → (ℕ → FilterHook) → List FilterHook
hooks_of_span [] heard = []
hooks_of_span (s ∷ up) heard = heard s ∷ []

-- ---- asking, an answer alone

abbrev pub enabled_effect : Here → Callsite → Effect
enabled_effect here callsite = answer_effect here (reply.Enabled (admits_on here.setup here.tables here.lane callsite))

abbrev pub enabled_call : Here → ℕ → Resolved
enabled_call here site = do
  callsite ← need what.Site (slice_get here.setup.sites site)
  Ok (enabled_effect here callsite)

-- ---- a filter of another text, which has heard nothing yet

abbrev pub reload_effect : Here → List ℕ → Effect
reload_effect here text = record (answer_effect here reply.Done) { filter = Some text }

-- a text is put in force if each of its pieces is a directive
abbrev pub reload_by : Here → List ℕ → TextRead → Resolved
reload_by here text (Ok ds) = Ok (reload_effect here text)
reload_by here text (Err piece) = Err (refusal.Directive piece)

abbrev pub reload_call : Here → List ℕ → Resolved
reload_call here text = reload_by here text (text_read text)
