-- What a filter hears of the hook of a layer.
use Rattle.std.specs.Prelude.{Option, Some, None}
use Rattle.trace_base.specs.layers.Hooks.{Hook, OnNewSpan, OnRecord, OnFollows, OnEvent, OnEnter, OnExit, OnClose}
use Rattle.env_filter.specs.Filtering.{FilterState}
use Rattle.span_script.specs.calls.Filter.{after_filter_hook}
use Rattle.span_script.specs.Tables.{FilterHook, HookNew, HookRecord, HookEnter, HookExit, HookClose}

-- no moment, parent or current span, of a lane the id alone, and nothing of events and of what follows what
abbrev pub filter_hook_of : Hook → Option FilterHook
filter_hook_of (OnNewSpan id lane at parent current callsite values) = Some (HookNew id callsite values)
filter_hook_of (OnRecord id at callsite values) = Some (HookRecord id callsite values)
filter_hook_of (OnFollows id from at) = None
filter_hook_of (OnEvent reached lane at callsite values) = None
filter_hook_of (OnEnter id at before later) = Some (HookEnter id before.id)
filter_hook_of (OnExit id at before later) = Some (HookExit id before.id)
filter_hook_of (OnClose id at) = Some (HookClose id)

-- what it makes of a filter, if anything is heard
abbrev pub after_filter_hook_if : FilterState → Option FilterHook → FilterState
after_filter_hook_if f None = f
after_filter_hook_if f (Some heard) = after_filter_hook f heard
