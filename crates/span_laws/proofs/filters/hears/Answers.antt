use Rattle.span_laws.proofs.Common.{FilterHook, FilterState, Hook, HookClose, HookEnter, HookExit, HookNew, HookRecord, OnClose, OnEnter, OnEvent, OnExit, OnFollows, OnNewSpan, OnRecord, Some, after_hook, hook_of, refl, ◌≡◌}
use Rattle.span_laws.specs.Hearing.{filter_hook_of, after_filter_hook_if}
use Rattle.span_laws.proofs.filters.hears.Goals as goal

by_hook : (f : FilterState) (hook : Hook) → after_hook f hook ≡ after_filter_hook_if f (filter_hook_of hook)
by_hook f (OnNewSpan id lane at parent current callsite values) = refl
by_hook f (OnRecord id at callsite values) = refl
by_hook f (OnFollows id from at) = refl
by_hook f (OnEvent reached lane at callsite values) = refl
by_hook f (OnEnter id at before later) = refl
by_hook f (OnExit id at before later) = refl
by_hook f (OnClose id at) = refl

its_own : (heard : FilterHook) → filter_hook_of (hook_of heard) ≡ Some heard
its_own (HookNew s callsite values) = refl
its_own (HookRecord s callsite values) = refl
its_own (HookEnter s lane) = refl
its_own (HookExit s lane) = refl
its_own (HookClose s) = refl

pub returns-clause-hook : goal.returns-clause-hook
returns-clause-hook c = by_hook

pub returns-clause-heard : goal.returns-clause-heard
returns-clause-heard c = its_own
