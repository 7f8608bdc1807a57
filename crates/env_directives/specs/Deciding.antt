-- Targets as a filter.
use Rattle.std.specs.Prelude.{ℕ, Bool, if◌then◌else◌}
use Rattle.trace_base.specs.declared.callsite.Callsite.{Callsite}
use Rattle.trace_base.specs.declared.subscriber.Interest.{Interest}
use Rattle.trace_base.specs.declared.subscriber.Interest.TheVariants as interests
use Rattle.env_directives.specs.declared.directive.StaticDirective.{StaticDirective}
use Rattle.env_directives.specs.orders.Choice.{admits}
use Rattle.env_directives.specs.orders.Table.{DirectiveTable}

-- always where the directive that decides lets a callsite through, else never
abbrev pub interest_in : DirectiveTable StaticDirective → Callsite → Interest
interest_in t c = if admits t.directives c then interests.Always else interests.Never

-- the same answer on each lane
abbrev pub enables_in : DirectiveTable StaticDirective → ℕ → Callsite → Bool
enables_in t lane c = admits t.directives c
