-- Calls that change nothing of spans, lanes and callsites.
use Rattle.std.specs.Prelude.{◌≡◌, ℕ}
use Rattle.trace_base.specs.declared.subscriber.Subscriber.{Ghosts}
use Rattle.trace_base.specs.Gate.{WorldValue}
use Rattle.span_handles.specs.Worlds.{KeepsPlainData}
use Rattle.span_handles.specs.Knowing.{KeepsHandles}

-- nothing that is read changed: of each subscriber its spans and what it keeps attached, and the world's callsites
pub record IsUnchanged {S : Type 0} (sub : Ghosts S) (old new : WorldValue S) : Type 0 where
  pub alike : (dispatch : ℕ) → KeepsPlainData sub.spans sub.attaches sub.kept sub.is_whole old new dispatch
  pub sites : new.sites ≡ old.sites
  pub global : new.global ≡ old.global
  pub known : KeepsHandles sub.spans old new
