-- What is the same bytes as a text that fits, fits too.
use Rattle.std.proofs.Common.{◌≡◌, ℕ, List, Bool, true, sym, subst, ◌∙◌}
use Rattle.std.specs.Prelude.{bytes_eq}
use Rattle.std.proofs.lemmas.Slice.Eq.{bytes_eq-Decides}
use Rattle.thread_run.specs.Inputs.{TellsEnded, TellsThreads}
use Rattle.thread_handles.specs.declared.gather.Ended.{Ended}

pub alike : (lines : List (List ℕ)) (ended : List Ended) (text slice output : List ℕ) (same : Bool) → TellsEnded lines ended text → slice ≡ text → same ≡ bytes_eq slice output → same ≡ true → TellsThreads lines output
alike lines ended text slice output same told is compared holds =
    (ended, subst (TellsEnded lines ended) (sym is ∙ (bytes_eq-Decides slice output).0 (sym compared ∙ holds)) told)
