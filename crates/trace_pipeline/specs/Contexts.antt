-- The contexts that a script names, as they are kept. Inner definitions.
use Rattle.span_script.specs.Fits.{ContextSlots}
use Rattle.trace_pipeline.specs.declared.contexts.Contexts.{Contexts}

abbrev pub context_slots : Contexts → ContextSlots
context_slots contexts = record { contexts = contexts.contexts.items; attaches = contexts.attaches.items }
