-- The entries so far are told, and their callers' calls counted.
use Rattle.std.proofs.Common.{◌≡◌, ◌++◌, [], take, drop}
use Rattle.thread_run.specs.Texts.{CallsAreCounted, entry_deeds_after}
use Rattle.thread_run.proofs.entry.entry_deeds.Given as goal

abbrev pub invariant-loop-entry : goal.invariant-loop-entry
invariant-loop-entry l = record {
  told : l.told.items ++ entry_deeds_after (take l.entry-index l.history) (drop l.entry-index l.history) ≡ entry_deeds_after [] l.history;
  counted : CallsAreCounted (take l.entry-index l.history) l.counts.items;
}
