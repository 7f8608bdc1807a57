-- What the words of an invocation ask for, and what each command does: a row for each.
use Rattle.std.specs.Prelude.{ℕ, List, [], ◌∷◌, if◌then◌else◌, Option, Some, None, option_map, option_and_then, ◌&&◌, nat_le, codes, bytes_eq}
use Rattle.trace_stream.specs.Meaning.{Meaning}
use Rattle.trace_stream.specs.Runs.{meaning_of_runs}
use Rattle.trace_run.specs.Commands.Make.{meaning_of_make}
use Rattle.trace_run.specs.Commands.Tree.{meaning_of_trees}
use Rattle.trace_run.specs.Commands.Tasks.{meaning_of_tasks}
use Rattle.trace_run.specs.Commands.Batch.{meaning_of_batches}
use Rattle.trace_run.specs.Commands.Threads.{meaning_of_threads}
use Rattle.trace_run.specs.declared.batch.TheConstants.{MAX_BATCH_ITEMS}
use Rattle.trace_run.specs.declared.invocation.Invocation.{Invocation}
use Rattle.trace_run.specs.declared.invocation.Invocation.TheVariants as invocation
use Rattle.trace_run.specs.declared.script.Command.{Command}
use Rattle.trace_run.specs.declared.script.Command.TheVariants as command
use Rattle.trace_lines.specs.declared.generated.TheConstants.{MAX_ROUNDS}
use Rattle.trace_lines.specs.declared.signal.Signal.TheVariants as signal
use Rattle.trace_lines.specs.text.Decimals.{u128_of_word}
pub mod Make
pub mod Tree
pub mod Tasks
pub mod Batch
pub mod Threads

-- a number from 1 to a greatest one, by its decimal
abbrev pub number_up_to : ℕ → List ℕ → Option ℕ
number_up_to most word = option_and_then (λ n. if nat_le 1 n && nat_le n most then Some n else None) (u128_of_word word)

-- ---- commands without threads

-- by a word alone
abbrev pub command_by : List ℕ → Option Command
command_by word =
    if bytes_eq word (codes "run") then Some (command.Run signal.Traces) else
    (if bytes_eq word (codes "metrics") then Some (command.Run signal.Metrics) else
    (if bytes_eq word (codes "tree") then Some command.Tree else
    (if bytes_eq word (codes "tasks") then Some command.Tasks else None)))

-- by a word with a number
abbrev pub command_with : List ℕ → List ℕ → Option Command
command_with word number =
    if bytes_eq word (codes "make") then option_map command.Make (number_up_to MAX_ROUNDS number) else None

abbrev pub meaning_of : Command → Meaning
meaning_of (command.Run told) = meaning_of_runs told
meaning_of (command.Make rounds) = meaning_of_make rounds
meaning_of command.Tree = meaning_of_trees
meaning_of command.Tasks = meaning_of_tasks

-- ---- these, and those that wait for threads

abbrev pub invocation_by : List ℕ → Option Invocation
invocation_by word =
    if bytes_eq word (codes "threads") then Some invocation.Threads else option_map invocation.WithoutThreads (command_by word)

abbrev pub invocation_with : List ℕ → List ℕ → Option Invocation
invocation_with word number =
    if bytes_eq word (codes "batch") then option_map invocation.Batch (number_up_to MAX_BATCH_ITEMS number)
    else option_map invocation.WithoutThreads (command_with word number)

abbrev pub invocation_of : List (List ℕ) → Option Invocation
invocation_of [] = None
invocation_of (word ∷ []) = invocation_by word
invocation_of (word ∷ number ∷ []) = invocation_with word number
invocation_of (word ∷ number ∷ other ∷ more) = None

abbrev pub meaning_by : Invocation → Meaning
meaning_by (invocation.WithoutThreads command) = meaning_of command
meaning_by (invocation.Batch size) = meaning_of_batches size
meaning_by invocation.Threads = meaning_of_threads
