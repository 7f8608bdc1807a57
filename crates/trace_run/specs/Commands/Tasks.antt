-- What `meaning_of_tasks` does: it polls the tasks of a script in turn, and writes the records of their spans.
use Rattle.task_runs.specs.Texts.{accepts_tasks, TellsTasks}
use Rattle.trace_stream.specs.reading.AllLines.{meaning_of_all_lines}
use Rattle.trace_stream.specs.Meaning.{Meaning}

abbrev pub meaning_of_tasks : Meaning
meaning_of_tasks = meaning_of_all_lines accepts_tasks TellsTasks
