-- The fixed keys and words of records, and what contracts see of a text.
use Rattle.std.specs.Prelude.{ℕ, List, codes, string_bytes}
use Rattle.otel_base.specs.declared.text.Content.{Content}
use Rattle.otel_base.specs.declared.text.Content.TheVariants as contents
use Rattle.otel_base.specs.declared.word.Word.{Word}
use Rattle.otel_base.specs.declared.word.Word.TheVariants as words

-- the bytes of a word
abbrev pub word_text : Word → List ℕ
word_text words.Busy = codes "busy_ns"
word_text words.Idle = codes "idle_ns"
word_text words.EventCount = codes "otel.tracing_event_count"
word_text words.Level = codes "level"
word_text words.Target = codes "target"
word_text words.FilePath = codes "code.file.path"
word_text words.ModuleName = codes "code.module.name"
word_text words.LineNumber = codes "code.line.number"
word_text words.ThreadId = codes "thread.id"
word_text words.ThreadName = codes "thread.name"
word_text words.Exception = codes "exception"
word_text words.ExceptionMessage = codes "exception.message"
word_text words.ExceptionStacktrace = codes "exception.stacktrace"
word_text words.Error = codes "error"
word_text words.ErrorLevel = codes "ERROR"
word_text words.WarnLevel = codes "WARN"
word_text words.InfoLevel = codes "INFO"
word_text words.DebugLevel = codes "DEBUG"
word_text words.TraceLevel = codes "TRACE"

-- the bytes of a text, wherever they lie
abbrev pub text_bytes : Content → List ℕ
text_bytes (contents.Fixed word) = word_text word
text_bytes (contents.Short short) = short.bytes
text_bytes (contents.Long string) = string_bytes string
