-- The numbers and words by which the two formats and the process go.
use Rattle.std.specs.Prelude.{ℕ, List, Bool, ◌==◌, Option, Some, None, if◌then◌else◌, codes, bytes_eq}
use Rattle.std.specs.List.{list_all}
use Rattle.std.specs.declared.io.ErrorKind.{ErrorKind}
use Rattle.std.specs.declared.io.ErrorKind.TheVariants as error
use Rattle.convert_base.specs.declared.kind.Kind.{Kind}
use Rattle.convert_base.specs.declared.kind.Kind.TheVariants as kind
use Rattle.convert_base.specs.declared.format.Format.{Format}
use Rattle.convert_base.specs.declared.format.Format.TheVariants as format
use Rattle.convert_base.specs.declared.fault.Fault.{Fault}
use Rattle.convert_base.specs.declared.fault.Fault.TheVariants as fault

-- the kind of a record's word
abbrev pub kind_of : List ℕ → Option Kind
kind_of word =
    if bytes_eq word (codes "internal") then Some kind.Internal else
    (if bytes_eq word (codes "server") then Some kind.Server else
    (if bytes_eq word (codes "client") then Some kind.Client else
    (if bytes_eq word (codes "producer") then Some kind.Producer else
    (if bytes_eq word (codes "consumer") then Some kind.Consumer else None))))

-- the kinds of the OpenTelemetry protocol
abbrev pub kind_number : Kind → ℕ
kind_number kind.Internal = 1
kind_number kind.Server = 2
kind_number kind.Client = 3
kind_number kind.Producer = 4
kind_number kind.Consumer = 5

-- the format of a word
abbrev pub format_of : List ℕ → Option Format
format_of word =
    if bytes_eq word (codes "otlp") then Some format.Otlp else
    (if bytes_eq word (codes "chrome") then Some format.Chrome else
    (if bytes_eq word (codes "text") then Some format.Text else
    (if bytes_eq word (codes "html") then Some format.Html else None)))

-- what the process ends with at a fault
abbrev pub exit_status_of : Fault → ℕ
exit_status_of fault.Usage = 1
exit_status_of (fault.NoJson line) = 2
exit_status_of (fault.NoRecord line) = 2
exit_status_of fault.Io = 3
exit_status_of fault.Memory = 5

-- why a conversion ends where reading or writing gave an error: want of memory stays that
abbrev pub io_fault : ErrorKind → Fault
io_fault error.OutOfMemory = fault.Memory
io_fault _ = fault.Io

-- the same where a text was to be read: bytes that are none are the fault that is given
abbrev pub text_fault : Fault → ErrorKind → Fault
text_fault broken error.InvalidData = broken
text_fault broken kind = io_fault kind

-- an id whose digits are all 0 names no span
abbrev pub names_no_span : List ℕ → Bool
names_no_span id = list_all (λ digit. digit == 48) id
