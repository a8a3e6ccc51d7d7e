-- The numbers and the lines of the statuses.
use Rattle.std.specs.Prelude.{ℕ, List, [], ◌++◌, codes, decimal}
use Rattle.text_script.specs.declared.fault.ScriptFault.{ScriptFault}
use Rattle.text_script.specs.declared.fault.ScriptFault.TheVariants.{Syntax, Order, Range, TooLong, TooMany, Spawn, Memory as NoMemory}
use Rattle.model_core.specs.Output.{line}
use Rattle.camlheap_run.specs.declared.status.Status.{Status}
use Rattle.camlheap_run.specs.declared.status.Status.TheVariants.{Done, Usage, Script, Schedule, NotReplayable, ReadFault, WriteFault, Memory}

-- the number with which the program ends
abbrev pub exit_number : Status → ℕ
exit_number (Done ended) = 0
exit_number Usage = 1
exit_number (Script NoMemory) = 5
exit_number (Script fault) = 2
exit_number ReadFault = 3
exit_number (WriteFault ended) = 4
exit_number Memory = 5
exit_number (Schedule l) = 6
exit_number (NotReplayable why) = 7

-- what is said of a line of the script
abbrev pub at_line : ℕ → List ℕ → List ℕ
at_line l text = codes "script line " ++ decimal l ++ codes ": " ++ text

-- what is said of a script's fault
abbrev pub fault_text : ScriptFault → List ℕ
fault_text (Syntax l) = at_line l (codes "syntax")
fault_text (Order l) = at_line l (codes "section order")
fault_text (Range l which) = at_line l (codes "number " ++ decimal which ++ codes " out of range")
fault_text (TooLong bytes) = codes "script: more than 16777216 bytes"
fault_text (TooMany l) = at_line l (codes "too many commands")
fault_text (Spawn l) = at_line l (codes "spawn")
fault_text NoMemory = codes "out of memory"

-- the line of a status, with its line feed; a run that is done has none
abbrev pub line_of : Status → List ℕ
line_of (Done ended) = []
line_of Usage = line (codes "usage: camlheap run|replay|table [--domains N] [--minor W] [--pools P] | gen|load BASE N C")
line_of (Script fault) = line (fault_text fault)
line_of (Schedule l) = line (codes "schedule line " ++ decimal l)
line_of (NotReplayable why) = line (codes "not replayable: " ++ decimal why)
line_of ReadFault = line (codes "read fault")
line_of (WriteFault ended) = line (codes "write fault")
line_of Memory = line (codes "out of memory")
