-- How a call of the program ended: its number, and what it says on standard error.
use Rattle.std.specs.Prelude.{ℕ, List, [], ◌++◌, codes}
use Rattle.std.specs.Fmt.{decimal}
use Rattle.opendb_run.specs.declared.input.InputError.{InputError}
use Rattle.opendb_run.specs.declared.input.InputError.TheVariants.{TooLarge as InputTooLarge, ReadFault as InputReadFault, OutOfMemory as InputOutOfMemory}
use Rattle.opendb_run.specs.declared.status.Status.{Status}
use Rattle.opendb_run.specs.declared.status.Status.TheVariants.{Done, Usage, BadScript, TooLarge, ReadFault, WriteFault, OutOfMemory}

-- the exit status
abbrev pub code_of : Status → ℕ
code_of Done = 0
code_of Usage = 1
code_of BadScript = 2
code_of TooLarge = 3
code_of ReadFault = 4
code_of WriteFault = 5
code_of OutOfMemory = 6

-- how a call ends whose input wasn't read to its end
abbrev pub status_of : InputError → Status
status_of InputTooLarge = TooLarge
status_of InputReadFault = ReadFault
status_of InputOutOfMemory = OutOfMemory

abbrev pub at_line : ℕ → List ℕ
at_line line = codes "opendb: line " ++ decimal line

-- the line on standard error, given the number of the bad line and the reason why it is bad
abbrev pub complaint : Status → ℕ → ℕ → List ℕ
complaint Done line reason = []
complaint Usage line reason = codes "opendb: usage: run, smbstatus or stress\n"
complaint BadScript line reason = at_line line ++ (codes ": reason " ++ (decimal reason ++ codes "\n"))
complaint TooLarge line reason = codes "opendb: script too large\n"
complaint ReadFault line reason = codes "opendb: read fault\n"
complaint WriteFault line reason = codes "opendb: write fault\n"
complaint OutOfMemory line reason = codes "opendb: no memory\n"
