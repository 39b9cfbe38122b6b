-- The exit status of the program for each status. This project's own.
use Rattle.std.specs.Prelude.{ℕ}
use Rattle.command_answer.specs.declared.status.Status.{Status}
use Rattle.command_answer.specs.declared.status.Status.TheVariants.{Done, Refused, Faulted, Usage, ReadFault, WriteFault, NoMemory}

abbrev pub exit_number : Status → ℕ
exit_number Done = 0
exit_number Refused = 1
exit_number Faulted = 2
exit_number Usage = 3
exit_number ReadFault = 4
exit_number WriteFault = 5
exit_number NoMemory = 6
