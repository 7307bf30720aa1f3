-- The statuses of a tool, and those of the program `graph_info` that they stand for.
use Rattle.program_phases.specs.declared.status.Status.{Status}
use Rattle.program_phases.specs.declared.status.Status.TheVariants as run
use Rattle.tools_program.specs.declared.tool_status.ToolStatus.{ToolStatus}
use Rattle.tools_program.specs.declared.tool_status.ToolStatus.TheVariants.{Yes, No, Words, NotAWorld, ReadFault, WriteFault, Budget, LoaderFault, Memory, TooLong, NotAPart}

-- the tool's status of one of the program's
abbrev pub tool_status : Status → ToolStatus
tool_status run.Valid = Yes
tool_status run.Invalid = No
tool_status run.Words = Words
tool_status run.NotAWorld = NotAWorld
tool_status run.ReadFault = ReadFault
tool_status run.WriteFault = WriteFault
tool_status run.Budget = Budget
tool_status run.LoaderFault = LoaderFault
tool_status run.Memory = Memory
tool_status run.TooLong = TooLong

-- the program's status that writes and ends as a tool's does; one without its part has no input
abbrev pub run_status : ToolStatus → Status
run_status Yes = run.Valid
run_status No = run.Invalid
run_status Words = run.Words
run_status NotAWorld = run.NotAWorld
run_status ReadFault = run.ReadFault
run_status WriteFault = run.WriteFault
run_status Budget = run.Budget
run_status LoaderFault = run.LoaderFault
run_status Memory = run.Memory
run_status TooLong = run.TooLong
run_status NotAPart = run.NotAWorld
