-- The exit status.
use Rattle.std.specs.Prelude.{ℕ}
use Rattle.cli_io.specs.declared.status.Status.{Status}
use Rattle.cli_io.specs.declared.status.Status.TheVariants.{Done, Refused, Usage, Memory, Failed}

-- the exit code of each end of a run
abbrev pub code_of : Status → ℕ
code_of Done = 0
code_of Refused = 1
code_of Usage = 2
code_of Memory = 1
code_of Failed = 1
