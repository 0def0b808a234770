use Rattle.std.proofs.Common.{◌≤◌, length}
use Rattle.std.specs.Io.KnownBytes.{Consumes}
use Rattle.cli_io.proofs.input.read_all.Given as goal

-- what was read so far was taken from the front of what the reader had, and is within the limit
abbrev pub invariant-loop : goal.invariant-loop
invariant-loop g l = Consumes (g.R.Read.remaining l.fn.reader) (g.R.Read.remaining l.reader) l.all.items × (length l.all.items ≤ 16777216)
