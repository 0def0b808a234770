use Rattle.std.proofs.Common.{◌≡◌, drop}
use Rattle.cli_io.specs.Explained.{named}
use Rattle.cli_io.proofs.lookup.named.Given as goal

-- the rows that are left have the row
abbrev pub invariant-loop-row : goal.invariant-loop-row
invariant-loop-row l = named (drop l.row-index l.table) l.digits ≡ named l.table l.digits
