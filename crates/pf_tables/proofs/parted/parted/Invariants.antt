use Rattle.std.proofs.Common.{length}
use Rattle.pf_tables.proofs.Parting.{Parted}
use Rattle.pf_tables.proofs.parted.parted.Given as goal

-- the parts made so far hold the entries before those that are left
abbrev pub invariant-loop-rest : goal.invariant-loop-rest
invariant-loop-rest l = Parted l.parts.items l.rest l.entries

abbrev pub decreases-loop-rest : goal.decreases-loop-rest
decreases-loop-rest l = length l.rest
