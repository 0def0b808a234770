use Rattle.std.proofs.Common.{◌≡◌, length}
use Rattle.pf_tables.specs.inner.Tables.{last_with}
use Rattle.pf_tables.specs.Parts.{joined}
use Rattle.pf_tables.proofs.Deciding.{EachIsPart}
use Rattle.pf_tables.proofs.decided.decides.Given as goal

-- no part behind those that are left has an entry that contains the address
abbrev pub invariant-loop-left : goal.invariant-loop-left
invariant-loop-left l = record {
  last : last_with l.addr (joined l.left) ≡ last_with l.addr (joined l.parts);
  parts : EachIsPart l.left;
}

abbrev pub decreases-loop-left : goal.decreases-loop-left
decreases-loop-left l = length l.left
