use Rattle.std.proofs.Common.{◌≡◌, length}
use Rattle.pf_tables.specs.inner.Contents.{entry_at}
use Rattle.pf_tables.specs.Parts.{IsOrdered}
use Rattle.pf_tables.proofs.lookup.entry_at.Given as goal

-- the entry is among what is left
abbrev pub invariant-loop-left : goal.invariant-loop-left
invariant-loop-left l = record {
  found : entry_at l.prefix l.left ≡ entry_at l.prefix l.entries;
  ordered : IsOrdered l.left;
}

abbrev pub decreases-loop-left : goal.decreases-loop-left
decreases-loop-left l = length l.left
