use Rattle.std.proofs.Common.{◌≡◌, ◌++◌, drop}
use Rattle.pf_tables.specs.Parts.{joined}
use Rattle.pf_tables.proofs.parted.gathered.Given as goal

abbrev pub invariant-loop-part : goal.invariant-loop-part
invariant-loop-part l = l.entries.items ++ joined (drop l.part-index l.parts) ≡ joined l.parts
