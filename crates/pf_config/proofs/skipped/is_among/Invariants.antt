use Rattle.std.proofs.Common.{◌≡◌, length}
use Rattle.pf_config.specs.SkippedNames.{is_listed}
use Rattle.pf_config.specs.inner.RisingNames.{AreRising}
use Rattle.pf_config.proofs.skipped.is_among.Given as goal

-- the name is among what is left
abbrev pub invariant-loop-name : goal.invariant-loop-name
invariant-loop-name l = record {
  found : is_listed l.name l.left ≡ is_listed l.name l.names;
  rising : AreRising l.left;
}

abbrev pub decreases-loop-name : goal.decreases-loop-name
decreases-loop-name l = length l.left
