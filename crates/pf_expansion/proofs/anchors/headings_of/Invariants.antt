use Rattle.std.proofs.Common.{◌≡◌, map}
use Rattle.pf_rules.specs.Seen.{heading_of, target_of}
use Rattle.pf_expansion.specs.Anchors.{heading_from}
use Rattle.pf_expansion.proofs.anchors.headings_of.Given as goal

-- a rule of each that was passed
abbrev pub invariant-loop-conditions : goal.invariant-loop-conditions
invariant-loop-conditions l = map heading_of l.headings.items ≡ map (heading_from (target_of l.target) l.quick) l.yielded
