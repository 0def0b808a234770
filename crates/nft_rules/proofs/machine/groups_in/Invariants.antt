use Rattle.std.proofs.Common.{◌≡◌, drop}
use Rattle.nft_rules.specs.Rendering.{groups_in}
use Rattle.nft_rules.specs.Seen.{machine_of}
use Rattle.nft_rules.proofs.machine.groups_in.Given as goal

abbrev pub invariant-loop-interface : goal.invariant-loop-interface
invariant-loop-interface l = groups_in (machine_of (drop l.interface-index l.machine)) l.name ≡ groups_in (machine_of l.fn.machine) l.fn.name
