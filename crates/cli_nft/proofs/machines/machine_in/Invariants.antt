use Rattle.std.proofs.Common.{◌≡◌, length, map}
use Rattle.pf_eval.specs.PacketTexts.{words}
use Rattle.pf_scripts.specs.Lines.{lines}
use Rattle.nft_rules.specs.Seen.{machine_of}
use Rattle.cli_nft.specs.Machines.{machine_with, machine_in}
use Rattle.cli_nft.proofs.machines.machine_in.Given as goal

-- what is listed so far, with what the lines that are left list
abbrev pub invariant-loop-line : goal.invariant-loop-line
invariant-loop-line l = machine_with (machine_of l.machine.items) (map (λ k. words k.content) (lines l.left)) ≡ machine_in l.fn.text

abbrev pub decreases-loop-line : goal.decreases-loop-line
decreases-loop-line l = length l.left
