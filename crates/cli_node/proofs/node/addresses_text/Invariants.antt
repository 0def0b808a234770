-- with those that are left it is the whole text
use Rattle.std.proofs.Common.{◌≡◌, ◌++◌, map, length, string_bytes}
use Rattle.node_udp.specs.Addresses.{shown_address}
use Rattle.pf_scripts.specs.Lines.{spaced}
use Rattle.cli_node.proofs.node.addresses_text.Given as goal

abbrev pub invariant-loop-left : goal.invariant-loop-left
invariant-loop-left l = string_bytes l.text ++ spaced (map shown_address l.left) ≡ spaced (map shown_address l.addresses)

abbrev pub decreases-loop-left : goal.decreases-loop-left
decreases-loop-left l = length l.left
