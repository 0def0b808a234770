-- those so far were found
use Rattle.std.proofs.Common.{map, take}
use Rattle.node_udp.specs.Addresses.{AreFound}
use Rattle.node_udp.proofs.udp.addresses.Given as goal

abbrev pub invariant-loop-text : goal.invariant-loop-text
invariant-loop-text g l = AreFound (g.R.Network.is_known l.rt) (map (λ t. t.now) (take l.text-index l.texts)) l.peers.items
