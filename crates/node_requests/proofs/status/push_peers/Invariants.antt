use Rattle.std.proofs.Common.{◌≡◌, ◌++◌, drop, string_bytes}
use Rattle.std.specs.List.{flat_map}
use Rattle.node_requests.specs.Status.{peer_line}
use Rattle.node_requests.proofs.status.push_peers.Given as goal

abbrev pub invariant-loop-peer : goal.invariant-loop-peer
invariant-loop-peer l = string_bytes l.out ++ flat_map peer_line (drop l.peer-index l.peers) ≡ string_bytes l.fn.out ++ flat_map peer_line l.peers
