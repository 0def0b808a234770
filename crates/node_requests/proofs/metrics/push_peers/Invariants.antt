use Rattle.std.proofs.Common.{◌≡◌, ◌++◌, drop, string_bytes}
use Rattle.std.specs.List.{flat_map}
use Rattle.node_requests.specs.Metrics.{figure_of, peer_sample, peers_of}
use Rattle.node_requests.proofs.metrics.push_peers.Given as goal

abbrev pub invariant-loop-peer : goal.invariant-loop-peer
invariant-loop-peer l =
    string_bytes l.out ++ flat_map (λ p. peer_sample l.name p.node (figure_of l.figure p)) (drop l.peer-index l.peers)
    ≡ string_bytes l.fn.out ++ peers_of l.figure l.peers
