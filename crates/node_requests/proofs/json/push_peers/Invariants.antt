use denote.Shadow.{shadow}
use denote.Text.{Utf8}
use Rattle.std.proofs.Common.{◌≡◌, ◌++◌, drop, string_bytes}
use Rattle.node_requests.specs.StatusJson.{peers_json}
use Rattle.node_requests.proofs.json.push_peers.Given as goal

abbrev pub invariant-loop-peer : goal.invariant-loop-peer
invariant-loop-peer l = record {
  text : shadow (Utf8 l.before);
  rest : string_bytes l.out ++ peers_json l.between l.before (drop l.peer-index l.peers)
      ≡ string_bytes l.fn.out ++ peers_json l.between l.fn.first l.peers;
}
