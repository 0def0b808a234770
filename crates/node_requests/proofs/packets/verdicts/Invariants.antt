use Rattle.std.proofs.Common.{◌≡◌, drop, map, string_bytes}
use Rattle.node_requests.specs.Answers.{behind, verdicts}
use Rattle.node_requests.proofs.packets.verdicts.Given as goal

-- the lines so far, and those of the packets that are left
abbrev pub invariant-loop-packet : goal.invariant-loop-packet
invariant-loop-packet l = behind (string_bytes l.body) (verdicts l.config (map (λ p. p.now) (drop l.packet-index l.packets))) ≡ verdicts l.config (map (λ p. p.now) l.packets)
