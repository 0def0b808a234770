use Rattle.std.proofs.Common.{◌≡◌, drop, map, string_bytes}
use Rattle.cli_show.specs.Writing.{behind, verdicts}
use Rattle.cli_show.proofs.pfctl.show_verdicts.Given as goal

-- the lines so far, and those of the packets that are left
abbrev pub invariant-loop-packet : goal.invariant-loop-packet
invariant-loop-packet l = behind (string_bytes l.text) (verdicts l.config (map (λ p. p.now) (drop l.packet-index l.packets))) ≡ verdicts l.config (map (λ p. p.now) l.packets)
