use Rattle.std.proofs.Common.{◌≡◌, [], replicate}
use Rattle.px_packet.proofs.partial.empty_parts.Given as goal

abbrev pub invariant-loop : goal.invariant-loop
invariant-loop l = l.parts.items ≡ replicate l.counter []
