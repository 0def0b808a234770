use Rattle.std.proofs.Common.{◌≡◌, take, length}
use Rattle.px_packet.specs.Hmac.{padded}
use Rattle.px_packet.proofs.hmac.padded.Given as goal

abbrev pub invariant-loop-i : goal.invariant-loop-i
invariant-loop-i l = (take l.i l.out ≡ padded l.pad (take l.i l.block)) × (length l.out ≡ 64)
