use Rattle.std.proofs.Common.{◌≡◌, take, drop, replicate, length}
use Rattle.px_packet.proofs.hmac.filled.Given as goal

abbrev pub invariant-loop-i : goal.invariant-loop-i
invariant-loop-i l = (take l.i l.block ≡ take l.i l.key) × (drop l.i l.block ≡ drop l.i (replicate 64 0)) ×
    (length l.block ≡ 64)
