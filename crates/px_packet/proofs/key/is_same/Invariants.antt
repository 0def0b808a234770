use Rattle.px_packet.proofs.Apart.{Shows}
use Rattle.px_packet.proofs.key.is_same.Given as goal

abbrev pub invariant-loop-i : goal.invariant-loop-i
invariant-loop-i l = Shows l.apart l.a l.b l.i
