use Rattle.std.proofs.Common.{ℕ, arith, get_or, replicate}
use Rattle.std.proofs.lemmas.List.{length-set}
use Rattle.px_packet.proofs.Filling.{front_more, rest_stays, whole}
use Rattle.px_packet.proofs.hmac.filled.Goals as goal

pub loop-i-preserved : goal.loop-i-preserved
loop-i-preserved c = (
  front_more c.loop-i.block c.args.key.now c.loop-i.i (omega arith) (omega arith) c.loop-i.invariant.0,
  rest_stays c.loop-i.block (replicate 64 0) c.loop-i.i (get_or c.args.key.now c.loop-i.i 0) c.loop-i.invariant.1,
  omega (arith, length-set {A = ℕ}),
)

pub returns : goal.returns
returns c = whole _ _ c.loop-i.i 64 (omega arith) c.loop-i.invariant.0 c.loop-i.invariant.1 (omega arith)
