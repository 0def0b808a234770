use Rattle.std.proofs.Common.{ℕ, arith, refl}
use Rattle.std.specs.Int.RustNames.{bit_xor}
use Rattle.std.proofs.lemmas.List.{length-set}
use Rattle.px_packet.proofs.Filling.{mapped_more, mapped_all}
use Rattle.px_packet.proofs.hmac.padded.Goals as goal

pub loop-i-preserved : goal.loop-i-preserved
loop-i-preserved c = (
  mapped_more (λ b. bit_xor b c.args.pad) _ _ _ _ (omega arith) (omega arith) refl c.loop-i.invariant.0,
  omega (arith, length-set {A = ℕ}),
)

pub returns : goal.returns
returns c =
    mapped_all (λ b. bit_xor b c.args.pad) _ _ c.loop-i.i (omega arith) (omega arith) c.loop-i.invariant.0
