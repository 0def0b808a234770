-- there are at most 29 parts, so the bits so far are below 2^29
use Rattle.std.proofs.Common.{◌-◌, ◌<◌, length, drop, arith}
use Rattle.std.proofs.lemmas.List.{length-drop}
use Rattle.px_packet.specs.Held.{bits_of}
use Rattle.px_packet.proofs.Bits.{bits_few, bool_le}
use Rattle.px_packet.proofs.partial.bits_of.Goals as goal

pub overflow_mul-bits : goal.overflow_mul-bits
overflow_mul-bits c =
    let ps = c.args.parts.now in
    let from = length ps - c.loop-i.i in
    let few : bits_of (drop from ps) < 536870912 =
    bits_few (drop from ps) (omega (arith, c.requires, length-drop from ps)) in
    omega (arith, few, c.loop-i.invariant)

pub overflow_add-bits : goal.overflow_add-bits
overflow_add-bits c =
    let ps = c.args.parts.now in
    let from = length ps - c.loop-i.i in
    let few : bits_of (drop from ps) < 536870912 =
    bits_few (drop from ps) (omega (arith, c.requires, length-drop from ps)) in
    omega (arith, few, c.loop-i.invariant, c.from.ensures, bool_le c.is_present.result)
