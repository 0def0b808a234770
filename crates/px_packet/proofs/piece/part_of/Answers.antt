-- what is left is the part, where there are fewer bytes
use Rattle.std.proofs.Common.{◌≡◌, ◌∙◌, ◌-◌, ◌*◌, min, length, take, drop, arith, ap}
use Rattle.std.proofs.lemmas.List.{take_min, length-drop}
use Rattle.px_packet.proofs.piece.part_of.Goals as goal

pub returns : goal.returns
returns c =
    let m = c.args.datagram.now in
    let b = 1160 * c.args.index in
    let e : c.min-end.result - b ≡ min 1160 (length (drop b m)) =
    grind (arith, c.min-end.ensures, length-drop b m, c.requires.inside) in
    ap (λ i. take i (drop b m)) e ∙ take_min 1160 (drop b m)
