use Rattle.std.proofs.Common.{◌≡◌, arith, ◌∙◌}
use Rattle.std.proofs.lemmas.Grind.{common_steps}
use Rattle.px_packet.proofs.Apart.{shows_more, shows_all}
use Rattle.px_packet.proofs.key.is_same.Goals as goal

pub loop-i-preserved : goal.loop-i-preserved
loop-i-preserved c = shows_more _ _ _ _ c.loop-i.invariant

pub returns : goal.returns
returns c =
    let n : 16 ≡ c.loop-i.i = omega arith in
    let all = shows_all c.loop-i.apart _ _ c.loop-i.i (c.told-a ∙ n) (c.told-b ∙ n) c.loop-i.invariant in
    grind (arith, common_steps, all)
