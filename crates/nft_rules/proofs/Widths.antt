-- The last address of a prefix is one of its family.
use Rattle.std.proofs.Common.{◌≡◌, ℕ, suc, ◌+◌, ◌-◌, ◌*◌, ◌/◌, ◌^◌, ◌<◌, ◌≤◌, subst, ap, ◌∙◌, arith}
use Rattle.std.proofs.lemmas.Nat.{pow_pos, pow-add, div_below}
use Rattle.std.proofs.Math.Nat.{mul-le-mul_right}
use Rattle.pf_addr.specs.Blocks.{cleared}

pub last_fits : (w len a : ℕ) → len ≤ w → a < 2 ^ w → cleared w len a + (2 ^ (w - len) - 1) < 2 ^ w
last_fits w len a few fits =
    let whole : w ≡ len + (w - len) = omega (arith, few) in
    let parts : 2 ^ w ≡ 2 ^ len * 2 ^ (w - len) = ap (λ n. 2 ^ n) whole ∙ pow-add 2 len (w - len) in
    let some : 0 < 2 ^ (w - len) = pow_pos (w - len) in
    let below : a / 2 ^ (w - len) < 2 ^ len = div_below a (2 ^ (w - len)) (2 ^ len) some (subst (λ n. a < n) parts fits) in
    let more : suc (a / 2 ^ (w - len)) * 2 ^ (w - len) ≤ 2 ^ len * 2 ^ (w - len) = mul-le-mul_right (2 ^ (w - len)) below in
    let one : suc (a / 2 ^ (w - len)) * 2 ^ (w - len) ≡ a / 2 ^ (w - len) * 2 ^ (w - len) + 2 ^ (w - len) = omega arith in
    omega (arith, parts, more, one, some)
