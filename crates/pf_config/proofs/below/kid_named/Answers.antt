use Rattle.std.proofs.Common.{◌≡◌, ◌∙◌, ap, Some, ◌-◌, length, take, drop, sym, rules}
use Rattle.pf_config.proofs.Ordered.{cons_is}
use Rattle.pf_config.proofs.KidHalves.{kid_halves}
use Rattle.pf_config.proofs.below.kid_named.Goals as goal

pub returns-in-Equal : goal.returns-in-Equal
returns-in-Equal c =
    let back = c.split_at.result.1.now in
    let cut = sym c.split_at.ensures.back ∙ sym (cons_is back c.middle-item.result c.in-len1-up.len_at_least c.middle-item.is) in
    let half = kid_halves c.args.name.now c.min.result c.loop-left.left.now c.middle-item.result (take (length back - 1) (drop 1 back)) c.loop-left.invariant.ordered cut in
    let same : c.deref-in-Equal.result.now ≡ c.middle-item.result.value = search rules in
    ap Some same ∙ sym (half.here (search rules)) ∙ c.loop-left.invariant.found

pub loop-left-preserved-in-Less : goal.loop-left-preserved-in-Less
loop-left-preserved-in-Less c =
    let back = c.split_at.result.1.now in
    let cut = sym c.split_at.ensures.back ∙ sym (cons_is back c.middle-item.result c.in-len1-up.len_at_least c.middle-item.is) in
    let half = kid_halves c.args.name.now c.min.result c.loop-left.left.now c.middle-item.result (take (length back - 1) (drop 1 back)) c.loop-left.invariant.ordered cut in
    record { found = sym (half.back (search rules)) ∙ c.loop-left.invariant.found; ordered = half.in_order_behind }

pub loop-left-preserved : goal.loop-left-preserved
loop-left-preserved c =
    let back = c.split_at.result.1.now in
    let cut = sym c.split_at.ensures.back ∙ sym (cons_is back c.middle-item.result c.in-len1-up.len_at_least c.middle-item.is) in
    let half = kid_halves c.args.name.now c.min.result c.loop-left.left.now c.middle-item.result (take (length back - 1) (drop 1 back)) c.loop-left.invariant.ordered cut in
    rw c.split_at.ensures.front (record { found = sym (half.first (search rules)) ∙ c.loop-left.invariant.found; ordered = half.in_order_first })
