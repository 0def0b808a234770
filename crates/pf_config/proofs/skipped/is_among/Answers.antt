use Rattle.std.proofs.Common.{◌∙◌, ◌-◌, ◌/◌, length, take, drop, sym, rules}
use Rattle.pf_config.proofs.Ordered.{cons_is}
use Rattle.pf_config.proofs.SkippedNames.{name_halves}
use Rattle.pf_config.proofs.skipped.is_among.Goals as goal

pub returns-in-Equal : goal.returns-in-Equal
returns-in-Equal c =
    let back = c.split_at.result.1.now in
    let cut = sym c.split_at.ensures.back ∙ sym (cons_is back c.middle-item.result c.in-len1-up.len_at_least c.middle-item.is) in
    let half = name_halves c.args.name.now (length c.loop-name.left.now / 2) c.loop-name.left.now c.middle-item.result (take (length back - 1) (drop 1 back)) c.loop-name.invariant.rising cut in
    sym (half.here (search rules)) ∙ c.loop-name.invariant.found

pub loop-name-preserved-in-Less : goal.loop-name-preserved-in-Less
loop-name-preserved-in-Less c =
    let back = c.split_at.result.1.now in
    let cut = sym c.split_at.ensures.back ∙ sym (cons_is back c.middle-item.result c.in-len1-up.len_at_least c.middle-item.is) in
    let half = name_halves c.args.name.now (length c.loop-name.left.now / 2) c.loop-name.left.now c.middle-item.result (take (length back - 1) (drop 1 back)) c.loop-name.invariant.rising cut in
    record { found = sym (half.back (search rules)) ∙ c.loop-name.invariant.found; rising = half.rising_behind }

pub loop-name-preserved : goal.loop-name-preserved
loop-name-preserved c =
    let back = c.split_at.result.1.now in
    let cut = sym c.split_at.ensures.back ∙ sym (cons_is back c.middle-item.result c.in-len1-up.len_at_least c.middle-item.is) in
    let half = name_halves c.args.name.now (length c.loop-name.left.now / 2) c.loop-name.left.now c.middle-item.result (take (length back - 1) (drop 1 back)) c.loop-name.invariant.rising cut in
    rw c.split_at.ensures.front (record { found = sym (half.first (search rules)) ∙ c.loop-name.invariant.found; rising = half.rising_front })
