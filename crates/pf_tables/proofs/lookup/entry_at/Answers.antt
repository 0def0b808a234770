use Rattle.std.proofs.Common.{◌∙◌, ◌-◌, ◌/◌, length, take, drop, sym, rules}
use Rattle.pf_tables.proofs.Lookups.{halves, cons_is, none_found}
use Rattle.pf_tables.proofs.lookup.entry_at.Goals as goal

pub returns-in-Equal : goal.returns-in-Equal
returns-in-Equal c =
    let back = c.split_at.result.1.now in
    let cut = sym c.split_at.ensures.back ∙ sym (cons_is back c.middle-item.result c.in-len1-up.len_at_least c.middle-item.is) in
    let half = halves c.args.prefix.now (length c.loop-left.left.now / 2) c.loop-left.left.now c.middle-item.result (take (length back - 1) (drop 1 back)) c.loop-left.invariant.ordered cut in
    sym (half.here (search rules)) ∙ c.loop-left.invariant.found

pub loop-left-preserved-in-Less : goal.loop-left-preserved-in-Less
loop-left-preserved-in-Less c =
    let back = c.split_at.result.1.now in
    let cut = sym c.split_at.ensures.back ∙ sym (cons_is back c.middle-item.result c.in-len1-up.len_at_least c.middle-item.is) in
    let half = halves c.args.prefix.now (length c.loop-left.left.now / 2) c.loop-left.left.now c.middle-item.result (take (length back - 1) (drop 1 back)) c.loop-left.invariant.ordered cut in
    record { found = sym (half.back (search rules)) ∙ c.loop-left.invariant.found; ordered = half.ordered_behind }

pub loop-left-preserved : goal.loop-left-preserved
loop-left-preserved c =
    let back = c.split_at.result.1.now in
    let cut = sym c.split_at.ensures.back ∙ sym (cons_is back c.middle-item.result c.in-len1-up.len_at_least c.middle-item.is) in
    let half = halves c.args.prefix.now (length c.loop-left.left.now / 2) c.loop-left.left.now c.middle-item.result (take (length back - 1) (drop 1 back)) c.loop-left.invariant.ordered cut in
    rw c.split_at.ensures.front (record { found = sym (half.first (search rules)) ∙ c.loop-left.invariant.found; ordered = half.ordered_first })

pub returns : goal.returns
returns c = none_found c.args.prefix.now c.loop-left.left.now c.args.entries.now (search rules) c.loop-left.invariant.found
