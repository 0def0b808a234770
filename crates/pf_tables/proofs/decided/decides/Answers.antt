use Rattle.std.proofs.Common.{◌≡◌, ◌≤◌, ◌∙◌, length, get_or, sym, refl, rules, subst}
use Rattle.pf_tables.specs.inner.Tables.{last_with}
use Rattle.pf_tables.proofs.Deciding.{each_part, one_step, nothing_left, some_last, none_last}
use Rattle.pf_tables.proofs.decided.decides.Goals as goal

pub loop-left-init : goal.loop-left-init
loop-left-init c = record { last = refl; parts = each_part c.args.parts.now c.requires }

pub in_part-requires : goal.in_part-requires
in_part-requires c =
    let p = c.part-item.result in
    let step = one_step c.args.addr c.loop-left.left.now p c.loop-left.invariant.parts (subst (λ r. 1 ≤ length r) c.split_at.ensures.back c.in-len1-up.len_at_least) (subst (λ r. p ≡ get_or r 0 p) c.split_at.ensures.back c.part-item.is) in
    step.part

pub returns-in-Some : goal.returns-in-Some
returns-in-Some c =
    let p = c.part-item.result in
    let step = one_step c.args.addr c.loop-left.left.now p c.loop-left.invariant.parts (subst (λ r. 1 ≤ length r) c.split_at.ensures.back c.in-len1-up.len_at_least) (subst (λ r. p ≡ get_or r 0 p) c.split_at.ensures.back c.part-item.is) in
    let here = c.in_part.ensures in
    sym (some_last (last_with c.args.addr p.entries.items) _ c.in-Some.entry.now (search rules)) ∙ sym step.last ∙ c.loop-left.invariant.last

pub loop-left-preserved : goal.loop-left-preserved
loop-left-preserved c =
    let p = c.part-item.result in
    let step = one_step c.args.addr c.loop-left.left.now p c.loop-left.invariant.parts (subst (λ r. 1 ≤ length r) c.split_at.ensures.back c.in-len1-up.len_at_least) (subst (λ r. p ≡ get_or r 0 p) c.split_at.ensures.back c.part-item.is) in
    let here = c.in_part.ensures in
    rw c.split_at.ensures.front (record { last = sym (none_last (last_with c.args.addr p.entries.items) _ (search rules)) ∙ sym step.last ∙ c.loop-left.invariant.last; parts = step.front })

pub returns : goal.returns
returns c = nothing_left c.args.addr c.loop-left.left.now c.args.parts.now (search rules) c.loop-left.invariant.last
