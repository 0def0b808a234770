use Rattle.std.proofs.Common.{◌≡◌, ◌<◌, subst, true, length, rules, arith, get_or}
use Rattle.std.proofs.lemmas.List.Sums.{prefix_len-drop_yes}
use Rattle.pf_tables.specs.Tables.{is_of}
use Rattle.pf_tables.proofs.Parting.{blocks_take}
use Rattle.pf_tables.proofs.parted.front_len.Goals as goal

pub loop-entry-preserved : goal.loop-entry-preserved
loop-entry-preserved c =
    let e = c.entry-item.result in
    let es = c.args.entries.now in
    let i = c.loop-entry.entry-index in
    let below : i < length es = search rules in
    let own : is_of c.args.v6 c.args.len e ≡ true = search rules in
    let here : is_of c.args.v6 c.args.len (get_or es i e) ≡ true = subst (λ x. is_of c.args.v6 c.args.len x ≡ true) c.entry-item.is own in
    let step = prefix_len-drop_yes (is_of c.args.v6 c.args.len) es i e below here in
    let was = c.loop-entry.invariant.counted in
    let at = c.loop-entry.invariant.here in
    record {
      here = omega (arith, at);
      counted = omega (arith, step, was);
      blocks = blocks_take es i e below c.entry-item.is c.loop-entry.invariant.blocks c.is_of.ensures.block;
    }
