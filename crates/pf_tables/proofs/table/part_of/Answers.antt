use Rattle.std.proofs.Common.{◌≡◌, ◌∙◌, [], sym, rules, subst, drop, ◌+◌}
use Rattle.std.specs.Prelude.{filter}
use Rattle.pf_tables.specs.Tables.{is_of}
use Rattle.pf_tables.specs.Parts.{joined, ArePartsBefore}
use Rattle.pf_tables.proofs.Parting.{next_part, part_here, part_passed}
use Rattle.pf_tables.proofs.table.part_of.Goals as goal

pub returns-then-is_key : goal.returns-then-is_key
returns-then-is_key c =
    let p = c.part-item.result in
    let ps = drop (c.loop-part.part-index + 1) c.args.parts.now in
    let e = next_part c.args.parts.now c.loop-part.part-index p (search rules) c.part-item.is in
    let a = subst (λ r. ArePartsBefore r []) e c.loop-part.invariant.apart in
    let f = subst (λ r. filter (is_of c.args.v6 c.args.len) (joined r) ≡ filter (is_of c.args.v6 c.args.len) (joined c.args.parts.now)) e c.loop-part.invariant.found in
    c.deref.ensures.value ∙ sym (part_here p ps c.args.v6 c.args.len a (sym c.is_key.ensures ∙ c.if-is_key.true)) ∙ f

pub loop-part-preserved : goal.loop-part-preserved
loop-part-preserved c =
    let p = c.part-item.result in
    let ps = drop (c.loop-part.part-index + 1) c.args.parts.now in
    let e = next_part c.args.parts.now c.loop-part.part-index p (search rules) c.part-item.is in
    let a = subst (λ r. ArePartsBefore r []) e c.loop-part.invariant.apart in
    let f = subst (λ r. filter (is_of c.args.v6 c.args.len) (joined r) ≡ filter (is_of c.args.v6 c.args.len) (joined c.args.parts.now)) e c.loop-part.invariant.found in
    record { found = sym (part_passed p ps c.args.v6 c.args.len a (sym c.is_key.ensures ∙ c.if-is_key.false)) ∙ f; apart = a.3 }
