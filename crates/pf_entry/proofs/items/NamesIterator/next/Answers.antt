use Rattle.std.proofs.Common.{◌≡◌, ◌-◌, ◌∷◌, length, ap, arith}
use Rattle.std.proofs.lemmas.Grind.{common_steps}
use Rattle.pf_entry.specs.Reading.{name_at, names_at, first_or_none}
use Rattle.pf_entry.proofs.Lists.{next_is, next_spelled, none_left, none_at_0}
use Rattle.pf_entry.proofs.items.NamesIterator.next.Goals as goal

pub returns-then-self-eq0-clause-steps : goal.returns-then-self-eq0-clause-steps
returns-then-self-eq0-clause-steps c =
    let e = none_at_0 name_at c.args.self.now.count c.args.self.now.bytes.now c.if-self-eq0.true in
    (e, e)

pub returns-in_err-name-clause-steps : goal.returns-in_err-name-clause-steps
returns-in_err-name-clause-steps c =
    let e = none_left name_at c.args.self.now.count c.args.self.now.bytes.now c.in_err-name.ensures in
    rw c.from_residual.ensures (e, e)

pub invariant_of-self : goal.invariant_of-self
invariant_of-self c = record { few = omega (arith, c.args.self.now.few); spelled = next_spelled name_at c.args.self.now.count c.args.self.now.bytes.now c.in_ok-name.name.now c.in_ok-name.rest.now c.if-self-eq0.false c.args.self.now.spelled c.in_ok-name.ensures }

pub returns-clause-steps : goal.returns-clause-steps
returns-clause-steps c = next_is name_at c.args.self.now.count c.args.self.now.bytes.now c.in_ok-name.name.now c.in_ok-name.rest.now c.if-self-eq0.false c.args.self.now.spelled c.in_ok-name.ensures

pub returns-clause-goes : goal.returns-clause-goes
returns-clause-goes c =
    let e = next_is name_at c.args.self.now.count c.args.self.now.bytes.now c.in_ok-name.name.now c.in_ok-name.rest.now c.if-self-eq0.false c.args.self.now.spelled c.in_ok-name.ensures in
    let k : length (first_or_none (names_at c.args.self.now.count c.args.self.now.bytes.now)) ≡ length (c.in_ok-name.name.now ∷ first_or_none (names_at (c.args.self.now.count - 1) c.in_ok-name.rest.now)) = ap length e in
    grind (arith, common_steps, k)
