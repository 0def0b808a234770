use Rattle.std.proofs.Common.{sym, ◌∙◌}
use Rattle.pf_expansion.proofs.Walking.{walk_stops}
use Rattle.pf_expansion.proofs.numbers.Numbers.walk.Goals as goal

pub returns-in-None : goal.returns-in-None
returns-in-None c =
    walk_stops c.args.self.now.steps c.loop-name.at c.args.names.now c.loop-name.name-index c.name-item.result c.in_ok-next.field-0 c.loop-name-test.true c.name-item.is c.in_ok-next.ensures c.in-None.is ∙ sym c.loop-name.invariant
