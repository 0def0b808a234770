-- the core answers as the member with its record
use Rattle.px_core.specs.Planning.{state_of}
use Rattle.px_replica.proofs.Planned.{answered}
use Rattle.px_replica.proofs.member.Member.plan.Goals as goal

pub returns-clause-answer : goal.returns-clause-answer
returns-clause-answer c d agree is =
    let m = c.args.self.now in
    answered (state_of m.core) m.group.members m.group.me c.plan.new.self d c.args.seen.now c.args.event.now m.members m.me c.plan.ensures.state c.plan.result c.plan.ensures.step agree is
