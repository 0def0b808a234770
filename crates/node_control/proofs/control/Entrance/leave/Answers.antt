-- what was refused is counted
use Rattle.node_control.proofs.Asking.{serves_refusal}
use Rattle.node_control.proofs.control.Entrance.leave.Goals as goal

pub returns-in-Some-clause-serves : goal.returns-in-Some-clause-serves
returns-in-Some-clause-serves g c =
    serves_refusal c.in-Some.status c.args.service.now _ c.count.ensures.handler c.count.ensures.counted c.count.ensures.kept.listening
