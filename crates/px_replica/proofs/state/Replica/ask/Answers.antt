-- nothing is sent
use Rattle.px_model.specs.Entries.{view_of}
use Rattle.px_replica.proofs.Called.{ask_call}
use Rattle.px_replica.proofs.state.Replica.ask.Goals as goal

pub returns-clause-call : goal.returns-clause-call
returns-clause-call g c =
    ask_call c.args.self.now c.step.new.self (view_of c.args.entry.now).command c.new-nothing.result.items c.step.new.out.items _ c.step.ensures.call
