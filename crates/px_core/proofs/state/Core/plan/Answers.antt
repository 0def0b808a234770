use Rattle.px_core.specs.Planning.{state_in, state_of, volatile_after, planned}
use Rattle.px_core.proofs.Spelled.{answer_fits}
use Rattle.px_core.proofs.state.Core.plan.Goals as goal

pub returns-clause-fits : goal.returns-clause-fits
unfolding state_of volatile_after
returns-clause-fits c test fits handed =
    let v = c.args.self.now in
    answer_fits test (state_in v) (state_in c.plan_event.new.self) c.args.meta.now c.args.slot.now c.args.top c.args.event.now v.few v.member fits handed c.plan_event.ensures.state (planned c.plan_event.new.self) _ c.plan_event.result c.plan_event.ensures.step
