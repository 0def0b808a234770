-- what is refused is the model's refusal
use Rattle.std.proofs.Common.{◌≡◌, sym, subst}
use Rattle.std.specs.Prelude.{IfOk}
use Rattle.px_model.specs.Entries.{view_of}
use Rattle.px_model.specs.Node.{Input}
use Rattle.px_model.specs.Node.Input.{Asks, Ticks}
use Rattle.px_model.specs.Spelling.{Bytes}
use Rattle.px_wire.specs.Message.{group}
use Rattle.px_replica.specs.Made.{answer}
use Rattle.pf_node.specs.Nodes.{state_in, membership_of}
use Rattle.pf_lab.specs.inner.Coming.{IsInput}
use Rattle.pf_lab.specs.Outcomes.{outcome_of}
use Rattle.pf_lab.specs.declared.coming.What.{What}
use Rattle.pf_lab.proofs.host.Host.take.Goals as goal

pub returns-in-Err-clause-reported : goal.returns-in-Err-clause-reported
returns-in-Err-clause-reported c x is =
    let n = c.args.self.now.node in
    let p = membership_of n in
    let meta = (state_in n).stored.meta in
    let command = (view_of c.in-Ask.entry).command in
    let asks : x ≡ Asks command = subst (λ (w : What). IsInput (group p) p.me w x) c.in-Ask.is is in
    subst (λ (y : Input Bytes). IfOk c.refused.result (λ o. o ≡ outcome_of meta y (answer p.members p.me (state_in n) y))) (sym asks)
    (c.refused.ensures.asks (answer p.members p.me (state_in n) (Asks command)) meta command (c.in-Err.ensures.call.refused tt))

pub returns-in-Err-tick-clause-reported : goal.returns-in-Err-tick-clause-reported
returns-in-Err-tick-clause-reported c x is =
    let n = c.args.self.now.node in
    let p = membership_of n in
    let meta = (state_in n).stored.meta in
    let ticks : x ≡ Ticks = subst (λ (w : What). IsInput (group p) p.me w x) c.in-Tick.is is in
    subst (λ (y : Input Bytes). IfOk c.refused-in-Err-tick.result (λ o. o ≡ outcome_of meta y (answer p.members p.me (state_in n) y))) (sym ticks)
    (c.refused-in-Err-tick.ensures.ticks (answer p.members p.me (state_in n) Ticks) meta (c.in-Err-tick.ensures.call.refused tt))
