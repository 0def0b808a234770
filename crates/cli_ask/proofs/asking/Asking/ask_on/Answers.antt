use Rattle.std.proofs.Common.{◌∙◌, inl, inr, sym, arith, rules, tests}
use Rattle.cli_ask.specs.Calls.{call_value}
use Rattle.cli_ask.specs.Asking.{answer_value}
use Rattle.cli_ask.proofs.Series.{asked_never, asked_more, ended_answered, ended_over, ended_at_last, ok_value}
use Rattle.cli_ask.proofs.asking.Asking.ask_on.Goals as goal

pub loop-ask-init : goal.loop-ask-init
loop-ask-init g c = asked_never (g.C.Control.exchanged c.args.control.now) (call_value c.args.call.now) c.args.self.now.is_once c.args.self.now.deadline.seconds

-- nothing is left to ask, or it is asked once
pub returns-then-is_last : goal.returns-then-is_last
returns-then-is_last g c =
    ended_answered (g.C.Control.exchanged c.args.control.now) (g.C.Control.exchanged c.loop-ask.control) (g.C.Control.exchanged c.ask-found.new.self)
    (call_value c.args.call.now) c.args.self.now.is_once c.args.self.now.deadline.seconds c.loop-ask.is_waiting c.loop-ask.ask (answer_value c.ask-found.result)
    c.loop-ask.invariant c.ask-found.ensures (sym c.is_last.ensures ∙ c.if-is_last.true)

-- the time is over
pub returns-in_err-waiting-in-Err : goal.returns-in_err-waiting-in-Err
returns-in_err-waiting-in-Err g c =
    ended_over (g.C.Control.exchanged c.args.control.now) (g.C.Control.exchanged c.loop-ask.control) (g.C.Control.exchanged c.ask-found.new.self) (g.C.Control.exchanged c.is_over.new.self)
    (call_value c.args.call.now) c.args.self.now.is_once c.args.self.now.deadline.seconds c.loop-ask.is_waiting c.loop-ask.ask (answer_value c.ask-found.result) _
    c.loop-ask.invariant c.ask-found.ensures (rw c.if-is_over.true at c.is_over.ensures) (sym c.is_last.ensures ∙ c.if-is_last.false) (inr (search (rules, tests)))

pub returns-in_ok-waiting-in-Err : goal.returns-in_ok-waiting-in-Err
returns-in_ok-waiting-in-Err g c =
    ended_over (g.C.Control.exchanged c.args.control.now) (g.C.Control.exchanged c.loop-ask.control) (g.C.Control.exchanged c.ask-found.new.self) (g.C.Control.exchanged c.is_over.new.self)
    (call_value c.args.call.now) c.args.self.now.is_once c.args.self.now.deadline.seconds c.loop-ask.is_waiting c.loop-ask.ask (answer_value c.ask-found.result) _
    c.loop-ask.invariant c.ask-found.ensures (rw c.if-is_over.true at c.is_over.ensures) (sym c.is_last.ensures ∙ c.if-is_last.false) (inl (search (rules, tests)))

pub returns-in_default : goal.returns-in_default
returns-in_default g c =
    ended_over (g.C.Control.exchanged c.args.control.now) (g.C.Control.exchanged c.loop-ask.control) (g.C.Control.exchanged c.ask-found.new.self) (g.C.Control.exchanged c.is_over.new.self)
    (call_value c.args.call.now) c.args.self.now.is_once c.args.self.now.deadline.seconds c.loop-ask.is_waiting c.loop-ask.ask (answer_value c.ask-found.result) _
    c.loop-ask.invariant c.ask-found.ensures (rw c.if-is_over.true at c.is_over.ensures) (sym c.is_last.ensures ∙ c.if-is_last.false) (inl (search (rules, tests)))

pub returns-in_default-2 : goal.returns-in_default-2
returns-in_default-2 g c =
    ended_over (g.C.Control.exchanged c.args.control.now) (g.C.Control.exchanged c.loop-ask.control) (g.C.Control.exchanged c.ask-found.new.self) (g.C.Control.exchanged c.is_over.new.self)
    (call_value c.args.call.now) c.args.self.now.is_once c.args.self.now.deadline.seconds c.loop-ask.is_waiting c.loop-ask.ask (answer_value c.ask-found.result) _
    c.loop-ask.invariant c.ask-found.ensures (rw c.if-is_over.true at c.is_over.ensures) (sym c.is_last.ensures ∙ c.if-is_last.false) (inl (search (rules, tests)))

pub loop-ask-preserved : goal.loop-ask-preserved
loop-ask-preserved g c =
    asked_more (g.C.Control.exchanged c.args.control.now) (g.C.Control.exchanged c.loop-ask.control) (g.C.Control.exchanged c.ask-found.new.self) (g.C.Control.exchanged c.is_over.new.self)
    (call_value c.args.call.now) c.args.self.now.is_once c.args.self.now.deadline.seconds c.loop-ask.is_waiting c.is_ok-is_waiting.result c.loop-ask.ask (answer_value c.ask-found.result)
    c.loop-ask.invariant c.ask-found.ensures (rw c.if-is_over.false at c.is_over.ensures) (sym c.is_last.ensures ∙ c.if-is_last.false) (c.is_ok-is_waiting.ensures.value ∙ ok_value c.ask-found.result)

-- the last request of all
pub returns : goal.returns
returns g c =
    ended_at_last (g.C.Control.exchanged c.args.control.now) (g.C.Control.exchanged c.loop-ask.control) (g.C.Control.exchanged c.ask.new.self)
    (call_value c.args.call.now) c.args.self.now.is_once c.args.self.now.deadline.seconds c.loop-ask.is_waiting c.loop-ask.ask (answer_value c.ask.result)
    c.loop-ask.invariant c.ask.ensures (omega arith)
