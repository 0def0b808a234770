use Rattle.std.proofs.Common.{◌≡◌, Err, subst, sym, arith, rules}
use Rattle.cli_ask.specs.Asking.{Answered, AskedVerdicts, answer_value}
use Rattle.cli_ask.specs.Calls.{call_value}
use Rattle.cli_ask.proofs.Parts.{anew_none, anew_more, anew_given, anew_spent}
use Rattle.cli_ask.proofs.asking.Asking.verdicts.Goals as goal

pub loop-beginning-init : goal.loop-beginning-init
loop-beginning-init g c = anew_none (g.C.Control.exchanged c.args.control.now) (call_value c.args.call.now) c.args.self.now.is_once c.args.self.now.deadline.seconds

pub returns-in_err-reply : goal.returns-in_err-reply
returns-in_err-reply g c =
    let e : answer_value c.from_residual.result ≡ Err c.in_err-reply.field-0.0 = search rules in
    subst (λ (v : Answered). AskedVerdicts (g.C.Control.exchanged c.args.control.now) (g.C.Control.exchanged c.parts.new.control) (call_value c.args.call.now) c.args.self.now.is_once c.args.self.now.deadline.seconds v) (sym e)
    (anew_given (g.C.Control.exchanged c.args.control.now) (g.C.Control.exchanged c.loop-beginning.control) (g.C.Control.exchanged c.parts.new.control)
    (call_value c.args.call.now) c.args.self.now.is_once c.args.self.now.deadline.seconds c.loop-beginning._beginning (Err c.in_err-reply.field-0.0) c.loop-beginning.invariant (omega arith) c.in_err-reply.ensures)

pub returns-in-Some : goal.returns-in-Some
returns-in-Some g c =
    anew_given (g.C.Control.exchanged c.args.control.now) (g.C.Control.exchanged c.loop-beginning.control) (g.C.Control.exchanged c.parts.new.control)
    (call_value c.args.call.now) c.args.self.now.is_once c.args.self.now.deadline.seconds c.loop-beginning._beginning _ c.loop-beginning.invariant (omega arith) (rw c.in-Some.is at c.in_ok-reply.ensures)

pub loop-beginning-preserved : goal.loop-beginning-preserved
loop-beginning-preserved g c =
    anew_more (g.C.Control.exchanged c.args.control.now) (g.C.Control.exchanged c.loop-beginning.control) (g.C.Control.exchanged c.parts.new.control)
    (call_value c.args.call.now) c.args.self.now.is_once c.args.self.now.deadline.seconds c.loop-beginning._beginning c.loop-beginning.invariant (rw c.in_default.is at c.in_ok-reply.ensures)

pub returns : goal.returns
returns g c =
    anew_spent (g.C.Control.exchanged c.args.control.now) (g.C.Control.exchanged c.loop-beginning.control)
    (call_value c.args.call.now) c.args.self.now.is_once c.args.self.now.deadline.seconds c.loop-beginning._beginning c.loop-beginning.invariant (omega arith)
