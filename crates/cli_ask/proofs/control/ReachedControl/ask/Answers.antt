use Rattle.std.proofs.Common.{◌≡◌, Err, rules, subst, sym}
use Rattle.cli_ask.specs.Calls.{call_value}
use Rattle.cli_ask.specs.Asking.{Answered, answer_value}
use Rattle.cli_ask.specs.Exchanges.{HasExchange}
use Rattle.cli_ask.proofs.Begun.{exchanged, unanswered}
use Rattle.cli_ask.proofs.Exchanges.{exchanged_once}
use Rattle.cli_ask.proofs.control.ReachedControl.ask.Goals as goal

-- nobody answered
pub returns-in_err-exchange : goal.returns-in_err-exchange
returns-in_err-exchange g c =
    let e : answer_value c.from_residual.result ≡ Err c.in_err-exchange.field-0.0 = search rules in
    exchanged_once g.D.Dial.dialed g.D.Dial.is_refused g.D.Dial.is_new g.D.Stream.Write.contents g.D.Stream.Read.remaining c.args.self.now.dial c.exchange.new.control
    c.args.deadline.seconds (call_value c.args.call.now) (answer_value c.from_residual.result) c.exchange.ensures.dialed
    (subst (λ (a : Answered). HasExchange g.D.Dial.is_refused g.D.Dial.is_new g.D.Stream.Write.contents g.D.Stream.Read.remaining (call_value c.args.call.now) a) (sym e)
    (unanswered g.D.Dial.is_refused g.D.Dial.is_new g.D.Stream.Write.contents g.D.Stream.Read.remaining (call_value c.args.call.now) c.exchange.new.control c.in_err-exchange.field-0.0
    c.in_err-exchange.ensures.none))

-- an answer that can't be printed is a bad one
pub returns : goal.returns
returns g c =
    exchanged_once g.D.Dial.dialed g.D.Dial.is_refused g.D.Dial.is_new g.D.Stream.Write.contents g.D.Stream.Read.remaining c.args.self.now.dial c.exchange.new.control
    c.args.deadline.seconds (call_value c.args.call.now) (answer_value c.printable.result) c.exchange.ensures.dialed
    (exchanged g.D.Dial.is_refused g.D.Dial.is_new g.D.Stream.Write.contents g.D.Stream.Read.remaining (call_value c.args.call.now) c.in_ok-exchange.field-0 c.printable.result
    c.in_ok-exchange.ensures.answer c.printable.ensures.value c.printable.ensures.some)
