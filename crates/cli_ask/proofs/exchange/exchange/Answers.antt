-- the request was sent, and what came is no answer
use Rattle.std.proofs.Common.{Err, ap, rules}
use Rattle.cli_ask.specs.Calls.{call_value}
use Rattle.cli_ask.specs.Replies.{IsUnanswered}
use Rattle.cli_ask.specs.declared.exchange.AskFault.TheVariants as fault
use Rattle.cli_ask.proofs.Begun.{unread}
use Rattle.cli_ask.proofs.exchange.exchange.Goals as goal

pub returns-clause-none : goal.returns-clause-none
returns-clause-none g c =
    let bad : IsUnanswered g.D.Dial.is_new g.D.Stream.Write.contents (g.D.Dial.is_refused c.dial.new.self) (call_value c.args.call.now) fault.BadAnswer = search rules in
    unread g.D.Dial.is_new g.D.Stream.Write.contents (g.D.Dial.is_refused c.dial.new.self) (call_value c.args.call.now) c.in-Err.fault (λ e. c.in-Err.ensures.some (ap Err e)) bad
