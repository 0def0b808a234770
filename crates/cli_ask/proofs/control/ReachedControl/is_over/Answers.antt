use Rattle.cli_ask.proofs.Exchanges.{exchanged_never}
use Rattle.cli_ask.proofs.control.ReachedControl.is_over.Goals as goal

pub returns : goal.returns
returns g c =
    exchanged_never g.D.Dial.dialed g.D.Dial.is_refused g.D.Dial.is_new g.D.Stream.Write.contents g.D.Stream.Read.remaining c.args.self.now.dial c.args.self.now.dial
    c.args.deadline.seconds c.is_err.result
