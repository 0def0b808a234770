-- what the subcommand gives that is named
use Rattle.std.proofs.Common.{sym}
use Rattle.clap.specs.Words.{found_of, rows_of}
use Rattle.cli_node.proofs.Commands.{node_given}
use Rattle.cli_node.proofs.Settled.{none_added}
use Rattle.cli_node.proofs.running.outcome_of.Goals as goal

pub returns-in-Some : goal.returns-in-Some
returns-in-Some g c =
    let inner = c.in-Some.inner.now in
    node_given _ _ _ _ _ _ _ _ _ (rows_of (found_of inner)) _ (sym c.in-Some.ensures)
    (none_added (g.C.Client.went c.args.client.now)) (none_added (g.F.NewFiles.made c.args.files.now))
    c.settled_outcome.ensures
