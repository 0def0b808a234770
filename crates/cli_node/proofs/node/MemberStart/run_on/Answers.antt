-- what the run gave, or what it failed of
use Rattle.std.proofs.Common.{◌∙◌, ap, false, sym, subst}
use Rattle.std.specs.Prelude.{is_some}
use Rattle.sqlite.specs.Files.{file_state}
use Rattle.cli_node.specs.declared.outcome.Outcome.{Outcome}
use Rattle.cli_node.specs.Endings.{ending_of, is_beyond}
use Rattle.cli_node.specs.Stores.{IsStoreless}
use Rattle.cli_node.proofs.Beyond as beyond
use Rattle.cli_node.proofs.Endings.{of_run, of_ending}
use Rattle.cli_node.proofs.node.MemberStart.run_on.Goals as goal

pub returns-clause-store : goal.returns-clause-store
returns-clause-store g c = λ file new.
    subst (λ (o : Outcome). IsStoreless file new o) (sym c.ending_of-outcome.ensures.is)
    (of_ending _ _ (of_run _ _ _ _ _ c.run_member_in-outcome.ensures.hosted) file new)

pub returns-clause-ran : goal.returns-clause-ran
returns-clause-ran g c = (
  c.run_member_in-outcome.result.0,
  c.run_member_in-outcome.result.1,
  c.ending_of-outcome.ensures.is ∙ ap (ending_of c.run_member_in-outcome.result.0) c.failures.ensures,
  subst (λ (conn : _). g.D.Databases.closed c.args.self.now.start.dbs.now (file_state conn)) c.release.ensures c.close.ensures,
  c.run_member_in-outcome.ensures.hosted,
  c.run_member_in-outcome.ensures.ran,
)

pub returns-clause-beyond : goal.returns-clause-beyond
returns-clause-beyond g c =
    ap (is_beyond false (is_some c.args.self.now.start.arguments.control)) c.ending_of-outcome.ensures.is
    ∙ beyond.of_ending (is_some c.args.self.now.start.arguments.control) c.run_member_in-outcome.result.0 c.failures.result
    (beyond.of_member _ _ _ _ _ c.args.self.now.start.arguments.control c.run_member_in-outcome.ensures.hosted
    c.run_member_in-outcome.ensures.turns)
