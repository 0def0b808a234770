use Rattle.std.proofs.Common.{◌∙◌, Bool, ap, inl, map}
use Rattle.std.specs.Prelude.{not}
use Rattle.cli_io.proofs.Given.{ran_out}
use Rattle.cli_node.specs.Arguments.{net_app}
use Rattle.cli_node.proofs.Commands.{given_parsed, given_refused, written, unwritten}
use Rattle.cli_node.proofs.Settled.{none_added}
use Rattle.cli_node.proofs.running.run_net.Goals as goal

-- out of memory
pub returns-in_default : goal.returns-in_default
returns-in_default g c = inl (
  (
    none_added (g.N.Nodes.did c.args.nodes.now),
    (none_added (g.C.Client.went c.args.client.now), none_added (g.F.NewFiles.made c.args.files.now)),
  ),
  ran_out _ _ _ c.out_of_memory.ensures.ends c.out_of_memory.ensures.failed,
)

-- the arguments are refused
pub returns-in-Err : goal.returns-in-Err
returns-in-Err g c =
    let arguments = map g.S.AsStr.text c.args.arguments.now in
    let same = c.in-Ok.ensures ∙ ap (λ (b : Bool). net_app (not b)) c.names_config.ensures in
    given_refused _ _ _ _ _ _ _ arguments c.in-Err.error c.misused.result _ _
    (none_added (g.N.Nodes.did c.args.nodes.now)) (none_added (g.C.Client.went c.args.client.now))
    (none_added (g.F.NewFiles.made c.args.files.now)) same
    c.in-Err.ensures.kinds c.misused.ensures.ran c.misused.ensures.memory c.misused.ensures.failed

pub returns-in-Some : goal.returns-in-Some
returns-in-Some g c =
    let arguments = map g.S.AsStr.text c.args.arguments.now in
    let same = c.in-Ok.ensures ∙ ap (λ (b : Bool). net_app (not b)) c.names_config.ensures in
    let matches = c.in-Ok-try_get_matches_from in
    written _ _ _ _ _ _ _ _ c.in-Some.outcome _ _ _
    (given_parsed _ arguments matches.matches same matches.ensures.kinds matches.ensures.matches) c.in-Some.ensures
    c.write_outcome.ensures

-- another subcommand
pub returns : goal.returns
returns g c =
    let arguments = map g.S.AsStr.text c.args.arguments.now in
    let same = c.in-Ok.ensures ∙ ap (λ (b : Bool). net_app (not b)) c.names_config.ensures in
    let matches = c.in-Ok-try_get_matches_from in
    unwritten _ _ _ _ _ _ _ _ _
    (given_parsed _ arguments matches.matches same matches.ensures.kinds matches.ensures.matches) c.in-None.ensures
