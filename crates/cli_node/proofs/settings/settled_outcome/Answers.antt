-- the settings are those of the file that is named, or none
use Rattle.std.proofs.Common.{inl, subst}
use Rattle.clap.specs.Words.{found_of, rows_of}
use Rattle.cli_node.specs.Doing.{Adds}
use Rattle.cli_node.specs.Settled.{AreSettings, IsUnsettled}
use Rattle.cli_node.proofs.Settled.{none_added, with_settings}
use Rattle.cli_node.proofs.settings.settled_outcome.Goals as goal

pub returns-in-Ok : goal.returns-in-Ok
returns-in-Ok g c =
    with_settings (Adds (g.N.Nodes.did c.args.nodes.now) (g.N.Nodes.did c.outcome_with.new.nodes))
    (g.RT.Sources.has c.args.rt.now) (rows_of (found_of c.args.matches.now)) c.in-Ok.file c.outcome_with.result
    (subst (λ (n : _). AreSettings (g.RT.Sources.has c.args.rt.now) n c.in-Ok.file) c.value_in.ensures
    c.in-Ok.ensures.settings) c.outcome_with.ensures

pub returns-in-Err : goal.returns-in-Err
returns-in-Err g c = inl (
  none_added (g.N.Nodes.did c.args.nodes.now),
  subst (λ (n : _). IsUnsettled (g.RT.Sources.has c.args.rt.now) n c.in-Err.outcome) c.value_in.ensures
      c.in-Err.ensures.refused,
)
