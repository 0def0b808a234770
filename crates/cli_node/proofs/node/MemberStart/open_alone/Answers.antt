-- the record is opened alone
use Rattle.std.proofs.Common.{[]}
use Rattle.node_loop.proofs.Hosted.{runs}
use Rattle.cli_node.proofs.node.MemberStart.open_alone.Goals as goal

pub returns-clause-hosted : goal.returns-clause-hosted
returns-clause-hosted g c =
    let r = runs _ _ _ _ _ _ _ (c.open_member-ended.ensures.ran []) in (
      [],
      r.0,
      c.open_member-ended.result.0,
      c.args.outcome,
      r.1,
      c.ended_outcome.ensures,
      c.requires.wireless,
    )

pub returns-clause-turns : goal.returns-clause-turns
returns-clause-turns g c = (
  [],
  c.open_member-ended.result.0,
  c.args.outcome,
  c.open_member-ended.ensures.ran [],
  c.ended_outcome.ensures,
  c.requires.wireless,
)

pub returns-clause-alone : goal.returns-clause-alone
returns-clause-alone g c = (
  c.open_member-ended.result.0,
  c.args.outcome,
  c.open_member-ended.ensures.wireless,
  c.open_member-ended.ensures.ran [],
  c.ended_outcome.ensures,
  c.requires.wireless,
)
