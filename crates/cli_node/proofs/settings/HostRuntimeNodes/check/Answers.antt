-- whatever was refused
use Rattle.cli_node.proofs.Settled.{checked_so}
use Rattle.cli_node.proofs.settings.HostRuntimeNodes.check.Goals as goal

pub returns : goal.returns
returns c es h = checked_so _ _ es c.args.arguments c.check_node.result h (
  c.check_node.ensures.place,
  c.check_node.ensures.store,
  c.check_node.ensures.beyond,
)
