-- whatever turns were made
use Rattle.cli_node.proofs.Endings.{node_any}
use Rattle.cli_node.proofs.Settled.{ran_so}
use Rattle.cli_node.proofs.settings.HostRuntimeNodes.run.Goals as goal

pub returns : goal.returns
returns c es h = ran_so _ _ es c.args.arguments c.run_node.result h (
  c.run_node.ensures.place,
  node_any _ _ _ _ _ _ _ _ _ _ c.run_node.ensures.ran,
  c.run_node.ensures.ending,
  c.run_node.ensures.store,
  c.run_node.ensures.beyond,
)
