use Rattle.std.specs.Prelude.{codes}
use Rattle.node_requests.proofs.Behind.{part_is}
use Rattle.node_requests.proofs.routing.behind.Goals as goal

pub returns : goal.returns
returns c = part_is (codes "/v1/requests/") c.args.path.now c.strip_prefix.result c.strip_prefix.ensures.cases
