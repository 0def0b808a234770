use Rattle.pf_command.specs.Effect.{after}
use Rattle.pfx_laws.proofs.Logs.{log_map, map_targets}
use Rattle.pfx_laws.proofs.maps.logs_have_targets.Goals as goal

pub returns : goal.returns
returns c = λ es k. map_targets (after es) (log_map es k)
