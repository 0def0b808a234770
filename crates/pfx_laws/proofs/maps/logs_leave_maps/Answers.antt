use Rattle.pfx_laws.proofs.Logs.{log_map}
use Rattle.pfx_laws.proofs.maps.logs_leave_maps.Goals as goal

pub returns : goal.returns
returns c = λ es k. log_map es k
