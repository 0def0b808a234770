use Rattle.pf_command.specs.Effect.{after}
use Rattle.pfx_laws.proofs.Logs.{log_map, map_targets}
use Rattle.pfx_laws.proofs.Backwards.{none_leads_back}
use Rattle.pfx_laws.proofs.nftables.logs_never_lead_back.Goals as goal

pub returns : goal.returns
returns c = λ es k. none_leads_back (after es) (map_targets (after es) (log_map es k))
