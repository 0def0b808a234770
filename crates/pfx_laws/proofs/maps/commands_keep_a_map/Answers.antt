use Rattle.pfx_laws.proofs.Logs.{command_keeps}
use Rattle.pfx_laws.proofs.maps.commands_keep_a_map.Goals as goal

pub returns : goal.returns
returns c = λ conf command h k. command_keeps conf command h k
