use Rattle.pfx_laws.proofs.Logs.{spelled_paths}
use Rattle.pfx_laws.proofs.maps.spelled_logs_have_paths.Goals as goal

pub returns : goal.returns
returns c = λ es h. spelled_paths es h
