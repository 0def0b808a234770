use Rattle.pfx_laws.proofs.Sealing as lemmas
use Rattle.pfx_laws.proofs.nodes.equally_applied_at_sealed_sockets.Goals as goal

pub returns : goal.returns
returns g c = lemmas.equally_applied_at_sockets g.R.Records g.Q.Records c.sealed_is_carried.ensures
