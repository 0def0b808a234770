-- a name with a port has a colon
use Rattle.std.proofs.Common.{arith, inl, rules}
use Rattle.node_udp.proofs.Finding.{no_port}
use Rattle.node_udp.proofs.host.find.Goals as goal

pub returns-in_err-host-clause-unfound : goal.returns-in_err-host-clause-unfound
returns-in_err-host-clause-unfound g c e = (
  search rules,
  inl (no_port c.args.text.now (c.in_err-host.ensures.byte (omega arith) (λ w o h. h))),
)
