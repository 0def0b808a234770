-- with those that are left it is that of all
use Rattle.std.proofs.Common.{◌≡◌, drop}
use Rattle.node_control.specs.inner.Clients.{earliest}
use Rattle.node_control.proofs.control.earliest.Given as goal

abbrev pub invariant-loop-client : goal.invariant-loop-client
invariant-loop-client l = earliest l.first (drop l.client-index l.clients) ≡ earliest 18446744073709551615 l.fn.clients
