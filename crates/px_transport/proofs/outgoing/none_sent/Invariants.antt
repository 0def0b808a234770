-- n were made
use Rattle.std.proofs.Common.{◌≡◌, replicate}
use Rattle.px_transport.specs.Sending.{new_to}
use Rattle.px_transport.proofs.outgoing.none_sent.Given as goal

abbrev pub invariant-loop : goal.invariant-loop
invariant-loop l = l.outgoing.items ≡ replicate l.counter new_to
