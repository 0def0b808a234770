use Rattle.std.proofs.Common.{◌≡◌, replicate}
use Rattle.px_packet.proofs.window.Window.new.Given as goal

abbrev pub invariant-loop : goal.invariant-loop
invariant-loop l = l.last.items ≡ replicate l.counter 0
