-- the slots so far are 0
use Rattle.std.proofs.Common.{◌≡◌, ℕ, ◌<◌, get_or}
use Rattle.px_packet.proofs.window.Window.clear.Given as goal

abbrev pub invariant-loop-i : goal.invariant-loop-i
invariant-loop-i l = record { top : l.self.top ≡ 0; slots : (r : ℕ) → r < l.i → get_or l.self.last.items r 0 ≡ 0 }
