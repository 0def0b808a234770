-- none so far has the name
use Rattle.std.proofs.Common.{◌≡◌, ◌+◌, drop}
use Rattle.std.specs.Prelude.{◌==◌}
use Rattle.std.specs.List.{position_or_len}
use Rattle.px_packet.proofs.send_buffer.place_with.Given as goal

abbrev pub invariant-loop-i : goal.invariant-loop-i
invariant-loop-i l =
    l.i + position_or_len (λ c. c.0 == l.name) (drop l.i l.cuts) ≡ position_or_len (λ c. c.0 == l.name) l.cuts
