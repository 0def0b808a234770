-- what is left of the list is behind what was written
use Rattle.std.proofs.Common.{◌≡◌, ◌++◌, map, drop}
use Rattle.px_packet.specs.Groups.{group_bytes, sized}
use Rattle.px_packet.proofs.group.group_bytes.Given as goal

abbrev pub invariant-loop-text : goal.invariant-loop-text
invariant-loop-text l =
    l.bytes.items ++ sized (map (λ t. t.now) (drop l.text-index l.members)) ≡ group_bytes l.cluster (map (λ t. t.now) l.members)
