-- What a sender in code shows.
use Rattle.std.specs.Prelude.{List}
use Rattle.px_packet.specs.Keyed.{key_of}
use Rattle.px_transport.specs.declared.sender.Sender.{Sender}
use Rattle.px_transport.specs.Sending as sending
use Rattle.px_transport.specs.Sending.{ToMember}

-- who seals
abbrev pub sealer_of : Sender → sending.Sealer
sealer_of s =
    record { cluster = s.cluster; members = s.members; me = s.me; start = s.start; key = key_of s.keys }

-- what it has of each member
abbrev pub outgoing_of : Sender → List ToMember
outgoing_of s = s.outgoing.items
