-- Worked examples.
use Rattle.std.specs.Prelude.{◌≡◌, ℕ, List, [], ◌∷◌, Some, None, refl}
use Rattle.px_packet.specs.declared.header.Header.{Header}
use Rattle.px_packet.specs.declared.kind.Kind.TheVariants as kinds
use Rattle.px_packet.specs.declared.fault.PacketFault.TheVariants as faults
use Rattle.px_packet.specs.Headers.{number, header_bytes, header_fault}

-- member 0 of the three of cluster 7 sends a whole datagram to member 1, whose start 4 it heard
abbrev pub header : Header
header =
    record {
      cluster = 7;
      members = 3;
      from = 0;
      to = 1;
      kind = kinds.Whole;
      start = record { number = 2; salt = 0x01020304 };
      echo = record { number = 4; salt = 0x0A0B0C0D };
      counter = 258;
    }

-- its bytes
abbrev pub bytes : List ℕ
bytes =
    80 ∷ 70 ∷ 88 ∷ 83 ∷ 2 ∷ 0 ∷ 0 ∷ 0 ∷ 7 ∷ 3 ∷ 0 ∷ 1 ∷ 1 ∷ 0 ∷ 0 ∷ 0 ∷ 2 ∷ 1 ∷ 2 ∷ 3 ∷ 4
    ∷ 0 ∷ 0 ∷ 0 ∷ 4 ∷ 10 ∷ 11 ∷ 12 ∷ 13 ∷ 0 ∷ 0 ∷ 0 ∷ 0 ∷ 0 ∷ 0 ∷ 1 ∷ 2 ∷ []

pub a_header : header_bytes header ≡ bytes
a_header = refl

-- member 1 reads it; for member 2 it isn't, and no member of another cluster reads it
pub for_member_1 : header_fault 7 3 1 bytes ≡ None
unfolding number
for_member_1 = refl

pub not_for_member_2 : header_fault 7 3 2 bytes ≡ Some faults.Receiver
unfolding number
not_for_member_2 = refl

pub of_another_cluster : header_fault 8 3 1 bytes ≡ Some faults.Cluster
unfolding number
of_another_cluster = refl
