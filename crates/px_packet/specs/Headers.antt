-- Headers of packets, and their bytes.
use Rattle.std.specs.Prelude.{ℕ, ◌+◌, ◌==◌, ◌||◌, not, nat_lt, List, [], ◌∷◌, ◌++◌, length, take, drop, Option, Some}
use Rattle.std.specs.Prelude.{None}
use Rattle.std.specs.Prelude.{slice_index, unwrap_or, is_some, if◌then◌else◌}
use Rattle.std.specs.Int.{Width, w32, w64, byte_len, to_be_bytes, from_be_bytes}
use Rattle.px_packet.specs.declared.start.Start.{Start}
use Rattle.px_packet.specs.declared.kind.Kind.{Kind}
use Rattle.px_packet.specs.declared.kind.Kind.TheVariants as kinds
use Rattle.px_packet.specs.declared.header.Header.{Header}
use Rattle.px_packet.specs.declared.fault.PacketFault.{PacketFault}
use Rattle.px_packet.specs.declared.fault.PacketFault.TheVariants as faults

-- ---- as bytes

-- the number of a kind
abbrev pub number_of : Kind → ℕ
number_of kinds.State = 0
number_of kinds.Whole = 1
number_of kinds.Piece = 2
number_of kinds.PiecesHeld = 3

-- 4 bytes of the number, and 4 of the salt
abbrev pub start_bytes : Start → List ℕ
start_bytes s = to_be_bytes w32 s.number ++ to_be_bytes w32 s.salt

-- `PFXS`, version 2, the cluster's number, how many members it has, the sender, the receiver, and the kind
abbrev pub front_bytes : Header → List ℕ
front_bytes h =
    (80 ∷ 70 ∷ 88 ∷ 83 ∷ []) ++ (2 ∷ (to_be_bytes w32 h.cluster ++ (h.members ∷ h.from ∷ h.to ∷ number_of h.kind ∷ [])))

-- the sender's start, the echo, and the counter
abbrev pub back_bytes : Header → List ℕ
back_bytes h = start_bytes h.start ++ (start_bytes h.echo ++ to_be_bytes w64 h.counter)

-- a header: 37 bytes
abbrev pub header_bytes : Header → List ℕ
header_bytes h = front_bytes h ++ back_bytes h

-- ---- read

-- the number that the bytes have at an offset
unfoldable pub number : Width → ℕ → List ℕ → ℕ
number w at bytes = from_be_bytes w (take (byte_len w) (drop at bytes))

-- the kind with that number
abbrev pub kind_in : ℕ → Option Kind
kind_in n =
    if n == 0 then Some kinds.State
    else if n == 1 then Some kinds.Whole
    else if n == 2 then Some kinds.Piece
    else if n == 3 then Some kinds.PiecesHeld
    else None

-- the start at an offset
abbrev pub start_at : ℕ → List ℕ → Start
start_at at b = record { number = number w32 at b; salt = number w32 (at + 4) b }

-- the first fault of a header for this member of a cluster
abbrev pub header_fault : (cluster members me : ℕ) → List ℕ → Option PacketFault
header_fault cluster members me b =
    if nat_lt (length b) 37 then Some faults.Short
    else if not (number w32 0 b == 0x50465853) then Some faults.Magic
    else if not (slice_index b 4 == 2) then Some faults.Version
    else if not (number w32 5 b == cluster) then Some faults.Cluster
    else if not (slice_index b 9 == members) then Some faults.Members
    else if not (nat_lt (slice_index b 10) members) || (slice_index b 10 == me) then Some faults.Sender
    else if not (slice_index b 11 == me) then Some faults.Receiver
    else if not (is_some (kind_in (slice_index b 12))) then Some faults.Kind
    else if number w32 13 b == 0 then Some faults.Start
    else if number w64 29 b == 0 then Some faults.Counter
    else None

-- the fields
abbrev pub header_in : List ℕ → Header
header_in b =
    record {
      cluster = number w32 5 b;
      members = slice_index b 9;
      from = slice_index b 10;
      to = slice_index b 11;
      kind = unwrap_or (kind_in (slice_index b 12)) kinds.State;
      start = start_at 13 b;
      echo = start_at 21 b;
      counter = number w64 29 b;
    }
