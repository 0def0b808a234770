-- Packets that a member sends.
use Rattle.std.specs.Prelude.{◌≡◌, ℕ, ◌+◌, ◌-◌, ◌<◌, ◌^◌, ◌==◌, ◌&&◌, Bool, false, not, min, List, [], ◌∷◌, ◌++◌}
use Rattle.std.specs.Prelude.{length, map, take}
use Rattle.std.specs.Prelude.{Option, Some, None, slice_set, slice_index_or, nat_le, nat_lt, if◌then◌else◌, IsTrue}
use Rattle.std.specs.List.{range_with_len, filter}
use Rattle.px_transport.specs.Wires.{WireEvent, hands}
use Rattle.px_packet.specs.declared.start.Start.{Start}
use Rattle.px_packet.specs.declared.kind.Kind.{Kind}
use Rattle.px_packet.specs.declared.kind.Kind.TheVariants as kinds
use Rattle.px_packet.specs.declared.header.Header.{Header}
use Rattle.px_packet.specs.Headers.{header_bytes}
use Rattle.px_packet.specs.Packets.{sealed}
use Rattle.px_packet.specs.Arrivals.{is_start}
use Rattle.px_packet.specs.declared.held.PiecesHeld.{PiecesHeld}
use Rattle.px_packet.specs.Pieces.{count_of, piece_of, piece_bytes}
use Rattle.px_packet.specs.Held.{has_bit, held_bytes}
use Rattle.px_packet.specs.Sending.{Sent, name_of, sent_after, cut_with}

-- ---- what a sender has of one receiver

-- how many packets were sealed for it, the datagrams that were cut for it, when the last packet of kind state was sent,
-- and the start that this echoed; since when packets for it are counted, in milliseconds, and how many pieces may
-- still go to it
pub record ToMember : Type 0 where
  pub counter : ℕ
  pub sent : Sent
  pub stated : Option ℕ
  pub echoed : Start
  pub since : ℕ
  pub left : ℕ

-- nothing was sent
abbrev pub new_to : ToMember
new_to =
    record {
      counter = 0;
      sent = record { count = 0; cuts = [] };
      stated = None;
      echoed = record { number = 0; salt = 0 };
      since = 0;
      left = 92;
    }

-- with one packet more
abbrev pub counted : ToMember → ToMember
counted o = record o { counter = o.counter + 1; left = o.left - 1 }

-- each 5 ms 92 packets may go to it again: a socket buffers that many before they are read, where nobody set another
-- size (212,992 bytes, of which Linux counts 2,304 for a packet of 1,232)
abbrev pub refilled : (now : ℕ) → ToMember → ToMember
refilled now o = if nat_le 5 (now - o.since) then record o { since = now; left = 92 } else o

-- with a datagram that was cut
abbrev pub named : List ℕ → ToMember → ToMember
named m o = record o { sent = sent_after o.sent m }

-- with a packet of kind state that was sent at a time, with this echo
abbrev pub stated : (now : ℕ) → Start → ToMember → ToMember
stated now echo o = record o { stated = Some now; echoed = echo }

-- at once where none was sent, else so long after the last one
abbrev pub next_after : Option ℕ → Bool → ℕ
next_after None same = 0
next_after (Some t) same = min (t + (if same then 1000 else 20)) (2 ^ 64 - 1)

-- when a packet of kind state is due: at once where none was sent, else 1,000 ms after the last one, and 20 ms after it
-- where the receiver showed a new start
abbrev pub next_state : ToMember → Start → ℕ
next_state o start = next_after o.stated (is_start start o.echoed)

-- how many of n milliseconds are left before something is due
abbrev pub time_left : (due now milliseconds : ℕ) → ℕ
time_left due now milliseconds = min (due - now) milliseconds

-- ---- packets

-- a packet before it has a counter and a tag
pub record Unsealed : Type 0 where
  pub to : ℕ
  pub echo : Start
  pub kind : Kind
  pub body : List ℕ

-- who seals: the member of a cluster, its start, and the block of its key
pub record Sealer : Type 0 where
  pub cluster : ℕ
  pub members : ℕ
  pub me : ℕ
  pub start : Start
  pub key : List ℕ

-- whether it is another member's number
abbrev pub is_other : Sealer → ℕ → Bool
is_other s m = nat_lt m s.members && not (m == s.me)

-- its header
abbrev pub header_of : Sealer → Unsealed → (counter : ℕ) → Header
header_of s p counter =
    record {
      cluster = s.cluster;
      members = s.members;
      from = s.me;
      to = p.to;
      kind = p.kind;
      start = s.start;
      echo = p.echo;
      counter = counter;
    }

-- what is handed over for it: for whom, and the sealed bytes
abbrev pub packet : Sealer → Unsealed → (counter : ℕ) → ℕ × List ℕ
packet s p counter = (p.to, sealed s.key (header_bytes (header_of s p counter) ++ p.body))

-- what a sender has of a member
abbrev pub to_member : List ToMember → ℕ → ToMember
to_member os m = slice_index_or os m new_to

-- with one packet more for a member
abbrev pub counted_for : List ToMember → ℕ → List ToMember
counted_for os m = slice_set os m (counted (to_member os m))

-- packets one after another, each with the next counter of its receiver
abbrev pub packets : Sealer → List ToMember → List Unsealed → List (ℕ × List ℕ)
packets s os [] = []
packets s os (p ∷ ps) = packet s p ((to_member os p.to).counter + 1) ∷ packets s (counted_for os p.to) ps

-- and the counters after them
abbrev pub counted_all : List ToMember → List Unsealed → List ToMember
counted_all os [] = os
counted_all os (p ∷ ps) = counted_all (counted_for os p.to) ps

-- ---- what is handed to the wire below

-- these packets are added to its traffic, and the counters after them
abbrev pub Sends : Sealer → List Unsealed → (adds : List WireEvent → Type 0) → (os os' : List ToMember) → Type 0
Sends s ps adds os os' = adds (hands (packets s os ps)) × (os' ≡ counted_all os ps)

-- the first of these packets: all of them, where that is answered
abbrev pub SendsUpTo : Sealer → (is_all : Bool) → List Unsealed → (adds : List WireEvent → Type 0) →
    (os os' : List ToMember) → Type 0
SendsUpTo s is_all ps adds os os' =
    (first rest : List Unsealed) × (ps ≡ first ++ rest) × (IsTrue is_all → rest ≡ []) × Sends s first adds os os'

-- ---- what a member sends

-- a datagram in one packet
abbrev pub whole : (to : ℕ) → (echo : Start) → List ℕ → Unsealed
whole to echo m = record { to = to; echo = echo; kind = kinds.Whole; body = m }

-- the piece of a datagram with this number
abbrev pub piece : (to : ℕ) → (echo : Start) → (name : ℕ) → List ℕ → (k : ℕ) → Unsealed
piece to echo name m k =
    record { to = to; echo = echo; kind = kinds.Piece; body = piece_bytes (piece_of name m k) }

-- of n numbers of pieces, from one on, those whose bit is 0
abbrev pub lacked : (bits from count : ℕ) → List ℕ
lacked bits from count = filter (λ k. not (has_bit bits k)) (range_with_len from count)

-- the pieces of a datagram, of these numbers, that a receiver lacks, in order
abbrev pub pieces_from : (to : ℕ) → (echo : Start) → PiecesHeld → List ℕ → (from : ℕ) → List Unsealed
pieces_from to echo held m from =
    map (piece to echo held.name m) (lacked held.bits from (count_of (length m) - from))

-- all that it lacks
abbrev pub pieces : (to : ℕ) → (echo : Start) → PiecesHeld → List ℕ → List Unsealed
pieces to echo held m = pieces_from to echo held m 0

-- a report which pieces have come
abbrev pub report : (to : ℕ) → (echo : Start) → PiecesHeld → Unsealed
report to echo held = record { to = to; echo = echo; kind = kinds.PiecesHeld; body = held_bytes held }

-- a packet of kind state
abbrev pub state : (to : ℕ) → (echo : Start) → Unsealed
state to echo = record { to = to; echo = echo; kind = kinds.State; body = [] }

-- whether a datagram can be sent: it isn't empty, and isn't too long to be cut
abbrev pub can_be_cut : List ℕ → Bool
can_be_cut m = nat_lt 0 (length m) && nat_le (length m) 33640

-- whether a datagram goes in one packet
abbrev pub is_short : List ℕ → Bool
is_short m = nat_le (length m) 1179

-- with a datagram that is cut for a member
abbrev pub named_for : List ToMember → ℕ → List ℕ → List ToMember
named_for os to m = slice_set os to (named m (to_member os to))

-- at this time
abbrev pub refilled_for : List ToMember → ℕ → (now : ℕ) → List ToMember
refilled_for os to now = slice_set os to (refilled now (to_member os to))

-- what a sender has as the packets of a datagram go out: where it is cut, it is kept
abbrev pub kept_with : List ToMember → (to : ℕ) → List ℕ → List ToMember
kept_with os to m = if is_short m then os else named_for os to m

-- where the datagram is cut, its name has four bytes
abbrev pub HasName : List ToMember → (to : ℕ) → List ℕ → Type 0
HasName os to m = is_short m ≡ false → name_of (to_member os to).sent m < 2 ^ 32

-- the first pieces that may still go to a member. Its receiver asks for the others
abbrev pub burst : List ToMember → (to : ℕ) → List Unsealed → List Unsealed
burst os to ps = take (to_member os to).left ps

-- the packets of a datagram for a member: one, or the pieces under its name
abbrev pub packets_of : List ToMember → (to : ℕ) → (echo : Start) → List ℕ → List Unsealed
packets_of os to echo m =
    if is_short m then whole to echo m ∷ []
    else burst os to (pieces to echo (record { name = name_of (to_member os to).sent m; bits = 0 }) m)

-- the pieces that it lacks of a datagram, if that is kept
abbrev pub again_of : (to : ℕ) → (echo : Start) → PiecesHeld → Option (List ℕ) → List Unsealed
again_of to echo held None = []
again_of to echo held (Some m) = pieces to echo held m

-- the pieces that a member lacks of the datagram with that name, while it is kept
abbrev pub again : List ToMember → (to : ℕ) → (echo : Start) → PiecesHeld → List Unsealed
again os to echo held = burst os to (again_of to echo held (cut_with (to_member os to).sent held.name))

-- a packet of kind state, if it is due
abbrev pub states : List ToMember → (to : ℕ) → (echo : Start) → (now : ℕ) → List Unsealed
states os to echo now = if nat_lt now (next_state (to_member os to) echo) then [] else state to echo ∷ []

-- with that
abbrev pub stated_for : List ToMember → (to : ℕ) → (echo : Start) → (now : ℕ) → List ToMember
stated_for os to echo now =
    if nat_lt now (next_state (to_member os to) echo) then os
    else slice_set os to (stated now echo (to_member os to))
