-- What a receiver does with packets.
use Rattle.std.specs.Prelude.{◌≡◌, ℕ, List, [], ◌∷◌, length, Option, Some, None, nat_lt, slice_set, slice_index_or}
use Rattle.std.specs.Prelude.{if◌then◌else◌}
use Rattle.std.specs.List.{AllZip}
use Rattle.px_packet.specs.declared.start.Start.{Start}
use Rattle.px_packet.specs.declared.kind.Kind.{Kind}
use Rattle.px_packet.specs.declared.kind.Kind.TheVariants as kinds
use Rattle.px_packet.specs.declared.header.Header.{Header}
use Rattle.px_packet.specs.declared.arrival.Arrival.{Arrival}
use Rattle.px_packet.specs.Arrivals.{Known, new_start, arrival_of, known_after, IsKnown}
use Rattle.px_packet.specs.ReplayLaws.{is_accepted}
use Rattle.px_packet.specs.Pieces.{Piece}
use Rattle.px_packet.specs.declared.held.PiecesHeld.{PiecesHeld}
use Rattle.px_packet.specs.Reassembling.{Unfinished, unfinished_after, finished_by, due_after, first_due, earlier}
use Rattle.px_transport.specs.declared.packet_outcome.PacketOutcome.{PacketOutcome}
use Rattle.px_transport.specs.declared.packet_outcome.PacketOutcome.TheVariants as packet_outcome
use Rattle.px_transport.specs.declared.receiver.Entry.{Entry}
use Rattle.px_transport.specs.declared.receiver.Receiver.{Receiver}
use Rattle.px_transport.specs.Bodies.{piece_in, held_in}

-- what is heard of a member: which packets of it were accepted, and its unfinished datagrams
pub record Heard : Type 0 where
  pub known : Known
  pub unfinished : List Unfinished

-- the start of a member that was never heard
abbrev pub never : Start
never = record { number = 0; salt = 0 }

abbrev pub unheard : Heard
unheard = record { known = new_start never; unfinished = [] }

-- what is given of a packet
pub data Given : Type 0 where
  -- its body, a datagram
  Whole : List ℕ → Given
  -- a datagram of which it has the last piece
  Joined : List ℕ → Given
  -- which pieces of a datagram its sender has
  Held : PiecesHeld → Given
  Nothing : Given
  -- it isn't accepted
  Dropped : Arrival → Given

-- for what memory is refused
pub data Memory : Type 0 where
  -- for nothing
  Enough : Memory
  -- for a piece, which is lost
  NoPiece : Memory
  -- for the datagram of which a piece is the last, which is lost
  NoDatagram : Memory

-- what is heard of a member then, and what is given
pub record Outcome : Type 0 where
  pub heard : Heard
  pub given : Given

-- with a header: a member that starts anew names its datagrams anew, and its unfinished ones are forgotten
abbrev pub with_header : (mine : Start) → Heard → Header → Heard
with_header mine e h =
    let k = known_after mine e.known h in
    record { known = k; unfinished = if nat_lt e.known.start.number k.start.number then [] else e.unfinished }

-- nothing changes
abbrev pub unchanged : Heard → Given → Outcome
unchanged e g = record { heard = e; given = g }

abbrev pub as_joined : Option (List ℕ) → Given
as_joined None = Nothing
as_joined (Some m) = Joined m

abbrev pub pieces_after : Heard → Piece → (now : ℕ) → Heard
pieces_after e p now = record e { unfinished = unfinished_after e.unfinished p now }

-- with a piece
abbrev pub with_piece : Memory → Heard → Option Piece → (now : ℕ) → Outcome
with_piece m e None now = unchanged e Nothing
with_piece Enough e (Some p) now =
    record { heard = pieces_after e p now; given = as_joined (finished_by e.unfinished p now) }
with_piece NoPiece e (Some p) now = unchanged e Nothing
with_piece NoDatagram e (Some p) now = record { heard = pieces_after e p now; given = Nothing }

abbrev pub as_held : Option PiecesHeld → Given
as_held None = Nothing
as_held (Some held) = Held held

abbrev pub read_held : List ℕ → Given
read_held b = as_held (held_in b)

-- with the body of a packet that is accepted
abbrev pub with_body : Memory → Heard → Kind → List ℕ → (now : ℕ) → Outcome
with_body m e kinds.State b now = unchanged e Nothing
with_body m e kinds.Whole b now = unchanged e (Whole b)
with_body m e kinds.Piece b now = with_piece m e (piece_in b) now
with_body m e kinds.PiecesHeld b now = unchanged e (read_held b)

-- with a packet of the member
abbrev pub heard_by : (mine : Start) → Memory → Heard → Header → List ℕ → (now : ℕ) → Outcome
heard_by mine m e h b now =
    if is_accepted (arrival_of mine e.known h) then with_body m (with_header mine e h) h.kind b now
    else unchanged (with_header mine e h) (Dropped (arrival_of mine e.known h))

-- ---- of all members

-- what is heard of a member; nothing of no member
abbrev pub of_member : List Heard → ℕ → Heard
of_member hs member = slice_index_or hs member unheard

-- what is heard after a packet: of its sender alone it changes
abbrev pub heard_after : (mine : Start) → Memory → List Heard → Header → List ℕ → (now : ℕ) → List Heard
heard_after mine m hs h b now = slice_set hs h.from (heard_by mine m (of_member hs h.from) h b now).heard

-- what is given of it
abbrev pub given_by : (mine : Start) → Memory → List Heard → Header → List ℕ → (now : ℕ) → Given
given_by mine m hs h b now =
    if nat_lt h.from (length hs) then (heard_by mine m (of_member hs h.from) h b now).given else Nothing

-- after it was reported which pieces of a member's datagram have come
abbrev pub reported_of : List Heard → (member now : ℕ) → List Heard
reported_of hs member now =
    let e = of_member hs member in slice_set hs member (record e { unfinished = due_after now e.unfinished })

-- when the first report is due
abbrev pub due_of : List Heard → Option ℕ
due_of [] = None
due_of (e ∷ hs) = earlier (first_due e.unfinished) (due_of hs)

-- ---- in code

-- this is what is heard of a member
pub record IsHeard (h : Heard) (e : Entry) : Type 0 where
  pub known_is : IsKnown h.known e.peer
  pub unfinished_is : e.reassembly ≡ h.unfinished

-- this is a receiver's own start, and what it hears of each member
pub record Hears (mine : Start) (hs : List Heard) (r : Receiver) : Type 0 where
  pub start_is : r.start ≡ mine
  pub heard : AllZip IsHeard hs r.entries.items

-- what a value in code gives
abbrev pub seen : PacketOutcome → Given
seen (packet_outcome.Whole b) = Whole b.now
seen (packet_outcome.Joined m) = Joined m.items
seen (packet_outcome.Held held) = Held held
seen packet_outcome.Nothing = Nothing
seen (packet_outcome.Dropped a) = Dropped a
