-- Worked examples.
use Rattle.std.specs.Prelude.{◌≡◌, ℕ, [], ◌∷◌, refl}
use Rattle.px_packet.specs.declared.start.Start.{Start}
use Rattle.px_packet.specs.declared.kind.Kind.{Kind}
use Rattle.px_packet.specs.declared.kind.Kind.TheVariants as kinds
use Rattle.px_packet.specs.declared.header.Header.{Header}
use Rattle.px_packet.specs.declared.arrival.Arrival.TheVariants as arrivals
use Rattle.px_packet.specs.Headers.{number}
use Rattle.px_transport.specs.Receiving.{Whole, Joined, Held, Nothing, Dropped, Enough, of_member}
use Rattle.px_transport.specs.Receiving.{heard_after}
use Rattle.px_transport.specs.Laws.{Comes, Starts, given_all, nobody}

-- the receiver is member 1 of three, and at its start 4
abbrev pub mine : Start
mine = record { number = 4; salt = 40 }

-- a packet that member 0 seals for it at a start
abbrev pub packet : (number : ℕ) → (echo : Start) → Kind → (counter : ℕ) → Header
packet n echo kind counter =
    record {
      cluster = 7;
      members = 3;
      from = 0;
      to = 1;
      kind = kind;
      start = record { number = n; salt = 20 };
      echo = echo;
      counter = counter;
    }

-- a datagram comes, and comes again, and the receiver starts anew and it comes again
abbrev pub whole : Header
whole = packet 2 mine kinds.Whole 1

pub a_datagram : given_all 3 mine (nobody 3) (Comes whole (97 ∷ 98 ∷ []) 0 Enough ∷ Comes whole (97 ∷ 98 ∷ []) 1 Enough
    ∷ Starts (record { number = 5; salt = 50 }) ∷ Comes whole (97 ∷ 98 ∷ []) 2 Enough ∷ [])
    ≡ (whole, Whole (97 ∷ 98 ∷ [])) ∷ (whole, Dropped arrivals.Repeated) ∷ (whole, Dropped arrivals.OtherEcho) ∷ []
a_datagram = refl

-- the one piece of a datagram of three bytes
abbrev pub piece : Header
piece = packet 2 mine kinds.Piece 1

pub one_piece : given_all 3 mine (nobody 3) (Comes piece (0 ∷ 0 ∷ 0 ∷ 7 ∷ 0 ∷ 3 ∷ 0 ∷ 97 ∷ 98 ∷ 99 ∷ []) 0 Enough ∷ [])
    ≡ (piece, Joined (97 ∷ 98 ∷ 99 ∷ [])) ∷ []
unfolding number
one_piece = refl

-- its sender has the first and the third piece of the datagram with the name 7; nine bytes report nothing
abbrev pub held : Header
held = packet 2 mine kinds.PiecesHeld 1

abbrev pub other : Header
other = packet 2 mine kinds.PiecesHeld 2

pub pieces_held : given_all 3 mine (nobody 3) (Comes held (0 ∷ 0 ∷ 0 ∷ 7 ∷ 0 ∷ 0 ∷ 0 ∷ 5 ∷ []) 0 Enough
    ∷ Comes other (0 ∷ 0 ∷ 0 ∷ 7 ∷ 0 ∷ 0 ∷ 0 ∷ 5 ∷ 0 ∷ []) 0 Enough ∷ [])
    ≡ (held, Held (record { name = 7; bits = 5 })) ∷ (other, Nothing) ∷ []
unfolding number
pieces_held = refl

-- a member that starts anew is known by that start, though its packet was sealed for another start of the receiver
abbrev pub earlier : Header
earlier = packet 2 (record { number = 3; salt = 30 }) kinds.Whole 1

pub starts_anew : (of_member (heard_after mine Enough (nobody 3) earlier (97 ∷ []) 0) 0).known.start ≡ earlier.start
starts_anew = refl
