-- Laws of what a receiver gives.
use Rattle.std.specs.Prelude.{◌≡◌, ℕ, ◌*◌, ◌<◌, ◌≤◌, ◌^◌, ◌==◌, ◌&&◌, Bool, true, false, List, [], ◌∷◌, length}
use Rattle.std.specs.Prelude.{replicate, if◌then◌else◌}
use Rattle.std.specs.List.{All, Contains}
use Rattle.px_packet.specs.declared.start.Start.{Start}
use Rattle.px_packet.specs.declared.kind.Kind.{Kind}
use Rattle.px_packet.specs.declared.kind.Kind.TheVariants as kinds
use Rattle.px_packet.specs.declared.header.Header.{Header}
use Rattle.px_packet.specs.declared.arrival.Arrival.TheVariants as arrivals
use Rattle.px_packet.specs.Arrivals.{arrival_of}
use Rattle.px_packet.specs.ReplayLaws.{AreDistinct, AreOnce}
use Rattle.px_packet.specs.Pieces.{Piece, piece_of, piece_bytes}
use Rattle.px_packet.specs.Sending.{CanBeCut}
use Rattle.px_packet.specs.PieceLaws.{IsPieceOf, Pending, is_among, is_bounded}
use Rattle.px_transport.specs.Receiving.{Heard, Given, Whole, Joined, Held, Nothing, Dropped, Memory, Enough, unheard}
use Rattle.px_transport.specs.Receiving.{with_header}
use Rattle.px_transport.specs.Receiving.{of_member, heard_after, given_by, reported_of}

-- ---- a receiver's events

pub data Event : Type 0 where
  -- it starts, with this start of its own, and has heard nobody
  Starts : (mine : Start) → Event
  -- an authentic packet comes
  Comes : (h : Header) → (body : List ℕ) → (now : ℕ) → Memory → Event
  -- it reports which pieces of a member's datagram have come
  Reports : (member now : ℕ) → Event

-- nobody was heard, in a cluster of n members
abbrev pub nobody : (members : ℕ) → List Heard
nobody members = replicate members unheard

-- what is given of each packet, with its header, in order
abbrev pub given_all : (members : ℕ) → (mine : Start) → List Heard → List Event → List (Header × Given)
given_all members mine hs [] = []
given_all members mine hs (Starts next ∷ es) = given_all members next (nobody members) es
given_all members mine hs (Comes h b now m ∷ es) =
    (h, given_by mine m hs h b now) ∷ given_all members mine (heard_after mine m hs h b now) es
given_all members mine hs (Reports member now ∷ es) = given_all members mine (reported_of hs member now) es

-- ---- it was handed over

-- what members handed over at each of their starts: datagrams that went as they were, and datagrams that were cut, each
-- named by its place
pub record Traffic : Type 0 where
  pub wholes : (member : ℕ) → Start → List (List ℕ)
  pub cuts : (member : ℕ) → Start → List (List ℕ)

-- each name has room in its four bytes
abbrev pub NamesFit : Traffic → Type 0
NamesFit t = (member : ℕ) (s : Start) → length (t.cuts member s) ≤ 2 ^ 32

-- a body of a kind is of a datagram that a member handed over at a start
abbrev pub IsBodyOf : Traffic → Kind → (member : ℕ) → Start → List ℕ → Type 0
IsBodyOf t kinds.State member s b = Unit {0}
IsBodyOf t kinds.Whole member s b = Contains (t.wholes member s) b
IsBodyOf t kinds.Piece member s b = (p : Piece) × (b ≡ piece_bytes p) × IsPieceOf (t.cuts member s) p
IsBodyOf t kinds.PiecesHeld member s b = Unit {0}

-- each packet that comes was sealed by the member and at the start that its header names, with what was handed over
abbrev pub WasSealed : Traffic → Event → Type 0
WasSealed t (Starts mine) = Unit {0}
WasSealed t (Comes h b now m) = IsBodyOf t h.kind h.from h.start b
WasSealed t (Reports member now) = Unit {0}

-- a datagram that is given was handed over by the member at that start, byte for byte
abbrev pub WasHandedOver : Traffic → (member : ℕ) → Start → Given → Type 0
WasHandedOver t member s (Whole b) = Contains (t.wholes member s) b
WasHandedOver t member s (Joined b) = Contains (t.cuts member s) b
WasHandedOver t member s (Held held) = Unit {0}
WasHandedOver t member s Nothing = Unit {0}
WasHandedOver t member s (Dropped arrival) = Unit {0}

-- whatever comes, in whatever order and how often, whatever members start anew, and for whatever memory is refused
abbrev pub GivenWasSent : Type 0
GivenWasSent = (t : Traffic) (members : ℕ) (mine : Start) (es : List Event) → NamesFit t → All (WasSealed t) es →
    All (λ (x : Header × Given). WasHandedOver t x.0.from x.0.start x.1) (given_all members mine (nobody members) es)

-- ---- once

-- whether a datagram is given, or which pieces of one were held
abbrev pub is_given : Given → Bool
is_given (Whole b) = true
is_given (Joined b) = true
is_given (Held held) = true
is_given Nothing = false
is_given (Dropped arrival) = false

-- the packets of a member of which something is given, in order
abbrev pub given_of : (member : ℕ) → List (Header × Given) → List Header
given_of member [] = []
given_of member (x ∷ xs) =
    if (x.0.from == member) && is_given x.1 then x.0 ∷ given_of member xs else given_of member xs

-- the receiver's starts
abbrev pub starts_of : List Event → List Start
starts_of [] = []
starts_of (Starts mine ∷ es) = mine ∷ starts_of es
starts_of (Comes h b now m ∷ es) = starts_of es
starts_of (Reports member now ∷ es) = starts_of es

-- no packet of a member gives something twice, over restarts of either side too, if no start of the receiver is an
-- earlier one
abbrev pub GivenOnce : Type 0
GivenOnce = (members : ℕ) (mine : Start) (es : List Event) (member : ℕ) → AreDistinct (mine ∷ starts_of es) →
    AreOnce (given_of member (given_all members mine (nobody members) es))

-- ---- of present starts

-- what is given was sealed for this start of the receiver, at the start by which its sender is known then
abbrev pub GivenIsPresent : Type 0
GivenIsPresent = (mine : Start) (m : Memory) (hs : List Heard) (h : Header) (b : List ℕ) (now : ℕ) →
    is_given (given_by mine m hs h b now) ≡ true →
    (h.echo ≡ mine) × ((of_member (heard_after mine m hs h b now) h.from).known.start ≡ h.start)

-- ---- with the last piece

-- with the piece that is the last of a datagram to come the datagram is given, and with each other nothing is, and one
-- part more has come, where its packet is accepted and memory isn't refused: so it is given once all pieces have come,
-- in whatever order, and no earlier
abbrev pub LastPieceGives : Type 0
LastPieceGives = (mine : Start) (hs : List Heard) (h : Header) (name : ℕ) (d ks : List ℕ) (k now : ℕ) →
    h.from < length hs → arrival_of mine (of_member hs h.from).known h ≡ arrivals.Accepted → h.kind ≡ kinds.Piece →
    name < 2 ^ 32 → CanBeCut d → 1160 * k < length d →
    Pending (with_header mine (of_member hs h.from) h).unfinished name d ks → let b = piece_bytes (piece_of name d k) in
    (((j : ℕ) → 1160 * j < length d → is_among j (k ∷ ks) ≡ true) → given_by mine Enough hs h b now ≡ Joined d) ×
    ((j : ℕ) → 1160 * j < length d → is_among j (k ∷ ks) ≡ false →
    (given_by mine Enough hs h b now ≡ Nothing) ×
    Pending (of_member (heard_after mine Enough hs h b now) h.from).unfinished name d (k ∷ ks))

-- ---- how much memory is taken

-- what is heard of each member after all that
abbrev pub heard_all : (members : ℕ) → (mine : Start) → List Heard → List Event → List Heard
heard_all members mine hs [] = hs
heard_all members mine hs (Starts next ∷ es) = heard_all members next (nobody members) es
heard_all members mine hs (Comes h b now m ∷ es) = heard_all members mine (heard_after mine m hs h b now) es
heard_all members mine hs (Reports member now ∷ es) = heard_all members mine (reported_of hs member now) es

-- of each member there are at most 8 unfinished datagrams, of 29 parts at most, of 1,160 bytes at most, whatever comes
abbrev pub StaysBounded : Type 0
StaysBounded = (members : ℕ) (mine : Start) (es : List Event) (member : ℕ) →
    is_bounded (of_member (heard_all members mine (nobody members) es) member).unfinished ≡ true
