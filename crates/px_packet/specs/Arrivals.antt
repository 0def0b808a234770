-- Which packets of a member are accepted.
use Rattle.std.specs.Prelude.{◌≡◌, ℕ, ◌==◌, ◌&&◌, ◌||◌, Bool, true, false, not, List, [], nat_lt, if◌then◌else◌}
use Rattle.px_packet.specs.declared.start.Start.{Start}
use Rattle.px_packet.specs.declared.kind.Kind.{Kind}
use Rattle.px_packet.specs.declared.kind.Kind.TheVariants as kinds
use Rattle.px_packet.specs.declared.header.Header.{Header}
use Rattle.px_packet.specs.declared.arrival.Arrival.{Arrival}
use Rattle.px_packet.specs.declared.arrival.Arrival.TheVariants as arrivals
use Rattle.px_packet.specs.declared.peer.Peer.{Peer}
use Rattle.px_packet.specs.Windows.{is_fresh, accepted_with, Remembers}

-- what a receiver remembers of a member: its start, and the counters of that start that were accepted
pub record Known : Type 0 where
  pub start : Start
  pub accepted : List ℕ

-- a start of which no counter was accepted
abbrev pub new_start : Start → Known
new_start s = record { start = s; accepted = [] }

-- whether two starts are one
abbrev pub is_start : Start → Start → Bool
is_start s t = (s.number == t.number) && (s.salt == t.salt)

abbrev pub is_state : Kind → Bool
is_state kinds.State = true
is_state kinds.Whole = false
is_state kinds.Piece = false
is_state kinds.PiecesHeld = false

-- with a start that isn't below the known one: a higher one is the member's from now on
abbrev pub known_with : Known → Start → Known
known_with k s = if nat_lt k.start.number s.number then new_start s else k

-- whether a packet is of the known start's number and another salt
abbrev pub is_other_machine : Start → Header → Bool
is_other_machine s h = (h.start.number == s.number) && not (h.start.salt == s.salt)

-- whether a packet's body is for this start of the receiver
abbrev pub is_for : (mine : Start) → Header → Bool
is_for mine h = is_start h.echo mine || is_state h.kind

-- whether a packet is accepted: of a start that isn't below the known one, and has its salt where it has its number;
-- sealed for this start of the receiver, or of kind state; with a fresh counter. In this order
abbrev pub arrival_of : (mine : Start) → Known → Header → Arrival
arrival_of mine k h =
    if nat_lt h.start.number k.start.number then arrivals.OldStart
    else if is_other_machine k.start h then arrivals.OtherMachine
    else if not (is_for mine h) then arrivals.OtherEcho
    else if is_fresh (known_with k h.start).accepted h.counter then arrivals.Accepted
    else arrivals.Repeated

-- with a counter that came
abbrev pub counted : Known → ℕ → Known
counted k n = record k { accepted = accepted_with k.accepted n }

-- what is remembered then
abbrev pub known_after : (mine : Start) → Known → Header → Known
known_after mine k h =
    if nat_lt h.start.number k.start.number then k
    else if is_other_machine k.start h then k
    else if not (is_for mine h) then known_with k h.start
    else counted (known_with k h.start) h.counter

-- this is what is remembered of a member
pub record IsKnown (k : Known) (p : Peer) : Type 0 where
  pub start_is : p.start ≡ k.start
  pub window_is : Remembers k.accepted p.window
