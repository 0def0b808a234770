-- Laws of the packets that are accepted.
use Rattle.std.specs.Prelude.{◌≡◌, ◌<◌, ◌≤◌, ◌==◌, ◌&&◌, Bool, true, false, not, List, [], ◌∷◌, if◌then◌else◌}
use Rattle.std.specs.List.{list_any}
use Rattle.px_packet.specs.declared.start.Start.{Start}
use Rattle.px_packet.specs.declared.header.Header.{Header}
use Rattle.px_packet.specs.declared.arrival.Arrival.{Arrival}
use Rattle.px_packet.specs.declared.arrival.Arrival.TheVariants as arrivals
use Rattle.px_packet.specs.Windows.{top_of}
use Rattle.px_packet.specs.Arrivals.{Known, new_start, is_start, is_state, known_with, arrival_of, known_after}

-- an event of a receiver, for one sender
pub data Event : Type 0 where
  -- it starts, with this start of its own, and knows the sender by that one
  Starts : (mine known : Start) → Event
  -- an authentic packet of the sender comes
  Comes : (h : Header) → Event

abbrev pub is_accepted : Arrival → Bool
is_accepted arrivals.Accepted = true
is_accepted arrivals.OldStart = false
is_accepted arrivals.OtherMachine = false
is_accepted arrivals.OtherEcho = false
is_accepted arrivals.Repeated = false

-- the packets that are accepted, but for those of kind state, in order
abbrev pub accepted_of : (mine : Start) → Known → List Event → List Header
accepted_of mine k [] = []
accepted_of mine k (Starts next known ∷ es) = accepted_of next (new_start known) es
accepted_of mine k (Comes h ∷ es) =
    if is_accepted (arrival_of mine k h) && not (is_state h.kind) then h ∷ accepted_of mine (known_after mine k h) es
    else accepted_of mine (known_after mine k h) es

-- the receiver's starts
abbrev pub starts_of : List Event → List Start
starts_of [] = []
starts_of (Starts mine known ∷ es) = mine ∷ starts_of es
starts_of (Comes h ∷ es) = starts_of es

-- no two of them are one
abbrev pub AreDistinct : List Start → Type 0
AreDistinct [] = Unit {0}
AreDistinct (s ∷ ss) = (list_any (is_start s) ss ≡ false) × AreDistinct ss

-- whether two headers are of one packet: one start of the sender and of the receiver, and one counter
abbrev pub is_packet : Header → Header → Bool
is_packet h g = is_start h.start g.start && (is_start h.echo g.echo && (h.counter == g.counter))

-- no packet comes twice
abbrev pub AreOnce : List Header → Type 0
AreOnce [] = Unit {0}
AreOnce (h ∷ hs) = (list_any (is_packet h) hs ≡ false) × AreOnce hs

-- over restarts of either side no packet is accepted twice, if no start of the receiver is an earlier one: whatever
-- comes, in whatever order, and whatever start of the sender the receiver knows as it starts
abbrev pub HeardOnce : Type 0
HeardOnce = (mine known : Start) (es : List Event) → AreDistinct (mine ∷ starts_of es) →
    AreOnce (accepted_of mine (new_start known) es)

-- all that are accepted of packets that come one after another, to one start of the receiver
abbrev pub accepted_all : (mine : Start) → Known → List Header → List Header
accepted_all mine k [] = []
accepted_all mine k (h ∷ hs) =
    if is_accepted (arrival_of mine k h) then h ∷ accepted_all mine (known_after mine k h) hs
    else accepted_all mine (known_after mine k h) hs

-- within one start of the receiver no packet is accepted twice, of whatever kind
abbrev pub OnceAStart : Type 0
OnceAStart = (mine known : Start) (hs : List Header) → AreOnce (accepted_all mine (new_start known) hs)

-- a packet of the known start of its sender, or a higher one, that was sealed for this start of the receiver, with a
-- counter ahead of all that were accepted, is accepted
abbrev pub FreshIsHeard : Type 0
FreshIsHeard = (mine : Start) (k : Known) (h : Header) → k.start.number ≤ h.start.number →
    (h.start.number ≡ k.start.number → h.start.salt ≡ k.start.salt) → is_start h.echo mine ≡ true →
    top_of (known_with k h.start).accepted < h.counter → arrival_of mine k h ≡ arrivals.Accepted
