-- What goes over a socket, and over a wire that has one.
use Rattle.std.specs.Prelude.{◌≡◌, ◌≢◌, ◌⊎◌, ℕ, List, [], ◌∷◌, Option, Some, None, Result, Ok, Err, slice_get, take}
use Rattle.std.specs.List.{AllByRecursion}
use Rattle.std.specs.declared.net.socket_addr.SocketAddr.{SocketAddr}
use Rattle.std.specs.declared.net.ip_addr.IpAddr.{IpAddr}
use Rattle.std.specs.declared.net.ip_addr.IpAddr.TheVariants as ips
use Rattle.std.specs.Net.Addr.{IsIpv4OfBits, IsIpv6OfBits}
use Rattle.std.specs.Net.Socket.{socket_ip, socket_port}
use Rattle.pf_addr.specs.declared.addr.Addr.{Addr}
use Rattle.pf_addr.specs.declared.addr.Addr.TheVariants.{V4, V6}
use Rattle.px_transport.specs.Wires.{WireEvent, Gave, Handed}
use Rattle.node_udp.specs.declared.address.Address.{Address}
use Rattle.node_udp.specs.declared.udp.UdpWire.{UdpWire}
use Rattle.node_udp.specs.Members.{peers_of, me_of, last_of, hears_of}

-- ---- a socket

-- what goes over a socket
pub data SocketEvent : Type 0 where
  -- a datagram came from this address
  Came : (from : SocketAddr) (bytes : List ℕ) → SocketEvent
  -- a datagram was handed over for this address
  Went : (to : SocketAddr) (bytes : List ℕ) → SocketEvent

-- what comes with a receive
abbrev pub comes : {E : Type 0} → (into : List ℕ) → Result (ℕ × SocketAddr) E → List SocketEvent
comes into (Ok r) = Came r.1 (take r.0 into) ∷ []
comes into (Err e) = []

-- the bits of an IP address are these
abbrev pub HasBits : Addr → IpAddr → Type 0
HasBits (V4 bits) (ips.V4 ip) = IsIpv4OfBits ip bits
HasBits (V4 bits) (ips.V6 ip) = ⊥
HasBits (V6 bits) (ips.V4 ip) = ⊥
HasBits (V6 bits) (ips.V6 ip) = IsIpv6OfBits ip bits

-- a member's address, as a socket has it
pub record IsSocketOf (a : Address) (there : SocketAddr) : Type 0 where
  pub ip : HasBits a.ip (socket_ip there)
  pub port : socket_port there ≡ a.port

-- ---- a wire

-- what goes over a wire that has a socket
pub data Passage : Type 0 where
  -- a datagram came, and was given, or an empty one in its place
  Hears : (from : SocketAddr) (came given : List ℕ) → Passage
  -- a datagram was handed over, and went to this address
  Sends : (to : ℕ) (bytes : List ℕ) (there : SocketAddr) → Passage
  -- a datagram was handed over, and there is no address for it
  Loses : (to : ℕ) (bytes : List ℕ) → Passage

-- over the socket
abbrev pub below_in : List Passage → List SocketEvent
below_in [] = []
below_in (Hears from came given ∷ xs) = Came from came ∷ below_in xs
below_in (Sends to bytes there ∷ xs) = Went there bytes ∷ below_in xs
below_in (Loses to bytes ∷ xs) = below_in xs

-- over the wire
abbrev pub above_in : List Passage → List WireEvent
above_in [] = []
above_in (Hears from came given ∷ xs) = Gave given ∷ above_in xs
above_in (Sends to bytes there ∷ xs) = Handed to bytes ∷ above_in xs
above_in (Loses to bytes ∷ xs) = Handed to bytes ∷ above_in xs

-- what a member hands over for another goes to the address of that one
abbrev pub GoesTo : (peers : List Address) → (me to : ℕ) → (there : SocketAddr) → Type 0
GoesTo peers me to there =
    me ≢ 255 → to ≢ 255 → (a : Address) × (slice_get peers to ≡ Some a) × IsSocketOf a there

-- there is no address for what a member hands over for another
abbrev pub HasNoAddress : (peers : List Address) → (me to : ℕ) → Type 0
HasNoAddress peers me to = me ≢ 255 → to ≢ 255 → slice_get peers to ≡ None

-- what comes is given, or an empty datagram in its place; what is handed over goes to the address of its member, unless
-- there is none
abbrev pub IsSound : (peers : List Address) → (me : ℕ) → Passage → Type 0
IsSound peers me (Hears from came given) = (given ≡ came) ⊎ (given ≡ [])
IsSound peers me (Sends to bytes there) = GoesTo peers me to there
IsSound peers me (Loses to bytes) = HasNoAddress peers me to

-- where the last datagram came from of which any byte was given: as before, if these give none
abbrev pub heard_last : (was : Option SocketAddr) → List Passage → Option SocketAddr
heard_last was [] = was
heard_last was (Hears from came [] ∷ xs) = heard_last was xs
heard_last was (Hears from came (b ∷ given) ∷ xs) = heard_last (Some from) xs
heard_last was (Sends to bytes there ∷ xs) = heard_last was xs
heard_last was (Loses to bytes ∷ xs) = heard_last was xs

-- what a member hands over for a client goes to where the last datagram came from of which any byte was given, unless
-- there was none
abbrev pub AnswersLast : (was : Option SocketAddr) → List Passage → Type 0
AnswersLast was [] = Unit {0}
AnswersLast was (Hears from came given ∷ xs) = AnswersLast (heard_last was (Hears from came given ∷ [])) xs
AnswersLast was (Sends to bytes there ∷ xs) = (to ≡ 255 → was ≡ Some there) × AnswersLast was xs
AnswersLast was (Loses to bytes ∷ xs) = (to ≡ 255 → was ≡ None) × AnswersLast was xs

-- this went over the wire, where that is what went over its socket
pub record WentOver {S C : Type 0} (below : List SocketEvent → Type 0) (w : UdpWire S C) (es : List WireEvent) :
    Type 0 where
  pub passages : List Passage
  pub below_is : below (below_in passages)
  pub above_is : es ≡ above_in passages
  pub sound : AllByRecursion (IsSound (peers_of w) (me_of w)) passages
  pub last_is : last_of w ≡ heard_last None passages
  pub answers : me_of w ≢ 255 → AnswersLast None passages

-- the wire stays the same member's, and nothing went over its socket
pub record IsStill {S C : Type 0} (old new : List SocketEvent → Type 0) (w w' : UdpWire S C) : Type 0 where
  pub quiet : (es : List SocketEvent) → old es → new es
  pub peers_is : peers_of w' ≡ peers_of w
  pub me_is : me_of w' ≡ me_of w
  pub last_is : last_of w' ≡ last_of w
  pub hears_is : hears_of w' ≡ hears_of w
