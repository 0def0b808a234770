-- What a wire over UDP was made with.
use Rattle.std.specs.Prelude.{◌≡◌, ◌⊎◌, ◌==◌, ℕ, Bool, List, [], ◌∷◌, Option, Some, Any, IfSome, map, slice_get}
use Rattle.std.specs.Prelude.{if◌then◌else◌}
use Rattle.std.specs.declared.net.socket_addr.SocketAddr.{SocketAddr}
use Rattle.std.specs.declared.net.ip_addr.IpAddr.{IpAddr}
use Rattle.std.specs.declared.net.ip_addr.IpAddr.TheVariants as ips
use Rattle.std.specs.Duration.{as_nanos}
use Rattle.std.specs.Net.Addr.{ipv4_bits, ipv6_bits}
use Rattle.std.specs.Net.Socket.{socket_ip, socket_port}
use Rattle.pf_addr.specs.declared.addr.Addr.{Addr}
use Rattle.pf_addr.specs.declared.addr.Addr.TheVariants.{V4, V6}
use Rattle.px_transport.specs.Wires.{one_more}
use Rattle.node_udp.specs.Addresses.{shown_address, AreFound, IsUnfound}
use Rattle.node_udp.specs.declared.address.Address.{Address}
use Rattle.node_udp.specs.declared.udp.UdpWire.{UdpWire}

-- its socket
abbrev pub socket_of : {S C : Type 0} → UdpWire S C → S
socket_of w = w.socket

-- where the members listen, in order
abbrev pub peers_of : {S C : Type 0} → UdpWire S C → List Address
peers_of w = w.peers.items

-- a member, or 255 for who is none
abbrev pub me_of : {S C : Type 0} → UdpWire S C → ℕ
me_of w = w.me

-- the members' addresses, as they are shown, and which member this is
abbrev pub route_of : List Address → (me : ℕ) → List (List ℕ) × ℕ
route_of peers me = (map shown_address peers, me)

-- where the last datagram came from of which it gave any byte
abbrev pub last_of : {S C : Type 0} → UdpWire S C → Option SocketAddr
last_of w = w.last

-- how long a wait is, in nanoseconds
abbrev pub wait_of : {S C : Type 0} → UdpWire S C → ℕ
wait_of w = as_nanos w.wait

-- whether it hears clients, from wherever they send
abbrev pub hears_of : {S C : Type 0} → UdpWire S C → Bool
hears_of w = w.hears_asks

-- an IP address of the system's
abbrev pub ip_at : IpAddr → Addr
ip_at (ips.V4 ip) = V4 (ipv4_bits ip)
ip_at (ips.V6 ip) = V6 (ipv6_bits ip)

-- the address of a sender there
abbrev pub address_at : SocketAddr → Address
address_at there = record { ip = ip_at (socket_ip there); port = socket_port there }

-- how many datagrams were dropped whose source is no member's address, up to 2^64 - 1
abbrev pub strangers_of : {S C : Type 0} → UdpWire S C → ℕ
strangers_of w = w.strangers

-- none was dropped, or this one was: it is given as an empty one, and counted
abbrev pub Drops : (strangers : ℕ) → (given : Option ℕ) → (strangers' : ℕ) → Type 0
Drops old given new = (new ≡ old) ⊎ ((given ≡ Some 0) × (new ≡ one_more old))

-- ---- where it listens

-- any free port of this machine, for datagrams to an address of this kind
abbrev pub any_ip : Addr → Addr
any_ip (V4 bits) = V4 0
any_ip (V6 bits) = V6 0

abbrev pub any_port : Addr → Address
any_port ip = record { ip = any_ip ip; port = 0 }

-- where a client listens whose first address takes every send
abbrev pub client_port : (peers : List Address) → Address
client_port [] = any_port (V4 0)
client_port (a ∷ peers) = any_port a.ip

-- where a member listens, and with 255 a client
abbrev pub own_of : (peers : List Address) → (me : ℕ) → Option Address
own_of peers me = if me == 255 then Some (client_port peers) else slice_get peers me

-- Why there is no wire of a member, or with 255 of a client: one of the strings is no address; the member has none; or
-- no socket is to be had at its own.
abbrev pub HasNoSocket : (is_known : (host : List ℕ) → Addr → Type 0) → (is_unknown : (host : List ℕ) → Type 0) →
    (is_refused : Address → Type 0) → (strings : List (List ℕ)) → (me : ℕ) → Type 0
HasNoSocket is_known is_unknown is_refused strings me =
    Any (IsUnfound is_unknown) strings
    ⊎ ((peers : List Address) × AreFound is_known strings peers × IfSome (own_of peers me) is_refused)
