-- The members' guard: rules that are at the hooks before all others, so that whatever is loaded the members of the
-- cluster hear each other (nft(8)).
use Rattle.std.specs.Prelude.{◌≡◌, ℕ, ◌==◌, ◌&&◌, ◌||◌, Bool, List, [], ◌∷◌, ◌++◌, Option, Some, None, if◌then◌else◌}
use Rattle.std.specs.List.{list_any, list_all}
use Rattle.pf_addr.specs.declared.addr.Addr.{Addr}
use Rattle.pf_addr.specs.declared.addr.Family.{Family}
use Rattle.pf_addr.specs.declared.addr.Family.TheVariants.{Inet, Inet6}
use Rattle.pf_addr.specs.Blocks.{family_of}
use Rattle.pf_addr.specs.Order.{bits_of}
use Rattle.pf_eval.specs.Packets.{PacketValue}
use Rattle.pf_eval.specs.PacketTexts.{same_family}
use Rattle.pf_eval.specs.Matching.{of_family, if_there}
use Rattle.pf_config.specs.Map.{or_else}
use Rattle.nft_rules.specs.Subset.{Side, Source, Destination, Accept, OfMembers, Decision, ChainName, Base, NftRuleset}
use Rattle.nft_rules.specs.Evaluation.{address_at, port_at, run}
-- the address at which a member listens, and its UDP port
pub use Rattle.nft_rules.specs.declared.guard.Member.{Member}

-- ---- packets

-- a packet at a hook: what pf's rules ask of it, and what the guard asks of it beside
-- Source: RFC 791, 792, 8200, 4443.
pub record HookPacket : Type 0 where
  -- of a later fragment this has no ports, flags or type: the header of its protocol isn't in it
  pub packet : PacketValue
  -- a fragment but the first: its offset isn't 0 (RFC 791, 3.1; RFC 8200, 4.5)
  pub is_later : Bool
  -- the code of an ICMP header, whose type the packet has (RFC 792), if it has one
  pub icmp_code : Option ℕ
  -- the type of an ICMPv6 header (RFC 4443, 2.1), if it has one
  pub icmp6_type : Option ℕ
  -- the hop limit of an IPv6 header (RFC 8200, 3), none in IPv4
  pub hop_limit : Option ℕ

-- ---- which packets are the members'

-- two addresses are the same
abbrev pub same_addr : Addr → Addr → Bool
same_addr a b = same_family a b && (bits_of a == bits_of b)

-- it is the address of a member
abbrev pub is_home : List Member → Addr → Bool
is_home ms a = list_any (λ m. same_addr m.address a) ms

-- they are the address and the port of a member
abbrev pub is_end : List Member → Addr → ℕ → Bool
is_end ms a port = list_any (λ m. same_addr m.address a && (m.port == port)) ms

-- some member has an address of the family
abbrev pub has_family : Family → List Member → Bool
has_family f ms = list_any (λ m. of_family m.address f) ms

-- of UDP (17), with both ends in one family
abbrev pub is_udp : PacketValue → Bool
is_udp k = same_family k.source k.destination && (k.protocol == 17)

-- a member's datagram to a member: both addresses and both ports are those of members
abbrev pub is_datagram : List Member → HookPacket → Bool
is_datagram ms h =
    is_udp h.packet && if_there (is_end ms h.packet.source) h.packet.source_port
    && if_there (is_end ms h.packet.destination) h.packet.destination_port

-- a later fragment between two members: it has no ports
-- Source: RFC 768, 791, 8200. Example: of one forged end alone neither.
abbrev pub is_fragment : List Member → HookPacket → Bool
is_fragment ms h = is_udp h.packet && h.is_later && is_home ms h.packet.source && is_home ms h.packet.destination

-- it reports that a packet was too big: in IPv4 that it would have to be fragmented (RFC 792; RFC 4443, 3.2)
abbrev pub reports_too_big : Family → HookPacket → Bool
reports_too_big Inet h = if_there (λ n. n == 3) h.packet.icmp_type && if_there (λ n. n == 4) h.icmp_code
reports_too_big Inet6 h = if_there (λ n. n == 2) h.icmp6_type

-- the same to a member
-- Source: RFC 792, 4443.
abbrev pub is_too_big : List Member → HookPacket → Bool
is_too_big ms h = reports_too_big (family_of h.packet.destination) h && is_home ms h.packet.destination

-- a neighbour solicitation or advertisement from the link itself, since a router would have lowered its hop limit
-- (RFC 4861, 4.3, 4.4, 7.1)
abbrev pub is_neighbour_discovery : HookPacket → Bool
is_neighbour_discovery h = if_there (λ n. n == 135 || n == 136) h.icmp6_type && if_there (λ n. n == 255) h.hop_limit

-- the same where a member has an IPv6 address
abbrev pub is_neighbour : List Member → HookPacket → Bool
is_neighbour ms h = has_family Inet6 ms && is_neighbour_discovery h

-- one of these four
abbrev pub is_members : List Member → HookPacket → Bool
is_members ms h = ((is_datagram ms h || is_fragment ms h) || is_too_big ms h) || is_neighbour ms h

-- ---- the guard's rules (nft(8), PAYLOAD EXPRESSIONS, EXTENSION HEADER EXPRESSIONS)

-- what a rule of the guard asks of a packet
pub data GuardMatch : Type 0 where
  -- ip saddr . udp sport { address . port, .. }: of those members that are of the family; daddr and dport too, and ip6
  AtMember : (side : Side) (family : Family) (members : List Member) → GuardMatch
  -- ip saddr { address, .. }
  AtHome : (side : Side) (family : Family) (members : List Member) → GuardMatch
  -- meta l4proto 17
  OfUdp : GuardMatch
  -- ip frag-off & 0x1fff != 0; frag frag-off != 0
  IsLater : (family : Family) → GuardMatch
  -- icmp type destination-unreachable icmp code frag-needed; icmpv6 type packet-too-big
  IsTooBig : (family : Family) → GuardMatch
  -- icmpv6 type { nd-neighbor-solicit, nd-neighbor-advert } ip6 hoplimit 255
  IsNeighbour : GuardMatch

-- whether it holds of a packet; where the packet has no such field it doesn't
abbrev pub guard_holds : HookPacket → GuardMatch → Bool
guard_holds h (AtMember side f ms) =
    of_family (address_at side h.packet) f && (h.packet.protocol == 17)
    && if_there (is_end ms (address_at side h.packet)) (port_at side h.packet)
guard_holds h (AtHome side f ms) = of_family (address_at side h.packet) f && is_home ms (address_at side h.packet)
guard_holds h OfUdp = h.packet.protocol == 17
guard_holds h (IsLater f) = of_family h.packet.source f && h.is_later
guard_holds h (IsTooBig f) = reports_too_big f h
guard_holds h IsNeighbour = is_neighbour_discovery h

-- a rule of the guard accepts packets of which all this holds
abbrev pub GuardRule : Type 0
GuardRule = List GuardMatch

-- the members' datagrams in a family, their later fragments, and that one was too big
abbrev pub family_rules : Family → List Member → List GuardRule
family_rules f ms =
    if has_family f ms then (AtMember Source f ms ∷ AtMember Destination f ms ∷ [])
    ∷ (IsLater f ∷ OfUdp ∷ AtHome Source f ms ∷ AtHome Destination f ms ∷ [])
    ∷ (IsTooBig f ∷ AtHome Destination f ms ∷ []) ∷ [] else []

-- what members with IPv6 addresses need beside
abbrev pub link_rules : List Member → List GuardRule
link_rules ms = if has_family Inet6 ms then (IsNeighbour ∷ []) ∷ [] else []

-- the guard of these members
abbrev pub guard_of : List Member → List GuardRule
guard_of ms = family_rules Inet ms ++ (family_rules Inet6 ms ++ link_rules ms)

-- ---- what a hook decides

-- a rule of the guard accepts the packet
abbrev pub is_passed : List GuardRule → HookPacket → Bool
is_passed guard h = list_any (list_all (guard_holds h)) guard

-- the guard's verdict
abbrev pub let_through : Decision
let_through = record { outcome = Accept; note = OfMembers }

-- a jump to a chain of such rules, and then what decides behind it
abbrev pub behind_guard : List GuardRule → (HookPacket → Option Decision) → HookPacket → Option Decision
behind_guard guard behind h = if is_passed guard h then Some let_through else behind h

-- where the chain at a hook jumps to
pub data HookJump : Type 0 where
  -- to a chain of the guard's rules
  ToGuard : (guard : List GuardRule) → HookJump
  -- to a chain of the ruleset
  ToChain : (chain : ChainName) → HookJump

-- what the chain at a hook decides whose rules are these jumps to the guard and into a ruleset: the first that decides
-- does
-- Source: nft(8), VERDICT STATEMENT.
abbrev pub at_hook : List HookJump → NftRuleset → HookPacket → Option Decision
at_hook [] r h = None
at_hook (ToGuard guard ∷ jumps) r h = behind_guard guard (at_hook jumps r) h
at_hook (ToChain chain ∷ jumps) r h = or_else (run 10 r h.packet chain) (at_hook jumps r h)

-- the chain at a hook: the guard of the members, if there are any, and then the ruleset's first chain
abbrev pub hook_of : List Member → List HookJump
hook_of [] = ToChain Base ∷ []
hook_of (m ∷ ms) = ToGuard (guard_of (m ∷ ms)) ∷ ToChain Base ∷ []

-- Whatever is behind the guard of these members: their packets are accepted, and of every other packet it is
-- decided as without the guard.
abbrev pub GuardPasses : List Member → (HookPacket → Option Decision) → Type 0
GuardPasses ms behind = (h : HookPacket) →
    behind_guard (guard_of ms) behind h ≡ (if is_members ms h then Some let_through else behind h)
