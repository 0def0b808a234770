-- How nftables judges a packet (nft(8), RULES and VERDICT STATEMENT).
use Rattle.std.specs.Prelude.{ℕ, zero, suc, Bool, true, false, ◌==◌, ◌&&◌, List, [], ◌∷◌, Option, Some, None, not}
use Rattle.std.specs.Prelude.{nat_le, find, if◌then◌else◌}
use Rattle.std.specs.List.{list_any, list_all}
use Rattle.std.specs.Str.{bytes_eq}
use Rattle.pf_addr.specs.declared.addr.Addr.{Addr}
use Rattle.pf_addr.specs.Order.{bits_of}
use Rattle.pf_rules.specs.declared.flags.TcpFlags.{TcpFlags}
use Rattle.pf_tables.specs.Tables.{bool_eq}
use Rattle.pf_config.specs.Map.{path_eq, or_else}
use Rattle.pf_eval.specs.Packets.{PacketValue}
use Rattle.pf_eval.specs.Matching.{of_family, if_there}
use Rattle.nft_rules.specs.Cuts.{is_within}
use Rattle.nft_rules.specs.Subset.{SetName, Interval, NamedSet, Side, Source, Destination, Where, From, InSet}
use Rattle.nft_rules.specs.Subset.{Match, OnInterface, OfFamily, OfProtocol, AtAddress, AtPort, WithFlags, OfType}
use Rattle.nft_rules.specs.Subset.{Pass, Forward, Backward, ChainName, Base, At, Decision, Statement, Ends, Jump}
use Rattle.nft_rules.specs.Subset.{NftRule, Chain, NftRuleset, family_eq}

-- ---- names

-- two passes are the same
abbrev pub pass_eq : Pass → Pass → Bool
pass_eq Forward Forward = true
pass_eq Forward Backward = false
pass_eq Backward Forward = false
pass_eq Backward Backward = true

-- two names of sets are the same: the owner, the table and the family
abbrev pub same_set : SetName → SetName → Bool
same_set n m = path_eq n.owner m.owner && bytes_eq n.table m.table && family_eq n.family m.family

-- the set has that name
abbrev pub is_set : SetName → NamedSet → Bool
is_set n s = same_set s.name n

-- two names of chains are the same: both the hook's, or the same pass and path
abbrev pub same_chain : ChainName → ChainName → Bool
same_chain Base Base = true
same_chain Base (At pass path) = false
same_chain (At pass path) Base = false
same_chain (At pass path) (At wanted place) = pass_eq pass wanted && path_eq path place

-- the chain has that name
abbrev pub is_chain : ChainName → Chain → Bool
is_chain n c = same_chain c.name n

-- ---- matches

-- != and not in
abbrev pub turned : Bool → Bool → Bool
turned negated b = if negated then not b else b

-- the intervals of a set, none where there is no such set
abbrev pub elements_in : Option NamedSet → List Interval
elements_in None = []
elements_in (Some s) = s.elements

-- an address, as a number, is within the bounds or in the set of that name; a set that isn't there has no address
abbrev pub in_place : List NamedSet → ℕ → Where → Bool
in_place sets n (From low high) = nat_le low n && nat_le n high
in_place sets n (InSet name) = list_any (is_within n) (elements_in (find (is_set name) sets))

-- the packet's address at that end
abbrev pub address_at : Side → PacketValue → Addr
address_at Source k = k.source
address_at Destination k = k.destination

-- the packet's port at that end, if it has ports
abbrev pub port_at : Side → PacketValue → Option ℕ
port_at Source k = k.source_port
port_at Destination k = k.destination_port

-- the flag under the mask is just that of the value
abbrev pub masked : (here mask value : Bool) → Bool
masked here mask value = bool_eq (here && mask) value

-- the packet's flags under the mask are just those of the value
-- Source: nft(8), PAYLOAD EXPRESSIONS.
abbrev pub flags_masked : (here mask value : TcpFlags) → Bool
flags_masked here mask value =
    masked here.fin mask.fin value.fin && masked here.syn mask.syn value.syn
    && masked here.rst mask.rst value.rst && masked here.psh mask.psh value.psh
    && masked here.ack mask.ack value.ack && masked here.urg mask.urg value.urg
    && masked here.ece mask.ece value.ece && masked here.cwr mask.cwr value.cwr

-- whether a match holds of a packet; where the packet has no such field it doesn't
-- Example: != 22 doesn't hold of ICMP.
unfoldable pub holds : List NamedSet → PacketValue → Match → Bool
holds sets k (OnInterface names negated) = turned negated (list_any (bytes_eq k.interface) names)
holds sets k (OfFamily family) = of_family k.source family
holds sets k (OfProtocol number negated) = turned negated (k.protocol == number)
holds sets k (AtAddress side family place negated) =
    of_family (address_at side k) family && turned negated (in_place sets (bits_of (address_at side k)) place)
holds sets k (AtPort side low high negated) =
    if_there (λ n. turned negated (nat_le low n && nat_le n high)) (port_at side k)
holds sets k (WithFlags mask value) = (k.protocol == 6) && flags_masked k.flags mask value
holds sets k (OfType number) = if_there (λ n. n == number) k.icmp_type

-- ---- rules

-- the packet is decided, or goes to another chain
abbrev pub result_of : (ChainName → Option Decision) → Statement → Option Decision
result_of jumped (Ends decision) = Some decision
result_of jumped (Jump chain) = jumped chain

-- the first rule whose matches all hold decides; behind a jump whose chain decides nothing it goes on
abbrev pub run_rules : List NamedSet → PacketValue → (ChainName → Option Decision) → List NftRule → Option Decision
run_rules sets k jumped [] = None
run_rules sets k jumped (rule ∷ rules) =
    or_else (if list_all (holds sets k) rule.matches then result_of jumped rule.statement else None)
    (run_rules sets k jumped rules)

-- the rules of a chain, none where there is no such chain
-- Source: nft(8), VERDICT STATEMENT.
abbrev pub rules_in : Option Chain → List NftRule
rules_in None = []
rules_in (Some c) = c.rules

-- what a chain decides, where jumps nest less deep than this
unfoldable pub run : (depth : ℕ) → NftRuleset → PacketValue → ChainName → Option Decision
run zero r k name = None
run (suc depth) r k name = run_rules r.sets k (run depth r k) (rules_in (find (is_chain name) r.chains))
