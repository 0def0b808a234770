-- A ruleset of nftables as the lines that nft(8) loads, a line a transaction. Each token but the last is followed by a
-- blank, each statement by a semicolon; lists may end with a comma.
use Rattle.std.specs.Prelude.{ℕ, ◌+◌, ◌-◌, Bool, true, false, ◌&&◌, List, [], ◌∷◌, ◌++◌, codes, decimal}
use Rattle.std.specs.Prelude.{length, take, drop, nat_lt, nat_le, if◌then◌else◌}
use Rattle.std.specs.List.{flat_map, prefix_len}
use Rattle.pf_addr.specs.declared.addr.Family.{Family}
use Rattle.pf_addr.specs.declared.addr.Family.TheVariants.{Inet, Inet6}
use Rattle.pf_addr.specs.Shown.{shown_addr}
use Rattle.pf_rules.specs.declared.flags.TcpFlags.{TcpFlags}
use Rattle.pf_rules.specs.declared.parts.Direction.{Direction}
use Rattle.pf_rules.specs.declared.parts.Direction.TheVariants.{In, Out}
use Rattle.pf_rules.specs.Names.{Name}
use Rattle.pf_config.specs.Map.{Path}
use Rattle.pf_show.specs.Shown.{slashed}
use Rattle.nft_rules.specs.Cuts.{address, top}
use Rattle.nft_rules.specs.Evaluation.{is_set, is_chain}
use Rattle.pf_eval.specs.Matching.{of_family}
use Rattle.nft_rules.specs.declared.subset.Interval.{Interval}
use Rattle.nft_rules.specs.declared.subset.Side.{Side}
use Rattle.nft_rules.specs.declared.subset.Side.TheVariants.{Source, Destination}
use Rattle.nft_rules.specs.declared.subset.Outcome.{Outcome}
use Rattle.nft_rules.specs.declared.subset.Outcome.TheVariants.{Accept, Drop, Reject}
use Rattle.nft_rules.specs.Subset.{SetName, NamedSet, Where, From, InSet}
use Rattle.nft_rules.specs.Subset.{Match, OnInterface, OfFamily, OfProtocol, AtAddress, AtPort, WithFlags, OfType}
use Rattle.nft_rules.specs.Subset.{ChainName, Base, At, Note, Unknown, Skip, Default, Spot, OfMembers}
use Rattle.nft_rules.specs.Subset.{Statement, Ends, Jump, NftRule, Chain, NftRuleset}
use Rattle.nft_rules.specs.declared.guard.Member.{Member}
use Rattle.nft_rules.specs.Guard.{GuardMatch, AtMember, AtHome, OfUdp, IsLater, IsTooBig, IsNeighbour}
use Rattle.nft_rules.specs.Guard.{GuardRule, guard_of, HookJump, ToGuard, ToChain, hook_of}

-- ---- names

-- how many are before the first of that name
abbrev pub chain_index : ChainName → List Chain → ℕ
chain_index name [] = 0
chain_index name (c ∷ cs) = if is_chain name c then 0 else chain_index name cs + 1

-- how many sets are before the first of that name
-- Example: the hook's chain is 0.
abbrev pub set_index : SetName → List NamedSet → ℕ
set_index name [] = 0
set_index name (s ∷ ss) = if is_set name s then 0 else set_index name ss + 1

-- names of two positions differ: g7_
abbrev pub generation : ℕ → List ℕ
generation position = codes "g" ++ (decimal position ++ codes "_")

-- g7_i2
abbrev pub chain_label : ℕ → Direction → NftRuleset → ChainName → List ℕ
chain_label position In r name = generation position ++ (codes "i" ++ decimal (chain_index name r.chains))
chain_label position Out r name = generation position ++ (codes "o" ++ decimal (chain_index name r.chains))

-- g7_s2
-- Example: g7_, g7_i2, g7_s0.
abbrev pub set_label : ℕ → NftRuleset → SetName → List ℕ
set_label position r name = generation position ++ (codes "s" ++ decimal (set_index name r.sets))

-- ---- matches

-- "!= " before what is negated, else nothing
abbrev pub not_text : Bool → List ℕ
not_text true = codes "!= "
not_text false = []

-- the address of that number, if the family has one
abbrev pub number_text : Family → ℕ → List ℕ
number_text f n = if nat_le n (top f) then shown_addr (address f n) else []

-- two addresses of a family, by their numbers, with - between
abbrev pub interval_text : Family → ℕ → ℕ → List ℕ
interval_text f low high = number_text f low ++ (codes "-" ++ number_text f high)

-- where an address has to be: an interval, or @ and the name of a set
-- Example: 10.0.0.0-10.255.255.255, @g7_s0.
abbrev pub place_text : ℕ → NftRuleset → Family → Where → List ℕ
place_text position r f (From low high) = interval_text f low high
place_text position r f (InSet name) = codes "@" ++ set_label position r name

-- "em0",
abbrev pub quoted : Name → List ℕ
quoted name = codes "\"" ++ (name ++ codes "\", ")

-- the keyword for a packet's interface: iifname of packets in, oifname of packets out
abbrev pub interface_text : Direction → List ℕ
interface_text In = codes "iifname "
interface_text Out = codes "oifname "

-- the keyword for the header that has a family's addresses
abbrev pub family_text : Family → List ℕ
family_text Inet = codes "ip "
family_text Inet6 = codes "ip6 "

-- the keyword for the address of an end
abbrev pub address_text : Side → List ℕ
address_text Source = codes "saddr "
address_text Destination = codes "daddr "

-- the keywords for the port of an end, of TCP or UDP
-- Example: th dport.
abbrev pub port_text : Side → List ℕ
port_text Source = codes "th sport "
port_text Destination = codes "th dport "

-- what a flag adds to the byte: its number where it is set, else 0
abbrev pub weight : Bool → ℕ → ℕ
weight true n = n
weight false n = 0

-- the flags as the byte that holds them (RFC 9293, 3.1)
-- Example: SYN and ACK are 18.
abbrev pub flags_byte : TcpFlags → ℕ
flags_byte f =
    weight f.fin 1 + weight f.syn 2 + weight f.rst 4 + weight f.psh 8 + weight f.ack 16 + weight f.urg 32
    + weight f.ece 64 + weight f.cwr 128

-- how a match is written (nft(8), META EXPRESSIONS, PAYLOAD EXPRESSIONS)
-- Example: tcp flags & 18 == 2.
unfoldable pub match_text : ℕ → Direction → NftRuleset → Match → List ℕ
match_text position d r (OnInterface names negated) =
    interface_text d ++ (not_text negated ++ (codes "{ " ++ (flat_map quoted names ++ codes "} ")))
match_text position d r (OfFamily Inet) = codes "meta nfproto ipv4 "
match_text position d r (OfFamily Inet6) = codes "meta nfproto ipv6 "
match_text position d r (OfProtocol number negated) =
    codes "meta l4proto " ++ (not_text negated ++ (decimal number ++ codes " "))
match_text position d r (AtAddress side f place negated) =
    family_text f ++ (address_text side ++ (not_text negated ++ (place_text position r f place ++ codes " ")))
match_text position d r (AtPort side low high negated) =
    port_text side ++ (not_text negated ++ (decimal low ++ (codes "-" ++ (decimal high ++ codes " "))))
match_text position d r (WithFlags mask value) =
    codes "tcp flags & " ++ (decimal (flags_byte mask) ++ (codes " == " ++ (decimal (flags_byte value) ++ codes " ")))
match_text position d r (OfType number) = codes "@th,0,8 " ++ (decimal number ++ codes " ")

-- ---- statements

-- whether names, each with a slash, take no more than that many bytes
abbrev pub are_short : ℕ → Path → Bool
are_short room [] = true
are_short room (n ∷ ns) = nat_lt (length n) room && are_short (room - (length n + 1)) ns

-- a comment has at most 128 bytes: a longer path is left out
abbrev pub path_text : Path → List ℕ
path_text p = if are_short 110 p then slashed p else []

-- what a counter counts
abbrev pub note_text : Note → List ℕ
note_text Unknown = codes "unknown"
note_text Skip = codes "skip"
note_text Default = codes "default"
note_text OfMembers = codes "members"
note_text (Spot path index) = path_text path ++ (codes "@" ++ decimal index)

-- how an outcome is written; reject goes to the position's chain that answers
abbrev pub outcome_text : ℕ → Outcome → List ℕ
outcome_text position Accept = codes "accept"
outcome_text position Drop = codes "drop"
outcome_text position Reject = codes "goto " ++ (generation position ++ codes "refuse")

-- a counter, the outcome, and the note as a comment; or a jump (nft(8), VERDICT STATEMENT)
abbrev pub statement_text : ℕ → Direction → NftRuleset → Statement → List ℕ
statement_text position d r (Ends decision) =
    codes "counter " ++ (outcome_text position decision.outcome ++ (codes " comment \"" ++ (note_text decision.note
    ++ codes "\"; ")))
statement_text position d r (Jump chain) = codes "jump " ++ (chain_label position d r chain ++ codes "; ")

-- a rule: its matches, and then its statement
-- Example: counter drop comment "x@3";.
unfoldable pub rule_text : ℕ → Direction → NftRuleset → NftRule → List ℕ
rule_text position d r rule =
    flat_map (match_text position d r) rule.matches ++ statement_text position d r rule.statement

-- ---- chains

-- the note is one of a rule that asks for the interface alone
abbrev pub note_first : Note → Bool
note_first Unknown = true
note_first Skip = true
note_first Default = false
note_first OfMembers = false
note_first (Spot path index) = false

-- the statement decides, and for the interface alone: it is unknown or skipped
abbrev pub asks_interface : Statement → Bool
asks_interface (Jump chain) = false
asks_interface (Ends decision) = note_first decision.note

-- how many they are
abbrev pub first_rules : List NftRule → ℕ
first_rules rules = prefix_len (λ rule. asks_interface rule.statement) rules

-- where some rule keeps state, the rule for what belongs to a connection that was let through
abbrev pub states_text : Bool → List ℕ
states_text true = codes "ct state established,related counter accept comment \"state\"; "
states_text false = []

-- at the hook a jump to the guard and, where state is kept, the rule for known connections; in other chains nothing
abbrev pub front_text : ℕ → Bool → ChainName → List ℕ
front_text position keeps Base = codes "jump " ++ (generation position ++ (codes "guard; " ++ states_text keeps))
front_text position keeps (At pass path) = []

-- the rules of a chain; behind those for the interface alone is what the hook's chain has there
abbrev pub rules_text : ℕ → Bool → Direction → NftRuleset → Chain → List ℕ
rules_text position keeps d r c =
    flat_map (rule_text position d r) (take (first_rules c.rules) c.rules)
    ++ (front_text position keeps c.name ++ flat_map (rule_text position d r) (drop (first_rules c.rules) c.rules))

-- a chain with its name and its rules (nft(8), CHAINS)
unfoldable pub chain_text : ℕ → Bool → Direction → NftRuleset → Chain → List ℕ
chain_text position keeps d r c =
    codes "chain " ++ (chain_label position d r c.name ++ (codes " { " ++ (rules_text position keeps d r c
    ++ codes "}; ")))

-- ---- sets

-- an interval of a set, and a comma
abbrev pub element_text : Family → Interval → List ℕ
element_text f i = interval_text f i.low i.high ++ codes ", "

-- the list of a set's intervals; it isn't written where there are none
abbrev pub elements_text : Family → List Interval → List ℕ
elements_text f [] = []
elements_text f (i ∷ is) = codes "elements = { " ++ (flat_map (element_text f) (i ∷ is) ++ codes "}; ")

-- the type of a set with intervals of a family's addresses
abbrev pub type_text : Family → List ℕ
type_text Inet = codes "type ipv4_addr; flags interval; "
type_text Inet6 = codes "type ipv6_addr; flags interval; "

-- a set with its name, its type and its intervals (nft(8), SETS)
unfoldable pub set_text : ℕ → NftRuleset → NamedSet → List ℕ
set_text position r s =
    codes "set " ++ (set_label position r s.name ++ (codes " { " ++ (type_text s.name.family
    ++ (elements_text s.name.family s.elements ++ codes "}; "))))

-- ---- the members' guard

-- what is behind an address: its port, where ports are asked too, and a comma
abbrev pub end_text : (ports : Bool) → ℕ → List ℕ
end_text true port = codes " . " ++ (decimal port ++ codes ", ")
end_text false port = codes ", "

-- the address of a member of the family, and its end
abbrev pub member_text : (ports : Bool) → Family → Member → List ℕ
member_text ports f m = if of_family m.address f then shown_addr m.address ++ end_text ports m.port else []

-- the keywords for the port of an end, of UDP
abbrev pub udp_text : Side → List ℕ
udp_text Source = codes ". udp sport "
udp_text Destination = codes ". udp dport "

-- the match of a later fragment (RFC 791, 3.1; RFC 8200, 4.5)
abbrev pub later_text : Family → List ℕ
later_text Inet = codes "ip frag-off & 0x1fff != 0 "
later_text Inet6 = codes "frag frag-off != 0 "

-- the match of a report that a packet was too big
abbrev pub too_big_text : Family → List ℕ
too_big_text Inet = codes "icmp type destination-unreachable icmp code frag-needed "
too_big_text Inet6 = codes "icmpv6 type packet-too-big "

-- how a match of the guard is written (nft(8), PAYLOAD EXPRESSIONS, EXTENSION HEADER EXPRESSIONS)
unfoldable pub guard_match_text : GuardMatch → List ℕ
guard_match_text (AtMember side f ms) =
    family_text f ++ (address_text side ++ (udp_text side ++ (codes "{ " ++ (flat_map (member_text true f) ms
    ++ codes "} "))))
guard_match_text (AtHome side f ms) =
    family_text f ++ (address_text side ++ (codes "{ " ++ (flat_map (member_text false f) ms ++ codes "} ")))
guard_match_text OfUdp = codes "meta l4proto 17 "
guard_match_text (IsLater f) = later_text f
guard_match_text (IsTooBig f) = too_big_text f
guard_match_text IsNeighbour = codes "icmpv6 type { nd-neighbor-solicit, nd-neighbor-advert } ip6 hoplimit 255 "

-- a rule of the guard: its matches, a counter, accept
-- Example: ip saddr { 192.0.2.1, }.
unfoldable pub guard_rule_text : GuardRule → List ℕ
guard_rule_text matches = flat_map guard_match_text matches ++ codes "counter accept comment \"members\"; "

-- the chain of the members' guard; none where no members are known
unfoldable pub members_text : ℕ → List Member → List ℕ
members_text position [] = []
members_text position (m ∷ ms) =
    codes "chain " ++ (generation position ++ (codes "members { " ++ (flat_map guard_rule_text (guard_of (m ∷ ms))
    ++ codes "}; ")))

-- its end, if it is there
-- Example: chain g7_members { .. }.
unfoldable pub members_gone : ℕ → List Member → List ℕ
members_gone position [] = []
members_gone position (m ∷ ms) =
    codes "delete chain inet reltzuma " ++ (generation position ++ codes "members; ")

-- ---- the three transactions

-- the chains at the hooks, which stay
abbrev pub hooks_text : List ℕ
hooks_text =
    codes "chain in { type filter hook prerouting priority 0; policy accept; }; "
    ++ (codes "chain out_l { type filter hook output priority 0; policy accept; }; "
    ++ codes "chain out_f { type filter hook forward priority 0; policy accept; }; ")

-- the sets: nothing asks them yet
unfoldable pub sets_line : ℕ → NftRuleset → List ℕ
sets_line position r =
    codes "table inet reltzuma { " ++ (hooks_text ++ (flat_map (set_text position r) r.sets ++ codes "}\n"))

-- later fragments are dropped
abbrev pub fragments_text : List ℕ
fragments_text = codes "ip frag-off & 0x1fff != 0 counter drop; frag frag-off != 0 counter drop; "

-- and headers of TCP, UDP or ICMP that are cut short: a load of their last bytes fails
abbrev pub headers_text : List ℕ
headers_text =
    codes "meta l4proto 6 tcp urgptr 0-65535 return; meta l4proto 6 counter drop; "
    ++ (codes "meta l4proto 17 udp checksum 0-65535 return; meta l4proto 17 counter drop; "
    ++ (codes "meta nfproto ipv4 meta l4proto 1 icmp checksum 0-65535 return; "
    ++ codes "meta nfproto ipv4 meta l4proto 1 counter drop; "))

-- a chain that drops later fragments, and headers of TCP, UDP or ICMP that are cut short
abbrev pub guard_text : ℕ → List ℕ
guard_text position =
    codes "chain " ++ (generation position ++ (codes "guard { " ++ (fragments_text ++ (headers_text ++ codes "}; "))))

-- what block return answers
abbrev pub refuse_text : ℕ → List ℕ
refuse_text position =
    codes "chain " ++ (generation position ++ (codes "refuse { meta l4proto 6 counter reject with tcp reset; "
    ++ codes "counter reject with icmpx port-unreachable; }; "))

-- a jump of a hook: to the chain of the members' guard, or to a chain of the ruleset, which names the position
unfoldable pub jump_text : ℕ → Direction → NftRuleset → HookJump → List ℕ
jump_text position d r (ToGuard guard) = codes "jump " ++ (generation position ++ codes "members; ")
jump_text position d r (ToChain chain) =
    codes "jump " ++ (chain_label position d r chain ++ (codes " comment \"applied " ++ (decimal position
    ++ codes "\"; ")))

-- a hook's chain with its jumps, in order
abbrev pub hook_text : List ℕ → ℕ → Direction → NftRuleset → List HookJump → List ℕ
hook_text name position d r jumps =
    codes "chain " ++ (name ++ (codes " { " ++ (flat_map (jump_text position d r) jumps ++ codes "}; ")))

-- the three hooks: the members' guard, if there are members, and then the ruleset's first chain
-- Example: jump g7_members;, comment "applied 7".
abbrev pub hooks_filled : ℕ → List Member → NftRuleset → NftRuleset → List ℕ
hooks_filled position ms inward outward =
    hook_text (codes "in") position In inward (hook_of ms)
    ++ (hook_text (codes "out_l") position Out outward (hook_of ms)
    ++ hook_text (codes "out_f") position Out outward (hook_of ms))

-- all rules go, and those of this position come
unfoldable pub rules_line : ℕ → Bool → List Member → NftRuleset → NftRuleset → List ℕ
rules_line position keeps ms inward outward =
    codes "flush table inet reltzuma; table inet reltzuma { " ++ (members_text position ms ++ (guard_text position
    ++ (refuse_text position ++ (flat_map (chain_text position keeps In inward) inward.chains
    ++ (flat_map (chain_text position keeps Out outward) outward.chains
    ++ (hooks_filled position ms inward outward ++ codes "}\n"))))))

-- a chain of this position is deleted
unfoldable pub chain_gone : ℕ → Direction → NftRuleset → Chain → List ℕ
chain_gone position d r c = codes "delete chain inet reltzuma " ++ (chain_label position d r c.name ++ codes "; ")

-- a set of this position is deleted
unfoldable pub set_gone : ℕ → NftRuleset → NamedSet → List ℕ
set_gone position r s = codes "delete set inet reltzuma " ++ (set_label position r s.name ++ codes "; ")

-- the guard and the chain that answers, of this position, are deleted
abbrev pub fixed_gone : ℕ → List ℕ
fixed_gone position =
    codes "delete chain inet reltzuma " ++ (generation position ++ (codes "guard; delete chain inet reltzuma "
    ++ (generation position ++ codes "refuse; ")))

-- the chains and sets of this position go: once another position's rules have come
-- Example: delete set inet reltzuma g7_s0;.
unfoldable pub gone_line : ℕ → List Member → NftRuleset → NftRuleset → List ℕ
gone_line position ms inward outward =
    flat_map (chain_gone position In inward) inward.chains ++ (flat_map (chain_gone position Out outward) outward.chains
    ++ (fixed_gone position ++ (members_gone position ms ++ (flat_map (set_gone position inward) inward.sets
    ++ codes "\n"))))

-- what is loaded, two lines, and for later the line of its end
pub record TransactionsValue : Type 0 where
  pub load : List ℕ
  pub end : List ℕ

-- the three lines
unfoldable pub lines : ℕ → Bool → List Member → NftRuleset → NftRuleset → TransactionsValue
lines position keeps ms inward outward = record {
  load = sets_line position inward ++ rules_line position keeps ms inward outward;
  end = gone_line position ms inward outward;
}
