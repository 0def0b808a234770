-- A configuration as a ruleset of nftables, for a machine whose interfaces are known, and for one direction.
use Rattle.std.specs.Prelude.{ℕ, ◌+◌, ◌-◌, Bool, true, false, ◌==◌, ◌&&◌, List, [], ◌∷◌, ◌++◌, Option, Some, None}
use Rattle.std.specs.Prelude.{length, map, filter, reverse, not, nat_le, nat_lt, option_map, is_some, unwrap_or}
use Rattle.std.specs.Prelude.{if◌then◌else◌}
use Rattle.std.specs.List.{list_any, flat_map}
use Rattle.std.specs.Map.{lookup}
use Rattle.std.specs.Str.{bytes_eq}
use Rattle.pf_addr.specs.declared.addr.Family.{Family}
use Rattle.pf_addr.specs.declared.addr.Family.TheVariants.{Inet, Inet6}
use Rattle.pf_addr.specs.Blocks.{family_of}
use Rattle.pf_addr.specs.Order.{bits_of}
use Rattle.pf_rules.specs.declared.flags.TcpFlags.{TcpFlags}
use Rattle.pf_rules.specs.declared.parts.Direction.{Direction}
use Rattle.pf_rules.specs.declared.parts.Interface.{Interface}
use Rattle.pf_rules.specs.declared.parts.Addresses.{Addresses}
use Rattle.pf_rules.specs.declared.parts.Addresses.TheVariants.{Prefix, Range, Table}
use Rattle.pf_rules.specs.declared.parts.Host.{Host}
use Rattle.pf_rules.specs.declared.parts.Host.TheVariants as host
use Rattle.pf_rules.specs.declared.parts.PortTest.{PortTest}
use Rattle.pf_rules.specs.declared.parts.PortTest.TheVariants.{Equal, NotEqual, Less, LessEqual, Greater}
use Rattle.pf_rules.specs.declared.parts.PortTest.TheVariants.{GreaterEqual, FromTo, Between, Outside}
use Rattle.pf_rules.specs.declared.parts.FlagTest.{FlagTest}
use Rattle.pf_rules.specs.declared.parts.FlagTest.TheVariants as flags
use Rattle.pf_rules.specs.declared.rule.Conditions.{Conditions}
use Rattle.pf_rules.specs.declared.rule.Rule.{Rule}
use Rattle.pf_rules.specs.declared.rule.Action.{Action}
use Rattle.pf_rules.specs.declared.rule.Action.TheVariants as act
use Rattle.pf_rules.specs.Names.{Name, begins_below}
use Rattle.pf_rules.specs.Items.{AnyRule, FilterRule, AnchorRule, Heading, Target}
use Rattle.pf_tables.specs.Tables.{TableValue}
use Rattle.pf_config.specs.Changes.{is_empty}
use Rattle.pf_config.specs.Map.{Configuration, Path, rules_at, table_at, table_names, paths_in, kids, followed_by}
use Rattle.pf_rules.specs.declared.ruleset.TableEntry.{TableEntry}
use Rattle.pf_eval.specs.Packets.{without_digits}
use Rattle.pf_eval.specs.Matching.{direction_eq}
use Rattle.pf_eval.specs.Verdicts as pf
use Rattle.nft_rules.specs.Subset.{NamedSet, Side, Source, Destination, Where, From, InSet}
use Rattle.nft_rules.specs.Subset.{Match, OnInterface, AtAddress, AtPort, WithFlags, OfType}
use Rattle.nft_rules.specs.Subset.{Forward, Backward, ChainName, Base, At, Note, Unknown, Skip, Default, Spot}
use Rattle.nft_rules.specs.Subset.{Outcome, Accept, Drop, Reject, Decision, Statement, Ends, Jump}
use Rattle.nft_rules.specs.Subset.{NftRule, Chain, NftRuleset, family_eq}
use Rattle.nft_rules.specs.Evaluation.{turned}
use Rattle.nft_rules.specs.Cuts.{first_of, last_of, elements}
use Rattle.nft_rules.specs.Alternatives.{Alternative, AnyProtocol, Only, NotTcp, matches_of, both}

-- ---- the machine

-- its interfaces, each with its groups
abbrev pub Machine : Type 0
Machine = List (Name × List Name)

-- the groups of an interface, if it is the machine's
abbrev pub groups_in : Machine → Name → Option (List Name)
groups_in m name = lookup (λ n. bytes_eq n name) m

-- the names by which rules may name an interface with these groups
abbrev pub names_of : Name → List Name → List Name
names_of name groups = name ∷ without_digits name ∷ groups

-- its names, if it is the machine's
abbrev pub names_in : Machine → Name → List Name
names_in m name = names_of name (unwrap_or (groups_in m name) [])

-- the names of the machine's interfaces
-- Example: em0 in the group lan: em0, em, lan.
abbrev pub known : Machine → List Name
known m = map (λ (i : Name × List Name). i.0) m

-- the machine's interfaces whose names pass
abbrev pub interfaces_with : (List Name → Bool) → Machine → List Name
interfaces_with test m = filter (λ n. test (names_in m n)) (known m)

-- ---- the parts of a rule

-- nothing is asked
abbrev pub always : Alternative
always = record { family = None; protocol = AnyProtocol; tests = [] }

-- these matches are asked, and nothing of family and protocol
abbrev pub only_tests : List Match → Alternative
only_tests tests = record { family = None; protocol = AnyProtocol; tests = tests }

-- nothing is asked where the rule is for this direction or for both; a rule for the other one has no alternative
abbrev pub direction_alternatives : Direction → Option Direction → List Alternative
direction_alternatives d None = always ∷ []
direction_alternatives d (Some wanted) = if direction_eq d wanted then always ∷ [] else []

-- the packet is of the rule's family, or of any where the rule names none
abbrev pub family_alternatives : Option Family → List Alternative
family_alternatives f = record { family = f; protocol = AnyProtocol; tests = [] } ∷ []

-- the packet is of the rule's protocol, or of any where the rule names none
abbrev pub protocol_alternatives : Option ℕ → List Alternative
protocol_alternatives None = always ∷ []
protocol_alternatives (Some n) = record { family = None; protocol = Only n; tests = [] } ∷ []

-- the packet is an ICMP packet of the rule's type, or any packet where the rule names no type
abbrev pub type_alternatives : Option ℕ → List Alternative
type_alternatives None = always ∷ []
type_alternatives (Some n) = record { family = None; protocol = Only 1; tests = OfType n ∷ [] } ∷ []

-- of the flags in the mask those that are to be set
abbrev pub masked_by : TcpFlags → TcpFlags → TcpFlags
masked_by mask f = record {
  fin = f.fin && mask.fin;
  syn = f.syn && mask.syn;
  rst = f.rst && mask.rst;
  psh = f.psh && mask.psh;
  ack = f.ack && mask.ack;
  urg = f.urg && mask.urg;
  ece = f.ece && mask.ece;
  cwr = f.cwr && mask.cwr;
}

-- flags are asked of TCP packets alone
abbrev pub flag_alternatives : FlagTest → List Alternative
flag_alternatives flags.Any = always ∷ []
flag_alternatives (flags.Just set of) =
    record { family = None; protocol = Only 6; tests = WithFlags of (masked_by of set) ∷ [] }
    ∷ record { family = None; protocol = NotTcp; tests = [] } ∷ []

-- a packet on one of these, of which there may be none
abbrev pub on_some : List Name → List Alternative
on_some [] = []
on_some (n ∷ ns) = only_tests (OnInterface (n ∷ ns) false ∷ []) ∷ []

-- one of the names is the interface's, or, negated, none
abbrev pub is_matched : Interface → List Name → Bool
is_matched i names = turned i.negated (list_any (λ n. bytes_eq n i.name) names)

-- the packet is on one of the machine's interfaces that the rule means, no alternative where it means none of them;
-- where the rule names no interface nothing is asked
abbrev pub interface_alternatives : Machine → Option Interface → List Alternative
interface_alternatives m None = always ∷ []
interface_alternatives m (Some i) = on_some (interfaces_with (is_matched i) m)

-- ---- ports

-- the ports from low to high, with both ends, or, negated, all others
pub record PortSpan : Type 0 where
  pub low : ℕ
  pub high : ℕ
  pub negated : Bool

-- the ports from low to high, with both ends
abbrev pub ports_from : (low high : ℕ) → Option PortSpan
ports_from low high = Some (record { low = low; high = high; negated = false })

-- all ports but those from low to high, whose ends are left out too
abbrev pub ports_but : (low high : ℕ) → Option PortSpan
ports_but low high = Some (record { low = low; high = high; negated = true })

-- the ports that pass, none if none does
abbrev pub port_span : PortTest → Option PortSpan
port_span (Equal n) = ports_from n n
port_span (NotEqual n) = ports_but n n
port_span (Less n) = if n == 0 then None else ports_from 0 (n - 1)
port_span (LessEqual n) = ports_from 0 n
port_span (Greater n) = ports_but 0 n
port_span (GreaterEqual n) = ports_from n 65535
port_span (FromTo a b) = if nat_le a b then ports_from a b else None
port_span (Between a b) = if nat_lt (a + 1) b then ports_from (a + 1) (b - 1) else None
port_span (Outside a b) = if nat_le a b then ports_but a b else ports_from 0 65535

-- a packet of this protocol of which this match holds
abbrev pub of_protocol : ℕ → Match → Alternative
of_protocol n m = record { family = None; protocol = Only n; tests = m ∷ [] }

-- TCP and UDP have ports
abbrev pub on_ports : Side → Option PortSpan → List Alternative
on_ports side None = []
on_ports side (Some s) = of_protocol 6 (AtPort side s.low s.high s.negated)
    ∷ of_protocol 17 (AtPort side s.low s.high s.negated) ∷ []

-- the port of that end passes the rule's test: an alternative for TCP and one for UDP, none where no port passes;
-- without a test nothing is asked
-- Example: no port is less than 0: none.
abbrev pub port_alternatives : Side → Option PortTest → List Alternative
port_alternatives side None = always ∷ []
port_alternatives side (Some test) = on_ports side (port_span test)

-- ---- addresses

-- whose table a rule at a path names: the path's own, else main's, none if there is none
abbrev pub owner_of : Configuration → Path → Name → Option Path
owner_of c p name =
    if is_some (table_at c p name) then Some p else (if is_some (table_at c [] name) then Some [] else None)

-- the addresses of that family, none if there are none
abbrev pub place_of : Configuration → Path → Family → Addresses → Option Where
place_of c p f (Prefix block) =
    if family_eq (family_of block.base) f then Some (From (first_of block) (last_of block)) else None
place_of c p f (Range range) =
    if family_eq (family_of range.first) f && family_eq (family_of range.last) f
    then Some (From (bits_of range.first) (bits_of range.last)) else None
place_of c p f (Table name) =
    option_map (λ owner. InSet (record { owner = owner; table = name; family = f })) (owner_of c p name)

-- the address of that end is of the family and in that place; no alternative where there is no place
abbrev pub of_place : Side → Family → Option Where → List Alternative
of_place side f None = []
of_place side f (Some place) =
    record { family = Some f; protocol = AnyProtocol; tests = AtAddress side f place false ∷ [] } ∷ []

-- the address of that end is of the family and not in that place; any of the family where there is no place
abbrev pub off_place : Side → Family → Option Where → List Alternative
off_place side f None = record { family = Some f; protocol = AnyProtocol; tests = [] } ∷ []
off_place side f (Some place) =
    record { family = Some f; protocol = AnyProtocol; tests = AtAddress side f place true ∷ [] } ∷ []

-- the address of that end is one that a rule at a path asks for: an alternative for each family for which there is a
-- place, or, negated, for each family; Any asks nothing
abbrev pub host_alternatives : Configuration → Path → Side → Host → List Alternative
host_alternatives c p side host.Any = always ∷ []
host_alternatives c p side (host.In set) =
    of_place side Inet (place_of c p Inet set) ++ of_place side Inet6 (place_of c p Inet6 set)
host_alternatives c p side (host.NotIn set) =
    off_place side Inet (place_of c p Inet set) ++ off_place side Inet6 (place_of c p Inet6 set)

-- ---- the whole of a rule's conditions

-- what is asked of the packet itself
-- Example: an ICMP type asks for protocol 1.
unfoldable pub such_alternatives : Machine → Direction → Conditions → List Alternative
such_alternatives m d r =
    both (both (both (both (both (direction_alternatives d r.direction) (family_alternatives r.family))
    (protocol_alternatives r.protocol)) (type_alternatives r.icmp_type)) (flag_alternatives r.flags))
    (interface_alternatives m r.interface)

-- what is asked of its two ends
-- Example: ! 10/8 holds of every IPv6 address.
unfoldable pub end_alternatives : Configuration → Path → Conditions → List Alternative
end_alternatives c p r =
    both (both (both (port_alternatives Source r.source_port) (port_alternatives Destination r.destination_port))
    (host_alternatives c p Source r.source)) (host_alternatives c p Destination r.destination)

-- the conditions of a rule at a path as alternatives, of which one has to hold of packets of the direction
-- Example: port > 22 is one for TCP and one for UDP.
unfoldable pub alternatives : Configuration → Machine → Direction → Path → Conditions → List Alternative
alternatives c m d p r = both (such_alternatives m d r) (end_alternatives c p r)

-- ---- rules

-- the rule does this to packets of which one of the alternatives holds
unfoldable pub with_statement : Statement → Alternative → NftRule
with_statement s a = record { matches = matches_of a; statement = s }

-- a rule's action in the terms of nftables: block return is reject
abbrev pub outcome_of : Action → Outcome
outcome_of act.Pass = Accept
outcome_of act.Drop = Drop
outcome_of act.Return = Reject

-- a filter rule with that index at a path: for each alternative a rule that decides so, with its place as the note
abbrev pub filter_rules : List Alternative → Path → ℕ → Rule → List NftRule
filter_rules xs p i r =
    map (with_statement (Ends (record { outcome = outcome_of r.action; note = Spot p i }))) xs

-- for each of these chains a rule that jumps there where the alternative holds
unfoldable pub jump_each : List ChainName → Alternative → List NftRule
jump_each chains a = map (λ n. with_statement (Jump n) a) chains

-- for each alternative the jumps to all these chains, in their order
abbrev pub jump_rules : List Alternative → List ChainName → List NftRule
jump_rules xs chains = flat_map (jump_each chains) xs

-- paths that a jump may lead to: some rule is there, and they are at most 8 names deep
abbrev pub is_chained : Configuration → Path → Bool
is_chained c q = nat_le (length q) 8 && not (is_empty (rules_at c q))

-- the paths that an anchor rule evaluates, in their order
abbrev pub targets_of : Configuration → Path → Target → List Path
targets_of c p t =
    if t.children
    then map (followed_by (p ++ t.names)) (filter (λ n. not (begins_below n)) (kids c (p ++ t.names)))
    else (p ++ t.names) ∷ []

-- of the paths that an anchor rule evaluates those that a jump may lead to
abbrev pub chained_targets : Configuration → Path → Target → List Path
chained_targets c p t = filter (is_chained c) (targets_of c p t)

-- the forward chains of these paths, in their order
abbrev pub forward_chains : List Path → List ChainName
forward_chains paths = map (At Forward) paths

-- the backward chains of these paths, the last path first
abbrev pub backward_chains : List Path → List ChainName
backward_chains paths = map (At Backward) (reverse paths)

-- the chains to which an anchor rule leads forwards; within a quick one the last hit ends the evaluation too
-- Example: x/* means no unnamed block.
abbrev pub anchor_chains : Configuration → Path → Heading → List ChainName
anchor_chains c p a = forward_chains (chained_targets c p a.target)
    ++ (if a.quick then backward_chains (chained_targets c p a.target) else [])

-- what may end the evaluation: quick rules, and what anchor rules evaluate
abbrev pub forward_rule : Configuration → Machine → Direction → Path → ℕ → AnyRule → List NftRule
forward_rule c m d p i (FilterRule r) = if r.quick then filter_rules (alternatives c m d p r.conditions) p i r else []
forward_rule c m d p i (AnchorRule a) =
    jump_rules (alternatives c m d p a.conditions) (anchor_chains c p a)

-- the rest
abbrev pub backward_rule : Configuration → Machine → Direction → Path → ℕ → AnyRule → List NftRule
backward_rule c m d p i (FilterRule r) = if r.quick then [] else filter_rules (alternatives c m d p r.conditions) p i r
backward_rule c m d p i (AnchorRule a) =
    if a.quick then []
    else jump_rules (alternatives c m d p a.conditions) (backward_chains (chained_targets c p a.target))

-- of rules with the indices from i on: the first one first
abbrev pub forward_rules : (ℕ → AnyRule → List NftRule) → ℕ → List AnyRule → List NftRule
forward_rules f i [] = []
forward_rules f i (rule ∷ rules) = f i rule ++ forward_rules f (i + 1) rules

-- the last one first
abbrev pub backward_rules : (ℕ → AnyRule → List NftRule) → ℕ → List AnyRule → List NftRule
backward_rules f i [] = []
backward_rules f i (rule ∷ rules) = backward_rules f (i + 1) rules ++ f i rule

-- ---- the ruleset

-- the chain of a path with what may end the evaluation, the first rule first
abbrev pub forward_chain : Configuration → Machine → Direction → Path → Chain
forward_chain c m d p = record { name = At Forward p; rules = forward_rules (forward_rule c m d p) 0 (rules_at c p) }

-- the chain of a path with the rest, the last rule first
abbrev pub backward_chain : Configuration → Machine → Direction → Path → Chain
backward_chain c m d p =
    record { name = At Backward p; rules = backward_rules (backward_rule c m d p) 0 (rules_at c p) }

-- a packet is on no interface of the list; for an empty list there is no match
abbrev pub unknown_matches : List Name → List Match
unknown_matches [] = []
unknown_matches (n ∷ ns) = OnInterface (n ∷ ns) true ∷ []

-- a rule that decides so, for this reason, of packets of which all matches hold
-- Example: a machine without interfaces drops all.
abbrev pub ending : Outcome → Note → List Match → NftRule
ending outcome note matches = record { matches = matches; statement = Ends (record { outcome = outcome; note = note }) }

-- one of the names is in the skip list
unfoldable pub is_skipped : List Name → List Name → Bool
is_skipped skip names = list_any (λ n. list_any (λ m. bytes_eq m n) names) skip

-- packets on the machine's skipped interfaces are accepted; no rule where none of its interfaces is skipped
abbrev pub skip_rules : Configuration → Machine → List NftRule
skip_rules c m = map (with_statement (Ends (record { outcome = Accept; note = Skip })))
    (on_some (interfaces_with (is_skipped c.skip) m))

-- main's two chains, the forward one first; none where main has no rules
abbrev pub main_chains : Configuration → List ChainName
main_chains c = if is_empty (rules_at c []) then [] else At Forward [] ∷ At Backward [] ∷ []

-- the chain at the hook: unknown interfaces are dropped, skipped ones accepted, then main's two chains, then accept
abbrev pub base_chain : Configuration → Machine → Chain
base_chain c m = record {
  name = Base;
  rules = ending Drop Unknown (unknown_matches (known m)) ∷ (skip_rules c m
      ++ (jump_rules (always ∷ []) (main_chains c) ++ ending Accept Default [] ∷ []));
}

-- the entries of a table, none if there is none
abbrev pub entries_in : Option TableValue → List TableEntry
entries_in None = []
entries_in (Some t) = t.entries

-- the addresses of one family in a table at a path, as a set
abbrev pub table_set : Configuration → Path → Name → Family → NamedSet
table_set c p n f = record {
  name = record { owner = p; table = n; family = f };
  elements = elements f (entries_in (table_at c p n));
}

-- the two sets of a table
abbrev pub table_sets : Configuration → Path → Name → List NamedSet
table_sets c p n = table_set c p n Inet ∷ table_set c p n Inet6 ∷ []

-- the sets of all tables at a path
abbrev pub path_sets : Configuration → Path → List NamedSet
path_sets c p = flat_map (table_sets c p) (table_names c p)

-- the sets of all tables at all paths of the configuration
unfoldable pub sets_of : Configuration → List NamedSet
sets_of c = flat_map (path_sets c) (paths_in c.anchors)

-- the hook's chain, then the forward chains of all paths of the configuration, then their backward chains
unfoldable pub chains_of : Configuration → Machine → Direction → List Chain
chains_of c m d =
    base_chain c m ∷ (map (forward_chain c m d) (paths_in c.anchors) ++ map (backward_chain c m d) (paths_in c.anchors))

-- the ruleset of a configuration for packets of a direction
abbrev pub rendered : Configuration → Machine → Direction → NftRuleset
rendered c m d = record { sets = sets_of c; chains = chains_of c m d }

-- ---- what it decides

-- a judgement as a decision: its outcome and its note
abbrev pub decision_of : pf.Judgement → Decision
decision_of pf.Skipped = record { outcome = Accept; note = Skip }
decision_of (pf.Decided None) = record { outcome = Accept; note = Default }
decision_of (pf.Decided (Some s)) = record { outcome = outcome_of s.action; note = Spot s.path s.index }
