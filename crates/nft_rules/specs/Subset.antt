-- The part of nftables in which a configuration is written (nft(8)): sets of addresses, and chains of rules. A chain is
-- of one direction, so the two of a machine are two rulesets.
use Rattle.std.specs.Prelude.{ℕ, Bool, true, false, List}
use Rattle.pf_addr.specs.declared.addr.Family.{Family}
use Rattle.pf_addr.specs.declared.addr.Family.TheVariants.{Inet, Inet6}
use Rattle.pf_rules.specs.declared.flags.TcpFlags.{TcpFlags}
use Rattle.pf_rules.specs.Names.{Name}
use Rattle.pf_config.specs.Map.{Path}
-- from the first number to the last
pub use Rattle.nft_rules.specs.declared.subset.Interval.{Interval}
-- of the two ends of a packet
pub use Rattle.nft_rules.specs.declared.subset.Side.{Side}
pub use Rattle.nft_rules.specs.declared.subset.Side.TheVariants.{Source, Destination}
-- of the chains of a path one holds what may end the evaluation, forwards, and one the rest, backwards
pub use Rattle.nft_rules.specs.declared.subset.Pass.{Pass}
pub use Rattle.nft_rules.specs.declared.subset.Pass.TheVariants.{Forward, Backward}
-- accept, drop, or reject: with tcp reset, or icmpx port-unreachable
pub use Rattle.nft_rules.specs.declared.subset.Outcome.{Outcome}
pub use Rattle.nft_rules.specs.declared.subset.Outcome.TheVariants.{Accept, Drop, Reject}

-- ---- sets (nft(8), SETS)

-- two families are the same
-- Source: nft(8), SETS, VERDICT STATEMENT.
abbrev pub family_eq : Family → Family → Bool
family_eq Inet Inet = true
family_eq Inet Inet6 = false
family_eq Inet6 Inet = false
family_eq Inet6 Inet6 = true

-- a set is named for the table that it holds, and for the family of its addresses
pub record SetName : Type 0 where
  pub owner : Path
  pub table : Name
  pub family : Family

-- a set of addresses, as intervals of their numbers
pub record NamedSet : Type 0 where
  pub name : SetName
  pub elements : List Interval

-- ---- expressions that match (nft(8), PAYLOAD EXPRESSIONS, META EXPRESSIONS)

-- low-high, or @name
-- Example: th dport 22.
pub data Where : Type 0 where
  From : (low high : ℕ) → Where
  InSet : (name : SetName) → Where

-- an expression that a rule may ask of a packet; a negated one is written with !=
pub data Match : Type 0 where
  -- iifname { .. } of packets in, oifname { .. } of packets out
  OnInterface : (names : List Name) (negated : Bool) → Match
  -- meta nfproto
  OfFamily : (family : Family) → Match
  -- meta l4proto
  OfProtocol : (number : ℕ) (negated : Bool) → Match
  -- ip saddr, ip6 saddr, ip daddr, ip6 daddr
  AtAddress : (side : Side) (family : Family) (place : Where) (negated : Bool) → Match
  -- th sport, th dport
  AtPort : (side : Side) (low high : ℕ) (negated : Bool) → Match
  -- tcp flags & mask == value
  WithFlags : (mask value : TcpFlags) → Match
  -- the first byte of an ICMP header: @th,0,8
  OfType : (number : ℕ) → Match

-- ---- rules and chains (nft(8), CHAINS, RULES)

-- the chain at the hook, or one of the two of a path
pub data ChainName : Type 0 where
  -- the chain at the hook
  Base : ChainName
  At : (pass : Pass) (path : Path) → ChainName

-- what a rule's counter and comment are for
-- Example: reject with x@3.
pub data Note : Type 0 where
  -- a packet on an interface that the machine's list lacks
  Unknown : Note
  -- one on a skipped interface
  Skip : Note
  -- one that no rule matches
  Default : Note
  -- one that the members' guard lets through
  OfMembers : Note
  -- path@index
  Spot : (path : Path) (index : ℕ) → Note

-- what becomes of a packet, and why
pub record Decision : Type 0 where
  pub outcome : Outcome
  pub note : Note

-- what a rule does with packets that it matches (nft(8), VERDICT STATEMENT)
-- Source: nft(8), CHAINS, RULES, VERDICT STATEMENT.
pub data Statement : Type 0 where
  Ends : (decision : Decision) → Statement
  Jump : (chain : ChainName) → Statement

-- a rule: of packets of which all matches hold it decides, or it jumps
pub record NftRule : Type 0 where
  pub matches : List Match
  pub statement : Statement

-- a chain: its name, and its rules in the order in which they are asked
pub record Chain : Type 0 where
  pub name : ChainName
  pub rules : List NftRule

-- the sets and the chains for packets of one direction
pub record NftRuleset : Type 0 where
  pub sets : List NamedSet
  pub chains : List Chain
