-- A rule's conditions on packets, production by production (pf.conf(5), GRAMMAR).
use Rattle.std.specs.Prelude.{ℕ, zero, suc, ◌&&◌, ◌==◌, Bool, true, false, List, [], ◌∷◌, drop, length}
use Rattle.std.specs.Prelude.{Option, Some, None, is_some, not, codes, if◌then◌else◌}
use Rattle.std.specs.List.{list_any}
use Rattle.std.specs.Result.{result_ok}
use Rattle.pf_addr.specs.Blocks.{Block, span_of}
use Rattle.pf_addr.specs.Spelling.{addr_of, block_of, cut_at}
use Rattle.pf_rules.specs.declared.profile.Profile.{Profile}
use Rattle.pf_tokens.specs.declared.symbol.Symbol.TheVariants as mark
use Rattle.pf_tokens.specs.Tokens.{Token}
use Rattle.pf_tokens.specs.Productions.{Read, ◌>>=◌, begins, begins_symbol, symbol_at, word_at, name_at}
use Rattle.pf_tokens.specs.Lists.{Elements, some_at}
use Rattle.pf_rules.specs.declared.parts.Direction.{Direction}
use Rattle.pf_rules.specs.declared.parts.Direction.TheVariants.{In}
use Rattle.pf_addr.specs.declared.addr.Family.{Family}
use Rattle.pf_addr.specs.declared.addr.Family.TheVariants.{Inet, Inet6}
use Rattle.pf_rules.specs.declared.parts.Interface.{Interface}
use Rattle.pf_rules.specs.declared.parts.Addresses.{Addresses}
use Rattle.pf_rules.specs.declared.parts.Addresses.TheVariants.{Prefix, Range, Table}
use Rattle.pf_rules.specs.declared.parts.Host.{Host}
use Rattle.pf_rules.specs.declared.parts.Host.TheVariants as host
use Rattle.pf_rules.specs.declared.parts.PortTest.{PortTest}
use Rattle.pf_rules.specs.declared.parts.PortTest.TheVariants.{Equal, NotEqual, Less, LessEqual, Greater}
use Rattle.pf_rules.specs.declared.parts.PortTest.TheVariants.{GreaterEqual, FromTo, Between, Outside}
use Rattle.pf_rules.specs.declared.flags.TcpFlags.{TcpFlags}
use Rattle.pf_rules.specs.declared.parts.FlagTest.{FlagTest}
use Rattle.pf_rules.specs.declared.parts.FlagTest.TheVariants as flags
use Rattle.pf_statements.specs.declared.conditions.Protocol.{Protocol}
use Rattle.pf_statements.specs.declared.conditions.WrittenPort.{WrittenPort}
use Rattle.pf_statements.specs.declared.conditions.WrittenType.{WrittenType}
use Rattle.pf_rules.specs.Names.{Name}
use Rattle.pf_rules.specs.Words.{is_reserved, is_interface_name, is_table_name, protocol_of, port_of, icmp_type_of}
use Rattle.pf_rules.specs.Words.{flags_of, no_flags, is_within}

-- a value if the test holds
abbrev pub if_so : {X : Type 0} → Bool → X → Option X
if_so true x = Some x
if_so false x = None

-- [word x]
abbrev pub behind_word : {X : Type 0} → List ℕ → (List Token → Read X) → List Token → Read (Option X)
behind_word word read ts = if begins word ts then (read (drop 1 ts) >>= λ x. Some (Some x.0, x.1)) else Some (None, ts)

-- ---- interfaces

-- IFNAME
unfoldable pub interface_name_at : Profile → List Token → Read Name
interface_name_at profile ts = name_at ts >>= λ name. if_so (is_interface_name profile name.0) name

-- ["!"] IFNAME
unfoldable pub interface_at : Profile → List Token → Read Interface
interface_at profile ts = do
  let negated = symbol_at mark.Not ts
  name ← interface_name_at profile negated.1
  Some (record { negated = negated.0; name = name.0 }, name.1)

-- ["on" ifs]
unfoldable pub interfaces_at : Profile → List Token → Read (Option (Elements Interface))
interfaces_at profile ts = behind_word (codes "on") (some_at (interface_at profile)) ts

-- ---- family and protocols

-- ["inet" | "inet6"]
unfoldable pub family_at : List Token → Option Family × List Token
family_at ts = if begins (codes "inet") ts then (Some Inet, drop 1 ts)
    else (if begins (codes "inet6") ts then (Some Inet6, drop 1 ts) else (None, ts))

-- PROTO
unfoldable pub protocol_at : Profile → List Token → Read Protocol
protocol_at profile ts = do
  word ← word_at ts
  number ← protocol_of word.0
  Some (record { number = number }, word.1)

-- ["proto" protos]
unfoldable pub protocols_at : Profile → List Token → Read (Option (Elements Protocol))
protocols_at profile ts = behind_word (codes "proto") (some_at (protocol_at profile)) ts

-- ---- hosts

-- ["/" WORD]
unfoldable pub length_at : List Token → Read (Option (List ℕ))
length_at ts = if begins_symbol mark.Slash ts then (word_at (drop 1 ts) >>= λ w. Some (Some w.0, w.1))
    else Some (None, ts)

-- the rest of a prefix behind its first WORD
unfoldable pub prefix_behind : List ℕ → List Token → Read Block
prefix_behind addr ts = do
  len ← length_at ts
  block ← result_ok (block_of (addr, len.0))
  Some (block, len.1)

-- prefix = WORD ["/" WORD]
unfoldable pub prefix_at : List Token → Read Block
prefix_at ts = word_at ts >>= λ addr. prefix_behind addr.0 addr.1

-- the rest of a range behind its first WORD and the hyphen: both are addresses of one family, the first not greater
unfoldable pub range_behind : List ℕ → List Token → Read Addresses
range_behind addr ts = do
  last ← word_at ts
  a ← result_ok (addr_of addr)
  b ← result_ok (addr_of last.0)
  span ← span_of a b
  Some (Range span, last.1)

-- a prefix that was read, as addresses
abbrev pub as_prefix : Read Block → Read Addresses
as_prefix read = read >>= λ block. Some (Prefix block.0, block.1)

-- prefix | WORD "-" WORD
unfoldable pub addresses_at : List Token → Read Addresses
addresses_at ts = do
  addr ← word_at ts
  if begins (codes "-") addr.1 then range_behind addr.0 (drop 1 addr.1) else as_prefix (prefix_behind addr.0 addr.1)

-- "<" TNAME ">"
unfoldable pub table_at : Profile → List Token → Read Name
table_at profile ts = do
  opened ← if_so (begins_symbol mark.Less ts) (drop 1 ts)
  word ← word_at opened
  name ← if_so (is_table_name profile word.0) word
  if_so (begins_symbol mark.Greater name.1) (name.0, drop 1 name.1)

-- host = prefix | WORD "-" WORD | "<" TNAME ">"
unfoldable pub set_at : Profile → List Token → Read Addresses
set_at profile ts = if begins_symbol mark.Less ts then (table_at profile ts >>= λ name. Some (Table name.0, name.1))
    else addresses_at ts

-- a host in these addresses, or one that isn't, where they are negated
abbrev pub in_or_not : Bool → Addresses → Host
in_or_not true set = host.NotIn set
in_or_not false set = host.In set

-- member = "any" | ["!"] host
unfoldable pub host_at : Profile → List Token → Read Host
host_at profile ts =
    if begins (codes "any") ts then Some (host.Any, drop 1 ts)
    else (do
      let negated = symbol_at mark.Not ts
      set ← set_at profile negated.1
      Some (in_or_not negated.0 set.0, set.1))

-- ---- ports

-- the two parts of a token with exactly one colon, and something on both sides
abbrev pub colon_parts : (List ℕ × Option (List ℕ)) → Option (List ℕ × List ℕ)
colon_parts ([], more) = None
colon_parts (b ∷ bytes, None) = None
colon_parts (b ∷ bytes, Some []) = None
colon_parts (b ∷ bytes, Some (c ∷ more)) = if list_any (λ d. d == 58) (c ∷ more) then None
    else Some (b ∷ bytes, c ∷ more)

-- the test of these two ports, if both are ports
abbrev pub two_ports : (ℕ → ℕ → PortTest) → Option ℕ → Option ℕ → Option PortTest
two_ports test None b = None
two_ports test (Some a) None = None
two_ports test (Some a) (Some b) = Some (test a b)

-- the test of this port, if it is one
abbrev pub one_port : (ℕ → PortTest) → Option ℕ → Option PortTest
one_port test None = None
one_port test (Some a) = Some (test a)

-- a token alone: a range where it has a colon, else a port
abbrev pub lone_word : List ℕ → Option (List ℕ × List ℕ) → Option PortTest
lone_word word None = one_port Equal (port_of word)
lone_word word (Some (a, b)) = two_ports FromTo (port_of a) (port_of b)

-- the test that a token alone spells, none where a port in it is neither number nor name
unfoldable pub lone_test : List ℕ → Option PortTest
lone_test word = lone_word word (colon_parts (cut_at 58 word))

-- PORT, a WORD that isn't reserved
unfoldable pub port_word_at : Profile → List Token → Read (List ℕ)
port_word_at profile ts = word_at ts >>= λ word. if_so (not (is_reserved profile word.0)) word

-- a port as it is written, with its test, if it has one, and the tokens behind it
abbrev pub tested : Option PortTest → List Token → Read WrittenPort
tested test ts = Some (record { test = test }, ts)

-- operator PORT
abbrev pub compared_at : Profile → (ℕ → PortTest) → List Token → Read WrittenPort
compared_at profile test ts = port_word_at profile ts >>= λ word. tested (one_port test (port_of word.0)) word.1

-- PORT operator PORT, behind the first PORT and the operator
abbrev pub second_at : Profile → (ℕ → ℕ → PortTest) → List ℕ → List Token → Read WrittenPort
second_at profile test first ts = port_word_at profile ts >>= λ word.
    tested (two_ports test (port_of first) (port_of word.0)) word.1

-- PORT | RANGE | PORT ("><" | "<>") PORT
unfoldable pub port_behind : Profile → List ℕ → List Token → Read WrittenPort
port_behind profile word ts =
    if begins_symbol mark.Between ts then second_at profile Between word (drop 1 ts)
    else (if begins_symbol mark.Outside ts then second_at profile Outside word (drop 1 ts)
    else tested (lone_test word) ts)

-- the test of an operator
unfoldable pub operator_at : List Token → Option (ℕ → PortTest)
operator_at ts =
    if begins_symbol mark.Equals ts then Some Equal
    else (if begins_symbol mark.NotEqual ts then Some NotEqual
    else (if begins_symbol mark.Less ts then Some Less
    else (if begins_symbol mark.LessEqual ts then Some LessEqual
    else (if begins_symbol mark.Greater ts then Some Greater
    else (if begins_symbol mark.GreaterEqual ts then Some GreaterEqual
    else None)))))

-- a port that begins with the operator of this test, or with its first PORT where there is none
abbrev pub port_with : Profile → Option (ℕ → PortTest) → List Token → Read WrittenPort
port_with profile (Some test) ts = compared_at profile test (drop 1 ts)
port_with profile None ts = port_word_at profile ts >>= λ word. port_behind profile word.0 word.1

-- port = ["=" | "!=" | "<" | "<=" | ">" | ">="] PORT | RANGE | PORT ("><" | "<>") PORT
unfoldable pub port_at : Profile → List Token → Read WrittenPort
port_at profile ts = port_with profile (operator_at ts) ts

-- ["port" ports]
unfoldable pub ports_at : Profile → List Token → Read (Option (Elements WrittenPort))
ports_at profile ts = behind_word (codes "port") (some_at (port_at profile)) ts

-- ---- the two ends

-- one end, source or destination, as it is written: its hosts, and its ports where they are given
pub record Ends : Type 0 where
  pub hosts : Elements Host
  pub ports : Option (Elements WrittenPort)

-- any host, written in no list
abbrev pub any_host : Elements Host
any_host = record { items = host.Any ∷ []; deepest = 0 }

-- any host, without ports
abbrev pub any_end : Ends
any_end = record { hosts = any_host; ports = None }

-- spec, which may be missing before ports
unfoldable pub spec_at : Profile → List Token → Read (Elements Host)
spec_at profile ts = if begins (codes "port") ts then Some (any_host, ts) else some_at (host_at profile) ts

-- part = spec ["port" ports] | "port" ports
unfoldable pub part_at : Profile → List Token → Read Ends
part_at profile ts = do
  hosts ← spec_at profile ts
  ports ← ports_at profile hosts.1
  Some (record { hosts = hosts.0; ports = ports.0 }, ports.1)

-- [word part]; a missing part is any
unfoldable pub end_behind : Profile → List ℕ → List Token → Read Ends
end_behind profile word ts = if begins word ts then part_at profile (drop 1 ts) else Some (any_end, ts)

-- hosts = "all" | "from" part ["to" part] | "to" part, or nothing
unfoldable pub ends_at : Profile → List Token → Read (Ends × Ends)
ends_at profile ts = if begins (codes "all") ts then Some ((any_end, any_end), drop 1 ts) else (do
  source ← end_behind profile (codes "from") ts
  destination ← end_behind profile (codes "to") source.1
  Some ((source.0, destination.0), destination.1))

-- ---- options

-- [LETTERS]
unfoldable pub letters_at : List Token → Read TcpFlags
letters_at ts = if begins_symbol mark.Slash ts then Some (no_flags, ts) else (do
  word ← word_at ts
  set ← flags_of word.0
  Some (set, word.1))

-- a letter before the slash that isn't behind it is refused
abbrev pub just_within : TcpFlags → TcpFlags → Option FlagTest
just_within set of = if_so (is_within set of) (flags.Just set of)

-- "any" | [LETTERS] "/" LETTERS
-- Example: 2000:2004, S/SA.
unfoldable pub flags_at : List Token → Read FlagTest
flags_at ts = if begins (codes "any") ts then Some (flags.Any, drop 1 ts) else (do
  set ← letters_at ts
  slash ← if_so (begins_symbol mark.Slash set.1) (drop 1 set.1)
  word ← word_at slash
  of ← flags_of word.0
  test ← just_within set.0 of
  Some (test, word.1))

-- TYPE
unfoldable pub type_at : Profile → List Token → Read WrittenType
type_at profile ts = word_at ts >>= λ word. Some (record { number = icmp_type_of word.0 }, word.1)

-- a type without braces isn't a reserved word
unfoldable pub types_at : Profile → List Token → Read (Elements WrittenType)
types_at profile ts =
    if begins_symbol mark.Open ts then some_at (type_at profile) ts
    else (port_word_at profile ts >>= λ word. Some (
      record {
        items = record { number = icmp_type_of word.0 } ∷ [];
        deepest = 0;
      },
      word.1,
    ))

-- ---- what rules and anchor rules have in common

-- interfaces, family, protocols, and the two ends
pub record CommonText : Type 0 where
  pub interfaces : Option (Elements Interface)
  pub family : Option Family
  pub protocols : Option (Elements Protocol)
  pub source : Ends
  pub destination : Ends

-- common = ["on" ifs] ["inet" | "inet6"] ["proto" protos] [hosts]
unfoldable pub common_at : Profile → List Token → Read CommonText
common_at profile ts = do
  interfaces ← interfaces_at profile ts
  let family = family_at interfaces.1
  protocols ← protocols_at profile family.1
  ends ← ends_at profile protocols.1
  Some (
    record {
      interfaces = interfaces.0;
      family = family.0;
      protocols = protocols.0;
      source = ends.0.0;
      destination = ends.0.1;
    },
    ends.1,
  )

-- all conditions of a rule or an anchor rule on the packets that it matches
pub record ConditionsText : Type 0 where
  pub direction : Option Direction
  pub common : CommonText
  pub flags : Option FlagTest
  pub types : Option (Elements WrittenType)
