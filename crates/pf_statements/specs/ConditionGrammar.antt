-- The grammar of a rule's conditions on packets, production by production (pf.conf(5), GRAMMAR): which tokens spell
-- which value. It doesn't depend on how a ruleset is read.
use Rattle.std.specs.Prelude.{◌≡◌, ℕ, ◌+◌, Bool, true, false, List, [], ◌∷◌, ◌++◌, Option, Some}
use Rattle.std.specs.Prelude.{None, Ok, max, codes}
use Rattle.pf_addr.specs.Blocks.{Block, Span, span_of}
use Rattle.pf_addr.specs.declared.addr.Addr.{Addr}
use Rattle.pf_addr.specs.Spelling.{addr_of, block_of}
use Rattle.pf_rules.specs.declared.profile.Profile.{Profile}
use Rattle.pf_tokens.specs.declared.symbol.Symbol.{Symbol}
use Rattle.pf_tokens.specs.declared.symbol.Symbol.TheVariants as mark
use Rattle.pf_tokens.specs.Tokens.{Token, Word, Quoted, Mark}
use Rattle.pf_tokens.specs.Lists.{Elements}
use Rattle.pf_tokens.specs.ListGrammar.{sign, IsList, IsSome}
use Rattle.pf_rules.specs.declared.parts.Direction.TheVariants.{In}
use Rattle.pf_addr.specs.declared.addr.Family.{Family}
use Rattle.pf_addr.specs.declared.addr.Family.TheVariants.{Inet, Inet6}
use Rattle.pf_rules.specs.declared.parts.Interface.{Interface}
use Rattle.pf_rules.specs.declared.parts.Addresses.{Addresses}
use Rattle.pf_rules.specs.declared.parts.Addresses.TheVariants.{Prefix, Range, Table}
use Rattle.pf_rules.specs.declared.parts.Host.{Host}
use Rattle.pf_rules.specs.declared.parts.Host.TheVariants as host
use Rattle.pf_rules.specs.declared.parts.PortTest.{PortTest}
use Rattle.pf_rules.specs.declared.parts.PortTest.TheVariants.{Equal, NotEqual, Less, LessEqual, Greater}
use Rattle.pf_rules.specs.declared.parts.PortTest.TheVariants.{GreaterEqual, Between, Outside}
use Rattle.pf_rules.specs.declared.flags.TcpFlags.{TcpFlags}
use Rattle.pf_rules.specs.declared.parts.FlagTest.{FlagTest}
use Rattle.pf_rules.specs.declared.parts.FlagTest.TheVariants as flags
use Rattle.pf_statements.specs.declared.conditions.Protocol.{Protocol}
use Rattle.pf_statements.specs.declared.conditions.WrittenPort.{WrittenPort}
use Rattle.pf_statements.specs.declared.conditions.WrittenType.{WrittenType}
use Rattle.pf_rules.specs.Names.{Name}
use Rattle.pf_rules.specs.Words.{is_reserved, is_interface_name, is_table_name, protocol_of, port_of, icmp_type_of}
use Rattle.pf_rules.specs.Words.{flags_of, no_flags, is_within}
use Rattle.pf_statements.specs.Conditions.{one_port, two_ports, lone_test, Ends, any_end, any_host, CommonText}

-- a keyword, which spells itself
abbrev pub key : List ℕ → List Token
key word = Word word ∷ []

-- [word x]
pub data IsBehind {X : Type 0} (word : List ℕ) (Is : List Token → X → Type 0) : List Token → Option X →
    Type 0 where
  Missing : IsBehind word Is [] None
  Behind : (ts : List Token) (x : X) → Is ts x → IsBehind word Is (key word ++ ts) (Some x)

-- ---- interfaces, family, protocols

-- IFNAME: a WORD or a STRING
pub data IsInterfaceName (profile : Profile) : List Token → Name → Type 0 where
  NameWord : (name : List ℕ) → is_interface_name profile name ≡ true →
      IsInterfaceName profile (Word name ∷ []) name
  NameString : (name : List ℕ) → is_interface_name profile name ≡ true →
      IsInterfaceName profile (Quoted name ∷ []) name

-- ["!"] IFNAME
pub data IsInterface (profile : Profile) : List Token → Interface → Type 0 where
  OnInterface : (ts : List Token) (name : Name) → IsInterfaceName profile ts name →
      IsInterface profile ts (record { negated = false; name = name })
  NotOnInterface : (ts : List Token) (name : Name) → IsInterfaceName profile ts name →
      IsInterface profile (sign mark.Not ++ ts) (record { negated = true; name = name })

-- ["inet" | "inet6"]
pub data IsFamily : List Token → Option Family → Type 0 where
  NoFamily : IsFamily [] None
  InetWord : IsFamily (key (codes "inet")) (Some Inet)
  Inet6Word : IsFamily (key (codes "inet6")) (Some Inet6)

-- PROTO
pub data IsProtocol : List Token → Protocol → Type 0 where
  ProtocolWord : (word : List ℕ) (n : ℕ) → protocol_of word ≡ Some n →
      IsProtocol (key word) (record { number = n })

-- ---- hosts

-- prefix = WORD ["/" WORD]
pub data IsPrefix : List Token → Block → Type 0 where
  WholeAddress : (addr : List ℕ) (block : Block) → block_of (addr, None) ≡ Ok block → IsPrefix (key addr) block
  CutAddress : (addr len : List ℕ) (block : Block) → block_of (addr, Some len) ≡ Ok block →
      IsPrefix (key addr ++ (sign mark.Slash ++ key len)) block

-- "<" TNAME ">"
pub data IsTable (profile : Profile) : List Token → Name → Type 0 where
  TableSign : (name : List ℕ) → is_table_name profile name ≡ true →
      IsTable profile (sign mark.Less ++ (key name ++ sign mark.Greater)) name

-- host = prefix | WORD "-" WORD | "<" TNAME ">"
pub data IsSet (profile : Profile) : List Token → Addresses → Type 0 where
  PrefixSet : (ts : List Token) (block : Block) → IsPrefix ts block → IsSet profile ts (Prefix block)
  RangeSet : (first last : List ℕ) (a b : Addr) (span : Span) → addr_of first ≡ Ok a → addr_of last ≡ Ok b →
      span_of a b ≡ Some span → IsSet profile (key first ++ (key (codes "-") ++ key last)) (Range span)
  TableSet : (ts : List Token) (name : Name) → IsTable profile ts name → IsSet profile ts (Table name)

-- member = "any" | ["!"] host
pub data IsHost (profile : Profile) : List Token → Host → Type 0 where
  AnyWord : IsHost profile (key (codes "any")) host.Any
  HostIn : (ts : List Token) (set : Addresses) → IsSet profile ts set → IsHost profile ts (host.In set)
  HostNotIn : (ts : List Token) (set : Addresses) → IsSet profile ts set →
      IsHost profile (sign mark.Not ++ ts) (host.NotIn set)

-- ---- ports

-- "=" | "!=" | "<" | "<=" | ">" | ">="
pub data IsOperator : Symbol → (ℕ → PortTest) → Type 0 where
  EqualsSign : IsOperator mark.Equals Equal
  NotEqualSign : IsOperator mark.NotEqual NotEqual
  LessSign : IsOperator mark.Less Less
  LessEqualSign : IsOperator mark.LessEqual LessEqual
  GreaterSign : IsOperator mark.Greater Greater
  GreaterEqualSign : IsOperator mark.GreaterEqual GreaterEqual

-- "><" | "<>"
pub data IsBounds : Symbol → (ℕ → ℕ → PortTest) → Type 0 where
  BetweenSign : IsBounds mark.Between Between
  OutsideSign : IsBounds mark.Outside Outside

-- port = ["=" | "!=" | "<" | "<=" | ">" | ">="] PORT | RANGE | PORT ("><" | "<>") PORT
pub data IsPort (profile : Profile) : List Token → WrittenPort → Type 0 where
  PortAlone : (word : List ℕ) → is_reserved profile word ≡ false →
      IsPort profile (key word) (record { test = lone_test word })
  PortCompared : (symbol : Symbol) (test : ℕ → PortTest) (word : List ℕ) → IsOperator symbol test →
      is_reserved profile word ≡ false →
      IsPort profile (sign symbol ++ key word) (record { test = one_port test (port_of word) })
  PortBounds : (symbol : Symbol) (test : ℕ → ℕ → PortTest) (first second : List ℕ) →
      IsBounds symbol test → is_reserved profile first ≡ false → is_reserved profile second ≡ false →
      IsPort profile (key first ++ (sign symbol ++ key second))
      (record { test = two_ports test (port_of first) (port_of second) })

-- ---- the two ends

-- part = spec ["port" ports] | "port" ports; a missing host is any
pub data IsPart (profile : Profile) : List Token → Ends → Type 0 where
  PartHosts : (ts us : List Token) (hosts : Elements Host) (ports : Option (Elements WrittenPort)) →
      IsSome (IsHost profile) ts hosts → IsBehind (codes "port") (IsSome (IsPort profile)) us ports →
      IsPart profile (ts ++ us) (record { hosts = hosts; ports = ports })
  PartPorts : (ts : List Token) (ports : Elements WrittenPort) → IsSome (IsPort profile) ts ports →
      IsPart profile (key (codes "port") ++ ts) (record { hosts = any_host; ports = Some ports })

-- hosts = "all" | "from" part ["to" part] | "to" part, or nothing; a missing part is any
pub data IsHosts (profile : Profile) : List Token → Ends → Ends → Type 0 where
  NoHosts : IsHosts profile [] any_end any_end
  AllWord : IsHosts profile (key (codes "all")) any_end any_end
  FromPart : (ts : List Token) (source : Ends) → IsPart profile ts source →
      IsHosts profile (key (codes "from") ++ ts) source any_end
  ToPart : (ts : List Token) (destination : Ends) → IsPart profile ts destination →
      IsHosts profile (key (codes "to") ++ ts) any_end destination
  FromToParts : (ts us : List Token) (source destination : Ends) → IsPart profile ts source →
      IsPart profile us destination → IsHosts profile (key (codes "from") ++ (ts ++ (key (codes "to") ++ us))) source
      destination

-- ---- options

-- "any" | [LETTERS] "/" LETTERS, where each letter before the slash is one behind it
pub data IsFlags : List Token → FlagTest → Type 0 where
  AnyFlags : IsFlags (key (codes "any")) flags.Any
  NoneOf : (text : List ℕ) (of : TcpFlags) → flags_of text ≡ Some of →
      IsFlags (sign mark.Slash ++ key text) (flags.Just no_flags of)
  SomeOf : (said text : List ℕ) (set of : TcpFlags) → flags_of said ≡ Some set → flags_of text ≡ Some of →
      is_within set of ≡ true → IsFlags (key said ++ (sign mark.Slash ++ key text)) (flags.Just set of)

-- TYPE
pub data IsType : List Token → WrittenType → Type 0 where
  TypeWord : (word : List ℕ) → IsType (key word) (record { number = icmp_type_of word })

-- TYPE | list(TYPE); a type without braces isn't a reserved word
pub data IsTypes (profile : Profile) : List Token → Elements WrittenType → Type 0 where
  TypeAlone : (word : List ℕ) → is_reserved profile word ≡ false →
      IsTypes profile (key word) (record { items = record { number = icmp_type_of word } ∷ []; deepest = 0 })
  TypeList : (ts : List Token) (list : Elements WrittenType) → IsList IsType ts list → IsTypes profile ts list

-- ---- what rules and anchor rules have in common

-- common = ["on" ifs] ["inet" | "inet6"] ["proto" protos] [hosts]
pub record IsCommon (profile : Profile) (tokens : List Token) (c : CommonText) : Type 0 where
  pub interfaces : List Token
  pub family : List Token
  pub protocols : List Token
  pub hosts : List Token
  pub whole : tokens ≡ interfaces ++ (family ++ (protocols ++ hosts))
  pub are_interfaces : IsBehind (codes "on") (IsSome (IsInterface profile)) interfaces c.interfaces
  pub is_family : IsFamily family c.family
  pub are_protocols : IsBehind (codes "proto") (IsSome IsProtocol) protocols c.protocols
  pub are_hosts : IsHosts profile hosts c.source c.destination
