-- The tokens of a shown rule spell that rule.
use Rattle.std.proofs.Common.{◌≡◌, ℕ, ◌<◌, ◌≤◌, ◌==◌, ◌&&◌, ◌||◌, Bool, true, false, cond, List, [], ◌∷◌, ◌++◌, length, Option, Some, None, refl, sym, ap, subst, ◌∙◌, arith}
use Rattle.std.specs.Prelude.{codes, decimal, is_some, not, nat_lt}
use Rattle.pf_addr.specs.Blocks.{Block, span_of, width, FitsAddr}
use Rattle.std.specs.List.{list_any}
use Rattle.std.proofs.lemmas.Bool.Decides.{nat_tests}
use Rattle.pf_addr.specs.Spelling.{cut_at, before_front}
use Rattle.pf_addr.specs.Shown.{shown_addr}
use Rattle.pf_addr.proofs.Again.{addr_again, block_again}
use Rattle.pf_addr.proofs.Made.{FitsBlock}
use Rattle.pf_rules.specs.declared.profile.Profile.{Profile}
use Rattle.pf_tokens.specs.declared.symbol.Symbol.TheVariants as mark
use Rattle.pf_tokens.specs.Tokens.{Token}
use Rattle.pf_tokens.specs.Lists.{Elements}
use Rattle.pf_rules.specs.declared.rule.Action.{Action}
use Rattle.pf_rules.specs.declared.rule.Action.TheVariants as act
use Rattle.pf_rules.specs.declared.parts.Policy.TheVariants as policy
use Rattle.pf_rules.specs.declared.parts.Direction.{Direction}
use Rattle.pf_rules.specs.declared.parts.Direction.TheVariants.{In, Out}
use Rattle.pf_addr.specs.declared.addr.Family.{Family}
use Rattle.pf_addr.specs.declared.addr.Family.TheVariants.{Inet, Inet6}
use Rattle.pf_rules.specs.declared.parts.Interface.{Interface}
use Rattle.pf_rules.specs.declared.parts.Addresses.{Addresses}
use Rattle.pf_rules.specs.declared.parts.Addresses.TheVariants.{Prefix, Range, Table}
use Rattle.pf_rules.specs.declared.parts.Host.{Host}
use Rattle.pf_rules.specs.declared.parts.Host.TheVariants as host
use Rattle.pf_rules.specs.declared.parts.PortTest.{PortTest}
use Rattle.pf_rules.specs.declared.parts.PortTest.TheVariants.{Equal, NotEqual, Less, LessEqual, Greater, GreaterEqual, FromTo, Between, Outside}
use Rattle.pf_rules.specs.declared.flags.TcpFlags.{TcpFlags}
use Rattle.pf_rules.specs.declared.parts.FlagTest.{FlagTest}
use Rattle.pf_rules.specs.declared.parts.FlagTest.TheVariants as flags
use Rattle.pf_rules.specs.declared.rule.Rule.{Rule}
use Rattle.pf_statements.specs.declared.written.WrittenAction.{WrittenAction}
use Rattle.pf_statements.specs.declared.written.WrittenAction.TheVariants.{Pass, Block as Blocks}
use Rattle.pf_statements.specs.declared.conditions.Protocol.{Protocol}
use Rattle.pf_statements.specs.declared.conditions.WrittenPort.{WrittenPort}
use Rattle.pf_statements.specs.declared.conditions.WrittenType.{WrittenType}
use Rattle.pf_rules.specs.Words.{is_interface_name, is_table_name, is_within, no_flags, flags_with, flags_of, is_reserved, port_of}
use Rattle.pf_statements.specs.Conditions.{Ends, one_port, two_ports, lone_test, colon_parts}
use Rattle.pf_statements.specs.Statements.{Options, no_options, RuleText, has_types, may_keep}
use Rattle.pf_tokens.specs.ListGrammar.{sign, IsSome, One}
use Rattle.pf_statements.specs.ConditionGrammar.{key, IsBehind, Missing, Behind, NameWord, IsInterface, OnInterface, NotOnInterface, IsFamily, NoFamily, InetWord, Inet6Word, IsProtocol, ProtocolWord, IsPrefix, WholeAddress, CutAddress, TableSign, IsSet, PrefixSet, RangeSet, TableSet, IsHost, AnyWord, HostIn, HostNotIn, EqualsSign, NotEqualSign, LessSign, LessEqualSign, GreaterSign, GreaterEqualSign, BetweenSign, OutsideSign, IsPort, PortAlone, PortCompared, PortBounds, IsPart, PartHosts, IsHosts, AllWord, FromToParts, IsFlags, AnyFlags, NoneOf, SomeOf, IsTypes, TypeAlone}
use Rattle.pf_statements.specs.Grammar.{DropWord, ReturnWord, IsAction, PassWord, BlockSaid, IsDirection, NoDirection, InWord, OutWord, IsSaid, Unsaid, Said, NoWord, KeepWord, IsOptions, NoOption, FlagsOption, StateOption, TypesOption, IsRule}
use Rattle.pf_expansion.specs.Expansion.{host_family, type_family, occurring}
use Rattle.pf_show.specs.Shown.{letters}
use Rattle.pf_expansion.proofs.Given.{IsDigit, Digits, lt_is}
use Rattle.pf_grammar.proofs.Numbers.{BeginsDigit, decimal_digits, decimal_there, protocol_again, port_again, type_again, digit_free, decimal_begins}
use Rattle.pf_statements.proofs.Fronts.{rank}
use Rattle.pf_statements.proofs.OptionsSpelled.{rule_rank}
use Rattle.pf_grammar.proofs.FlagLetters.{flags_again, flags_with_again}
use Rattle.pf_rules.specs.declared.rule.Conditions.{Conditions}
use Rattle.pf_statements.specs.Conditions.{CommonText, ConditionsText}
use Rattle.pf_statements.specs.ConditionGrammar.{IsCommon}
use Rattle.pf_statements.proofs.CommonSpelled.{four_parts}

-- ---- what a rule of a ruleset is

abbrev pub FitsAddresses : Profile → Addresses → Type 0
FitsAddresses profile (Prefix block) = FitsBlock block
FitsAddresses profile (Table name) = is_table_name profile name ≡ true
FitsAddresses profile (Range span) = FitsAddr span.first × FitsAddr span.last × (span_of span.first span.last ≡ Some span)

abbrev pub FitsHost : Profile → Host → Type 0
FitsHost profile host.Any = Unit {0}
FitsHost profile (host.In set) = FitsAddresses profile set
FitsHost profile (host.NotIn set) = FitsAddresses profile set

abbrev pub FitsTest : PortTest → Type 0
FitsTest (Equal a) = a ≤ 65535
FitsTest (NotEqual a) = a ≤ 65535
FitsTest (Less a) = a ≤ 65535
FitsTest (LessEqual a) = a ≤ 65535
FitsTest (Greater a) = a ≤ 65535
FitsTest (GreaterEqual a) = a ≤ 65535
FitsTest (FromTo a b) = (a ≤ 65535) × (b ≤ 65535)
FitsTest (Between a b) = (a ≤ 65535) × (b ≤ 65535)
FitsTest (Outside a b) = (a ≤ 65535) × (b ≤ 65535)

-- whatever may be missing
abbrev pub FitsIf : {X : Type 0} → (X → Type 0) → Option X → Type 0
FitsIf Fits None = Unit {0}
FitsIf Fits (Some x) = Fits x

abbrev pub FitsFlags : FlagTest → Type 0
FitsFlags flags.Any = Unit {0}
FitsFlags (flags.Just set of) = (is_within set of ≡ true) × (nat_lt 0 (length (letters of)) ≡ true)

-- a block rule keeps no state
abbrev pub FitsState : Action → Bool → Type 0
FitsState act.Pass keep = Unit {0}
FitsState act.Drop keep = keep ≡ false
FitsState act.Return keep = keep ≡ false

-- tcp and udp have ports
abbrev pub ported : Option ℕ → Bool
ported None = false
ported (Some n) = n == 6 || n == 17

abbrev pub FitsType : Profile → Option ℕ → ℕ → Type 0
FitsType profile protocol n = (has_types profile ≡ true) × (n ≤ 255) × (protocol ≡ Some 1)

pub record FitsConditions (profile : Profile) (c : Conditions) : Type 0 where
  pub interface : FitsIf (λ (i : Interface). is_interface_name profile i.name ≡ true) c.interface
  pub protocol : FitsIf (λ n. n ≤ 255) c.protocol
  pub source : FitsHost profile c.source
  pub source_port : FitsIf FitsTest c.source_port
  pub destination : FitsHost profile c.destination
  pub destination_port : FitsIf FitsTest c.destination_port
  pub family : occurring (c.family ∷ host_family c.source ∷ host_family c.destination ∷ type_family c.icmp_type ∷ []) ≡ Some c.family
  pub ports : ((is_some c.source_port || is_some c.destination_port) && not (ported c.protocol)) ≡ false
  pub types : FitsIf (FitsType profile c.protocol) c.icmp_type
  pub flags : FitsFlags c.flags

pub record FitsRule (profile : Profile) (r : Rule) : Type 0 where
  pub conditions : FitsConditions profile r.conditions
  pub state : FitsState r.action r.keeps_state

-- ---- the tokens of a shown rule

abbrev pub action_tokens : Action → List Token
action_tokens act.Pass = key (codes "pass")
action_tokens act.Drop = key (codes "block") ++ key (codes "drop")
action_tokens act.Return = key (codes "block") ++ key (codes "return")

abbrev pub direction_tokens : Option Direction → List Token
direction_tokens None = []
direction_tokens (Some In) = key (codes "in")
direction_tokens (Some Out) = key (codes "out")

abbrev pub quick_tokens : Bool → List Token
quick_tokens true = key (codes "quick")
quick_tokens false = []

abbrev pub negated_tokens : Bool → List Token → List Token
negated_tokens true ts = sign mark.Not ++ ts
negated_tokens false ts = ts

abbrev pub interface_tokens : Option Interface → List Token
interface_tokens None = []
interface_tokens (Some i) = key (codes "on") ++ negated_tokens i.negated (key i.name)

abbrev pub family_tokens : Option Family → List Token
family_tokens None = []
family_tokens (Some Inet) = key (codes "inet")
family_tokens (Some Inet6) = key (codes "inet6")

abbrev pub protocol_tokens : Option ℕ → List Token
protocol_tokens None = []
protocol_tokens (Some n) = key (codes "proto") ++ key (decimal n)

abbrev pub length_tokens : Bool → ℕ → List Token
length_tokens full len = cond full [] (sign mark.Slash ++ key (decimal len))

abbrev pub prefix_tokens : Block → List Token
prefix_tokens block = key (shown_addr block.base) ++ length_tokens (block.len == width block.base) block.len

abbrev pub table_tokens : List ℕ → List Token
table_tokens name = sign mark.Less ++ (key name ++ sign mark.Greater)

abbrev pub addresses_tokens : Addresses → List Token
addresses_tokens (Prefix block) = prefix_tokens block
addresses_tokens (Table name) = table_tokens name
addresses_tokens (Range span) = key (shown_addr span.first) ++ (key (codes "-") ++ key (shown_addr span.last))

abbrev pub host_tokens : Host → List Token
host_tokens host.Any = key (codes "any")
host_tokens (host.In set) = addresses_tokens set
host_tokens (host.NotIn set) = sign mark.Not ++ addresses_tokens set

abbrev pub test_tokens : PortTest → List Token
test_tokens (Equal n) = sign mark.Equals ++ key (decimal n)
test_tokens (NotEqual n) = sign mark.NotEqual ++ key (decimal n)
test_tokens (Less n) = sign mark.Less ++ key (decimal n)
test_tokens (LessEqual n) = sign mark.LessEqual ++ key (decimal n)
test_tokens (Greater n) = sign mark.Greater ++ key (decimal n)
test_tokens (GreaterEqual n) = sign mark.GreaterEqual ++ key (decimal n)
test_tokens (FromTo a b) = key (decimal a ++ 58 ∷ decimal b)
test_tokens (Between a b) = key (decimal a) ++ (sign mark.Between ++ key (decimal b))
test_tokens (Outside a b) = key (decimal a) ++ (sign mark.Outside ++ key (decimal b))

abbrev pub port_tokens : Option PortTest → List Token
port_tokens None = []
port_tokens (Some test) = key (codes "port") ++ test_tokens test

abbrev pub end_tokens : Host → Option PortTest → List Token
end_tokens h port = host_tokens h ++ port_tokens port

abbrev pub both_tokens : Host → Option PortTest → Host → Option PortTest → List Token
both_tokens s sp d dp = key (codes "from") ++ (end_tokens s sp ++ (key (codes "to") ++ end_tokens d dp))

abbrev pub ends_tokens : Host → Option PortTest → Host → Option PortTest → List Token
ends_tokens host.Any None host.Any None = key (codes "all")
ends_tokens s sp d dp = both_tokens s sp d dp

abbrev pub type_tokens : Option ℕ → List Token
type_tokens None = []
type_tokens (Some n) = key (codes "icmp-type") ++ key (decimal n)

-- letters, if there are any
abbrev pub letters_token : List ℕ → List Token
letters_token [] = []
letters_token (b ∷ text) = key (b ∷ text)

abbrev pub test_of_tokens : FlagTest → List Token
test_of_tokens flags.Any = key (codes "any")
test_of_tokens (flags.Just set of) = letters_token (letters set) ++ (sign mark.Slash ++ key (letters of))

abbrev pub flags_tokens : Action → FlagTest → List Token
flags_tokens act.Pass test = key (codes "flags") ++ test_of_tokens test
flags_tokens act.Drop flags.Any = []
flags_tokens act.Drop (flags.Just set of) = key (codes "flags") ++ test_of_tokens (flags.Just set of)
flags_tokens act.Return flags.Any = []
flags_tokens act.Return (flags.Just set of) = key (codes "flags") ++ test_of_tokens (flags.Just set of)

abbrev pub state_tokens : Action → Bool → List Token
state_tokens act.Pass true = key (codes "keep") ++ key (codes "state")
state_tokens act.Pass false = key (codes "no") ++ key (codes "state")
state_tokens act.Drop keep = []
state_tokens act.Return keep = []

abbrev pub option_tokens : Rule → List Token
option_tokens r = type_tokens r.conditions.icmp_type ++ (flags_tokens r.action r.conditions.flags ++ state_tokens r.action r.keeps_state)

abbrev pub rule_tokens : Rule → List Token
rule_tokens r =
    action_tokens r.action ++ (direction_tokens r.conditions.direction ++ ([] ++ (quick_tokens r.quick ++ (interface_tokens r.conditions.interface ++ (family_tokens r.conditions.family ++ (protocol_tokens r.conditions.protocol
    ++ (ends_tokens r.conditions.source r.conditions.source_port r.conditions.destination r.conditions.destination_port ++ option_tokens r)))))))

-- ---- the written form of a shown rule

abbrev pub one : {X : Type 0} → X → Elements X
one x = record { items = x ∷ []; deepest = 0 }

abbrev pub one_if : {X Y : Type 0} → (X → Y) → Option X → Option (Elements Y)
one_if f None = None
one_if f (Some x) = Some (one (f x))

abbrev pub written_action : Action → WrittenAction
written_action act.Pass = Pass
written_action act.Drop = Blocks (Some policy.Drop)
written_action act.Return = Blocks (Some policy.Return)

abbrev pub written_end : Host → Option PortTest → Ends
written_end h port = record { hosts = one h; ports = one_if (λ (t : PortTest). record { test = Some t }) port }

abbrev pub written_flags : Action → FlagTest → Option FlagTest
written_flags act.Pass test = Some test
written_flags act.Drop flags.Any = None
written_flags act.Drop (flags.Just set of) = Some (flags.Just set of)
written_flags act.Return flags.Any = None
written_flags act.Return (flags.Just set of) = Some (flags.Just set of)

abbrev pub written_state : Action → Bool → Option Bool
written_state act.Pass keep = Some keep
written_state act.Drop keep = None
written_state act.Return keep = None

abbrev pub written_types : Option ℕ → Option (Elements WrittenType)
written_types types = one_if (λ (n : ℕ). record { number = Some n }) types

abbrev pub written_options : Rule → Options
written_options r = record { flags = written_flags r.action r.conditions.flags; state = written_state r.action r.keeps_state; types = written_types r.conditions.icmp_type }

abbrev pub written_protocol : ℕ → Protocol
written_protocol n = record { number = n }

abbrev pub written_common : Conditions → CommonText
written_common c = record {
  interfaces = one_if (λ (i : Interface). i) c.interface;
  family = c.family;
  protocols = one_if written_protocol c.protocol;
  source = written_end c.source c.source_port;
  destination = written_end c.destination c.destination_port;
}

abbrev pub written_conditions : Rule → ConditionsText
written_conditions r = record {
  direction = r.conditions.direction;
  common = written_common r.conditions;
  flags = written_flags r.action r.conditions.flags;
  types = written_types r.conditions.icmp_type;
}

abbrev pub written : Rule → RuleText
written r = record { action = written_action r.action; quick = r.quick; conditions = written_conditions r; state = written_state r.action r.keeps_state }

-- ---- the tokens spell it

action_spelled : (a : Action) → IsAction (action_tokens a) (written_action a)
action_spelled act.Pass = PassWord
action_spelled act.Drop = BlockSaid _ policy.Drop DropWord
action_spelled act.Return = BlockSaid _ policy.Return ReturnWord

pub direction_spelled : (d : Option Direction) → IsDirection (direction_tokens d) d
direction_spelled None = NoDirection
direction_spelled (Some In) = InWord
direction_spelled (Some Out) = OutWord

pub quick_spelled : (q : Bool) → IsSaid (codes "quick") (quick_tokens q) q
quick_spelled true = Said
quick_spelled false = Unsaid

name_spelled : (profile : Profile) (negated : Bool) (name : List ℕ) → is_interface_name profile name ≡ true → IsInterface profile (negated_tokens negated (key name)) (record { negated = negated; name = name })
name_spelled profile true name fits = NotOnInterface _ name (NameWord name fits)
name_spelled profile false name fits = OnInterface _ name (NameWord name fits)

interface_spelled : (profile : Profile) (i : Option Interface) → FitsIf (λ (i : Interface). is_interface_name profile i.name ≡ true) i → IsBehind (codes "on") (IsSome (IsInterface profile)) (interface_tokens i) (one_if (λ (i : Interface). i) i)
interface_spelled profile None fits = Missing
interface_spelled profile (Some i) fits = Behind _ (one i) (One _ i (name_spelled profile i.negated i.name fits))

family_spelled : (f : Option Family) → IsFamily (family_tokens f) f
family_spelled None = NoFamily
family_spelled (Some Inet) = InetWord
family_spelled (Some Inet6) = Inet6Word

protocol_spelled : (p : Option ℕ) → FitsIf (λ n. n ≤ 255) p → IsBehind (codes "proto") (IsSome IsProtocol) (protocol_tokens p) (one_if written_protocol p)
protocol_spelled None fits = Missing
protocol_spelled (Some n) fits = Behind _ (one (written_protocol n)) (One _ (written_protocol n) (ProtocolWord (decimal n) n (protocol_again n fits)))

prefix_spelled : (block : Block) (full : Bool) → (block.len == width block.base) ≡ full → FitsBlock block → IsPrefix (key (shown_addr block.base) ++ length_tokens full block.len) block
prefix_spelled block true is_full fits = WholeAddress (shown_addr block.base) block (let again = block_again block.base block.len fits.fits fits.block in rw is_full at again)
prefix_spelled block false is_full fits = CutAddress (shown_addr block.base) (decimal block.len) block (let again = block_again block.base block.len fits.fits fits.block in rw is_full at again)

pub block_spelled : (block : Block) → FitsBlock block → IsPrefix (prefix_tokens block) block
block_spelled block fits = prefix_spelled block (block.len == width block.base) refl fits

addresses_spelled : (profile : Profile) (set : Addresses) → FitsAddresses profile set → IsSet profile (addresses_tokens set) set
addresses_spelled profile (Prefix block) fits = PrefixSet _ block (block_spelled block fits)
addresses_spelled profile (Table name) fits = TableSet _ name (TableSign name fits)
addresses_spelled profile (Range span) fits = RangeSet (shown_addr span.first) (shown_addr span.last) span.first span.last span (addr_again span.first fits.0) (addr_again span.last fits.1) fits.2

host_spelled : (profile : Profile) (h : Host) → FitsHost profile h → IsHost profile (host_tokens h) h
host_spelled profile host.Any fits = AnyWord
host_spelled profile (host.In set) fits = HostIn _ set (addresses_spelled profile set fits)
host_spelled profile (host.NotIn set) fits = HostNotIn _ set (addresses_spelled profile set fits)

abbrev written_test : Option PortTest → WrittenPort
written_test test = record { test = test }

free : (profile : Profile) (n : ℕ) → n ≤ 65535 → is_reserved profile (decimal n) ≡ false
free profile n fits = digit_free profile (decimal n) (decimal_begins n (omega (arith, fits)))

compared_spelled : (profile : Profile) (ts : List Token) (test : ℕ → PortTest) (n : ℕ) → n ≤ 65535 → IsPort profile ts (record { test = one_port test (port_of (decimal n)) }) → IsPort profile ts (record { test = Some (test n) })
compared_spelled profile ts test n fits is = subst (λ (o : Option ℕ). IsPort profile ts (written_test (one_port test o))) (port_again n fits) is

bounds_spelled : (profile : Profile) (ts : List Token) (test : ℕ → ℕ → PortTest) (a b : ℕ) → a ≤ 65535 → b ≤ 65535 → IsPort profile ts (record { test = two_ports test (port_of (decimal a)) (port_of (decimal b)) }) → IsPort profile ts (record { test = Some (test a b) })
bounds_spelled profile ts test a b fits_a fits_b is =
    subst (λ (o : Option ℕ). IsPort profile ts (written_test (two_ports test (Some a) o))) (port_again b fits_b) (subst (λ (o : Option ℕ). IsPort profile ts (written_test (two_ports test o (port_of (decimal b))))) (port_again a fits_a) is)

-- ---- a port range

begins_more : (text rest : List ℕ) → BeginsDigit text → BeginsDigit (text ++ rest)
begins_more [] rest digit = absurd digit
begins_more (b ∷ text) rest digit = digit

colon_is : (a b : List ℕ) → 0 < length a → 0 < length b → list_any (λ d. d == 58) b ≡ false → colon_parts (a, Some b) ≡ Some (a, b)
colon_is [] b some_a some_b none = absurd (omega arith)
colon_is (x ∷ a) [] some_a some_b none = absurd (omega arith)
colon_is (x ∷ a) (y ∷ b) some_a some_b none = rw none refl

not_colon : (b : ℕ) → IsDigit b → (b == 58) ≡ false
not_colon b digit = grind (arith, nat_tests)

no_colon : (text : List ℕ) → Digits text → list_any (λ d. d == 58) text ≡ false
no_colon [] digits = refl
no_colon (b ∷ text) digits = rw (not_colon b digits.0) (no_colon text digits.1)

range_cut : (a b : List ℕ) → Digits a → cut_at 58 (a ++ 58 ∷ b) ≡ (a, Some b)
range_cut [] b digits = refl
range_cut (x ∷ a) b digits = rw (not_colon x digits.0) (ap (before_front x) (range_cut a b digits.1))

range_lone : (a b : ℕ) → a ≤ 65535 → b ≤ 65535 → lone_test (decimal a ++ 58 ∷ decimal b) ≡ Some (FromTo a b)
unfolding lone_test
range_lone a b fits_a fits_b =
    let small_a : a < 65536 = omega (arith, fits_a) in
    let small_b : b < 65536 = omega (arith, fits_b) in
    rw (
      range_cut (decimal a) (decimal b) (decimal_digits a small_a),
      colon_is (decimal a) (decimal b) (decimal_there a small_a) (decimal_there b small_b) (no_colon (decimal b) (decimal_digits b small_b)),
      port_again a fits_a,
      port_again b fits_b,
    ) refl

range_spelled : (profile : Profile) (a b : ℕ) → a ≤ 65535 → b ≤ 65535 → IsPort profile (test_tokens (FromTo a b)) (record { test = Some (FromTo a b) })
range_spelled profile a b fits_a fits_b =
    let is_free = digit_free profile (decimal a ++ 58 ∷ decimal b) (begins_more (decimal a) (58 ∷ decimal b) (decimal_begins a (omega (arith, fits_a)))) in
    subst (λ (o : Option PortTest). IsPort profile (key (decimal a ++ 58 ∷ decimal b)) (written_test o)) (range_lone a b fits_a fits_b) (PortAlone (decimal a ++ 58 ∷ decimal b) is_free)

test_spelled : (profile : Profile) (test : PortTest) → FitsTest test → IsPort profile (test_tokens test) (record { test = Some test })
test_spelled profile (Equal n) fits = compared_spelled profile _ Equal n fits (PortCompared mark.Equals Equal (decimal n) EqualsSign (free profile n fits))
test_spelled profile (NotEqual n) fits = compared_spelled profile _ NotEqual n fits (PortCompared mark.NotEqual NotEqual (decimal n) NotEqualSign (free profile n fits))
test_spelled profile (Less n) fits = compared_spelled profile _ Less n fits (PortCompared mark.Less Less (decimal n) LessSign (free profile n fits))
test_spelled profile (LessEqual n) fits = compared_spelled profile _ LessEqual n fits (PortCompared mark.LessEqual LessEqual (decimal n) LessEqualSign (free profile n fits))
test_spelled profile (Greater n) fits = compared_spelled profile _ Greater n fits (PortCompared mark.Greater Greater (decimal n) GreaterSign (free profile n fits))
test_spelled profile (GreaterEqual n) fits = compared_spelled profile _ GreaterEqual n fits (PortCompared mark.GreaterEqual GreaterEqual (decimal n) GreaterEqualSign (free profile n fits))
test_spelled profile (FromTo a b) fits = range_spelled profile a b fits.0 fits.1
test_spelled profile (Between a b) fits = bounds_spelled profile _ Between a b fits.0 fits.1 (PortBounds mark.Between Between (decimal a) (decimal b) BetweenSign (free profile a fits.0) (free profile b fits.1))
test_spelled profile (Outside a b) fits = bounds_spelled profile _ Outside a b fits.0 fits.1 (PortBounds mark.Outside Outside (decimal a) (decimal b) OutsideSign (free profile a fits.0) (free profile b fits.1))

port_spelled : (profile : Profile) (port : Option PortTest) → FitsIf FitsTest port → IsBehind (codes "port") (IsSome (IsPort profile)) (port_tokens port) (one_if (λ (t : PortTest). record { test = Some t }) port)
port_spelled profile None fits = Missing
port_spelled profile (Some test) fits = Behind _ (one (written_test (Some test))) (One _ (written_test (Some test)) (test_spelled profile test fits))

end_spelled : (profile : Profile) (h : Host) (port : Option PortTest) → FitsHost profile h → FitsIf FitsTest port → IsPart profile (end_tokens h port) (written_end h port)
end_spelled profile h port fits_h fits_p = PartHosts (host_tokens h) (port_tokens port) (one h) _ (One (host_tokens h) h (host_spelled profile h fits_h)) (port_spelled profile port fits_p)

both_spelled : (profile : Profile) (s : Host) (sp : Option PortTest) (d : Host) (dp : Option PortTest) → FitsHost profile s → FitsIf FitsTest sp → FitsHost profile d → FitsIf FitsTest dp → IsHosts profile (both_tokens s sp d dp) (written_end s sp) (written_end d dp)
both_spelled profile s sp d dp fits_s fits_sp fits_d fits_dp = FromToParts (end_tokens s sp) (end_tokens d dp) (written_end s sp) (written_end d dp) (end_spelled profile s sp fits_s fits_sp) (end_spelled profile d dp fits_d fits_dp)

-- whether `all` says it
ends_spelled : (profile : Profile) (s : Host) (sp : Option PortTest) (d : Host) (dp : Option PortTest) → FitsHost profile s → FitsIf FitsTest sp → FitsHost profile d → FitsIf FitsTest dp → IsHosts profile (ends_tokens s sp d dp) (written_end s sp) (written_end d dp)
ends_spelled profile host.Any None host.Any None a b c d = AllWord
ends_spelled profile host.Any None host.Any (Some t) a b c d = both_spelled profile host.Any None host.Any (Some t) a b c d
ends_spelled profile host.Any None (host.In set) dp a b c d = both_spelled profile host.Any None (host.In set) dp a b c d
ends_spelled profile host.Any None (host.NotIn set) dp a b c d = both_spelled profile host.Any None (host.NotIn set) dp a b c d
ends_spelled profile host.Any (Some t) e dp a b c d = both_spelled profile host.Any (Some t) e dp a b c d
ends_spelled profile (host.In set) sp e dp a b c d = both_spelled profile (host.In set) sp e dp a b c d
ends_spelled profile (host.NotIn set) sp e dp a b c d = both_spelled profile (host.NotIn set) sp e dp a b c d

-- ---- options

letters_spelled : (set of : TcpFlags) (text : List ℕ) → letters set ≡ text → is_within set of ≡ true → nat_lt 0 (length (letters of)) ≡ true → IsFlags (letters_token text ++ (sign mark.Slash ++ key (letters of))) (flags.Just set of)
letters_spelled set of [] e within some =
    let none : set ≡ no_flags = sym (flags_with_again set) ∙ ap flags_with e in
    subst (λ (f : TcpFlags). IsFlags (sign mark.Slash ++ key (letters of)) (flags.Just f of)) (sym none) (NoneOf (letters of) of (flags_again of some))
letters_spelled set of (b ∷ text) e within some =
    let there : nat_lt 0 (length (letters set)) ≡ true = ap (λ (t : List ℕ). nat_lt 0 (length t)) e ∙ lt_is 0 (length (b ∷ text)) (omega arith) in
    SomeOf (b ∷ text) (letters of) set of (ap flags_of (sym e) ∙ flags_again set there) (flags_again of some) within

pub flags_spelled : (test : FlagTest) → FitsFlags test → IsFlags (test_of_tokens test) test
flags_spelled flags.Any fits = AnyFlags
flags_spelled (flags.Just set of) fits = letters_spelled set of (letters set) refl fits.0 fits.1

state_spelled : (profile : Profile) (a : Action) (keep : Bool) (said : Options) → said.state ≡ None → IsOptions profile said (state_tokens a keep) (record said { state = written_state a keep })
state_spelled profile act.Pass true said none = StateOption said _ (codes "keep") [] true none KeepWord (NoOption _)
state_spelled profile act.Pass false said none = StateOption said _ (codes "no") [] false none NoWord (NoOption _)
state_spelled profile act.Drop keep said none = subst (λ (o : Option Bool). IsOptions profile said [] (record said { state = o })) none (NoOption said)
state_spelled profile act.Return keep said none = subst (λ (o : Option Bool). IsOptions profile said [] (record said { state = o })) none (NoOption said)

abbrev with_flags : Options → Option FlagTest → Options
with_flags said o = record said { flags = o }

said_flags : (profile : Profile) (a : Action) (keep : Bool) (test : FlagTest) (said : Options) → said.flags ≡ None → said.state ≡ None → FitsFlags test → IsOptions profile said ((key (codes "flags") ++ test_of_tokens test) ++ state_tokens a keep) (record said { flags = Some test; state = written_state a keep })
said_flags profile a keep test said no_flags no_state fits = FlagsOption said _ (test_of_tokens test) (state_tokens a keep) test no_flags (flags_spelled test fits) (state_spelled profile a keep (with_flags said (Some test)) no_state)

unsaid_flags : (profile : Profile) (a : Action) (keep : Bool) (said : Options) → said.flags ≡ None → said.state ≡ None → IsOptions profile said (state_tokens a keep) (record said { flags = None; state = written_state a keep })
unsaid_flags profile a keep said no_flags no_state = subst (λ (o : Option FlagTest). IsOptions profile said (state_tokens a keep) (record said { flags = o; state = written_state a keep })) no_flags (state_spelled profile a keep said no_state)

flags_state_spelled : (profile : Profile) (a : Action) (keep : Bool) (test : FlagTest) (said : Options) → said.flags ≡ None → said.state ≡ None → FitsFlags test → IsOptions profile said (flags_tokens a test ++ state_tokens a keep) (record said { flags = written_flags a test; state = written_state a keep })
flags_state_spelled profile act.Pass keep test said no_flags no_state fits = said_flags profile act.Pass keep test said no_flags no_state fits
flags_state_spelled profile act.Drop keep flags.Any said no_flags no_state fits = unsaid_flags profile act.Drop keep said no_flags no_state
flags_state_spelled profile act.Drop keep (flags.Just set of) said no_flags no_state fits = said_flags profile act.Drop keep (flags.Just set of) said no_flags no_state fits
flags_state_spelled profile act.Return keep flags.Any said no_flags no_state fits = unsaid_flags profile act.Return keep said no_flags no_state
flags_state_spelled profile act.Return keep (flags.Just set of) said no_flags no_state fits = said_flags profile act.Return keep (flags.Just set of) said no_flags no_state fits

abbrev typed : Option (Elements WrittenType) → Options
typed types = record no_options { types = types }

options_spelled : (profile : Profile) (protocol : Option ℕ) (types : Option ℕ) (a : Action) (keep : Bool) (test : FlagTest) → FitsIf (FitsType profile protocol) types → FitsFlags test → IsOptions profile no_options (type_tokens types ++ (flags_tokens a test ++ state_tokens a keep)) (record { flags = written_flags a test; state = written_state a keep; types = written_types types })
options_spelled profile protocol None a keep test fits_t fits = flags_state_spelled profile a keep test no_options refl refl fits
options_spelled profile protocol (Some n) a keep test fits_t fits =
    let is_free = digit_free profile (decimal n) (decimal_begins n (let h = fits_t.1 in omega (arith, h))) in
    let type_is : IsTypes profile (key (decimal n)) (one (record { number = Some n })) = subst (λ (o : Option ℕ). IsTypes profile (key (decimal n)) (one (record { number = o }))) (type_again n fits_t.1) (TypeAlone (decimal n) is_free) in
    TypesOption no_options _ (key (decimal n)) (flags_tokens a test ++ state_tokens a keep) (one (record { number = Some n })) fits_t.0 refl type_is (flags_state_spelled profile a keep test (typed (Some (one (record { number = Some n })))) refl refl fits)

may_spelled : (a : Action) (keep : Bool) → may_keep (written_action a) (written_state a keep) ≡ true
may_spelled act.Pass keep = refl
may_spelled act.Drop keep = refl
may_spelled act.Return keep = refl

abbrev pub common_tokens : Conditions → List Token
common_tokens c = interface_tokens c.interface ++ (family_tokens c.family ++ (protocol_tokens c.protocol ++ ends_tokens c.source c.source_port c.destination c.destination_port))

pub common_spelled : (profile : Profile) (c : Conditions) → FitsConditions profile c → IsCommon profile (common_tokens c) (written_common c)
common_spelled profile c fits = record {
  interfaces = interface_tokens c.interface;
  family = family_tokens c.family;
  protocols = protocol_tokens c.protocol;
  hosts = ends_tokens c.source c.source_port c.destination c.destination_port;
  whole = refl;
  are_interfaces = interface_spelled profile c.interface fits.interface;
  is_family = family_spelled c.family;
  are_protocols = protocol_spelled c.protocol fits.protocol;
  are_hosts = ends_spelled profile c.source c.source_port c.destination c.destination_port fits.source fits.source_port fits.destination fits.destination_port;
}

-- its tokens, those of its conditions together
pub common_split : (r : Rule) → common_tokens r.conditions ++ option_tokens r ≡ interface_tokens r.conditions.interface ++ (family_tokens r.conditions.family ++ (protocol_tokens r.conditions.protocol
    ++ (ends_tokens r.conditions.source r.conditions.source_port r.conditions.destination r.conditions.destination_port ++ option_tokens r)))
common_split r =
    let c = r.conditions in
    four_parts (interface_tokens c.interface) (family_tokens c.family) (protocol_tokens c.protocol) (ends_tokens c.source c.source_port c.destination c.destination_port) (option_tokens r)

-- a shown rule is one of the grammar
pub rule_spelled : (profile : Profile) (r : Rule) → FitsRule profile r → IsRule profile (rule_tokens r) (written r)
rule_spelled profile r fits = record {
  action = action_tokens r.action;
  direction = direction_tokens r.conditions.direction;
  log = [];
  logs = false;
  quick = quick_tokens r.quick;
  common = common_tokens r.conditions;
  options = option_tokens r;
  whole = ap (λ (us : List Token). action_tokens r.action ++ (direction_tokens r.conditions.direction ++ ([] ++ (quick_tokens r.quick ++ us)))) (sym (common_split r));
  is_action = action_spelled r.action;
  is_direction = direction_spelled r.conditions.direction;
  is_log = Unsaid;
  is_quick = quick_spelled r.quick;
  is_common = common_spelled profile r.conditions fits.conditions;
  are_options = options_spelled profile r.conditions.protocol r.conditions.icmp_type r.action r.keeps_state r.conditions.flags fits.conditions.types fits.conditions.flags;
  keeps = may_spelled r.action r.keeps_state;
}

-- what is behind the action
abbrev pub behind_action : Rule → List Token
behind_action r =
    direction_tokens r.conditions.direction ++ ([] ++ (quick_tokens r.quick ++ (interface_tokens r.conditions.interface ++ (family_tokens r.conditions.family ++ (protocol_tokens r.conditions.protocol
    ++ (ends_tokens r.conditions.source r.conditions.source_port r.conditions.destination r.conditions.destination_port ++ option_tokens r))))))

pub shown_rank : (profile : Profile) (r : Rule) → FitsRule profile r → 1 < rank (behind_action r)
unfolding rule_spelled
shown_rank profile r fits =
    subst (λ (us : List Token). 1 < rank (direction_tokens r.conditions.direction ++ ([] ++ (quick_tokens r.quick ++ us)))) (common_split r) (rule_rank profile (rule_tokens r) (written r) (rule_spelled profile r fits))
