-- The conditions of each combination of what is listed, in the order of the lists, the interface outermost and the type
-- of ICMP innermost (pf.conf(5), lists).
use Rattle.std.specs.Prelude.{ℕ, ◌*◌, Bool, true, false, List, [], ◌∷◌, length, map, Option, Some, None}
use Rattle.std.specs.List.{flat_map}
use Rattle.pf_tokens.specs.Lists.{Elements}
use Rattle.pf_rules.specs.declared.rule.Action.{Action}
use Rattle.pf_rules.specs.declared.rule.Action.TheVariants as act
use Rattle.pf_rules.specs.declared.parts.Policy.{Policy}
use Rattle.pf_rules.specs.declared.parts.Policy.TheVariants as policy
use Rattle.pf_addr.specs.declared.addr.Family.{Family}
use Rattle.pf_addr.specs.declared.addr.Family.TheVariants.{Inet, Inet6}
use Rattle.pf_rules.specs.declared.parts.Interface.{Interface}
use Rattle.pf_rules.specs.declared.parts.Addresses.{Addresses}
use Rattle.pf_rules.specs.declared.parts.Addresses.TheVariants.{Prefix, Range, Table}
use Rattle.pf_rules.specs.declared.parts.Host.{Host}
use Rattle.pf_rules.specs.declared.parts.Host.TheVariants as host
use Rattle.pf_rules.specs.declared.parts.PortTest.{PortTest}
use Rattle.pf_rules.specs.declared.parts.FlagTest.{FlagTest}
use Rattle.pf_rules.specs.declared.parts.FlagTest.TheVariants as flags
use Rattle.pf_rules.specs.declared.rule.Rule.{Rule}
use Rattle.pf_rules.specs.declared.rule.Conditions.{Conditions}
use Rattle.pf_statements.specs.Conditions.{ConditionsText}
use Rattle.pf_statements.specs.declared.written.WrittenAction.{WrittenAction}
use Rattle.pf_statements.specs.declared.written.WrittenAction.TheVariants.{Pass, Block as Blocks}
use Rattle.pf_statements.specs.declared.conditions.Protocol.{Protocol}
use Rattle.pf_statements.specs.declared.conditions.WrittenPort.{WrittenPort}
use Rattle.pf_statements.specs.declared.conditions.WrittenType.{WrittenType}
use Rattle.pf_rules.specs.Words.{no_flags}
use Rattle.pf_statements.specs.Statements.{RuleText}
use Rattle.pf_addr.specs.Blocks.{family_of}

-- ---- what the lists give

-- each element that is listed, or none at all where there is no list
abbrev pub choices : {X : Type 0} → Option (Elements X) → List (Option X)
choices None = None ∷ []
choices (Some list) = map (λ x. Some x) list.items

-- ---- families

-- that of a prefix or a range; a table has addresses of both
abbrev pub addresses_family : Addresses → Option Family
addresses_family (Prefix block) = Some (family_of block.base)
addresses_family (Range span) = Some (family_of span.first)
addresses_family (Table name) = None

-- the family of a host, also of a negated one
abbrev pub host_family : Host → Option Family
host_family host.Any = None
host_family (host.In set) = addresses_family set
host_family (host.NotIn set) = addresses_family set

-- a rule with a type of ICMP is of IPv4
abbrev pub type_family : {X : Type 0} → Option X → Option Family
type_family None = None
type_family (Some x) = Some Inet

-- the family that occurs among the others and this one, if one does; none where two do
abbrev pub with_family : Option Family → Option (Option Family) → Option (Option Family)
with_family f None = None
with_family None (Some found) = Some found
with_family (Some f) (Some None) = Some (Some f)
with_family (Some Inet) (Some (Some Inet)) = Some (Some Inet)
with_family (Some Inet6) (Some (Some Inet6)) = Some (Some Inet6)
with_family (Some Inet) (Some (Some Inet6)) = None
with_family (Some Inet6) (Some (Some Inet)) = None

-- the family that occurs among these, if one does; none where two do
-- Example: two protocols and two prefixes make four rules.
abbrev pub occurring : List (Option Family) → Option (Option Family)
occurring [] = Some None
occurring (f ∷ fs) = with_family f (occurring fs)

-- ---- what isn't listed

-- what a plain `block` does is the policy
abbrev pub resolved : Policy → WrittenAction → Action
resolved p Pass = act.Pass
resolved policy.Drop (Blocks None) = act.Drop
resolved policy.Return (Blocks None) = act.Return
resolved p (Blocks (Some policy.Drop)) = act.Drop
resolved p (Blocks (Some policy.Return)) = act.Return

-- a pass rule keeps state unless `no state` is given, and a block rule never does
abbrev pub keeps_state : WrittenAction → Option Bool → Bool
keeps_state (Blocks said) state = false
keeps_state Pass None = true
keeps_state Pass (Some keep) = keep

-- flags S/SA: of SYN and ACK just SYN is set
abbrev pub syn_of_syn_ack : FlagTest
syn_of_syn_ack = flags.Just (record no_flags { syn = true }) (record no_flags { syn = true; ack = true })

-- a rule that keeps state has flags S/SA unless flags are written
abbrev pub tested_flags : Bool → Option FlagTest → FlagTest
tested_flags keep (Some test) = test
tested_flags true None = syn_of_syn_ack
tested_flags false None = flags.Any

-- ---- combinations

-- one of what is listed in each place
pub record Combination : Type 0 where
  pub interface : Option Interface
  pub protocol : Option Protocol
  pub source : Host
  pub source_port : Option WrittenPort
  pub destination : Host
  pub destination_port : Option WrittenPort
  pub icmp_type : Option WrittenType

-- the number of the protocol, if there is one
abbrev pub number_in : Option Protocol → Option ℕ
number_in None = None
number_in (Some p) = Some p.number

-- the test of the port, if there is one
abbrev pub test_in : Option WrittenPort → Option PortTest
test_in None = None
test_in (Some port) = port.test

-- the number of the type of ICMP, if there is one
abbrev pub type_in : Option WrittenType → Option ℕ
type_in None = None
type_in (Some t) = t.number

-- the conditions of a combination in which this family occurs
abbrev pub conditions_with : FlagTest → ConditionsText → Combination → Option Family → Conditions
conditions_with test text c family = record {
  direction = text.direction;
  interface = c.interface;
  family = family;
  protocol = number_in c.protocol;
  source = c.source;
  source_port = test_in c.source_port;
  destination = c.destination;
  destination_port = test_in c.destination_port;
  flags = test;
  icmp_type = type_in c.icmp_type;
}

-- the families that are given: the one written, those of both hosts, and that of the type of ICMP
abbrev pub families : ConditionsText → Combination → List (Option Family)
families text c = text.common.family ∷ host_family c.source ∷ host_family c.destination ∷
    type_family c.icmp_type ∷ []

-- the conditions with the family that occurs, if one does; no conditions where two do
abbrev pub conditions_if : FlagTest → ConditionsText → Combination → Option (Option Family) → List Conditions
conditions_if test text c None = []
conditions_if test text c (Some family) = conditions_with test text c family ∷ []

-- a combination of two families is dropped
unfoldable pub conditions_at : FlagTest → ConditionsText → Combination → List Conditions
conditions_at test text c = conditions_if test text c (occurring (families text c))

-- the combinations that go on with these choices, place by place
unfoldable pub by_type : FlagTest → ConditionsText → Combination → List Conditions
by_type test text c = flat_map (λ t. conditions_at test text (record c { icmp_type = t })) (choices text.types)

-- the same from the destination's port on
unfoldable pub by_destination_port : FlagTest → ConditionsText → Combination → List Conditions
by_destination_port test text c = flat_map (λ port. by_type test text (record c { destination_port = port }))
    (choices text.common.destination.ports)

-- the same from the destination on
unfoldable pub by_destination : FlagTest → ConditionsText → Combination → List Conditions
by_destination test text c = flat_map (λ h. by_destination_port test text (record c { destination = h }))
    text.common.destination.hosts.items

-- the same from the source's port on
unfoldable pub by_source_port : FlagTest → ConditionsText → Combination → List Conditions
by_source_port test text c = flat_map (λ port. by_destination test text (record c { source_port = port }))
    (choices text.common.source.ports)

-- the same from the source on
unfoldable pub by_source : FlagTest → ConditionsText → Combination → List Conditions
by_source test text c = flat_map (λ h. by_source_port test text (record c { source = h }))
    text.common.source.hosts.items

-- the same from the protocol on
unfoldable pub by_protocol : FlagTest → ConditionsText → Combination → List Conditions
by_protocol test text c = flat_map (λ n. by_source test text (record c { protocol = n }))
    (choices text.common.protocols)

-- the same from the interface on, which is every place
unfoldable pub by_interface : FlagTest → ConditionsText → Combination → List Conditions
by_interface test text c = flat_map (λ i. by_protocol test text (record c { interface = i }))
    (choices text.common.interfaces)

-- nothing is chosen yet
abbrev pub nothing_chosen : Combination
nothing_chosen = record {
  interface = None;
  protocol = None;
  source = host.Any;
  source_port = None;
  destination = host.Any;
  destination_port = None;
  icmp_type = None;
}

-- what the lists give, where this is asked of the flags
unfoldable pub combined : FlagTest → ConditionsText → List Conditions
combined test text = by_interface test text nothing_chosen

-- ---- rules

-- what is asked of the flags in a rule
abbrev pub rule_flags : RuleText → FlagTest
rule_flags text = tested_flags (keeps_state text.action text.state) text.conditions.flags

-- the rule with these conditions
abbrev pub rule_with : Policy → RuleText → Conditions → Rule
rule_with p text conditions = record {
  action = resolved p text.action;
  quick = text.quick;
  conditions = conditions;
  keeps_state = keeps_state text.action text.state;
}

-- the rules of a statement
unfoldable pub expanded : Policy → RuleText → List Rule
expanded p text = map (rule_with p text) (combined (rule_flags text) text.conditions)

-- ---- how many combinations there are, before families are compared

-- how many elements are listed, 1 where there is no list
abbrev pub count_of : {X : Type 0} → Option (Elements X) → ℕ
count_of None = 1
count_of (Some list) = length list.items

-- how many combinations there are, before those of two families are dropped
unfoldable pub combinations : ConditionsText → ℕ
combinations text =
    count_of text.common.interfaces * count_of text.common.protocols
    * length text.common.source.hosts.items * count_of text.common.source.ports
    * length text.common.destination.hosts.items * count_of text.common.destination.ports
    * count_of text.types
