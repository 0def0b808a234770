-- Whether a rule matches a packet: each of its conditions holds (pf.conf(5), PACKET FILTERING and PARAMETERS).
use Rattle.std.specs.Prelude.{ℕ, Bool, true, false, ◌==◌, ◌&&◌, ◌||◌, Option, Some, None, not, nat_lt}
use Rattle.std.specs.Prelude.{nat_le, if◌then◌else◌}
use Rattle.std.specs.List.{list_any}
use Rattle.std.specs.Str.{bytes_eq}
use Rattle.pf_addr.specs.declared.addr.Addr.{Addr}
use Rattle.pf_addr.specs.declared.addr.Addr.TheVariants.{V4, V6}
use Rattle.pf_addr.specs.Blocks.{in_prefix, in_range}
use Rattle.pf_rules.specs.declared.parts.Direction.{Direction}
use Rattle.pf_rules.specs.declared.parts.Direction.TheVariants.{In, Out}
use Rattle.pf_addr.specs.declared.addr.Family.{Family}
use Rattle.pf_addr.specs.declared.addr.Family.TheVariants.{Inet, Inet6}
use Rattle.pf_rules.specs.declared.parts.Interface.{Interface}
use Rattle.pf_rules.specs.declared.parts.Addresses.{Addresses}
use Rattle.pf_rules.specs.declared.parts.Addresses.TheVariants.{Prefix, Range, Table}
use Rattle.pf_rules.specs.declared.parts.Host.{Host}
use Rattle.pf_rules.specs.declared.parts.Host.TheVariants as host
use Rattle.pf_rules.specs.declared.parts.PortTest.{PortTest}
use Rattle.pf_rules.specs.declared.parts.PortTest.TheVariants.{Equal, NotEqual, Less, LessEqual, Greater}
use Rattle.pf_rules.specs.declared.parts.PortTest.TheVariants.{GreaterEqual, FromTo, Between, Outside}
use Rattle.pf_rules.specs.declared.flags.TcpFlags.{TcpFlags}
use Rattle.pf_rules.specs.declared.parts.FlagTest.{FlagTest}
use Rattle.pf_rules.specs.declared.parts.FlagTest.TheVariants as flags
use Rattle.pf_rules.specs.declared.rule.Conditions.{Conditions}
use Rattle.pf_rules.specs.Names.{Name}
use Rattle.pf_tables.specs.Tables.{TableValue, in_table}
use Rattle.pf_eval.specs.Packets.{PacketValue, interfaces}

-- two directions are the same
abbrev pub direction_eq : Direction → Direction → Bool
direction_eq In In = true
direction_eq In Out = false
direction_eq Out In = false
direction_eq Out Out = true

-- a condition that isn't set holds
abbrev pub if_set : {X : Type 0} → (X → Bool) → Option X → Bool
if_set test None = true
if_set test (Some x) = test x

-- a condition on something that the packet lacks doesn't hold
abbrev pub if_there : {X : Type 0} → (X → Bool) → Option X → Bool
if_there test None = false
if_there test (Some x) = test x

-- the interface is one of the packet's names, or, negated, none of them
unfoldable pub on_interface : PacketValue → Interface → Bool
on_interface k i = if i.negated then not (list_any (λ n. bytes_eq n i.name) (interfaces k))
    else list_any (λ n. bytes_eq n i.name) (interfaces k)

-- the address is of that family
abbrev pub of_family : Addr → Family → Bool
of_family (V4 bits) Inet = true
of_family (V4 bits) Inet6 = false
of_family (V6 bits) Inet = false
of_family (V6 bits) Inet6 = true

-- the tables that a rule may name, by their names
abbrev pub Tables : Type 0
Tables = Name → Option TableValue

-- where there is no table, no address is in it
abbrev pub in_some : Addr → Option TableValue → Bool
in_some a None = false
in_some a (Some t) = in_table a t.entries

-- the address is in the prefix, in the range with both its ends, or in the table of that name
unfoldable pub in_addresses : Tables → Addr → Addresses → Bool
in_addresses tables a (Prefix block) = in_prefix a block
in_addresses tables a (Range span) = in_range a span.first span.last
in_addresses tables a (Table name) = in_some a (tables name)

-- negation turns the answer round, also for an address of the other family, and where there is no table
abbrev pub at_host : Tables → Addr → Host → Bool
at_host tables a host.Any = true
at_host tables a (host.In set) = in_addresses tables a set
at_host tables a (host.NotIn set) = not (in_addresses tables a set)

-- the port passes a rule's test: both bounds belong to FromTo, neither to Between nor to Outside
unfoldable pub port_passes : PortTest → ℕ → Bool
port_passes (Equal n) port = port == n
port_passes (NotEqual n) port = not (port == n)
port_passes (Less n) port = nat_lt port n
port_passes (LessEqual n) port = nat_le port n
port_passes (Greater n) port = nat_lt n port
port_passes (GreaterEqual n) port = nat_le n port
port_passes (FromTo a b) port = nat_le a port && nat_le port b
port_passes (Between a b) port = nat_lt a port && nat_lt port b
port_passes (Outside a b) port = nat_lt port a || nat_lt b port

-- a flag that is looked at is set exactly if it is to be
abbrev pub flag_passes : Bool → Bool → Bool → Bool
flag_passes looked wanted here = if looked then (if wanted then here else not here) else true

-- of the flags in of just those in set are set
unfoldable pub just : TcpFlags → TcpFlags → TcpFlags → Bool
just set of here =
    flag_passes of.fin set.fin here.fin && flag_passes of.syn set.syn here.syn
    && flag_passes of.rst set.rst here.rst && flag_passes of.psh set.psh here.psh
    && flag_passes of.ack set.ack here.ack && flag_passes of.urg set.urg here.urg
    && flag_passes of.ece set.ece here.ece && flag_passes of.cwr set.cwr here.cwr

-- flags are asked of TCP packets alone
unfoldable pub flags_pass : FlagTest → PacketValue → Bool
flags_pass flags.Any k = true
flags_pass (flags.Just set of) k = if k.protocol == 6 then just set of k.flags else true

-- what is asked of the packet itself
unfoldable pub is_such : Conditions → PacketValue → Bool
is_such r k =
    if_set (direction_eq k.direction) r.direction
    && if_set (of_family k.source) r.family
    && if_set (λ n. k.protocol == n) r.protocol
    && if_set (λ n. if_there (λ m. m == n) k.icmp_type) r.icmp_type
    && flags_pass r.flags k
    && if_set (on_interface k) r.interface

-- what is asked of its two ends
unfoldable pub is_between : Tables → Conditions → PacketValue → Bool
is_between tables r k =
    if_set (λ t. if_there (port_passes t) k.source_port) r.source_port
    && if_set (λ t. if_there (port_passes t) k.destination_port) r.destination_port
    && at_host tables k.source r.source
    && at_host tables k.destination r.destination

-- each condition holds
unfoldable pub matches : Tables → Conditions → PacketValue → Bool
matches tables r k = is_such r k && is_between tables r k
