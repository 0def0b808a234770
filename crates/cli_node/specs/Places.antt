-- Which numbers a cluster and its members may have.
use Rattle.std.specs.Prelude.{ℕ, ◌*◌, max, ◌/◌, ◌-◌, ◌^◌, ◌==◌, Bool, false, ◌&&◌, nat_le, nat_lt, Option, Some, None}
use Rattle.pf_addr.specs.declared.addr.Addr.{Addr}
use Rattle.pf_addr.specs.declared.addr.Addr.TheVariants.{V4, V6}
use Rattle.node_udp.specs.declared.address.Address.{Address}

-- n members
abbrev pub is_count : ℕ → Bool
is_count n = nat_le 1 n && nat_le n 15

-- a member's number, of n
abbrev pub has_place : (me n : ℕ) → Bool
has_place me n = is_count n && nat_lt me n

-- a number is given, and has 8 bits
abbrev pub has_8_bits : Option ℕ → Bool
has_8_bits None = false
has_8_bits (Some n) = nat_le n 255

-- n turns, or as many as there can be
abbrev pub turns_or_all : Option ℕ → ℕ
turns_or_all (Some turns) = turns
turns_or_all None = 2 ^ 64 - 1

-- five waits a second, one at least; without a number five
abbrev pub waits_of : Option ℕ → ℕ
waits_of (Some seconds) = max (5 * seconds) 1
waits_of None = 5

-- an address at which a machine hears itself alone: 127.0.0.0/8 (RFC 1122, 3.2.1.3), ::1 (RFC 4291, 2.5.3)
abbrev pub is_loopback_ip : Addr → Bool
is_loopback_ip (V4 bits) = bits / 0x1000000 == 127
is_loopback_ip (V6 bits) = bits == 1

abbrev pub is_loopback : Option Address → Bool
is_loopback None = false
is_loopback (Some a) = is_loopback_ip a.ip

-- what is given goes before what else there is
abbrev pub chosen : {A : Type 0} → Option A → Option A → Option A
chosen None other = other
chosen (Some given) other = Some given
