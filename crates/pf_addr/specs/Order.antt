-- The order of prefixes: by family, then by length, then by address.
use Rattle.std.specs.Prelude.{ℕ}
use Rattle.std.specs.Ordering.{nat_cmp, ordering_then}
use Rattle.std.specs.declared.cmp.Ordering.{Ordering}
use Rattle.pf_addr.specs.declared.addr.Addr.{Addr}
use Rattle.pf_addr.specs.declared.addr.Addr.TheVariants.{V4, V6}
use Rattle.pf_addr.specs.Blocks.{Block}

-- the version of IP, as a number
abbrev pub version : Addr → ℕ
version (V4 bits) = 4
version (V6 bits) = 6

-- an address as a number, without its family
abbrev pub bits_of : Addr → ℕ
bits_of (V4 bits) = bits
bits_of (V6 bits) = bits

-- the order of two prefixes: by family, IPv4 first, then by length, then by first address
-- Example: 10/8 is before 9.0.0.0/9.
unfoldable pub prefix_cmp : Block → Block → Ordering
prefix_cmp p q =
    ordering_then (nat_cmp (version p.base) (version q.base))
    (ordering_then (nat_cmp p.len q.len) (nat_cmp (bits_of p.base) (bits_of q.base)))
