-- The addresses of a table as intervals that don't meet: which address is in the table changes only where an entry
-- begins or has ended.
use Rattle.std.specs.Prelude.{ℕ, ◌+◌, ◌-◌, ◌^◌, Bool, true, false, List, [], ◌∷◌, ◌++◌, fold, nat_lt, nat_le, ◌&&◌}
use Rattle.std.specs.Prelude.{if◌then◌else◌}
use Rattle.std.specs.List.{flat_map}
use Rattle.pf_addr.specs.declared.addr.Addr.{Addr}
use Rattle.pf_addr.specs.declared.addr.Addr.TheVariants.{V4, V6}
use Rattle.pf_addr.specs.declared.addr.Family.{Family}
use Rattle.pf_addr.specs.declared.addr.Family.TheVariants.{Inet, Inet6}
use Rattle.pf_addr.specs.Blocks.{Block, cleared, width, family_of}
use Rattle.pf_addr.specs.Order.{bits_of}
use Rattle.pf_rules.specs.declared.ruleset.TableEntry.{TableEntry}
use Rattle.pf_tables.specs.Tables.{in_table}
use Rattle.nft_rules.specs.Subset.{Interval, family_eq}

-- the address of that number
abbrev pub address : Family → ℕ → Addr
address Inet n = V4 n
address Inet6 n = V6 n

-- the greatest address
abbrev pub top : Family → ℕ
top Inet = 4294967295
top Inet6 = 340282366920938463463374607431768211455

-- ---- prefixes

-- the first address of a prefix, as a number
abbrev pub first_of : Block → ℕ
first_of p = cleared (width p.base) p.len (bits_of p.base)

-- the last address of a prefix, as a number
-- Example: 10/8 ends at 10.255.255.255.
abbrev pub last_of : Block → ℕ
last_of p = first_of p + (2 ^ (width p.base - p.len) - 1)

-- ---- cuts

-- a number at its place, unless it is there
abbrev pub put_number : List ℕ → ℕ → List ℕ
put_number [] n = n ∷ []
put_number (m ∷ ms) n = if nat_lt n m then n ∷ m ∷ ms else (if nat_lt m n then m ∷ put_number ms n else m ∷ ms)

-- where an entry of the family begins, and where it has ended
abbrev pub ends : Family → TableEntry → List ℕ
ends f e =
    if family_eq (family_of e.prefix.base) f
    then first_of e.prefix ∷ (if nat_lt (last_of e.prefix) (top f) then (last_of e.prefix + 1) ∷ [] else [])
    else []

-- the first address, and those, rising
unfoldable pub cuts : Family → List TableEntry → List ℕ
cuts f entries = fold put_number (0 ∷ []) (flat_map (ends f) entries)

-- ---- intervals

-- the number is in the interval, to which both ends belong
abbrev pub is_within : ℕ → Interval → Bool
is_within n i = nat_le i.low n && nat_le n i.high

-- the interval from low to high where the test held, none where it didn't
abbrev pub span : Bool → (low high : ℕ) → List Interval
span true low high = record { low = low; high = high } ∷ []
span false low high = []

-- from each cut that passes the test to before the next one
-- Example: the greatest address has no cut behind it.
abbrev pub spans : (ℕ → Bool) → ℕ → List ℕ → List Interval
spans test end [] = []
spans test end (n ∷ []) = span (test n) n end
spans test end (n ∷ m ∷ ms) = span (test n) n (m - 1) ++ spans test end (m ∷ ms)

-- the addresses of a family that a table of these entries holds, as intervals in rising order
-- Example: { 10/8, !10.1/16 } is 10.0.0.0 to 10.0.255.255, and 10.2.0.0 to 10.255.255.255.
unfoldable pub elements : Family → List TableEntry → List Interval
elements f entries = spans (λ n. in_table (address f n) entries) (top f) (cuts f entries)
