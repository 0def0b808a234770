-- Tables and what they match (pf.conf(5), TABLES).
use Rattle.std.specs.Prelude.{ℕ, Bool, true, false, ◌&&◌, ◌||◌, ◌==◌, List}
use Rattle.std.specs.Prelude.{not, nat_le}
use Rattle.std.specs.List.{list_any, list_all}
use Rattle.pf_addr.specs.declared.addr.Addr.{Addr}
use Rattle.pf_addr.specs.declared.addr.Addr.TheVariants.{V4, V6}
use Rattle.pf_addr.specs.Blocks.{in_prefix}
use Rattle.pf_rules.specs.declared.ruleset.TableEntry.{TableEntry}

-- a table: two flags, and a finite set of signed prefixes, written as its entries in order of family, length and
-- address, each prefix once
pub record TableValue : Type 0 where
  pub persist : Bool
  pub is_const : Bool
  pub entries : List TableEntry

-- the entry's prefix contains the address, whether the entry is negated or not
abbrev pub contains : Addr → TableEntry → Bool
contains a e = in_prefix a e.prefix

-- if the entry contains the address, it is no longer than this
abbrev pub no_longer : Addr → ℕ → TableEntry → Bool
no_longer a len e = not (contains a e) || nat_le e.prefix.len len

-- some entry that isn't negated contains the address, and no entry that contains it is longer
-- Example: { 10/8, !10.1/16 } has 10.2.0.1 and not 10.1.0.1.
unfoldable pub in_table : Addr → List TableEntry → Bool
in_table a entries = list_any (λ e. not e.negated && contains a e && list_all (no_longer a e.prefix.len) entries)
    entries

-- whether the address is of the second family
abbrev pub is_v6 : Addr → Bool
is_v6 (V4 bits) = false
is_v6 (V6 bits) = true

-- both hold, or neither does
abbrev pub bool_eq : Bool → Bool → Bool
bool_eq true b = b
bool_eq false b = not b

-- the entry is of that family and that length
abbrev pub is_of : Bool → ℕ → TableEntry → Bool
is_of v6 len e = bool_eq v6 (is_v6 e.prefix.base) && (e.prefix.len == len)
