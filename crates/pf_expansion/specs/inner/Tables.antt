-- What only code and proofs use beside `Tables`.
use Rattle.std.specs.Prelude.{ℕ, ◌≡◌, List, length, Option}
use Rattle.std.specs.Prelude.{Some, None, nat_lt, if◌then◌else◌}
use Rattle.std.specs.List.{list_any}
use Rattle.std.specs.Ordering.{is_eq, nat_cmp, ordering_then}
use Rattle.std.specs.Cmp.Lexicographic.{slice_cmp}
use Rattle.std.specs.Global.{Vec}
use Rattle.std.specs.declared.cmp.Ordering.{Ordering}
use Rattle.std.specs.BTreeSet.{BTreeSet, contains, contains_by}
use Rattle.pf_addr.specs.Blocks.{Block}
use Rattle.pf_addr.specs.Order.{bits_of, version}
use Rattle.pf_rules.specs.Rulesets.{TableValue}
use Rattle.pf_rules.specs.declared.ruleset.TableEntry.{TableEntry}
use Rattle.pf_expansion.specs.Tables.{first_of_each, is_defined}

-- ---- what the code keeps

-- the entries, where they aren't too many
abbrev pub kept : List TableEntry → Option (List TableEntry)
kept entries = if nat_lt 4096 (length (first_of_each entries)) then None else Some (first_of_each entries)

-- a prefix as numbers: the version of IP, the length, and the address
abbrev pub key_of : Block → ℕ × (ℕ × ℕ)
key_of p = (version p.base, (p.len, bits_of p.base))

abbrev pub key_cmp : ℕ × (ℕ × ℕ) → ℕ × (ℕ × ℕ) → Ordering
key_cmp x y = ordering_then (nat_cmp x.0 y.0) (ordering_then (nat_cmp x.1.0 y.1.0) (nat_cmp x.1.1 y.1.1))

-- the prefixes of these entries
abbrev pub AreKeys : BTreeSet (ℕ × (ℕ × ℕ)) → List TableEntry → Type 0
AreKeys keys entries = (key : ℕ × (ℕ × ℕ)) → contains key_cmp keys key ≡
    list_any (λ (e : TableEntry). is_eq (key_cmp key (key_of e.prefix))) entries

-- these are the tables' names
abbrev pub AreNames : BTreeSet (Vec ℕ) → List TableValue → Type 0
AreNames names tables = (name : List ℕ) →
    contains_by (λ (k : Vec ℕ). slice_cmp nat_cmp name k.items) names ≡ is_defined tables name
