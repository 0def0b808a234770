-- The entries of a table apart by family and length.
use Rattle.std.specs.Prelude.{◌≡◌, true, ◌≤◌, List, [], ◌∷◌, ◌++◌, not, if◌then◌else◌}
use Rattle.std.specs.List.{list_all}
use Rattle.std.specs.Ordering.{is_lt}
use Rattle.pf_addr.specs.Blocks.{IsBlock}
use Rattle.pf_rules.specs.declared.ruleset.TableEntry.{TableEntry}
use Rattle.pf_tables.specs.declared.part.Part.{Part}
use Rattle.pf_tables.specs.Tables.{is_of}
use Rattle.pf_addr.specs.Order.{prefix_cmp}

-- the entries of all parts, one part after another
abbrev pub joined : List Part → List TableEntry
joined [] = []
joined (p ∷ ps) = p.entries.items ++ joined ps

-- each entry is before those behind it
abbrev pub IsOrdered : List TableEntry → Type 0
IsOrdered [] = Unit {0}
IsOrdered (e ∷ es) = (list_all (λ (f : TableEntry). is_lt (prefix_cmp e.prefix f.prefix)) es ≡ true) ×
    IsOrdered es

-- the prefixes are prefixes: no bit past the length is set
abbrev pub AreBlocks : List TableEntry → Type 0
AreBlocks [] = Unit {0}
AreBlocks (e ∷ es) = IsBlock e.prefix.base e.prefix.len × AreBlocks es

-- each part has the entries of its family and length, and none of them is in a part behind it or among the rest
abbrev pub ArePartsBefore : List Part → List TableEntry → Type 0
ArePartsBefore [] rest = Unit {0}
ArePartsBefore (p ∷ ps) rest =
    (list_all (is_of p.v6 p.len) p.entries.items ≡ true)
    × (list_all (λ e. not (is_of p.v6 p.len e)) (joined ps ++ rest) ≡ true)
    × (p.len ≤ (if p.v6 then 128 else 32))
    × ArePartsBefore ps rest

-- the parts hold ordered entries
pub record AreParts (parts : List Part) : Type 0 where
  pub apart : ArePartsBefore parts []
  pub ordered : IsOrdered (joined parts)
  pub blocks : AreBlocks (joined parts)
