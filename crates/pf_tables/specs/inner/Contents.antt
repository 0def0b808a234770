-- What only code and proofs use beside `Contents`.
use Rattle.std.specs.Prelude.{Bool, false, List}
use Rattle.std.specs.Prelude.{find, Option, Some, None}
use Rattle.pf_addr.specs.Blocks.{Block}
use Rattle.pf_rules.specs.declared.ruleset.TableEntry.{TableEntry}
use Rattle.pf_tables.specs.Tables.{bool_eq}
use Rattle.pf_tables.specs.Contents.{is_prefix}

-- the entry of that prefix, if there is one
abbrev pub entry_at : Block → List TableEntry → Option TableEntry
entry_at p entries = find (is_prefix p) entries

-- ---- entries taken out

-- the entry is there and has the sign
abbrev pub has_sign : Bool → Option TableEntry → Bool
has_sign negated None = false
has_sign negated (Some f) = bool_eq negated f.negated
