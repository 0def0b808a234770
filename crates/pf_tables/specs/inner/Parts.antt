-- What only code and proofs use beside `Parts`.
use Rattle.std.specs.Prelude.{◌≡◌, ℕ, ◌+◌, Bool, true, ◌≤◌, ◌<◌, List, length, if◌then◌else◌}
use Rattle.std.specs.Prelude.{Option, Some, None, Result, Ok, Err, get_or}
use Rattle.std.specs.List.{list_all}
use Rattle.pf_rules.specs.declared.ruleset.TableEntry.{TableEntry}
use Rattle.pf_tables.specs.declared.edits.Edit.{Edit}
use Rattle.pf_tables.specs.declared.part.Part.{Part}
use Rattle.pf_tables.specs.Tables.{is_of}
use Rattle.pf_tables.specs.Contents.{edited}
use Rattle.pf_tables.specs.Parts.{IsOrdered, AreBlocks}

-- a part has entries of its family and length, in order
abbrev pub IsPart : Part → Type 0
IsPart p = (list_all (is_of p.v6 p.len) p.entries.items ≡ true) × (p.len ≤ (if p.v6 then 128 else 32)) ×
    IsOrdered p.entries.items × AreBlocks p.entries.items

-- the part with this index is of that family and length, and has entries
pub record IsPlace (parts : List Part) (at : ℕ) (v6 : Bool) (len : ℕ) : Type 0 where
  pub within : at < length parts
  pub own : (p : Part) → p ≡ get_or parts at p → (p.v6 ≡ v6) × (p.len ≡ len) × (1 ≤ length p.entries.items)

-- the lengths of the lists differ as these counts of a part's entries do; the part has at most one more than before
abbrev pub HasMoved : ℕ → ℕ → List TableEntry → List TableEntry → Type 0
HasMoved before after old new = (length new + before ≡ length old + after) × (before ≤ length old) ×
    (after ≤ before + 1)

-- the entries after an edit, or as they were where it wasn't made
abbrev pub edited_if : {N E : Type 0} → Result (Option N) E → Edit → TableEntry → List TableEntry → List TableEntry
edited_if (Ok (Some n)) edit e entries = edited edit e entries
edited_if (Ok None) edit e entries = entries
edited_if (Err x) edit e entries = entries
