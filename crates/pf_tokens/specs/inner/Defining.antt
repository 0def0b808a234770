-- What only code and proofs use beside `Defining`.
use Rattle.std.specs.Prelude.{◌≡◌, ℕ, ◌+◌, ◌||◌, Bool, true, false, List}
use Rattle.std.specs.Prelude.{◌∷◌, ◌++◌, Option, Some, None, Result, Ok, Err}
use Rattle.std.specs.Prelude.{if◌then◌else◌}
use Rattle.std.specs.List.{list_any}
use Rattle.pf_tokens.specs.declared.defining.DefinitionFault.{DefinitionFault}
use Rattle.pf_tokens.specs.declared.defining.DefinitionFault.TheVariants as faults
use Rattle.pf_tokens.specs.declared.defining.Items.{Items}
use Rattle.pf_tokens.specs.Tokens.{Token}
use Rattle.pf_tokens.specs.Macros.{Definition}
use Rattle.pf_tokens.specs.Defining.{is_refused_string, joined_items, are_items, is_too_long}

-- a value that may have begun
abbrev pub begun_text : Bool → List ℕ → Option (List ℕ)
begun_text begun text = if begun then Some text else None

-- the text and its length with one more item
abbrev pub appended : Bool → List ℕ → List ℕ → List ℕ
appended some text item = if some then text ++ 32 ∷ item else text ++ item

abbrev pub len_with : Bool → ℕ → ℕ → ℕ
len_with some text item = if some then text + 1 + item else text + item

-- the items of a macro statement in memory, unless one refuses it
abbrev pub Collects : Result Items DefinitionFault → List Definition → List Token → Type 0
Collects (Ok r) ds ts = (joined_items ds None ts ≡ begun_text r.some r.text.items) × (are_items ds ts ≡ r.all) ×
    ((list_any is_refused_string ts || is_too_long (joined_items ds None ts)) ≡ false)
Collects (Err faults.Memory) ds ts = Unit {0}
Collects (Err faults.Macro) ds ts = (list_any is_refused_string ts || is_too_long (joined_items ds None ts)) ≡ true
Collects (Err faults.Syntax) ds ts = ⊥
