-- What only code and proofs use beside `PathTexts`.
use Rattle.std.specs.Prelude.{ℕ, List, Option, Some, None}
use Rattle.std.specs.Prelude.{if◌then◌else◌}
use Rattle.std.specs.List.{list_all}
use Rattle.pf_rules.specs.Words.{is_anchor_text}
use Rattle.pf_rules.specs.Names.{Name}
use Rattle.pf_config.specs.PathTexts.{pieces}

-- the pieces, if each is an anchor's name
abbrev pub names_if : List (List ℕ) → Option (List Name)
names_if pieces = if list_all is_anchor_text pieces then Some pieces else None
