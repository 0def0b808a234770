-- What only code and proofs use beside `Outcomes`.
use Rattle.std.specs.Prelude.{ℕ, Bool, false, List, [], Option, Some, None}
use Rattle.px_model.specs.Node as node
use Rattle.px_model.specs.Spelling.{Bytes, spelled}
use Rattle.pf_entry.specs.Entry as entries
use Rattle.pf_entry.specs.Reading.{reading}
use Rattle.pf_node.specs.declared.outcomes.Outcome.{Outcome}
use Rattle.pf_node.specs.declared.outcomes.Outcome.TheVariants.{Done, Refused, NoCommand}
use Rattle.pf_scripts.specs.Lines.{refused_line}
use Rattle.pf_scripts.specs.Ctl.{is_counted, counts_line}

abbrev pub outcome_line : Bool → Outcome → List ℕ
outcome_line counts (Done added removed) = counts_line counts added removed
outcome_line counts (Refused code at) = refused_line code at
outcome_line counts NoCommand = []

-- counts are printed of an entry's command
abbrev pub counts_read : Option entries.Entry → Bool
counts_read None = false
counts_read (Some e) = is_counted e.command

abbrev pub counts_in : Option (node.Entry Bytes) → Bool
counts_in None = false
counts_in (Some e) = counts_read (reading (spelled e))
