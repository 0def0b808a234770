-- The change that an ask's arguments ask for.
use Rattle.std.specs.Prelude.{ℕ, Bool, true, false, List, [], Option, Some, None, Result, Ok, Err, codes}
use Rattle.std.specs.Prelude.{unwrap_or, if◌then◌else◌}
use Rattle.clap.specs.Words.{Text, Row, first_of}
use Rattle.pf_entry.specs.Entry as entry
use Rattle.pf_arguments.specs.Asked.{Asked, Change, CheckOnly, ShowRules, ShowTables, ShowAnchors, TableShow, TableTest}
use Rattle.pf_arguments.specs.Asked.{given_in, asked}
use Rattle.pf_arguments.specs.Answers.{command_fault_code}
use Rattle.pf_scripts.specs.Ctl.{is_standard, rows_in}

-- a change, or the number of the refusal
abbrev pub AskedChange : Type 0
AskedChange = Result entry.Command ℕ

-- an action that is no change is 40, after the faults of the arguments
abbrev pub change_in : Asked → AskedChange
change_in (Err fault) = Err (unwrap_or (command_fault_code fault) 0)
change_in (Ok (Change command)) = Ok command
change_in (Ok (CheckOnly p)) = Err 40
change_in (Ok (ShowRules p)) = Err 40
change_in (Ok (ShowTables p)) = Err 40
change_in (Ok ShowAnchors) = Err 40
change_in (Ok (TableShow p t)) = Err 40
change_in (Ok (TableTest p t list)) = Err 40

abbrev pub is_none : {X : Type 0} → Option X → Bool
is_none None = true
is_none (Some x) = false

-- where a ruleset may stand, the file is standard input or there is none; under a stop there is none
abbrev pub is_allowed : Option Text → Option (List ℕ) → Bool
is_allowed file None = is_none file
is_allowed file (Some text) = is_standard file

abbrev pub change_of_rows : List Row → Option (List ℕ) → AskedChange
change_of_rows rows text =
    if is_allowed (first_of (codes "file") rows) text then change_in (asked (given_in rows) (unwrap_or text []))
    else Err 40

abbrev pub change_at : Option (List Row) → Option (List ℕ) → AskedChange
change_at None text = Err 40
change_at (Some rows) text = change_of_rows rows text

-- what the arguments ask for, the first of which stands for pfctl, with the text after their line, if one may be there
abbrev pub change_of : List Text → Option (List ℕ) → AskedChange
change_of words text = change_at (rows_in words) text
