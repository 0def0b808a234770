-- What is given with a subcommand.
use Rattle.std.specs.Prelude.{Bool, true, false, List, [], ◌∷◌, Option, Some, None, bytes_eq, codes, if◌then◌else◌}
use Rattle.clap.specs.Words.{App, Row, Text, new_app, with_subcommand, subcommand_of}
use Rattle.clap.specs.Faults.{fault_of}
use Rattle.clap.specs.Kinds.{Kinds}

-- the program with this subcommand, which has to be given
abbrev pub program_of : (subcommand : App) → App
program_of subcommand =
    let app = with_subcommand (new_app (codes "pfx")) subcommand.top in
    record app { top = record app.top { subcommand_required = true } }

-- what is given with the subcommand of this name
abbrev pub given_in : (name : Text) → Option (Text × List Row) → Option (List Row)
given_in name None = None
given_in name (Some (found, rows)) = if bytes_eq found name then Some rows else None

-- none where the arguments have a fault
abbrev pub unless_faulty : Kinds → Option (Text × List Row) → Option (Text × List Row)
unless_faulty [] subcommand = subcommand
unless_faulty (k ∷ ks) subcommand = None

-- The subcommand that is named and what is given with it, the program's name first; none where the arguments aren't
-- understood.
-- Example: of `pfx ask --control` none, since the option has no value.
unfoldable pub subcommand_given : (program : App) → (arguments : List Text) → Option (Text × List Row)
subcommand_given program arguments = unless_faulty (fault_of program arguments) (subcommand_of program arguments)

-- what is given with the subcommand of this name
abbrev pub given_with : (program : App) → (name : Text) → (arguments : List Text) → Option (List Row)
given_with program name arguments = given_in name (subcommand_given program arguments)

-- whether an option without a value is given
abbrev pub is_given : Option Text → Bool
is_given None = false
is_given (Some text) = bytes_eq text (codes "true")
