-- The command-line arguments of the program, and what they ask for.
use Rattle.std.specs.Prelude.{Bool, true, false, ◌||◌, List, [], ◌∷◌, Option, Some, None}
use Rattle.std.specs.Prelude.{codes, bytes_eq, option_map, unwrap_or, if◌then◌else◌}
use Rattle.clap.specs.Words.{App, Row, Rule, Text, new_app, with_rule, with_subcommand, subcommand_of, all_of}
use Rattle.clap.specs.Words.{first_of}
use Rattle.clap.specs.Faults.{fault_of}
use Rattle.clap.specs.Kinds.{Kinds}
use Rattle.pf_grammar.specs.declared.place.Place.{Place}
use Rattle.pf_grammar.specs.declared.place.Place.TheVariants.{Main, Anchor}
-- whether an option without a value was given
pub use Rattle.cli_io.specs.Given.{is_given}
use Rattle.cli_io.specs.declared.paragraph.Explanation.{Explanation}
use Rattle.cli_io.specs.Explained.{named}
use Rattle.cli_io.specs.Options.{flag_rule, lettered, several_rule, single_rule, value_rule, with_rules}

-- ---- the arguments

-- -q and -v
abbrev pub quiet_rule : Rule
quiet_rule = lettered 113 (flag_rule (codes "quiet"))

abbrev pub verbose_rule : Rule
verbose_rule = lettered 118 (flag_rule (codes "verbose"))

-- test [-f FILE] [--packets FILE] [-q] [-v] PACKET..
abbrev pub test_app : App
test_app = with_rules (new_app (codes "test")) (lettered 102 (value_rule (codes "file"))
    ∷ value_rule (codes "packets") ∷ quiet_rule ∷ verbose_rule ∷ several_rule (codes "packet") ∷ [])

-- check [--anchor] [-q] [-v] FILE..
abbrev pub check_app : App
check_app = with_rules (new_app (codes "check"))
    (flag_rule (codes "anchor") ∷ quiet_rule ∷ verbose_rule ∷ several_rule (codes "file") ∷ [])

-- ctl [-v]
abbrev pub ctl_app : App
ctl_app = with_rule (new_app (codes "ctl")) verbose_rule

-- lab
abbrev pub lab_app : App
lab_app = new_app (codes "lab")

-- explain [CODE]
abbrev pub explain_app : App
explain_app = with_rule (new_app (codes "explain")) (single_rule (codes "code"))

-- the subcommands that read a ruleset's text
abbrev pub texts_app : App
texts_app = with_subcommand (with_subcommand (new_app (codes "pfx")) check_app.top) test_app.top

-- the subcommands that read a script, and the one that reads nothing
abbrev pub scripts_app : App
scripts_app = with_subcommand (with_subcommand (with_subcommand texts_app ctl_app.top) lab_app.top) explain_app.top

-- subcommands whose options are other crates' are named alone
abbrev pub with_named : App → (names : List Text) → App
with_named app [] = app
with_named app (name ∷ names) = with_named (with_subcommand app (new_app name).top) names

-- the program: one of its subcommands has to be named
abbrev pub pfx_app : App
pfx_app =
    let app = with_named scripts_app (codes "node" ∷ codes "ask" ∷ codes "key" ∷ codes "show" ∷ codes "follow"
    ∷ codes "batch" ∷ []) in
    record app { top = record app.top { subcommand_required = true } }

-- ---- what they ask for

-- Verdicts for packets, what a ruleset gives at a place, or what a script prints, over one configuration or over a
-- lab, each of standard input; a refusal's paragraph, or all of them. Of files: what their rulesets give; verdicts
-- under a file's rules, and for the packets of a file.
pub data CallValue : Type 0 where
  Test : (packets : List Text) → CallValue
  Check : (place : Place) → CallValue
  Ctl : CallValue
  Lab : CallValue
  Explain : (refusal : Option Explanation) → CallValue
  CheckFiles : (place : Place) → (quiet : Bool) → (files : List Text) → CallValue
  TestFiles : (file more : Option Text) → (quiet : Bool) → (packets : List Text) → CallValue

-- --anchor checks a ruleset for an anchor
abbrev pub place_for : Option Text → Place
place_for None = Main
place_for (Some text) = if bytes_eq text (codes "true") then Anchor else Main

-- the values of any number of arguments
abbrev pub values_of : Text → List Row → List Text
values_of id rows = unwrap_or (all_of id rows) []

-- without files it is standard input that is checked
abbrev pub check_as : Place → Bool → List Text → CallValue
check_as place quiet [] = if quiet then CheckFiles place quiet [] else Check place
check_as place quiet (file ∷ files) = CheckFiles place quiet (file ∷ files)

-- what the subcommand `check` asks for, of what is given
abbrev pub check_call : List Row → CallValue
check_call rows = check_as (place_for (first_of (codes "anchor") rows)) (is_given (first_of (codes "quiet") rows))
    (values_of (codes "file") rows)

-- without a file the packets are arguments, one at least
abbrev pub packets_call : Bool → List Text → Option CallValue
packets_call quiet [] = None
packets_call quiet (packet ∷ packets) =
    if quiet then Some (TestFiles None None quiet (packet ∷ packets)) else Some (Test (packet ∷ packets))

-- `test` with a file of rules, or one of packets, or else with packets given as arguments alone, one at least
abbrev pub test_as : Option Text → Option Text → Bool → List Text → Option CallValue
test_as (Some file) more quiet packets = Some (TestFiles (Some file) more quiet packets)
test_as None (Some more) quiet packets = Some (TestFiles None (Some more) quiet packets)
test_as None None quiet packets = packets_call quiet packets

-- what the subcommand `test` asks for, of what is given
abbrev pub test_call : List Row → Option CallValue
test_call rows = test_as (first_of (codes "file") rows) (first_of (codes "packets") rows)
    (is_given (first_of (codes "quiet") rows)) (values_of (codes "packet") rows)

-- without a number all refusals are explained; a number that the table hasn't isn't understood
abbrev pub explain_as : List Explanation → Option Text → Option CallValue
explain_as table None = Some (Explain None)
explain_as table (Some text) = option_map (λ r. Explain (Some r)) (named table text)

-- what a subcommand asks for, with this table of refusals
abbrev pub called_by : List Explanation → Text → List Row → Option CallValue
called_by table subcommand rows =
    if bytes_eq subcommand (codes "check") then Some (check_call rows)
    else (if bytes_eq subcommand (codes "test") then test_call rows
    else (if bytes_eq subcommand (codes "ctl") then Some Ctl
    else (if bytes_eq subcommand (codes "lab") then Some Lab
    else (if bytes_eq subcommand (codes "explain") then explain_as table (first_of (codes "code") rows) else None))))

-- what the arguments ask for, by the subcommand named; nothing where none is, where it is one that is named alone
-- (node, ask, key, show, follow, batch), or where what is given with it isn't understood
abbrev pub called : List Explanation → Option (Text × List Row) → Option CallValue
called table None = None
called table (Some (subcommand, rows)) = called_by table subcommand rows

-- a subcommand whose options are another crate's
abbrev pub is_other : (subcommand : Text) → Bool
is_other subcommand = bytes_eq subcommand (codes "node") || bytes_eq subcommand (codes "ask")
    || bytes_eq subcommand (codes "key") || bytes_eq subcommand (codes "show")
    || bytes_eq subcommand (codes "follow") || bytes_eq subcommand (codes "batch")

-- the arguments, the program's name first, begin with such a subcommand, whatever follows it
-- Example: pfx node --me 0.
unfoldable pub names_other : (arguments : List Text) → Bool
names_other [] = false
names_other (name ∷ []) = false
names_other (name ∷ subcommand ∷ rest) = is_other subcommand

-- a call, and none where the arguments have a fault
abbrev pub unless_faulty : Kinds → Option CallValue → Option CallValue
unless_faulty [] call = call
unless_faulty (k ∷ ks) call = None

-- what the arguments after the program's name ask for, none where they aren't understood or are another crate's
unfoldable pub call_of : List Explanation → List Text → Option CallValue
call_of table arguments = if names_other arguments then None
    else unless_faulty (fault_of pfx_app arguments) (called table (subcommand_of pfx_app arguments))
