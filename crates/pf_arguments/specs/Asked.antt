-- What the arguments of pfctl ask for (pfctl(8)).
use Rattle.std.specs.Prelude.{ℕ, Bool, true, false, List, [], ◌∷◌, length, ◌==◌, ◌||◌, nat_lt, Option}
use Rattle.std.specs.Prelude.{Some, None, Result, Ok, Err, bytes_eq, codes, is_some, unwrap_or, option_and_then}
use Rattle.std.specs.Prelude.{if◌then◌else◌}
use Rattle.clap.specs.Words.{Text, Row, first_of, all_of}
use Rattle.pf_addr.specs.declared.addr.Addr.{Addr}
use Rattle.pf_addr.specs.declared.fault.AddrFault.{AddrFault}
use Rattle.pf_addr.specs.Spelling.{addr_of, prefix_of}
use Rattle.pf_addr.specs.Blocks.{Block}
use Rattle.pf_addr.specs.Faults.{fault_code}
use Rattle.pf_rules.specs.declared.profile.Profile.TheVariants as profile
use Rattle.pf_rules.specs.Words.{is_table_name}
use Rattle.pf_rules.specs.Names.{Name, name_if}
use Rattle.pf_config.specs.PathTexts.{path_of}
use Rattle.pf_entry.specs.Entry as entry
use Rattle.pf_entry.specs.Owned.{is_over}
use Rattle.pf_arguments.specs.declared.chosen.Operation.{Operation}
use Rattle.pf_arguments.specs.declared.chosen.Operation.TheVariants.{Whole, OnTable}
use Rattle.pf_arguments.specs.declared.chosen.AnchorOperation.{AnchorOperation}
use Rattle.pf_arguments.specs.declared.chosen.AnchorOperation.TheVariants as whole
use Rattle.pf_arguments.specs.declared.chosen.TableOperation.{TableOperation}
use Rattle.pf_arguments.specs.declared.chosen.TableOperation.TheVariants as table
use Rattle.pf_arguments.specs.declared.fault.CommandFault.{CommandFault}
use Rattle.pf_arguments.specs.declared.fault.CommandFault.TheVariants.{Usage, BadPath, BadAddress, TooLong}

-- ---- what is given

-- what was given for each option, and the addresses behind them
pub record GivenArguments : Type 0 where
  pub path : Option Text
  pub file : Option Text
  pub check : Bool
  pub flush : Option Text
  pub table : Option Text
  pub change : Option Text
  pub show : Option Text
  pub addresses : List Text

-- whether an option without a value was given
abbrev pub is_given : Option Text → Bool
is_given None = false
is_given (Some text) = bytes_eq text (codes "true")

-- the same of the rows of a match
abbrev pub given_in : List Row → GivenArguments
given_in rows = record {
  path = first_of (codes "path") rows;
  file = first_of (codes "file") rows;
  check = is_given (first_of (codes "check") rows);
  flush = first_of (codes "flush") rows;
  table = first_of (codes "table") rows;
  change = first_of (codes "change") rows;
  show = first_of (codes "show") rows;
  addresses = unwrap_or (all_of (codes "address") rows) [];
}

-- ---- the operation that the options choose

-- -F rules|Tables|all
abbrev pub flush_operation : Text → Option Operation
flush_operation text =
    if bytes_eq text (codes "rules") then Some (Whole whole.FlushRules)
    else if bytes_eq text (codes "Tables") then Some (Whole whole.FlushTables)
    else if bytes_eq text (codes "all") then Some (Whole whole.FlushAll)
    else None

-- -T add|delete|replace|flush|show|test
abbrev pub table_operation : Text → Option Operation
table_operation text =
    if bytes_eq text (codes "add") then Some (OnTable table.Add)
    else if bytes_eq text (codes "delete") then Some (OnTable table.Delete)
    else if bytes_eq text (codes "replace") then Some (OnTable table.Replace)
    else if bytes_eq text (codes "flush") then Some (OnTable table.Flush)
    else if bytes_eq text (codes "show") then Some (OnTable table.Show)
    else if bytes_eq text (codes "test") then Some (OnTable table.Test)
    else None

-- -s rules|Tables|Anchors
abbrev pub show_operation : Text → Option Operation
show_operation text =
    if bytes_eq text (codes "rules") then Some (Whole whole.ShowRules)
    else if bytes_eq text (codes "Tables") then Some (Whole whole.ShowTables)
    else if bytes_eq text (codes "Anchors") then Some (Whole whole.ShowAnchors)
    else None

-- -f, and with -n the text is only checked
abbrev pub load_operation : Bool → Operation
load_operation check = if check then Whole whole.Check else Whole whole.Load

-- an operation, and none where -n was given
abbrev pub unless : Bool → Option Operation → Option Operation
unless true operation = None
unless false operation = operation

-- exactly one of -f, -F, -T and -s, and -n only with -f
abbrev pub chosen : Bool → Option Text → Option Text → Option Text → Option Text → Option Operation
chosen check (Some file) None None None = Some (load_operation check)
chosen check None (Some text) None None = unless check (flush_operation text)
chosen check None None (Some text) None = unless check (table_operation text)
chosen check None None None (Some text) = unless check (show_operation text)
chosen _ _ _ _ _ = None

-- the operation among what was given, none where the options don't go together or the value names none
-- Example: -F rules -s rules is none.
abbrev pub operation_of : GivenArguments → Option Operation
operation_of given = chosen given.check given.file given.flush given.change given.show

-- addresses are given only with add, delete and test, one or more, and with replace, any number
abbrev pub may_have : TableOperation → ℕ → Bool
may_have table.Add n = nat_lt 0 n
may_have table.Delete n = nat_lt 0 n
may_have table.Replace n = true
may_have table.Flush n = n == 0
may_have table.Show n = n == 0
may_have table.Test n = nat_lt 0 n

-- ---- paths and addresses

-- without -a it is the main ruleset
abbrev pub path_given : GivenArguments → Option (List Name)
path_given given = path_of (unwrap_or given.path [])

-- TNAME
abbrev pub table_given : GivenArguments → Option Name
table_given given = option_and_then (name_if (is_table_name profile.One)) given.table

-- the lower of two faults
abbrev pub lower : AddrFault → AddrFault → AddrFault
lower e f = if nat_lt (fault_code f) (fault_code e) then f else e

-- a value before others; of several faults the lowest is answered
abbrev pub before : {X : Type 0} → Result X AddrFault → Result (List X) AddrFault → Result (List X) AddrFault
before (Ok x) (Ok xs) = Ok (x ∷ xs)
before (Ok x) (Err f) = Err f
before (Err e) (Ok xs) = Err e
before (Err e) (Err f) = Err (lower e f)

-- each argument's value, or the lowest fault of any
-- Example: 10/33 10.0.0 is 2.
abbrev pub each : {X : Type 0} → (Text → Result X AddrFault) → List Text → Result (List X) AddrFault
each value [] = Ok []
each value (w ∷ ws) = before (value w) (each value ws)

-- a prefix as an address of a command, negated or not; a fault stays
abbrev pub signed : Bool → Result Block AddrFault → Result entry.Address AddrFault
signed negated (Ok prefix) = Ok (record { negated = negated; prefix = prefix })
signed negated (Err fault) = Err fault

-- a prefix, with ! directly before it where it is negated
abbrev pub entry_of : Text → Result entry.Address AddrFault
entry_of [] = signed false (prefix_of [])
entry_of (b ∷ bytes) = if b == 33 then signed true (prefix_of bytes) else signed false (prefix_of (b ∷ bytes))

-- ---- what is asked for

-- a change, or what changes nothing: a check, a listing or a test
pub data ActionValue : Type 0 where
  Change : (command : entry.Command) → ActionValue
  CheckOnly : (path : List Name) → ActionValue
  ShowRules : (path : List Name) → ActionValue
  ShowTables : (path : List Name) → ActionValue
  ShowAnchors : ActionValue
  TableShow : (path : List Name) → (table : Name) → ActionValue
  TableTest : (path : List Name) → (table : Name) → (addresses : List Addr) → ActionValue

-- an action, or the first fault
abbrev pub Asked : Type 0
Asked = Result ActionValue CommandFault

-- no entry of the command has a spelling, whatever its number
abbrev pub is_too_long : entry.Command → Bool
is_too_long command = is_over (record { origin = 0; number = 0; command = command })

-- a change by a command, or that no entry of it has a spelling
abbrev pub change : entry.Command → Asked
change command = if is_too_long command then Err TooLong else Ok (Change command)

-- what is done with a list of addresses, or the fault of the list
abbrev pub on_list : {X : Type 0} → (List X → Asked) → Result (List X) AddrFault → Asked
on_list action (Ok list) = action list
on_list action (Err fault) = Err (BadAddress fault)

-- what an operation on a whole ruleset asks for at a path, with the text of -f
abbrev pub whole_action : AnchorOperation → List Name → List ℕ → Asked
whole_action whole.Load p text = change (entry.load p profile.Two text)
whole_action whole.Check p text = Ok (CheckOnly p)
whole_action whole.FlushRules p text = change (entry.flush_rules p)
whole_action whole.FlushTables p text = change (entry.flush_tables p)
whole_action whole.FlushAll p text = change (entry.flush_all p)
whole_action whole.ShowRules p text = Ok (ShowRules p)
whole_action whole.ShowTables p text = Ok (ShowTables p)
whole_action whole.ShowAnchors p text = Ok ShowAnchors

-- what an operation on a table asks for, with the addresses as arguments
abbrev pub table_action : TableOperation → List Name → Name → List Text → Asked
table_action table.Add p t addresses = on_list (λ list. change (entry.add p t list)) (each entry_of addresses)
table_action table.Delete p t addresses = on_list (λ list. change (entry.delete p t list)) (each entry_of addresses)
table_action table.Replace p t addresses = on_list (λ list. change (entry.replace p t list)) (each entry_of addresses)
table_action table.Flush p t addresses = change (entry.flush_table p t)
table_action table.Show p t addresses = Ok (TableShow p t)
table_action table.Test p t addresses = on_list (λ list. Ok (TableTest p t list)) (each addr_of addresses)

-- 24 of a path that is none
abbrev pub at_path : Option (List Name) → (List Name → Asked) → Asked
at_path None action = Err BadPath
at_path (Some p) action = action p

-- -t is given with -T, and only with it
abbrev pub whole_asked : AnchorOperation → GivenArguments → List ℕ → Asked
whole_asked operation given text =
    if is_some given.table || nat_lt 0 (length given.addresses) then Err Usage
    else at_path (path_given given) (λ p. whole_action operation p text)

-- an operation on a table requires -t, and as many addresses as it may have
abbrev pub table_asked : TableOperation → Option Name → GivenArguments → Asked
table_asked operation None given = Err Usage
table_asked operation (Some t) given =
    if may_have operation (length given.addresses)
    then at_path (path_given given) (λ p. table_action operation p t given.addresses)
    else Err Usage

-- what an operation asks for with all that was given; without an operation the usage is wrong
abbrev pub asked_by : Option Operation → GivenArguments → List ℕ → Asked
asked_by None given text = Err Usage
asked_by (Some (Whole operation)) given text = whole_asked operation given text
asked_by (Some (OnTable operation)) given text = table_asked operation (table_given given) given

-- the action, or the first fault: 40 of the arguments, 24 of the path, 1 to 3 of an address, 41 of a change
unfoldable pub asked : GivenArguments → List ℕ → Asked
asked given text = asked_by (operation_of given) given text
