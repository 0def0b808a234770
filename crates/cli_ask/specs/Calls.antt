-- What is sent at a control socket for the arguments of `ask`.
use Rattle.std.specs.Prelude.{ℕ, Bool, false, List, [], ◌∷◌, ◌++◌, ◌==◌, ◌||◌, Option, Some, None, nat_lt, codes}
use Rattle.std.specs.Prelude.{Result, Ok, Err, decimal}
use Rattle.std.specs.Prelude.{bytes_eq, is_some, unwrap_or, string_bytes, if◌then◌else◌}
use Rattle.std.specs.List.{list_any}
use Rattle.clap.specs.Words.{Row, Text, all_of, first_of}
use Rattle.percent_encoding.specs.Percent.{percent_encode}
use Rattle.percent_encoding.specs.declared.ascii_set.TheConstants.{NON_ALPHANUMERIC}
use Rattle.pf_rules.specs.declared.profile.Profile.TheVariants.{Two}
use Rattle.pf_entry.specs.Entry.{Command, load, spelling}
use Rattle.pf_arguments.specs.Asked.{ActionValue, Change, CheckOnly, ShowRules, ShowTables, ShowAnchors, TableShow}
use Rattle.pf_arguments.specs.Asked.{TableTest, asked, given_in, is_given}
use Rattle.pf_scripts.specs.Ctl.{numbered}
use Rattle.cli_ask.specs.Checking.{by_code, command_refusal}
use Rattle.cli_ask.specs.Sending.{has_control, lines_of}
use Rattle.cli_ask.specs.declared.call.Call.{Call}
use Rattle.cli_ask.specs.declared.call.Kind.{Kind}
use Rattle.cli_ask.specs.declared.call.Kind.TheVariants as kind
use Rattle.cli_ask.specs.declared.checking.Refused.{Refused}
use Rattle.cli_ask.specs.declared.target.TheConstants.{BUT_DOT}

-- a request
pub record Request : Type 0 where
  pub method : List ℕ
  pub target : List ℕ
  pub body : List ℕ
  pub kind : Kind
  pub is_repeatable : Bool

-- the code's
abbrev pub call_value : Call → Request
call_value c = record {
  method = c.method.now;
  target = string_bytes c.target;
  body = c.body.items;
  kind = c.kind;
  is_repeatable = c.is_repeatable;
}

abbrev pub get : (target : List ℕ) → Kind → Request
get target k = record { method = codes "GET"; target = target; body = []; kind = k; is_repeatable = false }

abbrev pub post : (target body : List ℕ) → Kind → Request
post target body k = record { method = codes "POST"; target = target; body = body; kind = k; is_repeatable = false }

-- ---- targets

-- what is before a parameter: & behind another one
abbrev pub mark : (target : List ℕ) → List ℕ
mark target = if list_any (λ b. b == 63) target then codes "&" else codes "?"

-- a parameter of the query behind a target
abbrev pub with_parameter : (name value target : List ℕ) → List ℕ
with_parameter name value target =
    target ++ mark target ++ name ++ codes "=" ++ percent_encode NON_ALPHANUMERIC value

abbrev pub with_given : (name : List ℕ) → Option Text → (target : List ℕ) → List ℕ
with_given name None target = target
with_given name (Some value) target = with_parameter name value target

-- how many positions the node must have applied
abbrev pub with_position : (at : ℕ) → (target : List ℕ) → List ℕ
with_position at target = if nat_lt 0 at then with_parameter (codes "at") (decimal at) target else target

-- a path with the anchor, the table and the position
-- Example: /v1/table?a=x%2Fy&t=bad&at=5
abbrev pub target_in : (path : List ℕ) → List Row → (at : ℕ) → List ℕ
target_in path rows at = with_position at
    (with_given (codes "t") (first_of (codes "table") rows)
    (with_given (codes "a") (first_of (codes "path") rows) path))

-- a path that ends in an argument, with the position
-- Example: /v1/requests/1.23?at=5
abbrev pub path_with : (path word : List ℕ) → (at : ℕ) → List ℕ
path_with path word at = with_position at (path ++ percent_encode BUT_DOT word)

-- ---- changes

-- a command that is sent: the bytes of its entry, whose origin and number the node doesn't use
-- Source: the bytes of an entry, in pf_entry.
abbrev pub entry_call : Command → Kind → Request
entry_call command k = post (codes "/v1/entry") (spelling (record { origin = 0; number = 0; command = command })) k

-- a request, unless there is a refusal
abbrev pub unless_refused : Option Refused → Request → Result Request Refused
unless_refused None r = Ok r
unless_refused (Some refused) r = Err refused

-- a change; one whose ruleset the grammar refuses is refused, unless `--unchecked` is given
abbrev pub change_call : (unchecked : Bool) → Command → Result Request Refused
change_call unchecked command =
    unless_refused (if unchecked then None else command_refusal command) (entry_call command kind.Change)

-- ---- what pfctl's options ask for

abbrev pub list_call : List Row → (at : ℕ) → (path : List ℕ) → Request
list_call rows at path = get (target_in path rows at) kind.List

-- arguments are sent to a path, each in a line of its own
abbrev pub lines_call : List Row → (at : ℕ) → (path : List ℕ) → (words : List Text) → Kind → Request
lines_call rows at path words k = post (target_in path rows at) (lines_of words) k

-- the request of an action, whose addresses are the rest of the arguments; what reads a ruleset and doesn't load it is
-- refused with 40
abbrev pub action_call : List Row → (rest : List Text) → (at : ℕ) → ActionValue → Result Request Refused
action_call rows rest at (Change command) = change_call (is_given (first_of (codes "unchecked") rows)) command
action_call rows rest at (CheckOnly path) = Err (by_code 40)
action_call rows rest at (ShowRules path) = Ok (list_call rows at (codes "/v1/rules"))
action_call rows rest at (ShowTables path) = Ok (list_call rows at (codes "/v1/tables"))
action_call rows rest at ShowAnchors = Ok (list_call rows at (codes "/v1/anchors"))
action_call rows rest at (TableShow path table) = Ok (list_call rows at (codes "/v1/table"))
action_call rows rest at (TableTest path table list) =
    Ok (lines_call rows at (codes "/v1/table-test") rest kind.TableTest)

-- the same of an action, or of the number of its refusal
abbrev pub asked_call : List Row → (rest : List Text) → (at : ℕ) → Result ActionValue ℕ → Result Request Refused
asked_call rows rest at (Ok action) = action_call rows rest at action
asked_call rows rest at (Err code) = Err (by_code code)

-- what pfctl's options ask for, with the text that `-f` names
abbrev pub pfctl_call : List Row → (rest : List Text) → (text : List ℕ) → (at : ℕ) → Result Request Refused
pfctl_call rows rest text at = asked_call rows rest at (numbered (asked (given_in rows) text))

-- ---- a node's own subcommands

abbrev pub read : (target : List ℕ) → Option Request
read target = Some (get target kind.Read)

-- a load that changes nothing, since its text is refused wherever it is loaded
abbrev pub sync : Request
sync = entry_call (load [] Two (codes "sync\n")) kind.Sync

-- a subcommand alone
abbrev pub plain_call : List Row → (word : Text) → (at : ℕ) → Option Request
plain_call rows word at =
    if bytes_eq word (codes "status") then read (target_in (codes "/v1/status") rows at)
    else if bytes_eq word (codes "health") then read (target_in (codes "/readyz") rows 0)
    else if bytes_eq word (codes "metrics") then read (target_in (codes "/metrics") rows 0)
    else if bytes_eq word (codes "log") then read (target_in (codes "/v1/log") rows at)
    else if bytes_eq word (codes "sync") then Some sync
    else if bytes_eq word (codes "stop") then Some (post (codes "/v1/stop") [] kind.Read)
    else None

-- one with a single argument
abbrev pub valued_call : (word value : Text) → (at : ℕ) → Option Request
valued_call word value at =
    if bytes_eq word (codes "log") then read (path_with (codes "/v1/log?from=") value at)
    else if bytes_eq word (codes "request") then read (path_with (codes "/v1/requests/") value at)
    else None

abbrev pub single_call : (word value : Text) → (more : List Text) → (at : ℕ) → Option Request
single_call word value [] at = valued_call word value at
single_call word value (v ∷ vs) at = None

-- one with arguments or without
abbrev pub subcommand_call : List Row → (word : Text) → (values : List Text) → (at : ℕ) → Option Request
subcommand_call rows word [] at = plain_call rows word at
subcommand_call rows word (v ∷ vs) at =
    if bytes_eq word (codes "test") then Some (lines_call rows at (codes "/v1/test") (v ∷ vs) kind.Test)
    else single_call word v vs at

-- none where there is no such subcommand
abbrev pub own_call : List Row → (rest : List Text) → (at : ℕ) → Option Request
own_call rows [] at = None
own_call rows (word ∷ values) at = subcommand_call rows word values at

-- ---- all arguments

-- the value of an option has a control character
abbrev pub has_control_in : Option Text → Bool
has_control_in None = false
has_control_in (Some value) = has_control value

abbrev pub options_have_control : List Row → Bool
options_have_control rows = has_control_in (first_of (codes "path") rows)
    || has_control_in (first_of (codes "flush") rows) || has_control_in (first_of (codes "table") rows)
    || has_control_in (first_of (codes "change") rows)

-- an option of pfctl's is there: one for a table, or one for a ruleset
abbrev pub has_table_option : List Row → Bool
has_table_option rows = is_some (first_of (codes "table") rows) || is_some (first_of (codes "change") rows)
    || is_some (first_of (codes "flush") rows)

abbrev pub has_ruleset_option : List Row → Bool
has_ruleset_option rows = is_some (first_of (codes "file") rows) || is_some (first_of (codes "path") rows)
    || is_some (first_of (codes "show") rows) || is_given (first_of (codes "check") rows)

abbrev pub has_option : List Row → Bool
has_option rows = has_table_option rows || has_ruleset_option rows

-- a request of the node's own; where there is none, the refusal 40
abbrev pub known : Option Request → Result Request Refused
known None = Err (by_code 40)
known (Some r) = Ok r

-- The request, or what the arguments are refused with: 40 where one of them has a control character. With an option of
-- pfctl's it is what these options ask for, else a subcommand of the node itself.
abbrev pub call_with : List Row → (rest : List Text) → (text : List ℕ) → (at : ℕ) → Result Request Refused
call_with rows rest text at =
    if list_any has_control rest || options_have_control rows then Err (by_code 40)
    else if has_option rows then pfctl_call rows rest text at
    else known (own_call rows rest at)

abbrev pub call_of : List Row → (text : List ℕ) → (at : ℕ) → Result Request Refused
call_of rows text at = call_with rows (unwrap_or (all_of (codes "address") rows) []) text at
