-- Which request a method, a path, a query and a body ask for.
use Rattle.std.specs.Prelude.{ℕ, ◌==◌, ◌&&◌, Bool, false, List, [], ◌∷◌, map, length, take, drop, nat_lt, nat_le}
use Rattle.std.specs.Prelude.{Option, Some, None, unwrap_or, Result, Ok, Err, codes, bytes_eq, if◌then◌else◌}
use Rattle.std.specs.List.{before_first, after_first, position_or_len}
use Rattle.std.specs.Str.{is_utf8}
use Rattle.std.specs.Str.Lines.{lines}
use Rattle.clap.specs.Words.{Text}
use Rattle.pf_entry.specs.Entry.{Command, Entry}
use Rattle.pf_entry.specs.Owned.{command_value}
use Rattle.pf_entry.specs.Reading.{reading}
use Rattle.pf_arguments.specs.Asked.{Asked as Answer, ActionValue, ShowAnchors, GivenArguments, asked}
use Rattle.pf_arguments.specs.Answers.{action_value}
use Rattle.pf_arguments.specs.declared.fault.CommandFault.TheVariants.{Usage}
use Rattle.pf_scripts.specs.Ctl.{numbered}
use Rattle.pf_scripts.specs.Lines.{words_in}
use Rattle.pf_scripts.specs.WordsRead.{change_in}
use Rattle.node_requests.specs.declared.request.Read.{Read}
use Rattle.node_requests.specs.declared.request.Read.TheVariants as read
use Rattle.node_requests.specs.declared.request.Request.{Request}
use Rattle.node_requests.specs.declared.request.Request.TheVariants as request
use Rattle.node_requests.specs.declared.request.Routed.{Routed}
use Rattle.node_requests.specs.declared.request.Routed.TheVariants as rust
use Rattle.node_requests.specs.declared.target.Target.{Target}
use Rattle.node_requests.specs.declared.target.Target.TheVariants as to
use Rattle.node_requests.specs.Queries.{number_in, parameters, value_of, position_of, are_parameters}
use Rattle.node_requests.specs.Targets.{plain_target, method_of}

-- ---- what is asked for

-- a read; a listing by pfctl's action
pub data ReadValue : Type 0 where
  Lists : ActionValue → ReadValue
  Verdicts : (packets : List Text) → ReadValue
  RequestStatus : (origin number : ℕ) → ReadValue
  Log : (from : Option ℕ) → ReadValue
  Entries : (from count : Option ℕ) → ReadValue
  Status : (json : Bool) → ReadValue
  Health : ReadValue
  Ready : ReadValue
  Metrics : ReadValue

-- a change, a read once the given number of positions is applied, or an end
pub data RequestValue : Type 0 where
  Changes : Command → RequestValue
  Reads : (at : ℕ) → ReadValue → RequestValue
  Stops : RequestValue

-- a request; HTTP's status of one that isn't served; or the number of the refusal of what isn't understood
pub data RoutedValue : Type 0 where
  Asked : RequestValue → RoutedValue
  Refused : (status : ℕ) → RoutedValue
  Unread : (code : ℕ) → RoutedValue

-- ---- bodies

abbrev pub is_newline : ℕ → Bool
is_newline b = b == 10

-- a change, or the number of its refusal
abbrev pub changes_if : Result Command ℕ → RoutedValue
changes_if (Ok command) = Asked (Changes command)
changes_if (Err code) = Unread code

-- the change that the arguments of a line ask for, with the text behind it
-- Example: -a x -f -, a newline and block ask for what pfctl -a x -f - asks for over block.
abbrev pub change_of : Option (List Text) → (text : List ℕ) → RoutedValue
change_of None text = Unread 40
change_of (Some words) text = changes_if (change_in (codes "pfctl" ∷ words) text)

abbrev pub change_asked : List ℕ → RoutedValue
change_asked body = change_of (words_in (before_first is_newline body)) (after_first is_newline body)

-- the change that an entry has, or 42 where the bytes are no entry's; the entry's origin and number don't count
abbrev pub change_by : Option Entry → RoutedValue
change_by None = Unread 42
change_by (Some e) = Asked (Changes e.command)

abbrev pub entry_asked : List ℕ → RoutedValue
entry_asked body = change_by (reading body)

-- the lines of a body, if it is UTF-8; a line ends with a newline, or with a carriage return and a newline
abbrev pub lines_in : List ℕ → Option (List Text)
lines_in body = if is_utf8 body then Some (lines body) else None

-- ---- reads

-- a read, once the positions are applied that the parameters name
abbrev pub reads : List (Text × Text) → ReadValue → RoutedValue
reads given read = Asked (Reads (unwrap_or (position_of (codes "at") given) 0) read)

-- what the parameters give of pfctl's options: -a PATH -s WHAT, or -a PATH -t TABLE -T WHAT ADDR..
-- Example: GET /v1/rules?a=x asks for what pfctl -a x -s rules asks for.
abbrev pub showing : List (Text × Text) → (what : Text) → GivenArguments
showing given what = record {
  path = value_of (codes "a") given;
  file = None;
  check = false;
  flush = None;
  table = None;
  change = None;
  show = Some what;
  addresses = [];
}

abbrev pub on_table : List (Text × Text) → (what : Text) → (addresses : List Text) → GivenArguments
on_table given what addresses = record {
  path = value_of (codes "a") given;
  file = None;
  check = false;
  flush = None;
  table = value_of (codes "t") given;
  change = Some what;
  show = None;
  addresses = addresses;
}

-- what an action lists, or the number of its refusal
abbrev pub lists_if : List (Text × Text) → Result ActionValue ℕ → RoutedValue
lists_if given (Ok action) = reads given (Lists action)
lists_if given (Err code) = Unread code

abbrev pub lists : List (Text × Text) → Answer → RoutedValue
lists given asked = lists_if given (numbered asked)

-- the addresses of a line each, looked up in a table
abbrev pub looked_up : List (Text × Text) → Option (List Text) → Answer
looked_up given None = Err Usage
looked_up given (Some addresses) = asked (on_table given (codes "test") addresses) []

-- the packets of a line each, 1 to 64 of them
abbrev pub test_of : List (Text × Text) → Option (List Text) → RoutedValue
test_of given None = Unread 40
test_of given (Some packets) =
    if nat_lt 0 (length packets) && nat_le (length packets) 64 then reads given (Verdicts packets)
    else Unread 40

abbrev pub test_asked : List (Text × Text) → (body : List ℕ) → RoutedValue
test_asked given body = test_of given (lines_in body)

-- the log, and the entries, from a position on
abbrev pub log_asked : List (Text × Text) → RoutedValue
log_asked given = reads given (Log (position_of (codes "from") given))

abbrev pub entries_asked : List (Text × Text) → RoutedValue
entries_asked given = reads given (Entries (position_of (codes "from") given) (position_of (codes "count") given))

-- ---- paths

-- what a path asks for, of its parameters and the body; of the paths of requests see below
abbrev pub asked_at : Target → List (Text × Text) → (body : List ℕ) → (json : Bool) → RoutedValue
asked_at to.Changes given body json = change_asked body
asked_at to.Entry given body json = entry_asked body
asked_at to.Rules given body json = lists given (asked (showing given (codes "rules")) [])
asked_at to.Tables given body json = lists given (asked (showing given (codes "Tables")) [])
asked_at to.Anchors given body json = reads given (Lists ShowAnchors)
asked_at to.Table given body json = lists given (asked (on_table given (codes "show") []) [])
asked_at to.TableTest given body json = lists given (looked_up given (lines_in body))
asked_at to.Test given body json = test_asked given body
asked_at to.Log given body json = log_asked given
asked_at to.Entries given body json = entries_asked given
asked_at to.Status given body json = reads given (Status json)
asked_at to.Health given body json = reads given Health
asked_at to.Ready given body json = reads given Ready
asked_at to.Metrics given body json = reads given Metrics
asked_at to.Stop given body json = Asked Stops
asked_at to.Requests given body json = Unread 40

-- 400 where the query isn't one of the path's
abbrev pub target_asked : Target → (query body : List ℕ) → (json : Bool) → RoutedValue
target_asked target query body json =
    if are_parameters target (parameters query) then asked_at target (parameters query) body json else Refused 400

-- 404 another path, 405 another method
abbrev pub asked_by : (method : Text) → Option Target → (query body : List ℕ) → (json : Bool) → RoutedValue
asked_by method None query body json = Refused 404
asked_by method (Some target) query body json =
    if bytes_eq method (method_of target) then target_asked target query body json else Refused 405

abbrev pub plain_asked : (method path query body : List ℕ) → (json : Bool) → RoutedValue
plain_asked method path query body json = asked_by method (plain_target path) query body json

-- ---- what became of a request

-- a member, 255 at most, and a number there
abbrev pub request_of : (origin number : Option ℕ) → Option (ℕ × ℕ)
request_of None number = None
request_of (Some origin) None = None
request_of (Some origin) (Some number) = if nat_le origin 255 then Some (origin, number) else None

abbrev pub is_dot : ℕ → Bool
is_dot b = b == 46

-- N.NUMBER
-- Example: 2.17 is request 17 of member 2.
abbrev pub request_number : Text → Option (ℕ × ℕ)
request_number text =
    if nat_lt (position_or_len is_dot text) (length text)
    then request_of (number_in (before_first is_dot text)) (number_in (after_first is_dot text))
    else None

abbrev pub status_for : Option (ℕ × ℕ) → (method query : List ℕ) → RoutedValue
status_for None method query = Refused 404
status_for (Some r) method query =
    if bytes_eq method (codes "GET") then
    (if are_parameters to.Requests (parameters query) then reads (parameters query) (RequestStatus r.0 r.1)
    else Refused 400)
    else Refused 405

abbrev pub status_asked : (method name query : List ℕ) → RoutedValue
status_asked method name query = status_for (request_number name) method query

-- what is behind the path of requests
abbrev pub behind : (path : Text) → Option Text
behind path = if bytes_eq (take 13 path) (codes "/v1/requests/") then Some (drop 13 path) else None

-- ---- requests

abbrev pub routed_behind : Option Text → (method path query body : List ℕ) → (json : Bool) → RoutedValue
routed_behind None method path query body json = plain_asked method path query body json
routed_behind (Some name) method path query body json = status_asked method name query

-- what a method, a path, a query and a body ask for; json is whether the answer may be JSON
abbrev pub routed : (method path query body : List ℕ) → (json : Bool) → RoutedValue
routed method path query body json = routed_behind (behind path) method path query body json

-- ---- the code's values

abbrev pub read_value : Read → ReadValue
read_value (read.List action) = Lists (action_value action)
read_value (read.Test packets) = Verdicts (map (λ p. p.now) packets.items)
read_value (read.RequestStatus origin number) = RequestStatus origin number
read_value (read.Log from) = Log from
read_value (read.Entries from count) = Entries from count
read_value (read.Status json) = Status json
read_value read.Health = Health
read_value read.Ready = Ready
read_value read.Metrics = Metrics

abbrev pub request_value : Request → RequestValue
request_value (request.Change command) = Changes (command_value command)
request_value (request.Read at r) = Reads at (read_value r)
request_value request.Stop = Stops

abbrev pub routed_value : Routed → RoutedValue
routed_value (rust.Asked r) = Asked (request_value r)
routed_value (rust.Refused status) = Refused status
routed_value (rust.Unread code) = Unread code
