-- Paths, their methods and their parameters.
use Rattle.std.specs.Prelude.{ℕ, Bool, List, [], ◌∷◌, Option, Some, None, codes, bytes_eq, if◌then◌else◌}
use Rattle.std.specs.List.{list_any}
use Rattle.node_requests.specs.declared.target.Target.{Target}
use Rattle.node_requests.specs.declared.target.Target.TheVariants.{Changes, Entry, Requests, Rules, Tables, Anchors, Table}
use Rattle.node_requests.specs.declared.target.Target.TheVariants.{TableTest, Test, Log, Entries, Status, Health, Ready}
use Rattle.node_requests.specs.declared.target.Target.TheVariants.{Metrics, Stop}

-- what a path names, but for the paths of requests
abbrev pub plain_target : List ℕ → Option Target
plain_target path =
    if bytes_eq path (codes "/v1/changes") then Some Changes
    else if bytes_eq path (codes "/v1/entry") then Some Entry
    else if bytes_eq path (codes "/v1/rules") then Some Rules
    else if bytes_eq path (codes "/v1/tables") then Some Tables
    else if bytes_eq path (codes "/v1/anchors") then Some Anchors
    else if bytes_eq path (codes "/v1/table") then Some Table
    else if bytes_eq path (codes "/v1/table-test") then Some TableTest
    else if bytes_eq path (codes "/v1/test") then Some Test
    else if bytes_eq path (codes "/v1/log") then Some Log
    else if bytes_eq path (codes "/v1/entries") then Some Entries
    else if bytes_eq path (codes "/v1/status") then Some Status
    else if bytes_eq path (codes "/healthz") then Some Health
    else if bytes_eq path (codes "/readyz") then Some Ready
    else if bytes_eq path (codes "/metrics") then Some Metrics
    else if bytes_eq path (codes "/v1/stop") then Some Stop
    else None

-- the one method of a path
abbrev pub method_of : Target → List ℕ
method_of Changes = codes "POST"
method_of Entry = codes "POST"
method_of TableTest = codes "POST"
method_of Test = codes "POST"
method_of Stop = codes "POST"
method_of Requests = codes "GET"
method_of Rules = codes "GET"
method_of Tables = codes "GET"
method_of Anchors = codes "GET"
method_of Table = codes "GET"
method_of Log = codes "GET"
method_of Entries = codes "GET"
method_of Status = codes "GET"
method_of Health = codes "GET"
method_of Ready = codes "GET"
method_of Metrics = codes "GET"

-- the parameters that may be behind a path
abbrev pub names_of : Target → List (List ℕ)
names_of Changes = []
names_of Entry = []
names_of TableTest = codes "a" ∷ codes "t" ∷ codes "at" ∷ []
names_of Test = codes "at" ∷ []
names_of Stop = []
names_of Requests = codes "at" ∷ []
names_of Rules = codes "a" ∷ codes "at" ∷ []
names_of Tables = codes "a" ∷ codes "at" ∷ []
names_of Anchors = codes "at" ∷ []
names_of Table = codes "a" ∷ codes "t" ∷ codes "at" ∷ []
names_of Log = codes "from" ∷ codes "at" ∷ []
names_of Entries = codes "from" ∷ codes "count" ∷ codes "at" ∷ []
names_of Status = codes "at" ∷ []
names_of Health = []
names_of Ready = []
names_of Metrics = []

-- whether a parameter of this name may be behind the path
abbrev pub takes : Target → (name : List ℕ) → Bool
takes target name = list_any (bytes_eq name) (names_of target)
