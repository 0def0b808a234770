-- What a request that came as HTTP asks for.
use Rattle.std.specs.Prelude.{ℕ, ◌||◌, Bool, false, List, [], Option, Some, None, codes, bytes_eq, unwrap_or}
use Rattle.http.specs.FieldValue.{FieldValue}
use Rattle.http.specs.HeaderMap.{get}
use Rattle.http.specs.Request.{head_of, body_of}
use Rattle.http.specs.Uri.{uri_path, uri_query}
use Rattle.http.specs.declared.request.Request.{Request}
use Rattle.node_requests.specs.Routing.{RoutedValue, routed}

-- the path of a request, and what is behind its `?`: nothing where there is none
abbrev pub path_of : Request (List ℕ) → List ℕ
path_of q = uri_path (head_of q).uri

abbrev pub query_of : Request (List ℕ) → List ℕ
query_of q = unwrap_or (uri_query (head_of q).uri) []

-- whether a field is JSON's name
abbrev pub is_json : Option FieldValue → Bool
is_json None = false
is_json (Some value) = bytes_eq value.bytes (codes "application/json")

-- whether the answer may be JSON: the first field Accept names it, and nothing else
abbrev pub accepts_json : Request (List ℕ) → Bool
accepts_json q = is_json (get (head_of q).headers (codes "accept"))

-- what a request asks for
abbrev pub asked_for : Request (List ℕ) → RoutedValue
asked_for q = routed (head_of q).method (path_of q) (query_of q) (body_of q) (accepts_json q)

-- whether the path is one of figures
abbrev pub is_of_figures : (path : List ℕ) → Bool
is_of_figures path =
    bytes_eq path (codes "/metrics") || (bytes_eq path (codes "/healthz") || bytes_eq path (codes "/readyz"))
