-- The parameters of a query, as the code has them.
use Rattle.std.specs.Prelude.{ℕ, List, map, string_bytes}
use Rattle.node_requests.specs.declared.query.Parameter.{Parameter}

abbrev pub pair_of : Parameter → List ℕ × List ℕ
pair_of p = (string_bytes p.name, string_bytes p.value)

abbrev pub pairs_of : List Parameter → List (List ℕ × List ℕ)
pairs_of ps = map pair_of ps
