use denote.Shadow.{shadow}
use denote.Text.{Utf8}
use Rattle.std.proofs.Common.{◌≡◌, ◌++◌, drop, map, string_bytes}
use Rattle.node_requests.specs.Status.{written}
use Rattle.node_requests.proofs.status.push_rows.Given as goal

abbrev pub invariant-loop-name : goal.invariant-loop-name
invariant-loop-name l = record {
  text : shadow (Utf8 l.before);
  rest : string_bytes l.out ++ written l.between l.behind l.never l.before (map (λ r. (r.0.now, r.1)) (drop l.name-index l.rows))
      ≡ string_bytes l.fn.out ++ written l.between l.behind l.never l.fn.first (map (λ r. (r.0.now, r.1)) l.rows);
}
