use Rattle.std.proofs.Common.{◌≡◌, ◌++◌, drop, map, string_bytes}
use Rattle.node_requests.specs.Metrics.{metrics_of}
use Rattle.node_requests.proofs.metrics.push_metrics.Given as goal

abbrev pub invariant-loop-name : goal.invariant-loop-name
invariant-loop-name l = string_bytes l.out ++ metrics_of l.kind (map (λ r. (r.0.now, r.1.now, r.2)) (drop l.name-index l.rows)) ≡ string_bytes l.fn.out ++ metrics_of l.kind (map (λ r. (r.0.now, r.1.now, r.2)) l.rows)
