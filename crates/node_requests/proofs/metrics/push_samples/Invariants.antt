use Rattle.std.proofs.Common.{◌≡◌, ◌++◌, ℕ, List, drop, map, string_bytes}
use Rattle.std.specs.List.{flat_map}
use Rattle.node_requests.specs.Metrics.{sample}
use Rattle.node_requests.proofs.metrics.push_samples.Given as goal

abbrev pub invariant-loop-of : goal.invariant-loop-of
invariant-loop-of l =
    string_bytes l.out ++ flat_map (λ (r : List ℕ × ℕ). sample l.name l.label r.0 r.1) (map (λ r. (r.0.now, r.1)) (drop l.of-index l.rows))
    ≡ string_bytes l.fn.out ++ flat_map (λ (r : List ℕ × ℕ). sample l.name l.label r.0 r.1) (map (λ r. (r.0.now, r.1)) l.rows)
