use Rattle.std.proofs.Common.{◌≡◌, ◌+◌, drop, fold, map, min}
use Rattle.pf_config.specs.Map.{table_at}
use Rattle.node_requests.specs.Sizes.{entries_of, entries_at}
use Rattle.node_requests.proofs.figures.entries_at.Given as goal

abbrev pub invariant-loop-name : goal.invariant-loop-name
invariant-loop-name l =
    fold (λ n name. min (n + entries_of (table_at l.config l.path name)) 18446744073709551615) l.entries (map (λ n. n.now) (drop l.name-index l.names))
    ≡ entries_at l.config l.path (map (λ n. n.now) l.names)
