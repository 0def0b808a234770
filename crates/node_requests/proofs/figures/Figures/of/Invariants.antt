use Rattle.std.proofs.Common.{◌≡◌, ◌+◌, ◌-◌, drop, false, fold, length, map, min}
use Rattle.pf_config.specs.Map.{paths_in, rules_at, table_names}
use Rattle.px_model.specs.Step.{front, positions}
use Rattle.pf_node.specs.Nodes.{learned_by, applied_of, membership_of, has_failed, records_of, state_in}
use Rattle.node_requests.specs.Sizes.{entries_at, rules_below, tables_below, entries_below}
use Rattle.node_requests.proofs.figures.Figures.of.Given as goal

abbrev pub invariant-loop-path : goal.invariant-loop-path
invariant-loop-path g l = record {
  node : l.figures.node ≡ (membership_of l.node).me;
  members : l.figures.members ≡ (membership_of l.node).members;
  cluster : l.figures.cluster ≡ (membership_of l.node).cluster;
  left : l.figures.left ≡ positions - front (learned_by l.node);
  front : l.figures.front ≡ front (learned_by l.node);
  applied : l.figures.applied ≡ applied_of l.node;
  waiting : l.figures.waiting ≡ length (state_in l.node).volatile.waiting;
  failed : l.figures.has_failed ≡ has_failed l.node;
  round : has_failed l.node ≡ false → g.R.Records.is_honest (records_of l.node) → l.figures.round ≡ (g.R.Records.stored (records_of l.node)).meta.round;
  anchors : l.figures.anchors ≡ length (paths_in l.config.anchors);
  rules : fold (λ n p. min (n + length (rules_at l.config p)) 18446744073709551615) l.figures.rules (map (λ p. p.now) (drop l.path-index l.path-items)) ≡ rules_below l.config (paths_in l.config.anchors);
  tables : fold (λ n p. min (n + length (table_names l.config p)) 18446744073709551615) l.figures.tables (map (λ p. p.now) (drop l.path-index l.path-items)) ≡ tables_below l.config (paths_in l.config.anchors);
  addresses : fold (λ n p. min (n + entries_at l.config p (table_names l.config p)) 18446744073709551615) l.figures.addresses (map (λ p. p.now) (drop l.path-index l.path-items)) ≡ entries_below l.config (paths_in l.config.anchors);
}
