-- what is applied is the log up to this position
use Rattle.std.proofs.Common.{◌≡◌, ◌≤◌, ◌*◌, Some, length}
use Rattle.px_replica.specs.Replicas.{learned_by}
use Rattle.pf_node.specs.Applied.{after}
use Rattle.pf_node.specs.inner.Outcomes.{outcomes_below}
use Rattle.pf_node.specs.inner.Requests.{AreWithin, AreBounds}
use Rattle.pf_node.proofs.applying.take_up.Given as goal

abbrev pub invariant-loop-position : goal.invariant-loop-position
invariant-loop-position g l = record {
  configured : after (learned_by l.replica) l.position ≡ Some l.config;
  here : l.applied ≡ l.position;
  recorded : l.outcomes.kept.items ≡ outcomes_below (learned_by l.replica) l.position (length l.outcomes.kept.items);
  numbered : AreWithin (learned_by l.replica) l.numbers.origin l.position l.numbers.last;
  bounded : AreBounds (learned_by l.replica) l.numbers.origin l.numbers.bounds.items;
  stretched : 256 * length l.numbers.bounds.items ≤ l.position;
  grown : l.fn.applied ≤ l.applied;
}
