use Rattle.std.proofs.Common.{◌≡◌, ◌++◌, drop, map}
use Rattle.pf_config.proofs.loading.lent.Given as goal

abbrev pub invariant-loop-definition : goal.invariant-loop-definition
invariant-loop-definition l = map (λ d. d.now) l.list.items ++ drop l.definition-index l.definitions ≡ l.definitions
