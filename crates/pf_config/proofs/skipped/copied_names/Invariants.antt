use Rattle.std.proofs.Common.{◌≡◌, ◌++◌, drop}
use Rattle.pf_config.proofs.skipped.copied_names.Given as goal

abbrev pub invariant-loop-name : goal.invariant-loop-name
invariant-loop-name l = l.next.items ++ drop l.name-index l.names ≡ l.names
