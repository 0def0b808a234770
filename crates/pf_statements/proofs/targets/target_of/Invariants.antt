use Rattle.std.specs.Option.{option_copied}
use Rattle.pf_addr.proofs.Pieces.{size_left}
use Rattle.pf_statements.proofs.TargetSteps.{Left}
use Rattle.pf_statements.proofs.targets.target_of.Given as goal

-- the names so far and those of what is left are those of all
abbrev pub invariant-loop-rest : goal.invariant-loop-rest
invariant-loop-rest l = Left l.names.items (option_copied l.rest) l.fn.text

abbrev pub decreases-loop-rest : goal.decreases-loop-rest
decreases-loop-rest l = size_left (option_copied l.rest)
