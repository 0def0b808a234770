use Rattle.std.proofs.Common.{ap}
use Rattle.std.specs.Option.{option_copied}
use Rattle.pf_addr.proofs.Pieces.{size_turn}
use Rattle.pf_statements.proofs.targets.target_of.Goals as goal

pub loop-rest-smaller : goal.loop-rest-smaller
loop-rest-smaller c = size_turn 47 c.in-Some.bytes.now c.cut.result.0.now (option_copied c.loop-rest.rest) (option_copied c.cut.result.1) (ap option_copied c.in-Some.is) c.cut.ensures
