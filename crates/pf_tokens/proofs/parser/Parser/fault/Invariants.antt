use Rattle.std.proofs.Common.{◌≡◌, length}
use Rattle.pf_tokens.specs.Parsing.{left, later}
use Rattle.pf_tokens.proofs.parser.Parser.fault.Given as goal

abbrev pub invariant-loop-parser : goal.invariant-loop-parser
invariant-loop-parser l = later l.parser ≡ later l.fn.self

abbrev pub decreases-loop-parser : goal.decreases-loop-parser
decreases-loop-parser l = length (left l.parser)
