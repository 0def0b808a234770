use Rattle.std.proofs.Common.{◌≡◌, ℕ, ◌<◌, ◌≤◌, length, ◌+◌, ◌*◌}
use Rattle.pf_tokens.specs.Parsing.{left, later}
use Rattle.pf_statements.specs.Statements.{items_at}
use Rattle.pf_statements.proofs.BlockSteps.{Going}
use Rattle.pf_statements.proofs.blocks.+block.Given as goal

abbrev pub decreases-read_item : goal.decreases-read_item
decreases-read_item l = 2 * length (left l.parser.now)

abbrev pub decreases-read_items : goal.decreases-read_items
decreases-read_items l = 2 * length (left l.parser.now) + 1

abbrev pub invariant-read_items-loop-parser : goal.invariant-read_items-loop-parser
invariant-read_items-loop-parser l = record {
  going : (n : ℕ) → length (left l.fn.parser) < n → Going l.fn.cx.profile (items_at n l.fn.cx.profile (left l.fn.parser)) l.items.items (left l.parser);
  no_longer : length (left l.parser) ≤ length (left l.fn.parser);
  later : later l.parser ≡ later l.fn.parser;
}

abbrev pub decreases-read_items-loop-parser : goal.decreases-read_items-loop-parser
decreases-read_items-loop-parser l = length (left l.parser)
