use Rattle.std.proofs.Common.{◌≡◌, ◌≤◌, length}
use Rattle.pf_tokens.specs.Lists.{list_at}
use Rattle.pf_tokens.specs.Parsing.{left, later}
use Rattle.pf_tokens.proofs.Listing.{Going}
use Rattle.pf_tokens.proofs.lists.list.Given as goal

abbrev pub invariant-elements : goal.invariant-elements
invariant-elements g l = record {
  going : Going (g.E.Element.read l.fn.profile) (list_at (g.E.Element.read l.fn.profile) (left l.fn.parser)) l.items.items l.depth l.deepest l.wanted (left l.parser);
  some : 1 ≤ l.depth;
  later : later l.parser ≡ later l.fn.parser;
}

abbrev pub decreases-elements : goal.decreases-elements
decreases-elements g l = length (left l.parser)
