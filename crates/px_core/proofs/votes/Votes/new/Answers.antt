use Rattle.px_core.proofs.Kept.{kept_none}
use Rattle.px_core.proofs.votes.Votes.new.Goals as goal

pub returns-clause-kept : goal.returns-clause-kept
returns-clause-kept c = kept_none 0 960 c.in_ok-cells.cells.items (c.in_ok-cells.ensures.items_if_clones_equal (λ y is. is))
