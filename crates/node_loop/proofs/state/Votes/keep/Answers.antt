-- what was kept, and what was sent
use Rattle.node_loop.proofs.Among.{among_all, among_front, among_then}
use Rattle.node_loop.proofs.Kept.{pushed}
use Rattle.node_loop.proofs.state.Votes.keep.Goals as goal

pub returns-then-ne : goal.returns-then-ne
returns-then-ne c = among_front _ _ _ (among_all _)

pub returns-in_default : goal.returns-in_default
returns-in_default c = among_front _ _ _ (among_all _)

pub returns-then-is_some_and : goal.returns-then-is_some_and
returns-then-is_some_and c = among_front _ _ _ (among_all _)

pub returns-then-not-has : goal.returns-then-not-has
returns-then-not-has c =
    pushed c.push-kept.result _ _ _ _ (among_then _ _ _ c.make_room.ensures.kept c.clear.ensures) c.push-kept.ensures.kept c.push-kept.ensures.lost

pub returns-else-not-has : goal.returns-else-not-has
returns-else-not-has c = among_front _ _ _ c.clear.ensures
