-- what was kept, and what was sent
use Rattle.node_loop.proofs.Among.{among_all, among_front}
use Rattle.node_loop.proofs.Kept.{pushed, ok_map, there}
use Rattle.node_loop.proofs.state.Latest.keep.Goals as goal

pub returns-in_default-clause-kept : goal.returns-in_default-clause-kept
returns-in_default-clause-kept c = among_front _ _ _ (among_all _)

pub returns-then-position-self-clause-kept : goal.returns-then-position-self-clause-kept
returns-then-position-self-clause-kept c = among_front _ _ _ (among_all _)

pub returns-then-len-lt-MOST_KEPT-clause-kept : goal.returns-then-len-lt-MOST_KEPT-clause-kept
returns-then-len-lt-MOST_KEPT-clause-kept c =
    pushed c.push.result _ _ _ _ c.begin.ensures.kept c.push.ensures.kept c.push.ensures.lost

pub returns-then-len-lt-MOST_KEPT-clause-keeps : goal.returns-then-len-lt-MOST_KEPT-clause-keeps
returns-then-len-lt-MOST_KEPT-clause-keeps c =
    ok_map c.push.result (λ is b p proposes below few. there _ _ _ is) c.push.ensures.kept

pub returns-clause-kept : goal.returns-clause-kept
returns-clause-kept c = among_front _ _ _ c.begin.ensures.kept
