-- one more, with its bytes
use Rattle.std.proofs.Common.{ap, sym, length}
use Rattle.node_loop.proofs.Kept.{pushed_few, pushed_size}
use Rattle.node_loop.proofs.state.Votes.push.Goals as goal

pub invariant_of-self-2 : goal.invariant_of-self-2
invariant_of-self-2 c = record {
  few = pushed_few _ _ _ c.in_ok-push_back.ensures.items c.requires.few;
  sized = pushed_size _ _ _ _ _ c.in_ok-push_back.ensures.items c.args.self.now.sized (sym (ap length c.in_ok-copy.ensures.items));
  small = c.requires.small;
}
