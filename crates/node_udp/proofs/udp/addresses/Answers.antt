-- one address more
use Rattle.std.proofs.Common.{rules}
use Rattle.node_udp.proofs.Finding.{found_more}
use Rattle.node_udp.proofs.udp.addresses.Goals as goal

pub loop-text-preserved : goal.loop-text-preserved
loop-text-preserved g c =
    found_more (g.R.Network.is_known c.args.rt.now) (λ t. t.now) c.args.texts.now c.loop-text.text-index _ c.loop-text.peers.items c.in-Some.address _ (search rules) c.loop-text.invariant c.in-Some.ensures.found (search rules)
