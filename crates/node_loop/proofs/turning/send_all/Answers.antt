-- one datagram more
use Rattle.std.proofs.Common.{◌∙◌, arith, refl}
use Rattle.std.proofs.lemmas.Grind.{common_steps}
use Rattle.node_loop.proofs.Among.{among_all, among_front}
use Rattle.px_transport.proofs.Traffic.{adds_none}
use Rattle.node_loop.proofs.Counting.{out_more}
use Rattle.node_loop.proofs.Given.{kept_more, handed_more}
use Rattle.node_loop.proofs.turning.send_all.Goals as goal

pub loop-datagram-init : goal.loop-datagram-init
loop-datagram-init g c = record {
  handed = adds_none (g.W.Wire.traffic c.args.wire.now) (g.W.Wire.traffic c.args.wire.now) (λ es h. h);
  kept = among_front _ _ _ (among_all _);
  requests = refl;
  counts = refl;
  same = refl;
}

pub loop-datagram-preserved : goal.loop-datagram-preserved
loop-datagram-preserved g c = record {
  handed = handed_more (g.W.Wire.traffic c.args.wire.now) (g.W.Wire.traffic c.loop-datagram.wire) (g.W.Wire.traffic c.send-is_sent.new.self) c.args.out.now c.loop-datagram.datagram-index c.datagram-item.result c.as_slice-bytes.result.now (grind (arith, common_steps))
      c.as_slice-bytes.ensures.value c.loop-datagram.invariant.handed c.send-is_sent.ensures.handed;
  kept = kept_more _ _ _ c.args.out.now c.loop-datagram.datagram-index c.datagram-item.result c.as_slice-bytes.result.now (grind (arith, common_steps))
      c.as_slice-bytes.ensures.value c.loop-datagram.invariant.kept c.keep-kept.ensures.kept;
  requests = c.keep-kept.ensures.request ∙ c.loop-datagram.invariant.requests;
  counts = out_more c.args.out.now c.loop-datagram.datagram-index c.datagram-item.result c.as_slice-bytes.result.now c.send-is_sent.result
      c.loop-datagram.counts c.count_out.new.self (grind (arith, common_steps)) c.as_slice-bytes.ensures.value c.count_out.ensures
      ∙ c.loop-datagram.invariant.counts;
  same = c.send-is_sent.ensures.same ∙ c.loop-datagram.invariant.same;
}
