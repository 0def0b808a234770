-- a turn for which nothing came
use Rattle.std.proofs.Common.{refl}
use Rattle.px_transport.specs.Wires.{hands}
use Rattle.px_transport.proofs.Traffic.{moves_by}
use Rattle.px_replica.specs.Faults.{fault_of}
use Rattle.node_loop.specs.Resends.{kept_of, requests_of}
use Rattle.node_loop.specs.Counting.{CountsTicked}
use Rattle.node_loop.specs.Turns.{handed_over, in_loop}
use Rattle.node_loop.proofs.Counting.{out_on}
use Rattle.node_loop.proofs.Given.{handed_on, kept_on}
use Rattle.node_loop.proofs.serving.tick_now.Goals as goal

pub returns-clause-counts : goal.returns-clause-counts
returns-clause-counts g c =
    let old = g.W.Wire.traffic c.args.wire.now in
    let new = g.W.Wire.traffic c.send_all.new.wire in
    moves_by old new (hands (handed_over c.act-result.new.out.items))
    (λ es es'. CountsTicked (in_loop c.args.node.now es c.args.buffers.now)
    (record (in_loop c.act-result.new.node es' c.args.buffers.now) { kept = kept_of c.send_all.new.resender; requests = requests_of c.send_all.new.resender })
    (fault_of c.act-result.result) c.args.buffers.now.counts c.send_all.new.counts)
    (handed_on old new c.act-result.new.out.items c.as_slice.result.now c.as_slice.ensures.value c.send_all.ensures.handed)
    (λ es. record {
      ticked = record {
        out = c.act-result.new.out.items;
        call = c.act-result.ensures.acts;
        went = refl;
        kept = kept_on _ _ _ c.act-result.new.out.items c.as_slice.result.now refl c.as_slice.ensures.value c.send_all.ensures.kept;
        requests = c.send_all.ensures.requests;
        hears = refl;
      };
      counts = out_on c.act-result.new.out.items c.as_slice.result.now c.args.buffers.now.counts c.send_all.new.counts c.as_slice.ensures.value c.send_all.ensures.counts;
    })

pub returns-clause-ticked : goal.returns-clause-ticked
returns-clause-ticked g c es t = let r = returns-clause-counts g c es t in (r.0, r.1, r.2.ticked)
