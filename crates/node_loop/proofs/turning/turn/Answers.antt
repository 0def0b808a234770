-- the turn of what the wire gave
use Rattle.std.proofs.Common.{◌++◌, option_map, refl}
use Rattle.px_transport.specs.Wires.{gives, hands}
use Rattle.px_replica.specs.Faults.{fault_of}
use Rattle.node_loop.specs.Resends.{kept_of, requests_of}
use Rattle.node_loop.specs.Turns.{Turned, handed_over, in_loop}
use Rattle.node_loop.proofs.Among.{among_front, among_is}
use Rattle.px_transport.proofs.Traffic.{adds_then, moves_by}
use Rattle.node_loop.proofs.Given.{gave_on, handed_on, kept_on}
use Rattle.node_loop.proofs.turning.turn.Goals as goal

pub returns-clause-turned : goal.returns-clause-turned
returns-clause-turned g c =
    let old = g.W.Wire.traffic c.args.wire.now in
    let mid = g.W.Wire.traffic c.hear-len.new.wire in
    let new = g.W.Wire.traffic c.send_all.new.wire in
    let gave = gives (option_map (λ b. b.now) c.came.result) in
    let went = hands (handed_over c.act-result.new.out.items) in
    moves_by old new (gave ++ went)
    (λ es es'. Turned (in_loop c.args.node.now es c.args.buffers.now)
    (record (in_loop c.act-result.new.node es' c.args.buffers.now) { kept = kept_of c.send_all.new.resender; requests = requests_of c.send_all.new.resender })
    (fault_of c.act-result.result))
    (adds_then old mid new gave went
    (gave_on old mid c.hear-len.new.bytes.items c.deref.result.now c.hear-len.result (option_map (λ b. b.now) c.came.result)
    c.hear-len.ensures.gave c.came.ensures c.deref.ensures.value)
    (handed_on mid new c.act-result.new.out.items c.as_slice.result.now c.as_slice.ensures.value c.send_all.ensures.handed))
    (λ es. record {
      came = option_map (λ b. b.now) c.came.result;
      out = c.act-result.new.out.items;
      acts = c.act-result.ensures.acts;
      went = refl;
      kept = kept_on _ _ _ c.act-result.new.out.items c.as_slice.result.now refl c.as_slice.ensures.value c.send_all.ensures.kept;
      requests = among_front _ _ _ (among_is _ _ c.send_all.ensures.requests);
      hears = refl;
    })
