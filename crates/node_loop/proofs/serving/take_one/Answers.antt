-- the turn of what had come, what is passed over, or none
use Rattle.std.proofs.Common.{◌≡◌, ◌∙◌, [], ◌∷◌, refl, ap, subst, inl, inr, Some, None, option_map, true, false}
use Rattle.px_transport.specs.Wires.{Gave, hands}
use Rattle.px_transport.proofs.Traffic.{adds_then, quiet_adds, quiet_by, moves_by, moves_still}
use Rattle.px_replica.specs.Replicas.{membership_of}
use Rattle.px_wire.specs.Message.{group}
use Rattle.pf_node.specs.Nodes.{replica_of}
use Rattle.node_loop.specs.Counts.{PassedOver, all_out, but_unsent}
use Rattle.node_loop.specs.Progress.{seen_in}
use Rattle.node_loop.specs.Resends.{kept_of, requests_of}
use Rattle.node_loop.specs.Turns.{HeardTurn, Served, handed_over, in_loop}
use Rattle.node_loop.specs.inner.Turns.{CountsIf, SawIf}
use Rattle.node_loop.proofs.Counting.{out_on}
use Rattle.node_loop.proofs.Given.{gave_some, handed_on, kept_on, requests_on, over_turn}
use Rattle.node_loop.proofs.Chains.{served_none, served_between, between_passed, nobodys_still}
use Rattle.node_loop.proofs.serving.take_one.Goals as goal

pub returns-in_default-clause-saw : goal.returns-in_default-clause-saw
returns-in_default-clause-saw g c =
    let old = g.W.Wire.traffic c.args.wire.now in
    let new = g.W.Wire.traffic c.poll-len.new.wire in
    moves_still old new
    (λ es es'. SawIf false (in_loop c.args.node.now es c.args.buffers.now) (in_loop c.args.node.now es' c.args.buffers.now)
    (seen_in c.args.buffers.now) (seen_in c.args.buffers.now))
    (quiet_by old new
    (gave_some old new c.poll-len.new.bytes.items c.deref.result.now c.poll-len.result (option_map (λ b. b.now) c.came.result) None
    c.poll-len.ensures.gave c.came.ensures c.deref.ensures.value (ap (option_map (λ b. b.now)) c.in_default.is)))
    (λ es. (record { replica = refl; traffic = refl; kept = refl; requests = refl; hears = refl }, refl))

pub returns-in_default-clause-served : goal.returns-in_default-clause-served
returns-in_default-clause-served g c es t =
    let r = returns-in_default-clause-saw g c es t in
    (r.0, r.1, served_none (in_loop c.args.node.now es c.args.buffers.now) (in_loop c.args.node.now r.0 c.args.buffers.now) r.2.0)

pub returns-then-passes_over-clause-saw : goal.returns-then-passes_over-clause-saw
returns-then-passes_over-clause-saw g c =
    let old = g.W.Wire.traffic c.args.wire.now in
    let mid = g.W.Wire.traffic c.poll-len.new.wire in
    let new = g.W.Wire.traffic c.passes_over.new.wire in
    let again = c.passes_over.ensures.again in
    moves_by old new (Gave c.in-Some.bytes.now ∷ hands again.0)
    (λ es es'. SawIf true (in_loop c.args.node.now es c.args.buffers.now)
    (record (in_loop c.args.node.now es' c.args.buffers.now) { kept = kept_of c.passes_over.new.resender; requests = requests_of c.passes_over.new.resender })
    (seen_in c.args.buffers.now) (seen_in c.args.buffers.now))
    (adds_then old mid new (Gave c.in-Some.bytes.now ∷ []) (hands again.0)
    (gave_some old mid c.poll-len.new.bytes.items c.deref.result.now c.poll-len.result (option_map (λ b. b.now) c.came.result)
    (Some c.in-Some.bytes.now) c.poll-len.ensures.gave c.came.ensures c.deref.ensures.value (ap (option_map (λ b. b.now)) c.in-Some.is))
    again.2)
    (λ es. inr (
      record {
        replica = refl;
        bytes = c.in-Some.bytes.now;
        known = c.passes_over.ensures.known c.if-passes_over.true _ _;
        again = again.0;
        among = again.1;
        went = refl;
        kept = c.passes_over.ensures.kept;
        requests = c.passes_over.ensures.requests;
        hears = refl;
      },
      refl,
    ))

pub returns-then-passes_over-clause-served : goal.returns-then-passes_over-clause-served
returns-then-passes_over-clause-served g c es t =
    let again = c.passes_over.ensures.again in
    let old = g.W.Wire.traffic c.args.wire.now in
    let mid = g.W.Wire.traffic c.poll-len.new.wire in
    let new = g.W.Wire.traffic c.passes_over.new.wire in
    moves_by old new (Gave c.in-Some.bytes.now ∷ hands again.0)
    (λ es es'. Served (in_loop c.args.node.now es c.args.buffers.now)
    (record (in_loop c.args.node.now es' c.args.buffers.now) { kept = kept_of c.passes_over.new.resender; requests = requests_of c.passes_over.new.resender })
    None)
    (adds_then old mid new (Gave c.in-Some.bytes.now ∷ []) (hands again.0)
    (gave_some old mid c.poll-len.new.bytes.items c.deref.result.now c.poll-len.result (option_map (λ b. b.now) c.came.result)
    (Some c.in-Some.bytes.now) c.poll-len.ensures.gave c.came.ensures c.deref.ensures.value (ap (option_map (λ b. b.now)) c.in-Some.is))
    again.2)
    (λ es. served_between _ _ (between_passed _ _ (record {
      replica = refl;
      bytes = c.in-Some.bytes.now;
      known = c.passes_over.ensures.known c.if-passes_over.true _ _;
      again = again.0;
      among = again.1;
      went = refl;
      kept = c.passes_over.ensures.kept;
      requests = c.passes_over.ensures.requests;
      hears = refl;
    }))) es t

pub returns-in-Ok-clause-saw : goal.returns-in-Ok-clause-saw
returns-in-Ok-clause-saw g c =
    let old = g.W.Wire.traffic c.args.wire.now in
    let mid = g.W.Wire.traffic c.poll-len.new.wire in
    let wait = g.W.Wire.traffic c.passes_over.new.wire in
    let new = g.W.Wire.traffic c.send_all.new.wire in
    moves_by old new (Gave c.in-Some.bytes.now ∷ hands (handed_over c.receive-result.new.out.items))
    (λ es es'. SawIf true (in_loop c.args.node.now es c.args.buffers.now)
    (record (in_loop c.receive-result.new.node es' c.args.buffers.now) { kept = kept_of c.send_all.new.resender; requests = requests_of c.send_all.new.resender })
    (seen_in c.args.buffers.now) c.receive-result.new.peer_progress)
    (adds_then old mid new (Gave c.in-Some.bytes.now ∷ []) (hands (handed_over c.receive-result.new.out.items))
    (gave_some old mid c.poll-len.new.bytes.items c.deref.result.now c.poll-len.result (option_map (λ b. b.now) c.came.result)
    (Some c.in-Some.bytes.now) c.poll-len.ensures.gave c.came.ensures c.deref.ensures.value (ap (option_map (λ b. b.now)) c.in-Some.is))
    (quiet_adds mid wait new (hands (handed_over c.receive-result.new.out.items)) (c.passes_over.ensures.others c.if-passes_over.false)
    (handed_on wait new c.receive-result.new.out.items c.as_slice.result.now c.as_slice.ensures.value c.send_all.ensures.handed)))
    (λ es. inl (record {
      took = record {
        bytes = c.in-Some.bytes.now;
        out = c.receive-result.new.out.items;
        acts = c.in-Ok.ensures.acts;
        went = refl;
        kept = kept_on _ _ _ c.receive-result.new.out.items c.as_slice.result.now (c.in-Ok.ensures.kept ∙ c.passes_over.ensures.kept)
            c.as_slice.ensures.value c.send_all.ensures.kept;
        requests = requests_on _ _ _ _ c.in-Some.bytes.now c.passes_over.ensures.requests c.send_all.ensures.requests c.in-Ok.ensures.requests;
        hears = refl;
      };
      still = λ n. nobodys_still _ _ _ _ c.in-Ok.ensures.acts n;
      unseen = c.in-Ok.ensures.nobodys;
      shown = c.in-Ok.ensures.shown refl;
      members = λ h from message spelled. c.passes_over.ensures.members c.if-passes_over.false h _ from _ message spelled;
    }))

pub returns-in-Ok-clause-served : goal.returns-in-Ok-clause-served
returns-in-Ok-clause-served g c =
    let old = g.W.Wire.traffic c.args.wire.now in
    let mid = g.W.Wire.traffic c.poll-len.new.wire in
    let wait = g.W.Wire.traffic c.passes_over.new.wire in
    let new = g.W.Wire.traffic c.send_all.new.wire in
    over_turn old new (λ es. in_loop c.args.node.now es c.args.buffers.now)
    (λ es. record (in_loop c.receive-result.new.node es c.args.buffers.now) { kept = kept_of c.send_all.new.resender; requests = requests_of c.send_all.new.resender })
    None
    (moves_by old new (Gave c.in-Some.bytes.now ∷ hands (handed_over c.receive-result.new.out.items))
    (λ es es'. HeardTurn (in_loop c.args.node.now es c.args.buffers.now)
    (record (in_loop c.receive-result.new.node es' c.args.buffers.now) { kept = kept_of c.send_all.new.resender; requests = requests_of c.send_all.new.resender })
    None)
    (adds_then old mid new (Gave c.in-Some.bytes.now ∷ []) (hands (handed_over c.receive-result.new.out.items))
    (gave_some old mid c.poll-len.new.bytes.items c.deref.result.now c.poll-len.result (option_map (λ b. b.now) c.came.result)
    (Some c.in-Some.bytes.now) c.poll-len.ensures.gave c.came.ensures c.deref.ensures.value (ap (option_map (λ b. b.now)) c.in-Some.is))
    (quiet_adds mid wait new (hands (handed_over c.receive-result.new.out.items)) (c.passes_over.ensures.others c.if-passes_over.false)
    (handed_on wait new c.receive-result.new.out.items c.as_slice.result.now c.as_slice.ensures.value c.send_all.ensures.handed)))
    (λ es. (
      record {
        came = Some c.in-Some.bytes.now;
        out = c.receive-result.new.out.items;
        acts = c.in-Ok.ensures.acts;
        went = refl;
        kept = kept_on _ _ _ c.receive-result.new.out.items c.as_slice.result.now (c.in-Ok.ensures.kept ∙ c.passes_over.ensures.kept)
            c.as_slice.ensures.value c.send_all.ensures.kept;
        requests = requests_on _ _ _ _ c.in-Some.bytes.now c.passes_over.ensures.requests c.send_all.ensures.requests c.in-Ok.ensures.requests;
        hears = refl;
      },
      λ h from message spelled. c.passes_over.ensures.members c.if-passes_over.false h _ from _ message spelled,
    )))

pub returns-in-Err-clause-served : goal.returns-in-Err-clause-served
returns-in-Err-clause-served g c =
    let old = g.W.Wire.traffic c.args.wire.now in
    let mid = g.W.Wire.traffic c.poll-len.new.wire in
    let wait = g.W.Wire.traffic c.passes_over.new.wire in
    let new = g.W.Wire.traffic c.send_all.new.wire in
    over_turn old new (λ es. in_loop c.args.node.now es c.args.buffers.now)
    (λ es. record (in_loop c.receive-result.new.node es c.args.buffers.now) { kept = kept_of c.send_all.new.resender; requests = requests_of c.send_all.new.resender })
    (Some c.in-Err.fault)
    (moves_by old new (Gave c.in-Some.bytes.now ∷ hands (handed_over c.receive-result.new.out.items))
    (λ es es'. HeardTurn (in_loop c.args.node.now es c.args.buffers.now)
    (record (in_loop c.receive-result.new.node es' c.args.buffers.now) { kept = kept_of c.send_all.new.resender; requests = requests_of c.send_all.new.resender })
    (Some c.in-Err.fault))
    (adds_then old mid new (Gave c.in-Some.bytes.now ∷ []) (hands (handed_over c.receive-result.new.out.items))
    (gave_some old mid c.poll-len.new.bytes.items c.deref.result.now c.poll-len.result (option_map (λ b. b.now) c.came.result)
    (Some c.in-Some.bytes.now) c.poll-len.ensures.gave c.came.ensures c.deref.ensures.value (ap (option_map (λ b. b.now)) c.in-Some.is))
    (quiet_adds mid wait new (hands (handed_over c.receive-result.new.out.items)) (c.passes_over.ensures.others c.if-passes_over.false)
    (handed_on wait new c.receive-result.new.out.items c.as_slice.result.now c.as_slice.ensures.value c.send_all.ensures.handed)))
    (λ es. (
      record {
        came = Some c.in-Some.bytes.now;
        out = c.receive-result.new.out.items;
        acts = c.in-Err.ensures.acts;
        went = refl;
        kept = kept_on _ _ _ c.receive-result.new.out.items c.as_slice.result.now (c.in-Err.ensures.kept ∙ c.passes_over.ensures.kept)
            c.as_slice.ensures.value c.send_all.ensures.kept;
        requests = requests_on _ _ _ _ c.in-Some.bytes.now c.passes_over.ensures.requests c.send_all.ensures.requests c.in-Err.ensures.requests;
        hears = refl;
      },
      λ h from message spelled. c.passes_over.ensures.members c.if-passes_over.false h _ from _ message spelled,
    )))

pub returns-in_default-clause-counts : goal.returns-in_default-clause-counts
returns-in_default-clause-counts g c es t = let r = returns-in_default-clause-saw g c es t in (r.0, r.1, (r.2.0, refl))

pub returns-then-passes_over-clause-counts : goal.returns-then-passes_over-clause-counts
returns-then-passes_over-clause-counts g c =
    let old = g.W.Wire.traffic c.args.wire.now in
    let mid = g.W.Wire.traffic c.poll-len.new.wire in
    let new = g.W.Wire.traffic c.passes_over.new.wire in
    let again = c.passes_over.ensures.again in
    moves_by old new (Gave c.in-Some.bytes.now ∷ hands again.0)
    (λ es es'. CountsIf true (in_loop c.args.node.now es c.args.buffers.now)
    (record (in_loop c.args.node.now es' c.args.buffers.now) { kept = kept_of c.passes_over.new.resender; requests = requests_of c.passes_over.new.resender })
    c.args.buffers.now.counts c.passes_over.new.counts)
    (adds_then old mid new (Gave c.in-Some.bytes.now ∷ []) (hands again.0)
    (gave_some old mid c.poll-len.new.bytes.items c.deref.result.now c.poll-len.result (option_map (λ b. b.now) c.came.result)
    (Some c.in-Some.bytes.now) c.poll-len.ensures.gave c.came.ensures c.deref.ensures.value (ap (option_map (λ b. b.now)) c.in-Some.is))
    again.2)
    (λ es. inr (record {
      passed = record {
        replica = refl;
        bytes = c.in-Some.bytes.now;
        known = c.passes_over.ensures.known c.if-passes_over.true _ _;
        again = again.0;
        among = again.1;
        went = refl;
        kept = c.passes_over.ensures.kept;
        requests = c.passes_over.ensures.requests;
        hears = refl;
      };
      counts = subst (λ x. PassedOver (group (membership_of (replica_of c.args.node.now))) (membership_of (replica_of c.args.node.now)).me
          c.args.buffers.now.hears_asks (requests_of c.args.buffers.now.resender) c.in-Some.bytes.now x c.passes_over.new.counts)
          c.count_in.ensures (c.passes_over.ensures.counts c.if-passes_over.true _ _);
    }))

pub returns-in-Ok-clause-counts : goal.returns-in-Ok-clause-counts
returns-in-Ok-clause-counts g c =
    let old = g.W.Wire.traffic c.args.wire.now in
    let mid = g.W.Wire.traffic c.poll-len.new.wire in
    let wait = g.W.Wire.traffic c.passes_over.new.wire in
    let new = g.W.Wire.traffic c.send_all.new.wire in
    moves_by old new (Gave c.in-Some.bytes.now ∷ hands (handed_over c.receive-result.new.out.items))
    (λ es es'. CountsIf true (in_loop c.args.node.now es c.args.buffers.now)
    (record (in_loop c.receive-result.new.node es' c.args.buffers.now) { kept = kept_of c.send_all.new.resender; requests = requests_of c.send_all.new.resender })
    c.args.buffers.now.counts c.send_all.new.counts)
    (adds_then old mid new (Gave c.in-Some.bytes.now ∷ []) (hands (handed_over c.receive-result.new.out.items))
    (gave_some old mid c.poll-len.new.bytes.items c.deref.result.now c.poll-len.result (option_map (λ b. b.now) c.came.result)
    (Some c.in-Some.bytes.now) c.poll-len.ensures.gave c.came.ensures c.deref.ensures.value (ap (option_map (λ b. b.now)) c.in-Some.is))
    (quiet_adds mid wait new (hands (handed_over c.receive-result.new.out.items)) (c.passes_over.ensures.others c.if-passes_over.false)
    (handed_on wait new c.receive-result.new.out.items c.as_slice.result.now c.as_slice.ensures.value c.send_all.ensures.handed)))
    (λ es. inl (record {
      took = record {
        bytes = c.in-Some.bytes.now;
        out = c.receive-result.new.out.items;
        acts = c.in-Ok.ensures.acts;
        went = refl;
        kept = kept_on _ _ _ c.receive-result.new.out.items c.as_slice.result.now (c.in-Ok.ensures.kept ∙ c.passes_over.ensures.kept)
            c.as_slice.ensures.value c.send_all.ensures.kept;
        requests = requests_on _ _ _ _ c.in-Some.bytes.now c.passes_over.ensures.requests c.send_all.ensures.requests c.in-Ok.ensures.requests;
        hears = refl;
      };
      counts = subst (λ x. but_unsent c.send_all.new.counts ≡ all_out c.receive-result.new.out.items (but_unsent x))
          (c.passes_over.ensures.uncounted c.if-passes_over.false ∙ c.count_in.ensures)
          (out_on c.receive-result.new.out.items c.as_slice.result.now c.passes_over.new.counts c.send_all.new.counts c.as_slice.ensures.value c.send_all.ensures.counts);
    }))
