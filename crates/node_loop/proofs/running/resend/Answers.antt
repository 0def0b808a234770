-- what is lacked by one member more, what is due, and own votes
use Rattle.node_loop.proofs.Given.{Again, again_none, again_then, again_is}
use Rattle.node_loop.proofs.running.resend.Goals as goal
use Rattle.node_loop.proofs.running.resend.Goals.{in-Some, in_default, then-is_due, else-is_due}

pub loop-member-init : goal.loop-member-init
loop-member-init g c = again_none g.W.Wire _ _

pub loop-member-preserved : goal.loop-member-preserved
loop-member-preserved g c =
    elim c.match-lacks.branch [
      | in-Some w ↦ again_is g.W.Wire _ _ _ _ _ _ w.wire-is w.resender-is
          (again_then g.W.Wire _ _ _ _ _ _ c.loop-member.invariant (record {
            again = w.repeat_to.ensures.again;
            kept = w.repeat_to.ensures.kept;
            requests = w.repeat_to.ensures.request;
            same = w.repeat_to.ensures.same;
          }))
      | in_default w ↦ again_is g.W.Wire _ _ _ _ _ _ w.wire-is w.resender-is c.loop-member.invariant
    ]

pub returns-then-peer_progress-front-clause-again : goal.returns-then-peer_progress-front-clause-again
returns-then-peer_progress-front-clause-again g c =
    let due : Again g.W.Wire c.args.wire.now c.if-is_due.wire c.args.resender.now c.if-is_due.resender = elim c.if-is_due.branch [
      | then-is_due w ↦ again_is g.W.Wire _ _ _ _ _ _ w.wire-is w.resender-is
          (again_then g.W.Wire _ _ _ _ _ _ c.loop-member.invariant (record {
            again = w.repeat.ensures.again;
            kept = w.repeat.ensures.kept;
            requests = w.repeat.ensures.request;
            same = w.repeat.ensures.same;
          }))
      | else-is_due w ↦ again_is g.W.Wire _ _ _ _ _ _ w.wire-is w.resender-is c.loop-member.invariant
    ] in
    (again_then g.W.Wire c.args.wire.now c.if-is_due.wire c.repeat_own.new.wire c.args.resender.now c.if-is_due.resender
    c.repeat_own.new.self due (record {
      again = c.repeat_own.ensures.again;
      kept = c.repeat_own.ensures.kept;
      requests = c.repeat_own.ensures.request;
      same = c.repeat_own.ensures.same;
    })).again

pub returns-clause-again : goal.returns-clause-again
returns-clause-again g c =
    let due : Again g.W.Wire c.args.wire.now c.if-is_due.wire c.args.resender.now c.if-is_due.resender = elim c.if-is_due.branch [
      | then-is_due w ↦ again_is g.W.Wire _ _ _ _ _ _ w.wire-is w.resender-is
          (again_then g.W.Wire _ _ _ _ _ _ c.loop-member.invariant (record {
            again = w.repeat.ensures.again;
            kept = w.repeat.ensures.kept;
            requests = w.repeat.ensures.request;
            same = w.repeat.ensures.same;
          }))
      | else-is_due w ↦ again_is g.W.Wire _ _ _ _ _ _ w.wire-is w.resender-is c.loop-member.invariant
    ] in
    due.again

pub returns-then-peer_progress-front-clause-kept : goal.returns-then-peer_progress-front-clause-kept
returns-then-peer_progress-front-clause-kept g c =
    let due : Again g.W.Wire c.args.wire.now c.if-is_due.wire c.args.resender.now c.if-is_due.resender = elim c.if-is_due.branch [
      | then-is_due w ↦ again_is g.W.Wire _ _ _ _ _ _ w.wire-is w.resender-is
          (again_then g.W.Wire _ _ _ _ _ _ c.loop-member.invariant (record {
            again = w.repeat.ensures.again;
            kept = w.repeat.ensures.kept;
            requests = w.repeat.ensures.request;
            same = w.repeat.ensures.same;
          }))
      | else-is_due w ↦ again_is g.W.Wire _ _ _ _ _ _ w.wire-is w.resender-is c.loop-member.invariant
    ] in
    (again_then g.W.Wire c.args.wire.now c.if-is_due.wire c.repeat_own.new.wire c.args.resender.now c.if-is_due.resender
    c.repeat_own.new.self due (record {
      again = c.repeat_own.ensures.again;
      kept = c.repeat_own.ensures.kept;
      requests = c.repeat_own.ensures.request;
      same = c.repeat_own.ensures.same;
    })).kept

pub returns-clause-kept : goal.returns-clause-kept
returns-clause-kept g c =
    let due : Again g.W.Wire c.args.wire.now c.if-is_due.wire c.args.resender.now c.if-is_due.resender = elim c.if-is_due.branch [
      | then-is_due w ↦ again_is g.W.Wire _ _ _ _ _ _ w.wire-is w.resender-is
          (again_then g.W.Wire _ _ _ _ _ _ c.loop-member.invariant (record {
            again = w.repeat.ensures.again;
            kept = w.repeat.ensures.kept;
            requests = w.repeat.ensures.request;
            same = w.repeat.ensures.same;
          }))
      | else-is_due w ↦ again_is g.W.Wire _ _ _ _ _ _ w.wire-is w.resender-is c.loop-member.invariant
    ] in
    due.kept

pub returns-then-peer_progress-front-clause-requests : goal.returns-then-peer_progress-front-clause-requests
returns-then-peer_progress-front-clause-requests g c =
    let due : Again g.W.Wire c.args.wire.now c.if-is_due.wire c.args.resender.now c.if-is_due.resender = elim c.if-is_due.branch [
      | then-is_due w ↦ again_is g.W.Wire _ _ _ _ _ _ w.wire-is w.resender-is
          (again_then g.W.Wire _ _ _ _ _ _ c.loop-member.invariant (record {
            again = w.repeat.ensures.again;
            kept = w.repeat.ensures.kept;
            requests = w.repeat.ensures.request;
            same = w.repeat.ensures.same;
          }))
      | else-is_due w ↦ again_is g.W.Wire _ _ _ _ _ _ w.wire-is w.resender-is c.loop-member.invariant
    ] in
    (again_then g.W.Wire c.args.wire.now c.if-is_due.wire c.repeat_own.new.wire c.args.resender.now c.if-is_due.resender
    c.repeat_own.new.self due (record {
      again = c.repeat_own.ensures.again;
      kept = c.repeat_own.ensures.kept;
      requests = c.repeat_own.ensures.request;
      same = c.repeat_own.ensures.same;
    })).requests

pub returns-clause-requests : goal.returns-clause-requests
returns-clause-requests g c =
    let due : Again g.W.Wire c.args.wire.now c.if-is_due.wire c.args.resender.now c.if-is_due.resender = elim c.if-is_due.branch [
      | then-is_due w ↦ again_is g.W.Wire _ _ _ _ _ _ w.wire-is w.resender-is
          (again_then g.W.Wire _ _ _ _ _ _ c.loop-member.invariant (record {
            again = w.repeat.ensures.again;
            kept = w.repeat.ensures.kept;
            requests = w.repeat.ensures.request;
            same = w.repeat.ensures.same;
          }))
      | else-is_due w ↦ again_is g.W.Wire _ _ _ _ _ _ w.wire-is w.resender-is c.loop-member.invariant
    ] in
    due.requests

pub returns-then-peer_progress-front-clause-same : goal.returns-then-peer_progress-front-clause-same
returns-then-peer_progress-front-clause-same g c =
    let due : Again g.W.Wire c.args.wire.now c.if-is_due.wire c.args.resender.now c.if-is_due.resender = elim c.if-is_due.branch [
      | then-is_due w ↦ again_is g.W.Wire _ _ _ _ _ _ w.wire-is w.resender-is
          (again_then g.W.Wire _ _ _ _ _ _ c.loop-member.invariant (record {
            again = w.repeat.ensures.again;
            kept = w.repeat.ensures.kept;
            requests = w.repeat.ensures.request;
            same = w.repeat.ensures.same;
          }))
      | else-is_due w ↦ again_is g.W.Wire _ _ _ _ _ _ w.wire-is w.resender-is c.loop-member.invariant
    ] in
    (again_then g.W.Wire c.args.wire.now c.if-is_due.wire c.repeat_own.new.wire c.args.resender.now c.if-is_due.resender
    c.repeat_own.new.self due (record {
      again = c.repeat_own.ensures.again;
      kept = c.repeat_own.ensures.kept;
      requests = c.repeat_own.ensures.request;
      same = c.repeat_own.ensures.same;
    })).same

pub returns-clause-same : goal.returns-clause-same
returns-clause-same g c =
    let due : Again g.W.Wire c.args.wire.now c.if-is_due.wire c.args.resender.now c.if-is_due.resender = elim c.if-is_due.branch [
      | then-is_due w ↦ again_is g.W.Wire _ _ _ _ _ _ w.wire-is w.resender-is
          (again_then g.W.Wire _ _ _ _ _ _ c.loop-member.invariant (record {
            again = w.repeat.ensures.again;
            kept = w.repeat.ensures.kept;
            requests = w.repeat.ensures.request;
            same = w.repeat.ensures.same;
          }))
      | else-is_due w ↦ again_is g.W.Wire _ _ _ _ _ _ w.wire-is w.resender-is c.loop-member.invariant
    ] in
    due.same
