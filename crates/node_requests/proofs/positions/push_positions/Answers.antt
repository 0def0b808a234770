use Rattle.std.proofs.Common.{◌<◌, ◌∙◌, string_bytes, arith}
use Rattle.pf_node.specs.Nodes.{learned_by, applied_of, kept_of}
use Rattle.node_requests.proofs.PositionsLogged.{one_more}
use Rattle.node_requests.proofs.positions.push_positions.Goals as goal

-- one line more
pub loop-left-preserved : goal.loop-left-preserved
loop-left-preserved g c =
    let log = learned_by c.args.node.now in
    let applied = applied_of c.args.node.now in
    let kept = kept_of c.args.node.now in
    let some : 0 < c.loop-left.left = omega arith in
    record {
      rest = one_more log applied kept c.args.end c.loop-left.left (string_bytes c.loop-left.out) _ some c.in_ok-push_position.ensures ∙ c.loop-left.invariant.rest;
      within = omega arith;
    }
