use Rattle.std.proofs.Common.{arith, rules}
use Rattle.pf_config.proofs.PathPieces.{piece_grows}
use Rattle.pf_config.proofs.path_text.pieces.Goals as goal

-- the piece goes on
pub loop-i-preserved-then-b-ne47 : goal.loop-i-preserved-then-b-ne47
loop-i-preserved-then-b-ne47 c =
    let e = piece_grows c.args.text.now c.loop-i.start c.loop-i.i c.loop-i.invariant.1 (omega arith) (search rules) in
    (rw (← e) c.loop-i.invariant.0, omega arith)
