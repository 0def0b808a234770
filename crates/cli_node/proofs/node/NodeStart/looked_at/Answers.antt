-- what is looked at is left as it was found
use Rattle.std.proofs.Common.{inr}
use Rattle.cli_node.proofs.node.NodeStart.looked_at.Goals as goal

pub returns-in-Ok-inspect-clause-over : goal.returns-in-Ok-inspect-clause-over
returns-in-Ok-inspect-clause-over g c = λ over.
    c.leave.ensures (λ clean db may. c.in-Ok-inspect.ensures.found db (c.judged-outcome.ensures.stop clean db may))

-- the rows of what was inspected are no fault
pub returns-in-Ok-inspect-clause-sound : goal.returns-in-Ok-inspect-clause-sound
returns-in-Ok-inspect-clause-sound g c = λ sound. inr (record {
  given = c.in-Ok-inspect.conn;
  back = c.judged-outcome.new.conn;
  was = c.in-Ok-inspect.ensures.held;
  known = c.judged-outcome.ensures.known sound;
  sound = λ clean. c.judged-outcome.ensures.sound clean sound;
})
