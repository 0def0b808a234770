-- what was asked at the client
use Rattle.node_control.proofs.Asking.{serves_then}
use Rattle.node_control.proofs.Asked.{turned, within_then, figures_turned, figures_then, kept_then}
use Rattle.node_control.proofs.control.Entrance.look.Goals as goal

pub returns-then-eq-clause-asks : goal.returns-then-eq-clause-asks
returns-then-eq-clause-asks g c = within_then _ _ _ c.look_at-look.ensures.asks (turned _ _ c.leave.ensures.handler c.leave.ensures.left)

pub returns-then-eq-clause-figures : goal.returns-then-eq-clause-figures
returns-then-eq-clause-figures g c =
    figures_then _ _ _ c.look_at-look.ensures.figures (figures_turned _ _ c.leave.ensures.handler c.leave.ensures.scraped)

pub returns-else-eq-clause-asks : goal.returns-else-eq-clause-asks
returns-else-eq-clause-asks g c = c.look_at-look.ensures.asks

pub returns-else-eq-clause-figures : goal.returns-else-eq-clause-figures
returns-else-eq-clause-figures g c = c.look_at-look.ensures.figures

pub returns-then-eq-clause-kept : goal.returns-then-eq-clause-kept
returns-then-eq-clause-kept g c = kept_then _ _ _ c.look_at-look.ensures.kept c.leave.ensures.kept

pub returns-else-eq-clause-kept : goal.returns-else-eq-clause-kept
returns-else-eq-clause-kept g c = c.look_at-look.ensures.kept

pub returns-then-eq-clause-serves : goal.returns-then-eq-clause-serves
returns-then-eq-clause-serves g c = serves_then _ _ _ c.look_at-look.ensures.serves c.leave.ensures.serves

pub returns-else-eq-clause-serves : goal.returns-else-eq-clause-serves
returns-else-eq-clause-serves g c = c.look_at-look.ensures.serves
