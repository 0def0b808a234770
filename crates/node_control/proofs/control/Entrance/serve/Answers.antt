-- one client more
use Rattle.std.proofs.Common.{◌∙◌}
use Rattle.node_control.proofs.Asking.{serves_then}
use Rattle.node_control.proofs.Asked.{within_then, kept_then}
use Rattle.node_control.proofs.control.Entrance.serve.Goals as goal

pub loop-client-preserved : goal.loop-client-preserved
loop-client-preserved g c =
    let before = c.loop-client.invariant in
    record {
      asks = within_then _ _ _ before.asks c.look.ensures.asks;
      figures = λ scraped. c.look.ensures.figures.still (before.scraped ∙ scraped) ∙ before.figures scraped;
      kept = kept_then _ _ _ before.kept c.look.ensures.kept;
      serves = serves_then _ _ _ before.serves c.look.ensures.serves;
      scraped = c.look.ensures.figures.scraped ∙ before.scraped;
    }

pub returns-then-service-left-clause-asks : goal.returns-then-service-left-clause-asks
returns-then-service-left-clause-asks g c = within_then _ _ _ c.loop-client.invariant.asks c.look.ensures.asks

pub returns-then-service-left-clause-figures : goal.returns-then-service-left-clause-figures
returns-then-service-left-clause-figures g c scraped =
    let before = c.loop-client.invariant in
    c.look.ensures.figures.still (before.scraped ∙ scraped) ∙ before.figures scraped

pub returns-then-service-left-clause-kept : goal.returns-then-service-left-clause-kept
returns-then-service-left-clause-kept g c = kept_then _ _ _ c.loop-client.invariant.kept c.look.ensures.kept

pub returns-then-service-left-clause-serves : goal.returns-then-service-left-clause-serves
returns-then-service-left-clause-serves g c = serves_then _ _ _ c.loop-client.invariant.serves c.look.ensures.serves
