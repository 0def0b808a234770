-- what is shown of a node is shown of the record that it opened
use Rattle.std.proofs.Common.{◌∙◌, ap, sym}
use Rattle.pf_node.specs.Applied.{after}
use Rattle.pf_node.specs.Nodes.{learned_by}
use Rattle.cli_show.proofs.Opened.{shows_record}
use Rattle.cli_show.proofs.showing.show_record.Goals as goal

pub returns-in-Ok-show_node-clause-shows : goal.returns-in-Ok-show_node-clause-shows
returns-in-Ok-show_node-clause-shows g c =
    shows_record _ _ _ c.in-Ok.node c.args.wanted c.in-Ok-show_node.shown c.in-Ok.ensures.was c.in-Ok.ensures.state
    c.in-Ok.ensures.learned c.in-Ok.ensures.applied
    (ap (after (learned_by c.in-Ok.node)) (sym c.applied-applied.ensures.applied) ∙ c.applied-applied.ensures.configured)
    c.close.ensures c.in-Ok-show_node.ensures c.in-Ok.ensures.good
