use Rattle.std.proofs.Common.{◌≡◌, ◌∙◌, Some, None, rules}
use Rattle.pf_config.specs.Trees.{anchor_in}
use Rattle.pf_config.proofs.Descents.{main_down}
use Rattle.pf_config.proofs.Unnamed.{found_unnamed, none_found_unnamed}
use Rattle.pf_config.proofs.changed.has_unnamed.Goals as goal

pub returns-in-Some : goal.returns-in-Some
returns-in-Some c =
    let main = c.args.main.now in
    let found : Some c.in-Some.anchor.now ≡ anchor_in main.anchors c.args.path.now = search (rules, main_down) in
    c.has_unnamed_kid.ensures ∙ found_unnamed main.anchors c.args.path.now c.in-Some.anchor.now found

pub returns-in-None : goal.returns-in-None
returns-in-None c =
    let main = c.args.main.now in
    let none : None ≡ anchor_in main.anchors c.args.path.now = search (rules, main_down) in
    none_found_unnamed main.anchors c.args.path.now none
