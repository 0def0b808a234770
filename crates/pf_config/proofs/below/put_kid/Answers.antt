use Rattle.std.proofs.Common.{◌≡◌, ◌∙◌, ◌++◌, ◌∷◌, take, drop, ap, rules, false}
use Rattle.pf_config.specs.Changes.{is_empty}
use Rattle.pf_config.specs.Trees.{shared}
use Rattle.pf_config.proofs.KidPlaces.{put_in}
use Rattle.pf_config.proofs.below.put_kid.Goals as goal

pub returns-in_ok-insert : goal.returns-in_ok-insert
returns-in_ok-insert c =
    let all = c.args.kids.now.items in
    let some : is_empty c.args.kid.value.anchors ≡ false = search rules in
    let new : c.insert.new.self.items ≡ take c.args.at all ++ c.args.kid ∷ drop c.args.at all = search rules in
    ap shared new ∙ put_in c.args.at all c.args.kid some
