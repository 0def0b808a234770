use Rattle.std.proofs.Common.{◌≡◌, ◌∙◌, ◌+◌, drop, ap, rules, true, false}
use Rattle.std.specs.Prelude.{find, is_some}
use Rattle.pf_config.specs.Trees.{shared}
use Rattle.pf_config.specs.inner.Trees.{is_named}
use Rattle.pf_config.proofs.Cut.{next_kid}
use Rattle.pf_config.proofs.KidPlaces.{left_whole, has_place, removed_at}
use Rattle.pf_config.proofs.below.take_named.Goals as goal

pub returns-then-not-is_at-clause-left : goal.returns-then-not-is_at-clause-left
returns-then-not-is_at-clause-left c =
    let none : is_some (find (is_named c.args.name.now) (shared c.args.kids.now.items)) ≡ false = search rules in
    (left_whole c.args.name.now (shared c.args.kids.now.items) c.requires.order none).1

pub remove-requires : goal.remove-requires
remove-requires c =
    let some : is_some (find (is_named c.args.name.now) (shared c.args.kids.now.items)) ≡ true = search rules in
    let less = has_place c.args.name.now c.args.at c.args.kids.now.items c.requires.order c.requires.place some in
    search rules

pub returns-clause-removed : goal.returns-clause-removed
returns-clause-removed c =
    let all = c.args.kids.now.items in
    let some : is_some (find (is_named c.args.name.now) (shared all)) ≡ true = search rules in
    let less = has_place c.args.name.now c.args.at all c.requires.order c.requires.place some in
    let next = next_kid all c.args.at c.remove.result less c.remove.ensures.value in
    (removed_at c.args.name.now c.args.at all (drop (c.args.at + 1) all) c.remove.result c.requires.order c.requires.place some next).0

pub returns-clause-left : goal.returns-clause-left
returns-clause-left c =
    let all = c.args.kids.now.items in
    let some : is_some (find (is_named c.args.name.now) (shared all)) ≡ true = search rules in
    let less = has_place c.args.name.now c.args.at all c.requires.order c.requires.place some in
    let next = next_kid all c.args.at c.remove.result less c.remove.ensures.value in
    ap shared c.remove.ensures.by_index.2 ∙ (removed_at c.args.name.now c.args.at all (drop (c.args.at + 1) all) c.remove.result c.requires.order c.requires.place some next).1
