use Rattle.std.proofs.Common.{◌≡◌, ◌++◌, ◌∷◌, [], Some, take, drop, map, rules}
use Rattle.pf_rules.specs.Seen.{rule_of}
use Rattle.pf_config.specs.Trees.{shared}
use Rattle.pf_config.specs.inner.Trees.{placed_in}
use Rattle.pf_config.specs.inner.TableChanges.{AreNew, Makes}
use Rattle.pf_config.proofs.Changing.{kid_new}
use Rattle.pf_config.proofs.KidHalves.{kids_in_order}
use Rattle.pf_config.proofs.KidPlaces.{left_whole, room_to_put}
use Rattle.pf_config.proofs.anchor.add_kid.Goals as goal

pub insert-requires : goal.insert-requires
insert-requires c =
    let ks = c.args.kids.now.items in
    let none = left_whole c.args.first.now (shared ks) (kids_in_order c.args.names.now (shared ks) c.requires.kids) c.requires.none in
    let less = room_to_put c.args.first.now (shared ks) ks c.args.at c.requires.place none.1 in
    search rules

pub returns : goal.returns
returns c =
    let ks = c.args.kids.now.items in
    let at = c.args.at in
    let own = map rule_of c.in-Some.own.items.value.items in
    let new : c.insert.new.self.items ≡ take at ks ++ c.in_ok-kid.kid ∷ drop at ks = search rules in
    let made : AreNew (Makes c.args.change.now) (Some (own, c.in-Some.own.tables)) = search rules in
    let value : c.in_ok-kid.kid.value ≡ placed_in (record { names = c.args.names.now ++ c.args.first.now ∷ []; anchors = [] }) c.args.more.now own c.in-Some.own.tables = search rules in
    kid_new (Makes c.args.change.now) c.args.names.now c.args.first.now c.args.more.now own c.in-Some.own.tables at ks c.insert.new.self.items c.in_ok-kid.kid c.requires.kids c.requires.place c.requires.none new value made.0 made.1
