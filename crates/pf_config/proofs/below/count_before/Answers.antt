use Rattle.std.proofs.Common.{rules}
use Rattle.std.specs.declared.rc.Rc.{Rc}
use Rattle.std.proofs.lemmas.Fn.{always_returns_same}
use Rattle.pf_rules.specs.Names.{is_before}
use Rattle.pf_config.specs.Trees.{last_name}
use Rattle.pf_config.proofs.KidPlaces.{parted_by, counted}
use Rattle.pf_config.proofs.below.count_before.Goals as goal

pub returns : goal.returns
returns c =
    let facts = c.partition_point.ensures in
    let point = facts.partitioned (λ k. is_before (last_name k.value.names) c.args.name.now) (always_returns_same _ _ _ (λ a r g called. search rules)) (parted_by c.args.name.now c.args.kids.now c.requires) in
    counted c.args.name.now c.args.kids.now c.partition_point.result facts.bound point
