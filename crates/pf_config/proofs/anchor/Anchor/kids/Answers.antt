use Rattle.std.proofs.Common.{◌∙◌, map, subst, sym}
use Rattle.pf_rules.specs.Seen.{rule_of}
use Rattle.pf_config.specs.Trees.{AnchorTree, AreBelow, last_name, shared}
use Rattle.pf_config.proofs.Treed.{child_is}
use Rattle.pf_config.proofs.KidHalves.{kid_found, kids_in_order}
use Rattle.pf_config.proofs.anchor.Anchor.kids.Goals as goal

pub returns-clause-own : goal.returns-clause-own
returns-clause-own c =
    let own = c.self.inside in
    let kids = shared own.kids.items in
    let of_items : AreBelow c.args.self.now kids =
    subst (λ (t : AnchorTree). AreBelow t kids) c.self.view_is (λ i k g.
    sym (kid_found kids i k (kids_in_order own.names.items kids c.self.invariant) g)
    ∙ child_is own.names.items (last_name k.names) (map rule_of own.own.items.value.items) own.own.tables kids c.self.invariant) in
    subst (λ ks. AreBelow c.args.self.now (shared ks)) (sym c.deref.ensures.value) of_items
