use Rattle.std.proofs.Common.{◌≡◌, ◌∙◌, ap, map, subst, sym}
use Rattle.std.specs.Prelude.{find}
use Rattle.std.specs.Option.{option_copied}
use Rattle.pf_rules.specs.Seen.{rule_of}
use Rattle.pf_config.specs.Trees.{AnchorTree, shared, child_at}
use Rattle.pf_config.specs.inner.Trees.{is_named}
use Rattle.pf_config.specs.inner.KidOrder.{AreInOrder}
use Rattle.pf_config.proofs.Treed.{child_is}
use Rattle.pf_config.proofs.KidHalves.{kids_in_order}
use Rattle.pf_config.proofs.anchor.Anchor.target.Goals as goal

pub kid_named-requires : goal.kid_named-requires
kid_named-requires c =
    let own = c.self.inside in
    subst (λ ks. AreInOrder (shared ks)) (sym c.deref.ensures.value) (kids_in_order own.names.items (shared own.kids.items) c.self.invariant)

pub returns : goal.returns
returns c =
    let own = c.self.inside in
    subst (λ (t : AnchorTree). option_copied c.kid_named.result ≡ child_at t c.args.name.now) c.self.view_is
    (c.kid_named.ensures ∙ ap (λ ks. find (is_named c.args.name.now) (shared ks)) c.deref.ensures.value ∙ child_is own.names.items c.args.name.now (map rule_of own.own.items.value.items) own.own.tables (shared own.kids.items) c.self.invariant)
