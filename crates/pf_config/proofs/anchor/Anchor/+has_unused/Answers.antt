use Rattle.std.proofs.Common.{◌≡◌, ◌∙◌, [], ap, map, sym, subst, drop, arith, false, refl}
use Rattle.std.proofs.lemmas.Grind.{common_steps}
use Rattle.std.proofs.lemmas.List.{drop_all}
use Rattle.std.specs.List.{list_any}
use Rattle.pf_rules.specs.Seen.{rule_of}
use Rattle.pf_config.specs.Trees.{AnchorTree, shared, below}
use Rattle.pf_config.specs.inner.Trees.{is_idle, any_sheds}
use Rattle.pf_config.proofs.Cut.{sheds_own}
use Rattle.pf_config.proofs.anchor.Anchor.+has_unused.Goals as goal

pub returns : goal.returns
returns t c =
    let own = c.self.inside in
    let whole = c.args.main.now.anchors in
    let here : list_any (is_idle whole (record { path = own.names.items; rules = map rule_of own.own.items.value.items; tables = [] })) own.own.tables ≡ false = grind (arith, common_steps) in
    let all = c.deref-kid-items.result.now in
    let left : drop c.loop-kid.kid-index all ≡ [] = drop_all c.loop-kid.kid-index all (let m = c.loop-kid-test.false in omega (arith, m)) in
    let there : any_sheds whole (below (shared own.kids.items)) ≡ false = sym (ap (λ ks. any_sheds whole (below (shared ks))) c.deref-kid-items.ensures.value) ∙ sym c.loop-kid.invariant ∙ ap (λ ks. any_sheds whole (below (shared ks))) left in
    subst (λ (x : AnchorTree). false ≡ any_sheds whole x.anchors) c.self.view_is
    (sym (sheds_own whole own.names.items (map rule_of own.own.items.value.items) own.own.tables (shared own.kids.items) ∙ rw (here, there) refl))
