use Rattle.std.proofs.Common.{◌≡◌, ◌∙◌, ◌+◌, ◌++◌, [], ap, map, false, length, length-drop, arith, sym, subst, drop, rules}
use Rattle.std.proofs.lemmas.Grind.{common_steps}
use Rattle.std.proofs.lemmas.List.{length-map}
use Rattle.pf_rules.specs.Seen.{rule_of}
use Rattle.pf_config.specs.Changes.{tidied_of, used_tables}
use Rattle.pf_config.specs.Trees.{AnchorTree, shared, own_entry, below}
use Rattle.pf_config.specs.inner.Trees.{any_sheds}
use Rattle.pf_config.proofs.Cut.{Walked, walked_some, tidied_cuts, tidied_done, next_kid, stays_tidy}
use Rattle.pf_config.proofs.anchor.Anchor.+tidied.Goals as goal

pub loop-kid-preserved : goal.loop-kid-preserved
loop-kid-preserved t c =
    let all = c.deref-kid-items.result.now in
    let i = c.loop-kid.kid-index in
    let k = c.kid-item.result in
    let next = ap shared (next_kid all i k (search rules) c.kid-item.is) in
    let own : c.in_ok-new.field-0.value ≡ c.in_ok-next.next = search rules in
    let at : c.deref-in-loop-kid-2.result.now ≡ k.value = search rules in
    let more = walked_some c.in_ok-names.names.items (tidied_of c.args.main.now.anchors) (tidied_cuts c.args.main.now.anchors) (shared c.loop-kid.kids.items) k.value c.in_ok-new.field-0.value (shared (drop i all)) (shared (drop (i + 1) all)) (shared all) c.loop-kid.invariant next (own ∙ c.in_ok-next.ensures ∙ ap {B = AnchorTree} (λ (x : AnchorTree). record { names = x.names; anchors = tidied_of c.args.main.now.anchors x.anchors }) at) in
    subst (λ r. Walked c.in_ok-names.names.items (tidied_of c.args.main.now.anchors) r (shared (drop (i + 1) all)) (shared all)) (sym c.in_ok-push_some-2.ensures) more

pub loop-kid-preserved-then-not-has_unused : goal.loop-kid-preserved-then-not-has_unused
loop-kid-preserved-then-not-has_unused t c =
    let all = c.deref-kid-items.result.now in
    let i = c.loop-kid.kid-index in
    let k = c.kid-item.result in
    let next = ap shared (next_kid all i k (search rules) c.kid-item.is) in
    let same : c.in_ok-clone.field-0.value ≡ k.value = search rules in
    let stays : any_sheds c.args.main.now.anchors k.value.anchors ≡ false = search rules in
    let more = walked_some c.in_ok-names.names.items (tidied_of c.args.main.now.anchors) (tidied_cuts c.args.main.now.anchors) (shared c.loop-kid.kids.items) k.value c.in_ok-clone.field-0.value (shared (drop i all)) (shared (drop (i + 1) all)) (shared all) c.loop-kid.invariant next (same ∙ stays_tidy c.args.main.now.anchors k.value stays) in
    subst (λ r. Walked c.in_ok-names.names.items (tidied_of c.args.main.now.anchors) r (shared (drop (i + 1) all)) (shared all)) (sym c.in_ok-push_some.ensures) more

pub returns : goal.returns
returns t c =
    let own = c.self.inside in
    let whole = c.args.main.now.anchors in
    let all = c.deref-kid-items.result.now in
    let names : c.in_ok-names.names.items ≡ own.names.items = grind (arith, common_steps) in
    let rules : map rule_of c.in_ok-own.own.items.value.items ≡ map rule_of own.own.items.value.items = grind (arith, common_steps) in
    let used : c.in_ok-own.own.tables ≡ used_tables whole (record { path = own.names.items; rules = map rule_of own.own.items.value.items; tables = [] }) own.own.tables = grind (arith, common_steps) in
    let z : length (shared (drop c.loop-kid.kid-index all)) ≡ 0 = length-map (drop c.loop-kid.kid-index all) (λ k. k.value) ∙ (let n = length-drop c.loop-kid.kid-index all in let m = c.loop-kid-test.false in omega (arith, n, m)) in
    subst (λ (x : AnchorTree). ◌≡◌ {A = AnchorTree} (record { names = c.in_ok-names.names.items; anchors = own_entry c.in_ok-names.names.items (map rule_of c.in_ok-own.own.items.value.items) c.in_ok-own.own.tables ++ below (shared c.loop-kid.kids.items) }) (record { names = x.names; anchors = tidied_of whole x.anchors })) c.self.view_is
    (tidied_done whole own.names.items c.in_ok-names.names.items (map rule_of own.own.items.value.items) (map rule_of c.in_ok-own.own.items.value.items) own.own.tables c.in_ok-own.own.tables (shared c.loop-kid.kids.items) (shared (drop c.loop-kid.kid-index all)) (shared all) (shared own.kids.items) names rules used (ap shared c.deref-kid-items.ensures.value) c.loop-kid.invariant z)
