use Rattle.std.proofs.Common.{◌≡◌, ◌∙◌, ◌+◌, ◌++◌, ap, map, sym, subst, drop, arith, rules, length, length-drop, true, false}
use Rattle.std.proofs.lemmas.Grind.{common_steps}
use Rattle.std.proofs.lemmas.List.{length-map}
use Rattle.pf_rules.specs.Seen.{rule_of}
use Rattle.pf_config.specs.Map.{name_after}
use Rattle.pf_config.specs.Changes.{without_unnamed, is_some_unnamed}
use Rattle.pf_config.specs.Trees.{AnchorTree, shared, own_entry, below}
use Rattle.pf_config.specs.inner.Trees.{any_unnamed}
use Rattle.pf_config.proofs.Cut.{Walked, walked_some, unnamed_cuts, unnamed_done, unnamed_gone, next_kid, stays_named}
use Rattle.pf_config.proofs.anchor.Anchor.+without_unnamed.Goals as goal

pub loop-kid-preserved : goal.loop-kid-preserved
loop-kid-preserved t c =
    let all = c.deref-kid-items.result.now in
    let i = c.loop-kid.kid-index in
    let k = c.kid-item.result in
    let next = ap shared (next_kid all i k (search rules) c.kid-item.is) in
    let own : c.in_ok-new.field-0.value ≡ c.in_ok-next.next = search rules in
    let at : c.deref-in-loop-kid-2.result.now ≡ k.value = search rules in
    let more = walked_some c.in_ok-names.names.items (without_unnamed c.args.path.now) (unnamed_cuts c.args.path.now) (shared c.loop-kid.kids.items) k.value c.in_ok-new.field-0.value (shared (drop i all)) (shared (drop (i + 1) all)) (shared all) c.loop-kid.invariant next (own ∙ c.in_ok-next.ensures ∙ ap {B = AnchorTree} (λ (x : AnchorTree). record { names = x.names; anchors = without_unnamed c.args.path.now x.anchors }) at) in
    subst (λ r. Walked c.in_ok-names.names.items (without_unnamed c.args.path.now) r (shared (drop (i + 1) all)) (shared all)) (sym c.in_ok-push_some-2.ensures) more

pub loop-kid-preserved-then-not-has_unnamed : goal.loop-kid-preserved-then-not-has_unnamed
loop-kid-preserved-then-not-has_unnamed t c =
    let all = c.deref-kid-items.result.now in
    let i = c.loop-kid.kid-index in
    let k = c.kid-item.result in
    let next = ap shared (next_kid all i k (search rules) c.kid-item.is) in
    let same : c.in_ok-clone.field-0.value ≡ k.value = search rules in
    let stays : any_unnamed c.args.path.now k.value.anchors ≡ false = search rules in
    let more = walked_some c.in_ok-names.names.items (without_unnamed c.args.path.now) (unnamed_cuts c.args.path.now) (shared c.loop-kid.kids.items) k.value c.in_ok-clone.field-0.value (shared (drop i all)) (shared (drop (i + 1) all)) (shared all) c.loop-kid.invariant next (same ∙ stays_named c.args.path.now k.value stays) in
    subst (λ r. Walked c.in_ok-names.names.items (without_unnamed c.args.path.now) r (shared (drop (i + 1) all)) (shared all)) (sym c.in_ok-push_some.ensures) more

pub returns-then-is_unnamed_below : goal.returns-then-is_unnamed_below
returns-then-is_unnamed_below t c =
    let own = c.self.inside in
    let q = c.args.path.now in
    let names : c.in_ok-names.names.items ≡ own.names.items = grind (arith, common_steps) in
    let seen : c.deref-2.result.now ≡ own.names.items = grind (arith, common_steps) in
    let u : is_some_unnamed (name_after q own.names.items) ≡ true = subst (λ p. is_some_unnamed (name_after q p) ≡ true) seen (sym c.is_unnamed_below.ensures ∙ c.if-is_unnamed_below.true) in
    subst (λ (x : AnchorTree). c.in_ok-none.none ≡ record { names = x.names; anchors = without_unnamed q x.anchors }) c.self.view_is
    (c.in_ok-none.ensures ∙ unnamed_gone own.names.items q c.in_ok-names.names.items (map rule_of own.own.items.value.items) own.own.tables (shared own.kids.items) c.self.invariant u names)

pub returns : goal.returns
returns t c =
    let own = c.self.inside in
    let q = c.args.path.now in
    let all = c.deref-kid-items.result.now in
    let names : c.in_ok-names.names.items ≡ own.names.items = grind (arith, common_steps) in
    let seen : c.deref-2.result.now ≡ own.names.items = grind (arith, common_steps) in
    let rules : map rule_of c.in_ok-own.own.items.value.items ≡ map rule_of own.own.items.value.items = grind (arith, common_steps) in
    let tables : c.in_ok-own.own.tables ≡ own.own.tables = grind (arith, common_steps) in
    let z : length (shared (drop c.loop-kid.kid-index all)) ≡ 0 = length-map (drop c.loop-kid.kid-index all) (λ k. k.value) ∙ (let n = length-drop c.loop-kid.kid-index all in let m = c.loop-kid-test.false in omega (arith, n, m)) in
    let u : is_some_unnamed (name_after q own.names.items) ≡ false = subst (λ p. is_some_unnamed (name_after q p) ≡ false) seen (sym c.is_unnamed_below.ensures ∙ c.if-is_unnamed_below.false) in
    subst (λ (x : AnchorTree). ◌≡◌ {A = AnchorTree} (record { names = c.in_ok-names.names.items; anchors = own_entry c.in_ok-names.names.items (map rule_of c.in_ok-own.own.items.value.items) c.in_ok-own.own.tables ++ below (shared c.loop-kid.kids.items) }) (record { names = x.names; anchors = without_unnamed q x.anchors })) c.self.view_is
    (unnamed_done own.names.items q c.in_ok-names.names.items (map rule_of own.own.items.value.items) (map rule_of c.in_ok-own.own.items.value.items) own.own.tables c.in_ok-own.own.tables (shared c.loop-kid.kids.items) (shared (drop c.loop-kid.kid-index all)) (shared all) (shared own.kids.items) u names rules tables (ap shared c.deref-kid-items.ensures.value) c.loop-kid.invariant z)
