use Rattle.std.proofs.Common.{rules, ◌≡◌, ◌++◌, ◌∙◌, ap, sym, subst, false, [], ◌∷◌, length, map, ◌≤◌, arith}
use Rattle.std.specs.List.{list_any}
use Rattle.pf_rules.specs.declared.item.Item.{the_lemmas}
use Rattle.pf_rules.specs.Items.{values_of}
use Rattle.pf_rules.specs.inner.Items.{is_overfull}
use Rattle.pf_rules.specs.Seen.{heading_of, item_of, items_of, rule_of}
use Rattle.pf_config.specs.Changes.{blocks_of, blocks_in}
use Rattle.pf_config.proofs.BlockRules.{few_in, block_is, then_blocks, then_few, then_within, on_ok}
use Rattle.pf_config.proofs.blocks.+blocks.Goals as goal

pub put_blocks-put_blocks_of-requires : goal.put_blocks-put_blocks_of-requires
put_blocks-put_blocks_of-requires t c =
    let few = then_few c.loop-item.item-index c.args.items.now c.item-item.result (omega arith) c.item-item.is c.loop-item.invariant.few in
    (search (rules, the_lemmas), few.0)

pub put_blocks-loop-item-preserved : goal.put_blocks-loop-item-preserved
put_blocks-loop-item-preserved t c =
    let few = then_few c.loop-item.item-index c.args.items.now c.item-item.result (omega arith) c.item-item.is c.loop-item.invariant.few in
    let put : c.put_blocks_of.new.found.items ≡ c.loop-item.found.items ++ blocks_of c.args.path.now (item_of c.item-item.result) = search rules in
    record {
      rest = then_blocks c.args.path.now c.loop-item.item-index c.args.items.now c.item-item.result c.loop-item.found.items _ _ (omega arith) c.item-item.is put c.loop-item.invariant.rest;
      few = few.1;
    }

pub put_blocks_of-new-requires : goal.put_blocks_of-new-requires
put_blocks_of-new-requires t c =
    let is = block_is c.args.item.now c.in-Anchor.anchor c.in-Some.items c.in-Anchor.is c.in-Some.is in
    let few = few_in (heading_of c.in-Anchor.anchor.heading) c.in-Some.items.value.items (ap is_overfull (sym is) ∙ c.requires) in
    let same : c.in_ok-clone-in-Some.field-0.value.items ≡ c.in-Some.items.value.items = search rules in
    subst (λ xs. length xs ≤ 1024) (sym same) few.0

pub put_blocks_of-put_blocks-requires : goal.put_blocks_of-put_blocks-requires
put_blocks_of-put_blocks-requires t c =
    let is = block_is c.args.item.now c.in-Anchor.anchor c.in-Some.items c.in-Anchor.is c.in-Some.is in
    let few = few_in (heading_of c.in-Anchor.anchor.heading) c.in-Some.items.value.items (ap is_overfull (sym is) ∙ c.requires) in
    let same : c.deref-in-Some-4.result.now ≡ c.in-Some.items.value.items = search rules in
    (search (rules, the_lemmas), subst (λ xs. list_any is_overfull (items_of xs) ≡ false) (sym same) few.1)

pub put_blocks_of-returns-in_ok-push-in-Some : goal.put_blocks_of-returns-in_ok-push-in-Some
put_blocks_of-returns-in_ok-push-in-Some t c =
    let is = block_is c.args.item.now c.in-Anchor.anchor c.in-Some.items c.in-Anchor.is c.in-Some.is in
    let same : c.deref-in-Some-4.result.now ≡ c.in-Some.items.value.items = search rules in
    let own : c.in_ok-own-in-Some.own.items ≡ c.args.path.now ++ (heading_of c.in-Anchor.anchor.heading).target.names = search rules in
    let there : c.deref-in-Some-2.result.now ≡ c.args.path.now ++ (heading_of c.in-Anchor.anchor.heading).target.names = search rules in
    let put : c.push.new.self.items ≡ c.args.found.now.items ++ c.new.result ∷ [] = search rules in
    let block : c.new.result ≡ record { path = c.in_ok-own-in-Some.own.items; rules = map rule_of c.in-Some.items.value.items } = search rules in
    on_ok c.put_blocks.result (λ within. then_within c.args.path.now c.in_ok-own-in-Some.own.items c.deref-in-Some-2.result.now (heading_of c.in-Anchor.anchor.heading) c.in-Some.items.value.items
    c.args.found.now.items c.push.new.self.items c.put_blocks.new.found.items c.new.result put block own there (within ∙ ap (λ xs. c.push.new.self.items ++ blocks_in c.deref-in-Some-2.result.now (values_of (items_of xs))) same)
    ∙ ap (λ x. c.args.found.now.items ++ blocks_of c.args.path.now x) (sym is)) c.put_blocks.ensures
