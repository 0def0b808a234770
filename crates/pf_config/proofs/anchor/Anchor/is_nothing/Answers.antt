use Rattle.std.proofs.Common.{◌≡◌, ◌∙◌, ◌&&◌, true, ap, map, sym, subst, rules}
use Rattle.pf_rules.specs.Seen.{rule_of}
use Rattle.pf_config.specs.Changes.{is_empty}
use Rattle.pf_config.specs.Trees.{AnchorTree, shared}
use Rattle.pf_config.proofs.Treed.{nothing_is, empty_len, empty_map}
use Rattle.pf_config.proofs.anchor.Anchor.is_nothing.Goals as goal

pub returns-then-is_empty : goal.returns-then-is_empty
returns-then-is_empty c =
    let own = c.self.inside in
    let kids = shared own.kids.items in
    let none : (is_empty (map rule_of own.own.items.value.items) && is_empty own.own.tables) ≡ true = search rules in
    let left : c.is_empty-then-is_empty.result ≡ is_empty kids = search (rules, empty_len, empty_map) in
    subst (λ (t : AnchorTree). c.is_empty-then-is_empty.result ≡ is_empty t.anchors) c.self.view_is
    (left ∙ sym (nothing_is own.names.items (map rule_of own.own.items.value.items) own.own.tables kids c.self.invariant ∙ ap (λ b. b && is_empty kids) none))
