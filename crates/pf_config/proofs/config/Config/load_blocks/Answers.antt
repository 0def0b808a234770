use Rattle.std.proofs.Common.{rules, ◌≡◌, ◌∙◌, map, ap, sym, subst, List}
use Rattle.pf_rules.specs.Items.{AnyRule, rule_in, values_of}
use Rattle.pf_rules.specs.Seen.{items_of, rule_of}
use Rattle.pf_config.specs.Map.{Path}
use Rattle.pf_config.specs.inner.Texts.{definition_of}
use Rattle.pf_config.specs.Changes.{Changes, blocks_in}
use Rattle.pf_config.proofs.BlockRules.{loads_same, same_rules}
use Rattle.pf_config.proofs.config.Config.load_blocks.Goals as goal

pub returns : goal.returns
returns c =
    let items = c.args.rules.items.items in
    let path = c.args.path.now in
    let names : c.in_ok-names.names.items ≡ path = search rules in
    let kept : c.in_ok-items.items.value.items ≡ items = search rules in
    let given : map rule_of c.in_ok-items.items.value.items ≡ map rule_in (items_of items) = ap (map rule_of) kept ∙ sym (same_rules items) in
    let own : c.new-own.result ≡ record { path = path; rules = map rule_in (items_of items) } =
    c.new-own.ensures ∙ ap (λ (p : Path). record { path = p; rules = map rule_of c.in_ok-items.items.value.items }) names ∙ ap (λ (rs : List AnyRule). record { path = path; rules = rs }) given in
    let tables : map definition_of c.deref-2.result.now ≡ map definition_of c.args.rules.tables.items = ap (map definition_of) (search rules) in
    let blocks : c.deref-3.result.now ≡ blocks_in path (values_of (items_of items)) = search rules in
    subst (λ r. Changes c.load_placed.result c.args.self.now c.load_placed.new.self r) (loads_same c.args.self.now c.args.rules.skip.items _ _ _ _ _ _ own tables blocks) c.load_placed.ensures
