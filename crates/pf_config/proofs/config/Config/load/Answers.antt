use Rattle.std.proofs.Common.{rules, ◌≡◌, ◌∙◌, ◌||◌, true, List, length, refl, sym, subst}
use Rattle.std.specs.Prelude.{nat_lt}
use Rattle.pf_rules.specs.declared.item.Item.{Item}
use Rattle.pf_rules.specs.Items.{values_of}
use Rattle.pf_rules.specs.Rulesets.{ruleset_of}
use Rattle.pf_rules.specs.Seen.{items_of}
use Rattle.pf_config.specs.Map.{Path}
use Rattle.pf_config.specs.inner.Depths.{any_deep}
use Rattle.pf_config.proofs.Deepness.{deep_refused}
use Rattle.pf_config.proofs.config.Config.load.Goals as goal

pub returns-then-go_too_deep : goal.returns-then-go_too_deep
returns-then-go_too_deep c =
    let path = c.args.path.now in
    let names : c.names.result.now ≡ path = search rules in
    let items : c.deref.result.now ≡ c.args.rules.items.items = search rules in
    let own = subst (λ (p : Path). (nat_lt 8 (length p) || any_deep (length p) (values_of (items_of c.deref.result.now))) ≡ true) names (sym c.go_too_deep.ensures ∙ c.if-go_too_deep.true) in
    let deep = subst (λ (xs : List Item). (nat_lt 8 (length path) || any_deep (length path) (values_of (items_of xs))) ≡ true) items own in
    (deep_refused c.args.self.now path (ruleset_of c.args.rules) deep, refl)
