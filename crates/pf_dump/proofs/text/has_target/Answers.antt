use Rattle.std.proofs.Common.{◌∙◌, rules, tests}
use Rattle.std.proofs.lemmas.Iterator.{YieldsList-from_slice}
use Rattle.std.proofs.lemmas.Iterator.Search.{any_from_yields_List}
use Rattle.pf_rules.specs.Seen.{rule_of}
use Rattle.pf_rules.specs.declared.item.Item.{Item}
use Rattle.pf_rules.specs.Items.{AnyRule}
use Rattle.pf_dump.specs.Written.{is_on, heading_in}
use Rattle.pf_dump.proofs.Lists.{any_mapped}
use Rattle.pf_dump.proofs.text.has_target.Goals as goal

pub returns : goal.returns
returns c =
    any_from_yields_List (λ (i : Item). is_on c.args.names.now (heading_in (rule_of i))) _ _ c.any.result c.any.ensures.ran (YieldsList-from_slice c.args.items.now cc) (λ x b q k. search (rules, tests))
    ∙ any_mapped (λ (r : AnyRule). is_on c.args.names.now (heading_in r)) rule_of c.args.items.now
