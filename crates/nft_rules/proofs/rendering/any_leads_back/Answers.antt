use Rattle.std.proofs.Common.{◌∙◌, rules, tests}
use Rattle.std.proofs.lemmas.Iterator.{YieldsList-from_slice}
use Rattle.std.proofs.lemmas.Iterator.Search.{any_from_yields_List}
use Rattle.pf_rules.specs.Seen.{rule_of}
use Rattle.pf_rules.specs.declared.item.Item.{Item}
use Rattle.nft_rules.specs.Deciding.{leads_back}
use Rattle.nft_rules.proofs.Named.{any_mapped}
use Rattle.nft_rules.proofs.rendering.any_leads_back.Goals as goal

pub returns : goal.returns
returns c =
    any_from_yields_List (λ (i : Item). leads_back (rule_of i)) _ _ c.any.result c.any.ensures.ran (YieldsList-from_slice c.args.items.now cc) (λ x b q k. search (rules, tests))
    ∙ any_mapped leads_back rule_of c.args.items.now
