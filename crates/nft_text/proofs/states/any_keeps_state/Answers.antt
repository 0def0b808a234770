use Rattle.std.proofs.Common.{◌∙◌, rules, tests}
use Rattle.std.proofs.lemmas.Iterator.{YieldsList-from_slice}
use Rattle.std.proofs.lemmas.Iterator.Search.{any_from_yields_List}
use Rattle.pf_rules.specs.Seen.{rule_of}
use Rattle.pf_rules.specs.declared.item.Item.{Item}
use Rattle.nft_text.specs.States.{keeps_state}
use Rattle.nft_text.proofs.Keeping.{any_mapped}
use Rattle.nft_text.proofs.states.any_keeps_state.Goals as goal

pub returns : goal.returns
returns c =
    any_from_yields_List (λ (i : Item). keeps_state (rule_of i)) _ _ c.any.result c.any.ensures.ran (YieldsList-from_slice c.args.items.now cc) (λ x b q k. search (rules, tests))
    ∙ any_mapped keeps_state rule_of c.args.items.now
