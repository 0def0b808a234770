use Rattle.std.proofs.Common.{◌∙◌, List, Bor, rules, tests}
use Rattle.std.specs.List.{list_any}
use Rattle.std.proofs.lemmas.Iterator.{YieldsList-from_slice}
use Rattle.std.proofs.lemmas.Iterator.Search.{any_from_yields_List}
use Rattle.pf_config.specs.Map.{Path, rules_at}
use Rattle.nft_rules.specs.Deciding.{leads_back}
use Rattle.nft_rules.proofs.Named.{any_mapped}
use Rattle.nft_rules.proofs.rendering.some_leads_back.Goals as goal

pub returns : goal.returns
returns c =
    any_from_yields_List (λ (p : Bor Path). list_any leads_back (rules_at c.args.config.now p.now)) _ _ c.any.result c.any.ensures.ran (YieldsList-from_slice c.args.paths.now cc) (λ x b q k. search (rules, tests))
    ∙ any_mapped (λ (p : Path). list_any leads_back (rules_at c.args.config.now p)) (λ p. p.now) c.args.paths.now
