use Rattle.std.proofs.Common.{◌∙◌, [], map, rules, tests}
use Rattle.std.proofs.lemmas.Iterator.{YieldsList-from_slice}
use Rattle.std.proofs.lemmas.Iterator.Search.{any_from_yields_List}
use Rattle.pf_config.specs.Changes.{is_too_deep}
use Rattle.pf_config.proofs.loading.any_too_deep.Goals as goal

pub returns : goal.returns
returns c =
    any_from_yields_List (is_too_deep) _ _ c.any.result c.any.ensures.ran (YieldsList-from_slice c.args.blocks.now cc) (λ x b q k. search (rules, tests))
