use Rattle.std.proofs.Common.{◌∙◌, [], map, rules, tests}
use Rattle.std.proofs.lemmas.Iterator.{YieldsList-from_slice}
use Rattle.std.proofs.lemmas.Iterator.Search.{any_from_yields_List}
use Rattle.pf_config.specs.inner.Referring.{is_fleeting}
use Rattle.pf_config.proofs.referred.any_fleeting.Goals as goal

pub returns : goal.returns
returns c =
    any_from_yields_List (is_fleeting) _ _ c.any.result c.any.ensures.ran (YieldsList-from_slice c.args.tables.now cc) (λ x b q k. search (rules, tests))
