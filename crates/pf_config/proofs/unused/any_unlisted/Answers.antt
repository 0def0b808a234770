use Rattle.std.proofs.Common.{◌∙◌, [], map, rules, tests}
use Rattle.std.proofs.lemmas.Iterator.{YieldsList-from_slice}
use Rattle.std.proofs.lemmas.Iterator.Search.{any_from_yields_List}
use Rattle.pf_config.specs.inner.Referring.{goes_by}
use Rattle.pf_config.proofs.unused.any_unlisted.Goals as goal

pub returns : goal.returns
returns c =
    any_from_yields_List (goes_by c.args.names.now) _ _ c.any.result c.any.ensures.ran (YieldsList-from_slice c.args.tables.now cc) (λ x b q k. search (rules, tests))
