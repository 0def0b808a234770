use Rattle.std.proofs.Common.{◌∙◌, rules, tests}
use Rattle.pf_config.specs.SkippedNames.{is_listed}
use Rattle.std.proofs.lemmas.Iterator.{YieldsList-from_slice}
use Rattle.std.proofs.lemmas.Iterator.Search.{any_from_yields_List}
use Rattle.pf_eval.proofs.skipping.any_skipped.Goals as goal

pub returns : goal.returns
returns c =
    any_from_yields_List (λ m. is_listed m c.args.config.now.skip) _ _ c.any.result c.any.ensures.ran (YieldsList-from_slice c.args.names.now cc) (λ x b q k. search (rules, tests))
