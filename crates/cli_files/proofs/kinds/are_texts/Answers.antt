-- each value is asked
use Rattle.std.proofs.Common.{◌∙◌, rules, tests, is_some}
use Rattle.std.proofs.lemmas.Iterator.{YieldsList-from_slice}
use Rattle.std.proofs.lemmas.Iterator.Search.{all_from_yields_List}
use Rattle.toml.specs.Data.{as_str}
use Rattle.toml.specs.View.{view}
use Rattle.cli_files.proofs.Texts.{all_texts}
use Rattle.cli_files.proofs.kinds.are_texts.Goals as goal

pub returns : goal.returns
returns c =
    all_from_yields_List (λ v. is_some (as_str (view v))) _ _ c.all.result c.all.ensures.ran (YieldsList-from_slice c.args.values.now cc) (λ x b q k. search (rules, tests))
    ∙ all_texts c.args.values.now
