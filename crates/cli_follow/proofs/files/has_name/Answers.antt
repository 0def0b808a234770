use Rattle.std.proofs.Common.{◌∙◌, rules, tests}
use Rattle.std.proofs.lemmas.Iterator.{YieldsList-from_slice}
use Rattle.std.proofs.lemmas.Iterator.Search.{any_from_yields_List}
use Rattle.cli_follow.specs.declared.files.TextFile.{TextFile}
use Rattle.cli_follow.specs.Files.{is_named, file_value}
use Rattle.cli_follow.proofs.Kept.{any_named}
use Rattle.cli_follow.proofs.files.has_name.Goals as goal

pub returns : goal.returns
returns c =
    any_from_yields_List (λ (f : TextFile). is_named c.args.name.now (file_value f)) _ _ c.any.result c.any.ensures.ran
    (YieldsList-from_slice c.args.files.now cc) (λ x b q k. search (rules, tests)) ∙ any_named c.args.name.now c.args.files.now
