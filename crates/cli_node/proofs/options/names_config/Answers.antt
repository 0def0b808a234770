use Rattle.std.proofs.Common.{◌∙◌, rules, tests}
use Rattle.std.proofs.lemmas.Iterator.{YieldsList-from_slice}
use Rattle.std.proofs.lemmas.Iterator.Search.{any_from_yields_List}
use Rattle.clap.proofs.WalkLemmas.{list_any-map}
use Rattle.cli_node.specs.Arguments.{is_config}
use Rattle.cli_node.proofs.options.names_config.Goals as goal

pub returns : goal.returns
returns g c =
    any_from_yields_List (λ a. is_config (g.S.AsStr.text a)) _ _ c.any.result c.any.ensures.ran (YieldsList-from_slice c.args.arguments.now cc) (λ x b q k. search (rules, tests))
    ∙ list_any-map is_config g.S.AsStr.text c.args.arguments.now
