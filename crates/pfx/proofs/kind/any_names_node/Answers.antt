use Rattle.std.proofs.Common.{◌∙◌, rules, tests}
use Rattle.std.proofs.lemmas.Iterator.{YieldsList-from_slice}
use Rattle.std.proofs.lemmas.Iterator.Search.{any_from_yields_List}
use Rattle.clap.proofs.WalkLemmas.{list_any-map}
use Rattle.pfx.specs.Arguments.{names_node}
use Rattle.pfx.proofs.kind.any_names_node.Goals as goal

pub returns : goal.returns
returns c =
    any_from_yields_List (λ a. names_node a.now) _ _ c.any.result c.any.ensures.ran (YieldsList-from_slice c.args.arguments.now cc) (λ x b q k. search (rules, tests))
    ∙ list_any-map names_node (λ a. a.now) c.args.arguments.now
