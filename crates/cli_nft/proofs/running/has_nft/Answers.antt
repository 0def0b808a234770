use Rattle.std.proofs.Common.{◌∙◌, codes, rules, tests}
use Rattle.std.specs.Str.{bytes_eq}
use Rattle.std.proofs.lemmas.Iterator.{YieldsList-from_slice}
use Rattle.std.proofs.lemmas.Iterator.Search.{any_from_yields_List}
use Rattle.clap.proofs.WalkLemmas.{list_any-map}
use Rattle.cli_nft.proofs.running.has_nft.Goals as goal

pub returns : goal.returns
returns g c =
    any_from_yields_List (λ a. bytes_eq (g.S.AsStr.text a) (codes "--nft")) _ _ c.any.result c.any.ensures.ran (YieldsList-from_slice c.args.arguments.now cc) (λ x b q k. search (rules, tests))
    ∙ list_any-map (λ w. bytes_eq w (codes "--nft")) g.S.AsStr.text c.args.arguments.now
