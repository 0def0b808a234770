use Rattle.std.proofs.Common.{◌∙◌, rules, tests}
use Rattle.std.specs.Str.{bytes_eq}
use Rattle.std.proofs.lemmas.Iterator.{YieldsList-from_slice}
use Rattle.std.proofs.lemmas.Iterator.Search.{any_from_yields_List}
use Rattle.clap.proofs.WalkLemmas.{list_any-map}
use Rattle.nft_rules.specs.Seen.{machine_of}
use Rattle.cli_nft.proofs.machines.is_known.Goals as goal

pub returns : goal.returns
returns c =
    any_from_yields_List (λ i. bytes_eq i.name c.args.name.now) _ _ c.any.result c.any.ensures.ran (YieldsList-from_slice c.args.machine.now cc) (λ x b q k. search (rules, tests))
    ∙ list_any-map (λ m. bytes_eq m.0 c.args.name.now) (λ i. (i.name, i.groups.items)) c.args.machine.now
    ∙ list_any-map (λ n. bytes_eq n c.args.name.now) (λ m. m.0) (machine_of c.args.machine.now)
