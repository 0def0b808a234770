use Rattle.std.proofs.Common.{◌∙◌, rules, tests}
use Rattle.std.specs.List.{list_any}
use Rattle.std.specs.Str.{bytes_eq}
use Rattle.std.proofs.lemmas.Iterator.{YieldsList-from_slice}
use Rattle.std.proofs.lemmas.Iterator.Search.{any_from_yields_List}
use Rattle.nft_rules.specs.Rendering.{is_skipped, names_in}
use Rattle.nft_rules.specs.Seen.{machine_of}
use Rattle.nft_rules.proofs.machine.is_named_by.Goals as goal

pub returns : goal.returns
unfolding is_skipped
returns c =
    any_from_yields_List (λ n. list_any (λ m. bytes_eq m n) (names_in (machine_of c.args.machine.now) c.args.interface.now)) _ _ c.any.result c.any.ensures.ran (YieldsList-from_slice c.args.wanted.now cc) (λ x b q k. search (rules, tests))
