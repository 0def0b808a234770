use Rattle.std.proofs.Common.{◌∙◌, rules, tests}
use Rattle.std.specs.List.{list_any}
use Rattle.std.specs.Str.{bytes_eq}
use Rattle.pf_eval.specs.Packets.{interfaces}
use Rattle.std.proofs.lemmas.Iterator.{YieldsList-from_slice}
use Rattle.std.proofs.lemmas.Iterator.Search.{any_from_yields_List}
use Rattle.pf_eval.proofs.decide.is_skipped.Goals as goal

pub returns : goal.returns
returns c =
    any_from_yields_List (λ n. list_any (λ m. bytes_eq m n) (interfaces c.args.packet.now)) _ _ c.any.result c.any.ensures.ran (YieldsList-from_slice c.args.skip.now cc) (λ x b q k. search (rules, tests))
