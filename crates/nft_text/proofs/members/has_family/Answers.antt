use Rattle.std.proofs.Common.{rules, tests}
use Rattle.std.proofs.lemmas.Iterator.{YieldsList-from_slice}
use Rattle.std.proofs.lemmas.Iterator.Search.{any_from_yields_List}
use Rattle.nft_rules.specs.declared.guard.Member.{Member}
use Rattle.pf_eval.specs.Matching.{of_family}
use Rattle.nft_text.proofs.members.has_family.Goals as goal

pub returns : goal.returns
returns c =
    any_from_yields_List (λ (m : Member). of_family m.address c.args.family) _ _ c.any.result c.any.ensures.ran (YieldsList-from_slice c.args.members.now cc) (λ x b q k. search (rules, tests))
