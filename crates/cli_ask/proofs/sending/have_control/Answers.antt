use Rattle.std.proofs.Common.{◌∙◌, rules, tests}
use Rattle.std.proofs.lemmas.Iterator.{YieldsList-from_slice}
use Rattle.std.proofs.lemmas.Iterator.Search.{any_from_yields_List}
use Rattle.clap.proofs.WalkLemmas.{list_any-map}
use Rattle.cli_ask.specs.Sending.{has_control}
use Rattle.cli_ask.proofs.sending.have_control.Goals as goal

pub returns : goal.returns
returns c =
    any_from_yields_List (λ a. has_control a.now) _ _ c.any.result c.any.ensures.ran (YieldsList-from_slice c.args.texts.now cc) (λ x b q k. search (rules, tests))
    ∙ list_any-map has_control (λ a. a.now) c.args.texts.now
