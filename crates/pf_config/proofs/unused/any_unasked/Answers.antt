use Rattle.std.proofs.Common.{◌∙◌, [], map, rules, tests}
use Rattle.std.proofs.lemmas.Iterator.{YieldsList-from_slice}
use Rattle.std.proofs.lemmas.Iterator.Search.{any_from_yields_List}
use Rattle.pf_rules.specs.Seen.{rule_of}
use Rattle.pf_config.specs.inner.Trees.{is_idle}
use Rattle.pf_config.proofs.unused.any_unasked.Goals as goal

pub returns : goal.returns
returns c =
    any_from_yields_List (is_idle c.args.main.now.anchors (record { path = c.args.path.now; rules = map rule_of c.args.items.now; tables = [] })) _ _ c.any.result c.any.ensures.ran (YieldsList-from_slice c.args.tables.now cc) (λ x b q k. search (rules, tests))
