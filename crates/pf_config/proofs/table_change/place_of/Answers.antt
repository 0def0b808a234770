use Rattle.std.proofs.Common.{rules}
use Rattle.std.specs.Ordering.{nat_cmp}
use Rattle.std.specs.Cmp.Lexicographic.{slice_cmp}
use Rattle.std.proofs.lemmas.Fn.{always_returns_same}
use Rattle.pf_rules.specs.Names.{Name}
use Rattle.pf_tables.specs.Tables.{TableValue}
use Rattle.pf_config.proofs.TableEdits.{place_is}
use Rattle.pf_config.proofs.table_change.place_of.Goals as goal

-- the closure compares a table's name
pub returns : goal.returns
returns c =
    let facts = c.binary_search_by.ensures in
    let by_name = facts.position (λ (t : Name × TableValue). slice_cmp nat_cmp t.0 c.args.name.now) (always_returns_same _ _ _ (λ a r g called. search rules)) in
    place_is c.args.tables.now c.args.name.now c.binary_search_by.result c.requires facts.bound by_name
