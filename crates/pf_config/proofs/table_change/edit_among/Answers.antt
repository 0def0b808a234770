use Rattle.std.proofs.Common.{◌≡◌, List, rules, subst}
use Rattle.pf_rules.specs.Names.{Name}
use Rattle.pf_tables.specs.Tables.{TableValue}
use Rattle.pf_config.specs.inner.TableChanges.{IsStoredAt}
use Rattle.pf_config.proofs.TableEdits.{edit_among}
use Rattle.pf_config.proofs.table_change.edit_among.Goals as goal

pub index_mut-requires : goal.index_mut-requires
index_mut-requires c =
    let items : c.deref.result.now ≡ c.args.tables.now.items = search rules in
    let within = (subst (λ (ts : List (Name × TableValue)). IsStoredAt ts c.as_bytes.result.now c.in-Ok.at) items c.in-Ok.ensures).within in
    search rules

pub returns-clause-ordered : goal.returns-clause-ordered
returns-clause-ordered c =
    let name : c.as_bytes.result.now ≡ c.args.name.now = search rules in
    let items : c.deref.result.now ≡ c.args.tables.now.items = search rules in
    let own = subst (λ (n : Name). IsStoredAt c.args.tables.now.items n c.in-Ok.at) name (subst (λ (ts : List (Name × TableValue)). IsStoredAt ts c.as_bytes.result.now c.in-Ok.at) items c.in-Ok.ensures) in
    (edit_among c.edit_table.result c.args.edit c.args.entry.now c.args.tables.now.items c.args.name.now c.in-Ok.at c.index_mut.result.now c.edit_table.new.table c.requires own c.index_mut.ensures.value c.edit_table.ensures).0

pub returns-clause-changed : goal.returns-clause-changed
returns-clause-changed c =
    let name : c.as_bytes.result.now ≡ c.args.name.now = search rules in
    let items : c.deref.result.now ≡ c.args.tables.now.items = search rules in
    let own = subst (λ (n : Name). IsStoredAt c.args.tables.now.items n c.in-Ok.at) name (subst (λ (ts : List (Name × TableValue)). IsStoredAt ts c.as_bytes.result.now c.in-Ok.at) items c.in-Ok.ensures) in
    (edit_among c.edit_table.result c.args.edit c.args.entry.now c.args.tables.now.items c.args.name.now c.in-Ok.at c.index_mut.result.now c.edit_table.new.table c.requires own c.index_mut.ensures.value c.edit_table.ensures).1
