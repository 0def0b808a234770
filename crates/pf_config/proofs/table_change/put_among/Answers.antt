use Rattle.std.proofs.Common.{◌≡◌, ◌∙◌, List, rules, refl, subst, sym}
use Rattle.std.specs.List.{insert}
use Rattle.pf_rules.specs.Names.{Name}
use Rattle.pf_tables.specs.Tables.{TableValue}
use Rattle.pf_config.specs.Ordered.{AreOrdered}
use Rattle.pf_config.specs.inner.TableChanges.{IsStoredAt, BelongsAt}
use Rattle.pf_config.proofs.TableEdits.{put_there, put_new}
use Rattle.pf_config.proofs.table_change.put_among.Goals as goal

pub index_mut-requires : goal.index_mut-requires
index_mut-requires c =
    let items : c.deref.result.now ≡ c.args.tables.now.items = search rules in
    let within = (subst (λ (ts : List (Name × TableValue)). IsStoredAt ts c.as_bytes.result.now c.in-Ok.at) items c.in-Ok.ensures).within in
    search rules

pub returns-in-Ok-clause-ordered : goal.returns-in-Ok-clause-ordered
returns-in-Ok-clause-ordered c =
    let name : c.as_bytes.result.now ≡ c.args.name.now = search rules in
    let items : c.deref.result.now ≡ c.args.tables.now.items = search rules in
    let own = subst (λ (n : Name). IsStoredAt c.args.tables.now.items n c.in-Ok.at) name (subst (λ (ts : List (Name × TableValue)). IsStoredAt ts c.as_bytes.result.now c.in-Ok.at) items c.in-Ok.ensures) in
    (put_there c.args.tables.now.items c.args.name.now c.in-Ok.at c.index_mut.result.now c.args.table c.args.table c.requires own c.index_mut.ensures.value refl).0

pub returns-in-Ok-clause-put : goal.returns-in-Ok-clause-put
returns-in-Ok-clause-put c =
    let name : c.as_bytes.result.now ≡ c.args.name.now = search rules in
    let items : c.deref.result.now ≡ c.args.tables.now.items = search rules in
    let own = subst (λ (n : Name). IsStoredAt c.args.tables.now.items n c.in-Ok.at) name (subst (λ (ts : List (Name × TableValue)). IsStoredAt ts c.as_bytes.result.now c.in-Ok.at) items c.in-Ok.ensures) in
    (put_there c.args.tables.now.items c.args.name.now c.in-Ok.at c.index_mut.result.now c.args.table c.args.table c.requires own c.index_mut.ensures.value refl).1

pub returns-in_ok-insert-in-Err-clause-ordered : goal.returns-in_ok-insert-in-Err-clause-ordered
returns-in_ok-insert-in-Err-clause-ordered c =
    let ts = c.args.tables.now.items in
    let name : c.as_bytes.result.now ≡ c.args.name.now = search rules in
    let items : c.deref.result.now ≡ ts = search rules in
    let own = subst (λ (n : Name). BelongsAt ts n c.in-Err.at) name (subst (λ (us : List (Name × TableValue)). BelongsAt us c.as_bytes.result.now c.in-Err.at) items c.in-Err.ensures) in
    let key : c.in_ok-copied-in-Err.field-0 ≡ c.args.name.now = search rules in
    let new : c.insert.new.self.items ≡ insert ts c.in-Err.at (c.in_ok-copied-in-Err.field-0, c.args.table) = search rules in
    let all = put_new ts c.args.name.now c.in_ok-copied-in-Err.field-0 c.in-Err.at c.args.table c.args.table c.requires own key refl in
    subst AreOrdered (sym new) all.0

pub returns-in_ok-insert-in-Err-clause-put : goal.returns-in_ok-insert-in-Err-clause-put
returns-in_ok-insert-in-Err-clause-put c =
    let ts = c.args.tables.now.items in
    let name : c.as_bytes.result.now ≡ c.args.name.now = search rules in
    let items : c.deref.result.now ≡ ts = search rules in
    let own = subst (λ (n : Name). BelongsAt ts n c.in-Err.at) name (subst (λ (us : List (Name × TableValue)). BelongsAt us c.as_bytes.result.now c.in-Err.at) items c.in-Err.ensures) in
    let key : c.in_ok-copied-in-Err.field-0 ≡ c.args.name.now = search rules in
    let new : c.insert.new.self.items ≡ insert ts c.in-Err.at (c.in_ok-copied-in-Err.field-0, c.args.table) = search rules in
    let all = put_new ts c.args.name.now c.in_ok-copied-in-Err.field-0 c.in-Err.at c.args.table c.args.table c.requires own key refl in
    new ∙ all.1
