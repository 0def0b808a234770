use Rattle.std.proofs.Common.{◌≡◌, ◌∙◌, Some, ap, rules, sym, subst}
use Rattle.pf_rules.specs.Names.{Name}
use Rattle.pf_tables.specs.Tables.{TableValue}
use Rattle.pf_config.specs.inner.TableChanges.{IsStoredAt, BelongsAt}
use Rattle.pf_config.proofs.TableEdits.{found, missing}
use Rattle.pf_config.proofs.tables.named.Goals as goal

pub returns-in-Ok : goal.returns-in-Ok
returns-in-Ok c =
    let name : c.as_bytes.result.now ≡ c.args.name.now = search rules in
    let own = subst (λ (n : Name). IsStoredAt c.args.tables.now n c.in-Ok.at) name c.in-Ok.ensures in
    let t = c.index-tables-at.result in
    ap (λ (x : Name × TableValue). Some x.1) (sym c.index-tables-at.is) ∙
    sym (found c.args.tables.now c.args.name.now c.in-Ok.at t c.requires own.within c.index-tables-at.is (own.is t c.index-tables-at.is))

pub returns-in-Err : goal.returns-in-Err
returns-in-Err c =
    let name : c.as_bytes.result.now ≡ c.args.name.now = search rules in
    let own = subst (λ (n : Name). BelongsAt c.args.tables.now n c.in-Err.field-0) name c.in-Err.ensures in
    sym (missing c.args.tables.now c.args.name.now c.in-Err.field-0 own)
