use Rattle.std.proofs.Common.{◌≡◌, true, false, rules, length}
use Rattle.pf_config.specs.inner.TableChanges.{has_room}
use Rattle.pf_config.proofs.TableEdits.{edit_is}
use Rattle.pf_config.proofs.table_change.edit_table.Goals as goal

pub returns : goal.returns
returns c =
    let t = c.args.table.now in
    let may : t.is_const ≡ false = search rules in
    let room : has_room c.args.edit (length t.entries) ≡ true = search rules in
    edit_is c.edit.result c.args.edit c.args.entry.now t c.edit.new.self may room c.edit.ensures.done c.edit.ensures.same
