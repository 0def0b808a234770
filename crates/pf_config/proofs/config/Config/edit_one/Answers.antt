use Rattle.std.proofs.Common.{◌<◌, ◌≤◌, length, rules}
use Rattle.pf_config.proofs.Changing.{edit_given, one_is}
use Rattle.pf_config.proofs.config.Config.edit_one.Goals as goal

pub returns-in-len1 : goal.returns-in-len1
returns-in-len1 c =
    let e = c.entry-item.result in
    let list = c.args.list.now in
    let some : 1 ≤ length list = search rules in
    let few : length list < 2 = search rules in
    edit_given c.args.edit c.args.self.now c.change.new.self c.args.path.now c.args.name.now e list c.change.result (one_is list e some few c.entry-item.is) c.change.ensures
