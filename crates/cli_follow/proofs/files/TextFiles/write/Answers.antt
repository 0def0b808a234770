use Rattle.std.proofs.Common.{◌≡◌, map, ap}
use Rattle.std.specs.Prelude.{string_bytes}
use Rattle.cli_follow.specs.Files.{Acted, AreLeftFor, file_value, files_of, with_gone}
use Rattle.cli_follow.proofs.Puts.{front_none, front_all, on_err}
use Rattle.cli_follow.proofs.files.TextFiles.write.Goals as goal

pub returns-in_err-files-clause-front : goal.returns-in_err-files-clause-front
returns-in_err-files-clause-front g c =
    let x = g.F.Folders.done c.args.folders.now in
    let old = c.args.self.now.written.items in
    on_err c.from_residual.result (Acted x x (λ acts. AreLeftFor c.args.followed.now.config c.args.self.now acts))
    (front_none x (string_bytes c.args.self.now.folder) old (with_gone (files_of c.args.followed.now.config) old))

pub returns-in_err-is_behind-clause-front : goal.returns-in_err-is_behind-clause-front
returns-in_err-is_behind-clause-front g c =
    let x = g.F.Folders.done c.args.folders.now in
    let y = g.F.Folders.done c.put_all.new.folders in
    let old = c.args.self.now.written.items in
    let files : map file_value c.in-Some.files.items ≡ files_of c.args.followed.now.config = rw c.in-Some.is at c.in_ok-files.ensures.files in
    on_err c.from_residual-in_err-is_behind.result (Acted x y (λ acts. AreLeftFor c.args.followed.now.config c.args.self.now acts))
    (front_all x y (string_bytes c.args.self.now.folder) old (with_gone (map file_value c.in-Some.files.items) old) (with_gone (files_of c.args.followed.now.config) old)
    (ap (λ fs. with_gone fs old) files) c.in_err-is_behind.ensures.front)
