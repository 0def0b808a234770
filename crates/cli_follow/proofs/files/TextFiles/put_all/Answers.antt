use Rattle.std.proofs.Common.{map}
use Rattle.std.specs.Prelude.{string_bytes}
use Rattle.cli_follow.specs.Files.{Acted, PutsFront, file_value, with_gone}
use Rattle.cli_follow.proofs.Puts.{front_none, front_all, on_err}
use Rattle.cli_follow.proofs.files.TextFiles.put_all.Goals as goal

pub returns-in_err-files-clause-front : goal.returns-in_err-files-clause-front
returns-in_err-files-clause-front g c =
    let x = g.F.Folders.done c.args.folders.now in
    let folder = string_bytes c.args.self.now.folder in
    let old = c.args.self.now.written.items in
    let all = with_gone (map file_value c.args.files.items) old in
    on_err c.from_residual.result (Acted x x (λ acts. PutsFront folder old all acts)) (front_none x folder old all)

pub returns-in_err-self-clause-front : goal.returns-in_err-self-clause-front
returns-in_err-self-clause-front g c =
    let x = g.F.Folders.done c.args.folders.now in
    let y = g.F.Folders.done c.put_each.new.folders in
    let folder = string_bytes c.args.self.now.folder in
    let old = c.args.self.now.written.items in
    let all = with_gone (map file_value c.args.files.items) old in
    on_err c.from_residual-in_err-self.result (Acted x y (λ acts. PutsFront folder old all acts))
    (front_all x y folder old (map file_value c.in_ok-files.files.items) all c.in_ok-files.ensures c.in_err-self.ensures.front)
