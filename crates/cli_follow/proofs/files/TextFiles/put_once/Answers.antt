use Rattle.std.proofs.Common.{◌≡◌, ◌∙◌, true, false, sym, rules}
use Rattle.std.specs.List.{list_any}
use Rattle.std.specs.Prelude.{string_bytes, is_ok}
use Rattle.cli_follow.specs.Files.{is_there, path_beside, place_of}
use Rattle.cli_follow.proofs.Puts.{already_there, put_there, put_unwritten, put_written}
use Rattle.cli_follow.proofs.files.TextFiles.put_once.Goals.{then-is_ok, else-is_ok}
use Rattle.cli_follow.proofs.files.TextFiles.put_once.Goals as goal

pub returns-then-is_written : goal.returns-then-is_written
returns-then-is_written g c =
    let is : c.is_written.result ≡ true = search rules in
    let any : c.is_written.result ≡ list_any (is_there c.args.name.now c.args.text.now) c.args.self.now.written.items = rw c.as_slice.ensures.value at c.is_written.ensures in
    record {
      put = already_there (g.F.Folders.done c.args.folders.now) (string_bytes c.args.self.now.folder) c.args.self.now.written.items c.args.name.now c.args.text.now (sym any ∙ is);
      none = tt;
    }

pub returns-clause-put : goal.returns-clause-put
returns-clause-put g c =
    let is : c.is_written.result ≡ false = search rules in
    let any : c.is_written.result ≡ list_any (is_there c.args.name.now c.args.text.now) c.args.self.now.written.items = rw c.as_slice.ensures.value at c.is_written.ensures in
    let x = g.F.Folders.done c.args.folders.now in
    let y = g.F.Folders.done c.write_file.new.self in
    let folder = string_bytes c.args.self.now.folder in
    let at : c.as_str.result.now ≡ path_beside folder c.args.name.now = search rules in
    put_there x (g.F.Folders.done c.if-is_ok.folders) folder c.args.self.now.written.items c.args.name.now c.args.text.now c.if-is_ok.is_put (sym any ∙ is)
    (elim c.if-is_ok.branch [
      | then-is_ok w ↦
          let from : w.as_str-then-is_ok.result.now ≡ path_beside folder c.args.name.now = search rules in
          let to : w.as_str-then-is_ok-2.result.now ≡ place_of folder c.args.name.now = search rules in
          let yes : is_ok c.write_file.result ≡ true = search rules in
          let put : c.if-is_ok.is_put ≡ is_ok w.rename.result = search rules in
          rw w.folders-is (put_written x y (g.F.Folders.done w.rename.new.self) folder c.args.name.now c.args.text.now c.as_str.result.now w.as_str-then-is_ok.result.now
          w.as_str-then-is_ok-2.result.now (is_ok c.write_file.result) (is_ok w.rename.result) c.if-is_ok.is_put at from to yes put c.write_file.ensures w.rename.ensures)
      | else-is_ok w ↦
          let none : is_ok c.write_file.result ≡ false = search rules in
          let put : c.if-is_ok.is_put ≡ false = search rules in
          rw w.folders-is (put_unwritten x y folder c.args.name.now c.args.text.now c.as_str.result.now (is_ok c.write_file.result) c.if-is_ok.is_put at none put c.write_file.ensures)
    ])
